-- The headline of the commands that make a table of a file, by the reads and the writes that were made.
use Rattle.std.proofs.Common.{◌≡◌, ℕ, List, [], ◌∷◌, ◌++◌, Some, true, ap, sym, subst, ◌∙◌, append-nil, length, drop}
use Rattle.std.specs.Prelude.{Option}
use Rattle.razor_base.specs.Headline.Outcomes.{CallOutcome, Extends, taken}
use Rattle.razor_base.specs.Headline.Readings.{Reading, ended, given}
use Rattle.razor_base.specs.Output.{Appends}
use Rattle.razor_base.specs.Turns.{AreWholeTurns}
use Rattle.razor_base.proofs.Coming.{left_behind}
use Rattle.razor_base.proofs.Joining.{call_gives, whole_turn_gives}
use Rattle.razor_base.proofs.Writing.{taken-append}
use Rattle.command_words.specs.Commands.{Command}
use Rattle.command_words.specs.Spelling.{command_of}
use Rattle.razor_core.specs.Calls.{names_of}
use Rattle.razor_core.specs.CallsByStatus.{AreReads, AreWritten}
use Rattle.razor_core.specs.Commands.{meaning}

-- one whole turn meets the end
one_ended : (file : List ℕ) (added : List Reading) → AreWholeTurns (file ∷ []) added → ended added file ≡ true
one_ended file added h =
    let same : added ≡ h.turn = h.parts ∙ ap (λ (later : List Reading). h.turn ++ later) h.rest ∙ append-nil h.turn in
    ap (λ (reads : List Reading). ended reads file) same ∙ (whole_turn_gives file h.turn h.whole).1

module _ (words : List (List ℕ)) (status : ℕ) (file : List ℕ) (old new : List Reading) (first last : List CallOutcome) (reads : Extends old new (AreReads (command_of words) status)) (writes : Extends first last (AreWritten status)) (done : status ≡ 0) where
  -- the file was read to its end
  met_end : (command : Command) → command_of words ≡ Some command → names_of (meaning command) ≡ file ∷ [] → ended reads.0 file ≡ true
  met_end command is names =
      let by : AreReads (Some command) status reads.0 = subst (λ (o : Option Command). AreReads o status reads.0) is reads.2 in
      one_ended file reads.0 (subst (λ (ns : List (List ℕ)). AreWholeTurns ns reads.0) names (by.whole done))

  -- what was given of it in the call
  gave : drop (length (given old file)) (given new file) ≡ given reads.0 file
  gave = (call_gives old new reads.0 file reads.1).0

  -- and what was taken
  took : (written : List ℕ) → Appends first last written → written ≡ taken writes.0
  took written appends =
      sym (left_behind (taken first) written (taken last) appends)
      ∙ left_behind (taken first) (taken writes.0) (taken last) (ap taken writes.1 ∙ taken-append first writes.0)

  pub by_calls : (Is : List ℕ → List ℕ → Type 0) (command : Command) → command_of words ≡ Some command → names_of (meaning command) ≡ file ∷ [] →
      ((written : List ℕ) × Appends first last written × Is (drop (length (given old file)) (given new file)) written) →
      Extends old new (λ read. (ended read file ≡ true) × Extends first last (λ made. Is (given read file) (taken made)))
  by_calls Is command is names made = (
    reads.0,
    reads.1,
    (met_end command is names, (writes.0, writes.1, subst (λ (bytes : List ℕ). Is (given reads.0 file) bytes) (took made.0 made.1) (subst (λ (text : List ℕ). Is text made.0) gave made.2))),
  )

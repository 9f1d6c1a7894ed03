-- Runs of neighbouring entries of one decision, in the tables of the code.
use Rattle.std.specs.Prelude.{◌≡◌, ◌≢◌, ℕ, suc, zero, ◌<◌, ◌≤◌, List, [], ◌∷◌, length, map}
use Rattle.ternary_words.specs.Limits.{AreNumbered}
use Rattle.ternary_words.specs.Views.{entry_of}
use Rattle.ternary_words.specs.declared.entry.Entry.{Entry}
use Rattle.bit_merge.specs.Merge.{IsMerged}
use Rattle.bit_merge.specs.Table.{UnderNames}

-- the number of the decision at a place
abbrev pub decision_at : List Entry → ℕ → ℕ
decision_at [] k = 0
decision_at (e ∷ entries) zero = e.decision
decision_at (e ∷ entries) (suc k) = decision_at entries k

-- all decide this
abbrev pub AllHave : ℕ → List Entry → Type 0
AllHave decision entries = (k : ℕ) → k < length entries → decision_at entries k ≡ decision

-- the run that begins at the start and has this decision ends before the end
pub record IsRunEnd (entries : List Entry) (start decision end : ℕ) : Type 0 where
  pub more : start < end
  pub within : end ≤ length entries
  pub one : (k : ℕ) → start ≤ k → k < end → decision_at entries k ≡ decision
  pub unlike : end < length entries → decision_at entries end ≢ decision

-- the second table is the merged first one; it has no other decisions, and no more entries
pub record IsMergedTable (entries out : List Entry) : Type 0 where
  pub merged : UnderNames entries (λ view. IsMerged (map view entries) (map view out))
  pub numbered : (count : ℕ) → AreNumbered count entries → AreNumbered count out
  pub fewer : length out ≤ length entries

-- the entries all have the decision of the run, of which they are the merged table
pub record IsMergedRun (decision : ℕ) (run out : List Entry) : Type 0 where
  pub merged : (names : List (List ℕ)) → IsMerged (map (entry_of names) run) (map (entry_of names) out)
  pub one : AllHave decision out

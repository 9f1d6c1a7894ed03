-- The headline of the commands that make a table of a file, from what the top call promises.
use Rattle.std.proofs.Common.{◌≡◌, ℕ, List, [], ◌∷◌, Some, None, ap, ◌∙◌, subst}
use Rattle.std.specs.Prelude.{Option, codes}
use Rattle.command_words.specs.Commands.{Arrange, Command, Compile, Make, Method, Shorten}
use Rattle.command_words.specs.Sizes.{Sizes}
use Rattle.command_words.specs.Orders.{Best}
use Rattle.command_words.specs.Spelling.{command_of}
use Rattle.command_words.proofs.OneFile.{arranges, compiles, shortens}
use Rattle.razor_core.specs.Headline.Further.{IsArranged, IsShortened}
use Rattle.razor_core.specs.Headline.Tables.{IsCompiled}
use Rattle.razor_core.specs.Outside.{Adds, Outside}
use Rattle.razor_core.specs.Promise.{KeepsPromise, KeepsPromiseOf, Promise}
use Rattle.razor_core.proofs.MadeTables.{made}
use Rattle.razor_core.proofs.WordLengths.{whole_words}
use Rattle.razor_core.specs.Commands.{meaning}
use Rattle.razor_core.specs.Commands.Make.{making}

-- 144 trits, and as many entries as a memory has
abbrev pub usual : Sizes
usual = record { limit = 262144; slot = 144 }

kept_by : (words : List (List ℕ)) (command : Command) (before after : Outside) (line : List ℕ) (status : ℕ) → command_of words ≡ Some command → status ≡ 0 →
    KeepsPromiseOf (command_of words) before after line status → KeepsPromise (meaning command) before after line 0
kept_by words command before after line status is done keeps =
    let at : KeepsPromiseOf (Some command) before after line status = subst (λ (o : Option Command). KeepsPromiseOf o before after line status) is keeps in
    subst (λ (n : ℕ). KeepsPromise (meaning command) before after line n) done at

module _ (words : List (List ℕ)) (before after : Outside) (Heard : List ℕ → Type 0) (status : ℕ) (promise : Promise words before after Heard status) (file text : List ℕ) (done : status ≡ 0) (known : before.remaining file ≡ text) where
  kept : (method : Method) → command_of words ≡ Some (Make method usual file) → KeepsPromise (making method usual file) before after promise.line 0
  kept method is = kept_by words (Make method usual file) before after promise.line status is done promise.command

  pub compiled_file : words ≡ codes "compile" ∷ codes "--" ∷ file ∷ [] → Adds before after (IsCompiled text)
  compiled_file is =
      let h = made before after promise.line Compile usual file text (kept Compile (ap command_of is ∙ compiles file)) known in
      let meets = h.2.2.3 in (
        h.2.0,
        h.2.1,
        record {
          list = h.0;
          table = h.2.2.2;
          spelled = h.1;
          text = h.2.2.4.written;
          decides = record { slot = meets.slot; words = whole_words h.2.2.2.entries meets.prefixes; answers = meets.answers; tight = meets.tight };
          few = meets.few;
          least = meets.composed;
        },
      )

  pub arranged_file : words ≡ codes "arrange" ∷ codes "--" ∷ file ∷ [] → Adds before after (IsArranged text)
  arranged_file is =
      let h = made before after promise.line (Arrange Best) usual file text (kept (Arrange Best) (ap command_of is ∙ arranges file)) known in
      let meets = h.2.2.3 in (
        h.2.0,
        h.2.1,
        record {
          list = h.0;
          table = h.2.2.2;
          order = h.2.2.0;
          spelled = h.1;
          text = h.2.2.4.written;
          decides = record { slot = meets.slot; words = whole_words h.2.2.2.entries meets.prefixes; answers = meets.answers; tight = meets.tight };
          few = meets.few;
          least = meets.composed;
          best = h.2.2.1;
        },
      )

  pub shortened_file : words ≡ codes "shorten" ∷ codes "--" ∷ file ∷ [] → Adds before after (IsShortened text)
  shortened_file is =
      let h = made before after promise.line (Shorten None) usual file text (kept (Shorten None) (ap command_of is ∙ shortens file)) known in
      let meets = h.2.2.3 in (
        h.2.0,
        h.2.1,
        record {
          list = h.0;
          table = h.2.2.2;
          spelled = h.1;
          text = h.2.2.4.written;
          decides = record { slot = meets.slot; words = whole_words h.2.2.2.entries meets.prefixes; answers = meets.answers; tight = meets.tight };
          count = meets.composed;
          few = meets.within;
          prefixes = meets.prefixes;
        },
      )

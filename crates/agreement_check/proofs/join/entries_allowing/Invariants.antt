use Rattle.std.proofs.Common.{Contains}
use Rattle.std.specs.List.{AllWithin}
use Rattle.agreement_check.specs.Covers.{entry_word}
use Rattle.word_cover.specs.Cubes.{Allows}
use Rattle.agreement_check.specs.Standing.{table_in}
use Rattle.agreement_check.proofs.join.entries_allowing.Given as goal

abbrev pub invariant-loop-entry : goal.invariant-loop-entry
invariant-loop-entry l = AllWithin (λ k. Allows (entry_word (table_in l.claims).entries.items k) l.bit l.one → Contains l.some.items k) l.entries 0 l.entry-index

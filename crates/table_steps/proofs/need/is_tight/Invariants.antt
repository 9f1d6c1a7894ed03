use Rattle.std.proofs.Common.{ℕ, ◌<◌}
use Rattle.std.specs.List.{remove}
use Rattle.field_boxes.specs.Alike.{AreApart}
use Rattle.ternary_words.specs.Entries.{answer}
use Rattle.table_steps.proofs.need.is_tight.Given as goal

abbrev pub invariant-loop-place : goal.invariant-loop-place
invariant-loop-place l = (k : ℕ) → k < l.place → AreApart (answer (remove l.table k)) (answer l.table)

use Rattle.std.proofs.Common.{◌≢◌, ◌<◌, ℕ, get_or}
use Rattle.std.specs.Prelude.{slice_index}
use Rattle.prefix_min.proofs.field.whole_field.first_full.Given as goal

abbrev pub invariant-loop-entry : goal.invariant-loop-entry
invariant-loop-entry l = (k : ℕ) → k < l.entry-index → (get_or l.savings k (record { label = 0; cost = 0 })).cost ≢ slice_index l.weights (get_or l.savings k (record { label = 0; cost = 0 })).label

use Rattle.std.proofs.Common.{◌≡◌, ℕ, ◌-◌, ◌≤◌, ◌<◌, length}
use Rattle.std.specs.Prelude.{slice_index}
use Rattle.table_equiv.specs.Firsts.{decided_at}
use Rattle.table_equiv.proofs.kept.deciding_from.Given as goal

abbrev pub invariant-loop-later : goal.invariant-loop-later
invariant-loop-later g l = (k : ℕ) → length l.places - l.later ≤ k → k < length l.places → decided_at g.T.Item.decided l.items (slice_index l.places k) ≡ l.decision

use Rattle.std.proofs.Common.{◌≡◌, take}
use Rattle.redundancy.specs.Drafts.{placed_for}
use Rattle.redundancy.proofs.sifting.layer.gather.Given as goal

abbrev pub invariant-loop-change : goal.invariant-loop-change
invariant-loop-change l = l.placed.items ≡ placed_for (take l.change-index l.changes) l.place

use Rattle.table_compose.specs.Room.{IsLonger}
use Rattle.std.proofs.Common.{◌-◌, length}
use Rattle.table_compose.proofs.room.more_lists.Given as goal

abbrev pub invariant-loop-alloc : goal.invariant-loop-alloc
invariant-loop-alloc l = IsLonger l.fn.lists.items l.lists.items

abbrev pub decreases-loop-alloc : goal.decreases-loop-alloc
decreases-loop-alloc l = l.count - length l.lists.items

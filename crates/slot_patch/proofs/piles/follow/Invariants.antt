use Rattle.std.proofs.Common.{◌≡◌, ◌+◌, ◌++◌, List, length, Some}
use Rattle.slot_patch.specs.Piles.{Follows}
use Rattle.slot_patch.specs.declared.pair.Pair.{Pair}
use Rattle.slot_patch.proofs.piles.follow.Given as goal

abbrev pub invariant-loop : goal.invariant-loop
invariant-loop l = (pairs : List Pair) → Follows l.links (Some l.first) pairs → length pairs ≡ l.count →
    (rest : List Pair) × Follows l.links l.at rest × (length rest + l.counter ≡ l.count) × (pairs ≡ l.found.items ++ rest)

use Rattle.std.proofs.lemmas.Result.{IfOk-weaker}
use Rattle.prefix_min.proofs.Joined.{joined-taken, left-kept, left-room, taken-kept}
use Rattle.prefix_min.proofs.savings.merging.join_parts.Goals as goal

pub join_one-requires-clause-list : goal.join_one-requires-clause-list
join_one-requires-clause-list c = left-kept c.in-Some.ensures c.requires.low c.requires.high

pub join_one-requires-clause-one : goal.join_one-requires-clause-one
join_one-requires-clause-one c = taken-kept c.in-Some.ensures c.requires.low c.requires.high

pub join_one-requires-clause-room : goal.join_one-requires-clause-room
join_one-requires-clause-room c = left-room c.in-Some.ensures c.requires.room

pub returns : goal.returns
returns c = IfOk-weaker c.join_one.result _ _ (λ g j. joined-taken c.in-Some.ensures j) c.join_one.ensures

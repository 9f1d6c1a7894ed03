use Rattle.std.proofs.Common.{◌≡◌}
use Rattle.node_store.specs.Diagram.{level_of}
use Rattle.field_sets.proofs.Together.{stopped, whole, shrinks, bound, parted, all_left, all_right}
use Rattle.field_sets.proofs.parting.put_parts_of.Goals as goal

pub returns-then-part-hi-clause-split : goal.returns-then-part-hi-clause-split
returns-then-part-hi-clause-split c = λ lo top h within f g.
    parted c.args.hi top within lo c.push.new.self.items c.args.left.now c.args.right.now h f g
    (stopped c.args.hi c.args.left.now c.args.right.now c.loop-part.left.now c.loop-part.right.now c.loop-part.parts.items c.loop-part.invariant
    c.push.new.self.items c.in-Some.part c.in_ok-push.ensures.ok c.in-Some.ensures c.if-part-hi.true)

pub returns-then-part-hi-clause-left : goal.returns-then-part-hi-clause-left
returns-then-part-hi-clause-left c = λ nodes level.
    all_left (λ n. level_of nodes n ≡ level) c.args.hi c.push.new.self.items c.args.left.now c.args.right.now
    (stopped c.args.hi c.args.left.now c.args.right.now c.loop-part.left.now c.loop-part.right.now c.loop-part.parts.items c.loop-part.invariant
    c.push.new.self.items c.in-Some.part c.in_ok-push.ensures.ok c.in-Some.ensures c.if-part-hi.true)

pub returns-then-part-hi-clause-right : goal.returns-then-part-hi-clause-right
returns-then-part-hi-clause-right c = λ nodes level.
    all_right (λ n. level_of nodes n ≡ level) c.args.hi c.push.new.self.items c.args.left.now c.args.right.now
    (stopped c.args.hi c.args.left.now c.args.right.now c.loop-part.left.now c.loop-part.right.now c.loop-part.parts.items c.loop-part.invariant
    c.push.new.self.items c.in-Some.part c.in_ok-push.ensures.ok c.in-Some.ensures c.if-part-hi.true)

pub loop-part-smaller : goal.loop-part-smaller
loop-part-smaller c =
    shrinks c.args.hi c.loop-part.left.now c.loop-part.right.now c.past-left.result.now c.past-right.result.now c.in-Some.part
    c.past-left.ensures c.past-right.ensures c.in-Some.ensures c.if-part-hi.false (bound c.args.hi c.loop-part.left.now c.loop-part.right.now c.in-Some.part c.in-Some.ensures)

pub returns-clause-split : goal.returns-clause-split
returns-clause-split c = λ lo top h within f g.
    parted c.args.hi top within lo c.loop-part.parts.items c.args.left.now c.args.right.now h f g
    (whole c.args.hi c.args.left.now c.args.right.now c.loop-part.left.now c.loop-part.right.now c.loop-part.parts.items c.loop-part.invariant c.in_default.ensures)

pub returns-clause-left : goal.returns-clause-left
returns-clause-left c = λ nodes level.
    all_left (λ n. level_of nodes n ≡ level) c.args.hi c.loop-part.parts.items c.args.left.now c.args.right.now
    (whole c.args.hi c.args.left.now c.args.right.now c.loop-part.left.now c.loop-part.right.now c.loop-part.parts.items c.loop-part.invariant c.in_default.ensures)

pub returns-clause-right : goal.returns-clause-right
returns-clause-right c = λ nodes level.
    all_right (λ n. level_of nodes n ≡ level) c.args.hi c.loop-part.parts.items c.args.left.now c.args.right.now
    (whole c.args.hi c.args.left.now c.args.right.now c.loop-part.left.now c.loop-part.right.now c.loop-part.parts.items c.loop-part.invariant c.in_default.ensures)

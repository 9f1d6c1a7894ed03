use Rattle.std.proofs.Common.{sym}
use Rattle.slot_patch.proofs.Chains.{follow-step}
use Rattle.slot_patch.proofs.piles.follow.Goals as goal

pub loop-preserved : goal.loop-preserved
loop-preserved c = λ pairs leads many.
    let h = c.loop.invariant pairs leads many in
    follow-step c.args.links.now c.loop.at c.in-Some.number c.in-Some-link_at.link h.0 c.loop.found.items c.push.new.self.items pairs c.loop.counter c.args.count
    c.in-Some.is (sym c.in-Some-link_at.ensures) h.1 h.2 h.3 c.in_ok-push.ensures.items

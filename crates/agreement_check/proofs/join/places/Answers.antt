use Rattle.agreement_check.proofs.Searching.{places-more}
use Rattle.agreement_check.proofs.join.places.Goals as goal

pub loop-place-preserved : goal.loop-place-preserved
loop-place-preserved c = places-more c.loop-place.places.items c.push.new.self.items c.loop-place.place c.in_ok-push.ensures.items c.loop-place.invariant

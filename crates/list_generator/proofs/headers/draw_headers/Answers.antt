use Rattle.std.proofs.Common.{◌≡◌, ◌+◌, ◌-◌, suc, arith}
use Rattle.list_generator.proofs.HeadersSoFar.{all_drawn, one_more}
use Rattle.list_generator.proofs.headers.draw_headers.Goals as goal

pub loop-place-preserved : goal.loop-place-preserved
loop-place-preserved c =
    let count = c.args.count in
    let place = c.loop-place._place in
    let e : count - place ≡ suc (count - (place + 1)) = omega arith in
    rw c.in_ok-push.ensures.items (one_more (count - place) (count - (place + 1)) c.loop-place.draws.state c.draw_header.new.draws.state c.loop-place.headers.items c.draw_header.result _ e c.draw_header.ensures.header c.draw_header.ensures.state c.loop-place.invariant)

pub returns : goal.returns
returns c =
    let none : c.args.count - c.loop-place._place ≡ 0 = omega arith in
    all_drawn (c.args.count - c.loop-place._place) c.loop-place.draws.state _ _ none c.loop-place.invariant

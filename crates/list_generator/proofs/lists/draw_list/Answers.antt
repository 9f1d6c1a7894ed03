use Rattle.std.proofs.Common.{◌≡◌, ◌+◌, ◌-◌, suc, refl, arith}
use Rattle.list_generator.proofs.Finished.{finished, turned}
use Rattle.list_generator.proofs.SoFar.{added}
use Rattle.list_generator.proofs.lists.draw_list.Goals as goal

pub loop-place-preserved : goal.loop-place-preserved
loop-place-preserved c =
    let count = c.args.rules in
    let place = c.loop-place._place in
    let e : count - place ≡ suc (count - (place + 1)) = omega arith in
    added c.args.draws.now.state count (count - place) (count - (place + 1)) c.loop-place.draws.state c.add_drawn.new.draws.state c.loop-place.names c.add_drawn.new.names c.loop-place.list.items c.add_drawn.new.rules.items e c.loop-place.invariant c.in_ok-add_drawn.ensures

pub returns : goal.returns
returns c =
    let none : c.args.rules - c.loop-place._place ≡ 0 = omega arith in
    record {
      list = finished c.args.draws.now.state c.args.rules (c.args.rules - c.loop-place._place) c.loop-place.draws.state _ none refl c.loop-place.invariant;
      state = turned c.args.draws.now.state c.args.rules (c.args.rules - c.loop-place._place) c.loop-place.draws.state _ _ none c.loop-place.invariant;
    }

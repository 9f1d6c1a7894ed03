use Rattle.std.proofs.Common.{arith}
use Rattle.table_equiv.proofs.Firsts.{before-pushed, all-before}
use Rattle.table_equiv.proofs.kept.all_places.Goals as goal

pub loop-place-preserved : goal.loop-place-preserved
loop-place-preserved g c = λ header.
    let l = c.loop-place in
    before-pushed (g.T.Item.has header) c.args.items.now l.places.items c.push.new.self.items l.place c.in_ok-push.ensures.items (l.invariant header)

pub returns : goal.returns
returns g c = λ header.
    let l = c.loop-place in
    all-before (g.T.Item.has header) c.args.items.now l.places.items c.push-2.new.self.items l.place (l.invariant header) (omega (arith, c.loop-place-test.false, l.auto.place-end)) c.in_ok-push-2.ensures.items

use Rattle.std.proofs.Common.{◌∷◌, ◌++◌, [], ap, ◌∙◌, refl, option_map}
use Rattle.std.specs.Prelude.{slice_index}
use Rattle.table_equiv.specs.Places.{has_at}
use Rattle.table_equiv.specs.Firsts.{decided_at}
use Rattle.table_equiv.proofs.Firsts.{keep-out, keep-in, keep-whole, keep-all}
use Rattle.table_equiv.proofs.kept.narrowed.Goals as goal

pub loop-place-preserved-then-has_none_at : goal.loop-place-preserved-then-has_none_at
loop-place-preserved-then-has_none_at g c = λ header at.
    let l = c.loop-place in
    keep-out (has_at (g.T.Item.has header) c.args.items.now) l.kept.items c.args.places.now l.place-index c.loop-place-test.true (l.invariant header at) (c.if-has_none_at.ensures header at)

pub returns-then-has_all_at : goal.returns-then-has_all_at
returns-then-has_all_at g c = λ header at.
    let l = c.loop-place in
    let q = has_at (g.T.Item.has header) c.args.items.now in
    let has = c.if-has_all_at.ensures header at in
    c.in_ok-put_last.ensures q has
    ∙ ap (option_map (decided_at g.T.Item.decided c.args.items.now))
    (keep-whole q l.kept.items c.args.places.now (l.kept.items ++ slice_index c.args.places.now l.place-index ∷ []) l.place-index c.loop-place-test.true refl (l.invariant header at) has)

pub loop-place-preserved : goal.loop-place-preserved
loop-place-preserved g c = λ header at.
    let l = c.loop-place in
    keep-in (has_at (g.T.Item.has header) c.args.items.now) l.kept.items c.args.places.now c.push.new.self.items l.place-index c.loop-place-test.true c.in_ok-push.ensures.items (l.invariant header at)

pub returns : goal.returns
returns g c = λ header at.
    let l = c.loop-place in
    ap (option_map (decided_at g.T.Item.decided c.args.items.now))
    (keep-all (has_at (g.T.Item.has header) c.args.items.now) l.kept.items c.args.places.now l.place-index c.loop-place-test.false (l.invariant header at))

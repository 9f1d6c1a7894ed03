use Rattle.std.proofs.Common.{arith, ◌<◌, ◌∙◌, inl, inr, refl}
use Rattle.std.proofs.lemmas.Bool.{cases_lt}
use Rattle.prefix_min.proofs.PieceWeights.{part-inside}
use Rattle.prefix_min.proofs.FullLabel.{first-next}
use Rattle.prefix_min.proofs.Blocks.{halved}
use Rattle.prefix_min.proofs.Stacked.{full-whole, gain-fits, gain-whole, left-of, one-whole, places, room}
use Rattle.prefix_min.proofs.field.Field.whole.Goals as goal

pub bounds-self-0 : goal.bounds-self-0
bounds-self-0 g c = part-inside c.requires.fit c.args.width (first-next c.args.self.now.pieces.now) (omega (arith, c.requires.all))

pub returns-then-top-piece : goal.returns-then-top-piece
returns-then-top-piece g c =
    one-whole c.requires.fit (first-next c.args.self.now.pieces.now) (omega (arith, c.requires.all)) (omega (arith, c.top-top.ensures, c.if-top-piece.true))
    c.requires.choices c.requires.wide refl

pub part-requires-clause-within : goal.part-requires-clause-within
part-requires-clause-within g c = omega (arith, c.requires.all, (halved c.args.width (omega (arith, c.top-top.ensures, c.if-top-piece.false))).1)

pub part-requires-2-clause-within : goal.part-requires-2-clause-within
part-requires-2-clause-within g c = omega (
  arith,
  c.requires.all,
  (halved c.args.width
      (omega (arith, c.top-top.ensures, c.if-top-piece.false))).1,
  c.middle-middle.ensures,
)

pub join-requires-clause-places : goal.join-requires-clause-places
join-requires-clause-places g c =
    places c.requires.fit (halved c.args.width (omega (arith, c.top-top.ensures, c.if-top-piece.false))).0 c.middle-middle.ensures c.in_ok-part.ensures
    c.in_ok-part-2.ensures
    (c.len-start.ensures ∙ c.args.stack.now.savings.ok.0) (c.len-end.ensures ∙ c.part.new.stack.savings.ok.0)

pub join-requires-clause-room : goal.join-requires-clause-room
join-requires-clause-room g c = λ d.
    omega (
      arith,
      room c.requires.fit (halved c.args.width (omega (arith, c.top-top.ensures, c.if-top-piece.false))).0 c.middle-middle.ensures c.in_ok-part.ensures
          c.in_ok-part-2.ensures
          (c.len-start.ensures ∙ c.args.stack.now.savings.ok.0) (c.len-end.ensures ∙ c.part.new.stack.savings.ok.0) d,
    )

pub overflow_sub-stack : goal.overflow_sub-stack
overflow_sub-stack g c =
    gain-fits c.requires.fit (halved c.args.width (omega (arith, c.top-top.ensures, c.if-top-piece.false))).0 c.middle-middle.ensures c.in_ok-part.ensures
    c.in_ok-part-2.ensures
    (c.len-start.ensures ∙ c.args.stack.now.savings.ok.0) (c.len-end.ensures ∙ c.part.new.stack.savings.ok.0)
    c.in_ok-gain.gain c.in_ok-gain.ensures.gain c.in_ok-gain.ensures.sums

pub full_label-requires : goal.full_label-requires
full_label-requires g c =
    let l = left-of c.requires.fit (halved c.args.width (omega (arith, c.top-top.ensures, c.if-top-piece.false))).0 c.middle-middle.ensures
    c.in_ok-part.ensures c.in_ok-part-2.ensures
    (c.len-start.ensures ∙ c.args.stack.now.savings.ok.0) (c.len-end.ensures ∙ c.part.new.stack.savings.ok.0)
    c.in_ok-gain.gain c.in_ok-gain.ensures.gain c.in_ok-gain.ensures.sums
    (c.deref.ensures.value ∙ c.in_ok-gain.ensures.savings) c.requires.savings in
    record { fit = c.requires.fit; rise = l.rise; places = l.within; most = l.most; some = l.some }

pub returns-then-gain-eq0 : goal.returns-then-gain-eq0
returns-then-gain-eq0 g c =
    full-whole c.requires.fit (halved c.args.width (omega (arith, c.top-top.ensures, c.if-top-piece.false))).0 c.middle-middle.ensures c.in_ok-part.ensures
    c.in_ok-part-2.ensures
    (c.len-start.ensures ∙ c.args.stack.now.savings.ok.0) (c.len-end.ensures ∙ c.part.new.stack.savings.ok.0)
    c.in_ok-gain.gain c.in_ok-gain.ensures.gain c.in_ok-gain.ensures.sums
    (c.deref.ensures.value ∙ c.in_ok-gain.ensures.savings) c.requires.savings c.full_label.result c.requires.wide c.requires.choices c.requires.cost
    c.if-gain-eq0.true c.requires.all c.full_label.ensures

pub returns : goal.returns
returns g c =
    let gains : 0 < c.in_ok-gain.gain.gain = elim (cases_lt 0 c.in_ok-gain.gain.gain) [ inl lt ↦ lt | inr ge ↦ absurd (c.if-gain-eq0.false (omega (arith, ge))) ] in
    gain-whole c.requires.fit (halved c.args.width (omega (arith, c.top-top.ensures, c.if-top-piece.false))).0 c.middle-middle.ensures c.in_ok-part.ensures
    c.in_ok-part-2.ensures
    (c.len-start.ensures ∙ c.args.stack.now.savings.ok.0) (c.len-end.ensures ∙ c.part.new.stack.savings.ok.0)
    c.in_ok-gain.gain c.in_ok-gain.ensures.gain c.in_ok-gain.ensures.sums c.requires.wide c.requires.choices c.requires.cost gains

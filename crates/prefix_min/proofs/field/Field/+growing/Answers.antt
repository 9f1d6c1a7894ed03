use Rattle.std.proofs.Common.{◌≤◌, ◌<◌, ◌≡◌, ◌∙◌, arith, refl, ap, sym, subst, rules, ◌+◌, ◌%◌, ◌^◌, length, inl, inr}
use Rattle.std.proofs.lemmas.List.{length-append}
use Rattle.std.proofs.lemmas.Nat.{pow_pos}
use Rattle.std.proofs.lemmas.Result.{IfOk-weaker}
use Rattle.prefix_min.specs.Growth.{IsBuilt, done_of, end_of, handed}
use Rattle.prefix_min.specs.Field.{no_piece}
use Rattle.prefix_min.specs.Pieces.{IsNext, weight_below}
use Rattle.prefix_min.proofs.PieceWeights.{part-inside, piece-place}
use Rattle.prefix_min.proofs.FullLabel.{end-reached}
use Rattle.prefix_min.proofs.Grown.{above-half, below-built, below-half, both-fits, grown-both, grown-first, grown-last, grown-light, grown-wide, half-of, one-room, ready}
use Rattle.prefix_min.proofs.Stacked.{constant-built}
use Rattle.prefix_min.proofs.field.Field.+growing.Goals as goal

pub beside-offset_bounds-self-first : goal.beside-offset_bounds-self-first
beside-offset_bounds-self-first g t c =
    let inside = (below-half c.args.self.now.pieces.now c.args.first c.args.part c.args.about c.requires.half c.if-about-part.true).1 in
    search rules

pub beside-bounds-self-first : goal.beside-bounds-self-first
beside-bounds-self-first g t c = (below-half c.args.self.now.pieces.now c.args.first c.args.part c.args.about c.requires.half c.if-about-part.true).1

pub beside-lone-requires : goal.beside-lone-requires
beside-lone-requires g t c =
    let h = below-half c.args.self.now.pieces.now c.args.first c.args.part c.args.about c.requires.half c.if-about-part.true in
    record {
      place = piece-place c.requires.fit c.args.first h.1;
      room = one-room c.args.part.bits (c.args.part.low + 2 ^ c.args.part.bits) c.args.stack.now.cost c.requires.fit h.2 (omega (arith, h.0, h.4))
          c.requires.light;
    }

pub beside-returns-then-about-part-clause-built : goal.beside-returns-then-about-part-clause-built
beside-returns-then-about-part-clause-built g t c =
    let h = below-half c.args.self.now.pieces.now c.args.first c.args.part c.args.about c.requires.half c.if-about-part.true in
    IfOk-weaker c.lone.result _ _ (λ one put. inr (h.0, below-built c.requires.fit h.1 h.2 h.0 h.3 h.4 put, put.next_is)) c.lone.ensures.put

pub beside-overflow_cast-end : goal.beside-overflow_cast-end
beside-overflow_cast-end g t c = omega (
  arith,
  c.end.ensures,
  (above-half c.args.self.now.pieces.now c.args.first c.args.part c.args.about c.requires.half
      c.if-about-part.false).2,
  c.requires.fit.wide,
  pow_pos c.args.part.bits,
)

pub beside-apart-requires : goal.beside-apart-requires
beside-apart-requires g t c κs within =
    let h = above-half c.args.self.now.pieces.now c.args.first c.args.part c.args.about c.requires.half c.if-about-part.false in
    let ps = c.args.self.now.pieces.now in
    let next = subst (IsNext ps c.args.stack.now.next) (sym c.end.ensures) c.requires.next in
    let aligned = subst (λ v. v % 2 ^ c.args.part.bits ≡ 0) (sym c.end.ensures) h.1 in
    let light : c.args.stack.now.cost ≤ weight_below c.args.self.now.weights.now 0 ps c.end.result =
    omega (arith, c.requires.light, ap (weight_below c.args.self.now.weights.now 0 ps) c.end.ensures) in
    (omega (arith, c.decreases), (within, (c.requires.fit, (next, (omega (arith, c.requires.wide), (aligned, (omega (arith, c.end.ensures, h.2), light)))))))

pub beside-returns-clause-built : goal.beside-returns-clause-built
beside-returns-clause-built g t c =
    let old = c.args.stack.now in
    let new = c.apart.new.stack in
    IfOk-weaker c.apart.result _ _ (λ one b. inl (
      (above-half c.args.self.now.pieces.now c.args.first c.args.part c.args.about c.requires.half c.if-about-part.false).0,
      subst (λ v. IsBuilt g.K.Keeping.KEEPS c.args.self.now.weights.now c.args.self.now.pieces.now c.args.part.bits v (done_of old) (handed (done_of new) one) new.next) c.end.ensures b,
    )) c.apart.ensures.built

pub apart-offset_bounds-self-first : goal.apart-offset_bounds-self-first
apart-offset_bounds-self-first g t c =
    let inside = part-inside c.requires.fit c.args.bits c.requires.next c.requires.within in
    search rules

pub apart-bounds-self-first : goal.apart-bounds-self-first
apart-bounds-self-first g t c = part-inside c.requires.fit c.args.bits c.requires.next c.requires.within

pub apart-lone-requires : goal.apart-lone-requires
apart-lone-requires g t c =
    record {
      place = piece-place c.requires.fit c.args.stack.now.next (part-inside c.requires.fit c.args.bits c.requires.next c.requires.within);
      room = one-room c.args.bits c.args.low c.args.stack.now.cost c.requires.fit c.requires.next c.requires.within c.requires.light;
    }

pub grown-offset_bounds-self-first : goal.grown-offset_bounds-self-first
grown-offset_bounds-self-first g t c =
    let inside = part-inside c.requires.fit c.args.bits c.requires.next c.requires.within in
    search rules

pub grown-bounds-self-first : goal.grown-bounds-self-first
grown-bounds-self-first g t c = part-inside c.requires.fit c.args.bits c.requires.next c.requires.within

pub grown-one-requires : goal.grown-one-requires
grown-one-requires g t c =
    record {
      place = piece-place c.requires.fit c.args.stack.now.next (part-inside c.requires.fit c.args.bits c.requires.next c.requires.within);
      room = one-room c.args.bits c.args.low c.args.stack.now.cost c.requires.fit c.requires.next c.requires.within c.requires.light;
    }

pub apart-overflow_add-from : goal.apart-overflow_add-from
apart-overflow_add-from g t c =
    omega (
      arith,
      end-reached (length c.args.self.now.weights.now) 0 c.args.stack.now.next no_piece c.args.self.now.pieces.now c.requires.fit.follow
          (part-inside c.requires.fit c.args.bits c.requires.next c.requires.within),
      c.requires.fit.wide,
      c.from.ensures,
    )

pub apart-grown-requires : goal.apart-grown-requires
apart-grown-requires g t c κs within =
    let ends : end_of c.args.self.now.pieces.now c.args.stack.now.next + 1 < c.args.low + 2 ^ c.args.bits =
    omega (arith, c.if-from-limit.true, c.end-limit.ensures, c.from.ensures) in
    (omega (arith, c.decreases), (within, (c.requires.fit, (c.requires.next, (c.requires.wide, (c.requires.aligned, (c.requires.within, (c.requires.light, ends))))))))

pub apart-behind-stack-requires : goal.apart-behind-stack-requires
apart-behind-stack-requires g t c =
    record {
      fit = c.requires.fit;
      inside = part-inside c.requires.fit c.args.bits c.requires.next c.requires.within;
      reached = omega (arith, c.if-from-limit.false, c.end-limit.ensures, c.from.ensures);
    }

pub apart-returns-clause-built : goal.apart-returns-clause-built
apart-returns-clause-built g t c =
    let ps = c.args.self.now.pieces.now in
    let first = c.args.stack.now.next in
    let covered : c.args.low + 2 ^ c.args.bits ≤ end_of ps first + 1 = omega (arith, c.if-from-limit.false, c.end-limit.ensures, c.from.ensures) in
    let reached : c.args.low < end_of ps first + 1 =
    omega (arith, c.requires.next.here no_piece (part-inside c.requires.fit c.args.bits c.requires.next c.requires.within)) in
    let then = subst (IsNext ps c.behind-stack.result) c.end-limit.ensures (c.behind-stack.ensures c.args.low (omega (arith, c.end-limit.ensures)) reached c.requires.next) in
    constant-built c.requires.fit c.requires.next c.requires.within covered c.in_ok-one.ensures.put then

pub grown-overflow_add-stack : goal.grown-overflow_add-stack
grown-overflow_add-stack g t c =
    let inside = part-inside c.requires.fit c.args.bits c.requires.next c.requires.within in
    search rules

pub grown-loop-part-init : goal.grown-loop-part-init
grown-loop-part-init g t c =
    grown-first c.args.bits c.requires.fit c.requires.next c.requires.within c.requires.aligned c.requires.ends c.ending-part.ensures c.in_ok-one.ensures

pub grown-stretch-requires : goal.grown-stretch-requires
grown-stretch-requires g t c =
    let i = c.loop-part.invariant in
    record {
      place = piece-place c.requires.fit c.args.stack.now.next (part-inside c.requires.fit c.args.bits c.requires.next c.requires.within);
      start = omega (
        arith,
        c.len-start.ensures,
        c.args.stack.now.savings.ok.0,
        ap length i.built.pushed,
        length-append c.args.stack.now.savings.items
            i.built.savings,
      );
      next = i.built.next;
      wide = c.requires.wide;
      less = i.less;
      aligned = i.aligned;
    }

pub grown-end-requires : goal.grown-end-requires
grown-end-requires g t c = omega (arith, c.in-Some.ensures.1.about.short, c.requires.wide)

pub grown-behind-stack-requires : goal.grown-behind-stack-requires
grown-behind-stack-requires g t c =
    let st = c.in-Some.ensures.1 in
    record { fit = c.requires.fit; inside = st.inside; reached = omega (arith, st.about.ends, c.end.ensures) }

pub grown-loop-part-preserved-in-Some : goal.grown-loop-part-preserved-in-Some
grown-loop-part-preserved-in-Some g t c =
    let l = c.loop-part in
    let st = c.in-Some.ensures.1 in
    let ps = c.args.self.now.pieces.now in
    let reached : l.part.low + 2 ^ l.part.bits < end_of ps l.stack.next + 1 = omega (arith, l.invariant.built.next.here no_piece st.inside) in
    let then = subst (IsNext ps c.behind-stack.result) c.end.ensures (c.behind-stack.ensures (l.part.low + 2 ^ l.part.bits) (omega (arith, c.end.ensures, st.about.to)) reached l.invariant.built.next) in
    grown-wide c.requires.fit c.requires.next c.requires.within c.requires.aligned l.invariant (c.len-start.ensures ∙ c.args.stack.now.savings.ok.0) refl
    c.in-Some.ensures.0 st then
    (c.len-below.ensures ∙ c.args.stack.now.choices.ok.0) (c.len-also.ensures ∙ l.stack.also.ok.0) (rw c.KEEPS.ensures at c.in_ok-choose.ensures)

pub grown-beside-requires : goal.grown-beside-requires
grown-beside-requires g t c κs within =
    let i = c.loop-part.invariant in
    let half = half-of c.requires.fit c.requires.next c.requires.within c.requires.aligned i c.loop-part-test.true c.about-about.ensures.bits
    c.about-about.ensures.low in
    (omega (arith, c.decreases, c.loop-part-test.true), (within, (c.requires.fit, (i.built.next, (omega (arith, c.loop-part-test.true, c.requires.wide), (half, grown-light i c.requires.light))))))

pub grown-join_parts-requires : goal.grown-join_parts-requires
grown-join_parts-requires g t c =
    let r = ready c.requires.fit c.requires.next c.requires.within c.requires.aligned c.loop-part.invariant c.loop-part-test.true c.about-about.ensures.bits
    c.about-about.ensures.low c.in_ok-other.ensures.built
    (c.len-start.ensures ∙ c.args.stack.now.savings.ok.0) (c.len-middle.ensures ∙ c.loop-part.stack.savings.ok.0) in
    record {
      from = r.from;
      to = r.to;
      apart = λ some. sym (c.len-middle.ensures ∙ c.loop-part.stack.savings.ok.0 ∙ ap length (sym (c.in_ok-other.ensures.apart some)));
      low = r.low;
      high = r.high;
      room = r.room;
    }

pub grown-overflow_sub-stack : goal.grown-overflow_sub-stack
grown-overflow_sub-stack g t c =
    both-fits c.requires.fit c.requires.next c.requires.within c.requires.aligned c.loop-part.invariant c.loop-part-test.true c.about-about.ensures.bits
    c.about-about.ensures.low c.in_ok-other.ensures.built
    (c.len-start.ensures ∙ c.args.stack.now.savings.ok.0) (c.len-middle.ensures ∙ c.loop-part.stack.savings.ok.0) (rw c.KEEPS-in-loop-part.ensures at c.in_ok-gain.ensures)

pub grown-loop-part-preserved : goal.grown-loop-part-preserved
grown-loop-part-preserved g t c =
    grown-both c.requires.fit c.requires.next c.requires.within c.requires.aligned c.loop-part.invariant c.loop-part-test.true c.about-about.ensures.bits
    c.about-about.ensures.low c.in_ok-other.ensures.built
    (c.len-start.ensures ∙ c.args.stack.now.savings.ok.0) (c.len-middle.ensures ∙ c.loop-part.stack.savings.ok.0) (rw c.KEEPS-in-loop-part.ensures at c.in_ok-gain.ensures)
    (c.len-below.ensures ∙ c.args.stack.now.choices.ok.0)
    (c.len-also-in-loop-part.ensures ∙ c.beside.new.stack.also.ok.0) (c.len-end.ensures ∙ c.join_parts.new.also.ok.0) (rw c.KEEPS-in-loop-part-2.ensures at c.in_ok-choose-2.ensures)

pub grown-returns : goal.grown-returns
grown-returns g t c = grown-last c.loop-part.invariant (omega (arith, c.loop-part-test.false))

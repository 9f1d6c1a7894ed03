use Rattle.std.proofs.Common.{◌∙◌, ◌-◌, ◌%◌, ◌^◌, ap, arith, sym}
use Rattle.prefix_min.proofs.Blocks.{about-around}
use Rattle.prefix_min.proofs.parts.widest.Goals as goal

pub returns : goal.returns
returns c =
    let low = c.args.part.low in
    let wide = c.around-wide.result in
    let is = c.around-wide.ensures.low ∙ ap (λ k. low - low % 2 ^ k) (sym c.around-wide.ensures.bits) in
    about-around low c.args.part.bits c.args.most c.args.limit wide is (omega (arith, c.if-bits-part.false, c.around-wide.ensures.bits)) (omega (arith, c.min-bits.ensures, c.from.ensures, c.around-wide.ensures.bits)) c.requires.aligned
    (omega (arith, c.if-limit-end.false, c.end.ensures))

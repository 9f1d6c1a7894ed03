use Rattle.std.proofs.Common.{◌≡◌, ap, subst, sym, ◌∙◌, bit_and, bit_xor}
use Rattle.std.proofs.lemmas.Nat.{and_comm}
use Rattle.bit_merge.specs.Slots.{IsLeast, IsWord}
use Rattle.bit_merge.proofs.Nearness.{has-bit}
use Rattle.bit_merge.proofs.Leasts.{least-skip, least-next}
use Rattle.bit_merge.proofs.partner.nearer.Goals as goal

pub returns-then-word-one-eq0 : goal.returns-then-word-one-eq0
returns-then-word-one-eq0 c =
    let w = c.args.word.now in
    least-skip c.args.places.now w c.args.bit c.args.found (ap (bit_and w.mask) (sym c.only-one.ensures) ∙ c.if-word-one-eq0.true) c.requires.found

pub turned-requires : goal.turned-requires
turned-requires c =
    let mask = c.args.word.now.mask in
    let has = has-bit mask c.args.bit (λ e. c.if-word-one-eq0.false (ap (bit_and mask) c.only-one.ensures ∙ e)) in
    and_comm c.only-one.result mask ∙ subst (λ x. bit_and mask x ≡ x) (sym c.only-one.ensures) has

pub returns : goal.returns
returns c =
    let bit = c.args.bit in
    let w = c.args.word.now in
    let has = has-bit w.mask bit (λ e. c.if-word-one-eq0.false (ap (bit_and w.mask) c.only-one.ensures ∙ e)) in
    let value = c.turned.ensures.value ∙ ap (bit_xor w.value) c.only-one.ensures in
    let masked = subst (λ m. IsLeast c.args.places.now (IsWord m c.turned.result.value) c.least_place.result) c.turned.ensures.mask c.least_place.ensures in
    let found = subst (λ v. IsLeast c.args.places.now (IsWord w.mask v) c.least_place.result) value masked in
    subst (IsLeast c.args.places.now _) (sym c.lesser.ensures) (least-next c.args.places.now w bit c.args.found c.least_place.result has c.requires.found found)

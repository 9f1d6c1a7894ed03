use Rattle.std.proofs.Common.{◌+◌, ◌<◌, ◌^◌, ℕ, ap, subst, ◌∙◌, arith, rules, nat_eq, slice_index}
use Rattle.tcam_sim.proofs.Differing.{differing}
use Rattle.tcam_sim.proofs.LaneByLane.{differing_lanes, lanes_at}
use Rattle.tcam_sim.proofs.bank.Bank.differences.Goals as goal

pub returns-clause-eight : goal.returns-clause-eight
returns-clause-eight c =
    (differing_lanes c.args.key.high c.args.key.low _ _ _ _ _ _ _ _ _ _ c.eight.ensures.lanes c.eight-2.ensures.lanes c.eight-3.ensures.lanes c.eight-4.ensures.lanes c.eight-5.ensures.lanes).eight

pub returns-clause-lanes : goal.returns-clause-lanes
returns-clause-lanes c i h =
    let bank = c.args.self.now in
    let start = c.args.start in
    let k = start + i in
    let fits : ℕ → Type 0 = λ n. n < 2 ^ 64 in
    let vh = lanes_at _ _ bank.values.high.items start c.deref.ensures.value c.eight.ensures.lanes in
    let mh = lanes_at _ _ bank.masks.high.items start c.deref-2.ensures.value c.eight-2.ensures.lanes in
    let vl = lanes_at _ _ bank.values.low.items start c.deref-3.ensures.value c.eight-3.ensures.lanes in
    let ml = lanes_at _ _ bank.masks.low.items start c.deref-4.ensures.value c.eight-4.ensures.lanes in
    let a = lanes_at _ _ bank.vacant.items start c.deref-5.ensures.value c.eight-5.ensures.lanes in
    let key_fits : c.args.key.low < 2 ^ 64 = search rules in
    let value_fits = subst fits (ap (λ xs. slice_index xs k) c.deref-3.ensures.value) (c.eight-3.ensures.fits i h) in
    let mask_fits = subst fits (ap (λ xs. slice_index xs k) c.deref-4.ensures.value) (c.eight-4.ensures.fits i h) in
    ap (λ x. nat_eq x 0) ((differing_lanes c.args.key.high c.args.key.low _ _ _ _ _ _ _ _ _ _ vh mh vl ml a).each i h)
    ∙ differing c.args.key.high c.args.key.low (slice_index bank.values.high.items k) (slice_index bank.values.low.items k) (slice_index bank.masks.high.items k) (slice_index bank.masks.low.items k)
    (slice_index bank.vacant.items k) (slice_index bank.decisions.items k)
    key_fits value_fits mask_fits (bank.narrow k (omega (arith, h, c.requires, bank.masks_long.high)))

use Rattle.std.proofs.Common.{◌≡◌, ◌∙◌, ◌<◌, ◌^◌, subst, arith, rules, slice_index, ℕ}
use Rattle.std.proofs.lemmas.List.{get_or_default}
use Rattle.tcam_sim.proofs.Differing.{differing}
use Rattle.tcam_sim.proofs.bank.Bank.agrees.Goals as goal

pub returns : goal.returns
returns c =
    let bank = c.args.self.now in
    let k = c.args.slot in
    let vh : c.index.result.now ≡ slice_index bank.values.high.items k = c.index.ensures ∙ get_or_default bank.values.high.items k c.index.result.now 0 (omega (arith, c.requires, bank.values_long.high)) in
    let mh : c.index-2.result.now ≡ slice_index bank.masks.high.items k = c.index-2.ensures ∙ get_or_default bank.masks.high.items k c.index-2.result.now 0 (omega (arith, c.requires, bank.masks_long.high)) in
    let vl : c.index-3.result.now ≡ slice_index bank.values.low.items k = c.index-3.ensures ∙ get_or_default bank.values.low.items k c.index-3.result.now 0 (omega (arith, c.requires, bank.values_long.low)) in
    let ml : c.index-4.result.now ≡ slice_index bank.masks.low.items k = c.index-4.ensures ∙ get_or_default bank.masks.low.items k c.index-4.result.now 0 (omega (arith, c.requires, bank.masks_long.low)) in
    let a : c.index-5.result.now ≡ slice_index bank.vacant.items k = c.index-5.ensures ∙ get_or_default bank.vacant.items k c.index-5.result.now 0 (omega (arith, c.requires, bank.vacant_long)) in
    let fits : ℕ → Type 0 = λ n. n < 2 ^ 64 in
    let key_fits : c.args.key.low < 2 ^ 64 = search rules in
    let value_fits : c.index-3.result.now < 2 ^ 64 = search rules in
    let mask_fits : c.index-4.result.now < 2 ^ 64 = search rules in
    rw (vh, mh, vl, ml, a)
    (differing c.args.key.high c.args.key.low (slice_index bank.values.high.items k) (slice_index bank.values.low.items k) (slice_index bank.masks.high.items k) (slice_index bank.masks.low.items k)
    (slice_index bank.vacant.items k) (slice_index bank.decisions.items k)
    key_fits (subst fits vl value_fits) (subst fits ml mask_fits) (bank.narrow k (omega (arith, c.requires, bank.masks_long.high))))

use Rattle.std.proofs.Common.{◌≢◌, ◌<◌, eqb, map, ap, sym, ◌∙◌, arith, w64}
use Rattle.std.specs.Simd.Lanes.{mask_l}
use lib.Count.{count_trailing_zeros}
use Rattle.std.proofs.lemmas.Simd.{bitmask_splat, trailing_mask_l}
use Rattle.tcam_sim.specs.Keys.{key_bits}
use Rattle.tcam_sim.proofs.Eights.{TellEight, is_none, eight_none, eight_found}
use Rattle.tcam_sim.proofs.bank.Bank.first_of_eight.Goals as goal

pub returns-then-hits-eq0-clause-none : goal.returns-then-hits-eq0-clause-none
returns-then-hits-eq0-clause-none c =
    let lanes = c.differences.result in
    let tell : TellEight c.args.self.now (key_bits c.args.key) c.args.start lanes = record { room = c.requires; eight = c.differences.ensures.eight; each = c.differences.ensures.lanes } in
    let hits = bitmask_splat w64 eqb lanes 8 0 tell.eight (omega arith) in
    eight_none c.args.self.now (key_bits c.args.key) c.args.start lanes tell (sym hits ∙ c.if-hits-eq0.true)

pub returns-else-hits-eq0-clause-found : goal.returns-else-hits-eq0-clause-found
returns-else-hits-eq0-clause-found c =
    let lanes = c.differences.result in
    let tell : TellEight c.args.self.now (key_bits c.args.key) c.args.start lanes = record { room = c.requires; eight = c.differences.ensures.eight; each = c.differences.ensures.lanes } in
    let hits = bitmask_splat w64 eqb lanes 8 0 tell.eight (omega arith) in
    let set : mask_l (map is_none lanes) ≢ 0 = λ none. c.if-hits-eq0.false (hits ∙ none) in
    let some : 0 < mask_l (map is_none lanes) = omega (arith, set) in
    eight_found c.args.self.now (key_bits c.args.key) c.args.start lanes _ tell some (ap (count_trailing_zeros 64) hits ∙ trailing_mask_l is_none 64 lanes (omega (arith, tell.eight)) some)

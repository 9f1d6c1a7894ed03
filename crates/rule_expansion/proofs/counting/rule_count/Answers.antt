use Rattle.std.proofs.Common.{◌≤◌, ◌*◌, ◌^◌, ℕ, arith}
use Rattle.std.proofs.lemmas.Nat.{mul-le}
use Rattle.rule_expansion.proofs.counting.rule_count.Goals as goal

five_few : (a b c d e : ℕ) → a ≤ 992 → b ≤ 992 → c ≤ 992 → d ≤ 992 → e ≤ 992 → a * b * (c * d) * e ≤ 2 ^ 50
five_few a b c d e ha hb hc hd he =
    let all = mul-le (a * b * (c * d)) e (992 * 992 * (992 * 992)) 992 (mul-le (a * b) (c * d) (992 * 992) (992 * 992) (mul-le a b 992 992 ha hb) (mul-le c d 992 992 hc hd)) he in
    omega (arith, all)

pub returns-clause-few : goal.returns-clause-few
returns-clause-few c =
    five_few c.from.result c.from-2.result c.from-3.result c.from-4.result c.from-5.result (omega (arith, c.from.ensures)) (omega (arith, c.from-2.ensures)) (omega (arith, c.from-3.ensures)) (omega (arith, c.from-4.ensures)) (omega (arith, c.from-5.ensures))

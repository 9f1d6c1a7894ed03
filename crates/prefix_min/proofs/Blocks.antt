-- Parts of the field that lie in one another.
use Rattle.std.proofs.Common.{◌≡◌, ℕ, zero, suc, ◌+◌, ◌-◌, ◌*◌, ◌%◌, ◌^◌, ◌<◌, ◌≤◌, arith, ap, sym, ◌∙◌, ◌/◌, inl, inr}
use Rattle.std.proofs.lemmas.Nat.{one_shl, div-add-mod', mod-pow-add, mod_below, pow_pos, mul-le}
use Rattle.field_boxes.proofs.Powers.{double}
use Rattle.std.specs.Prelude.{◌⊎◌}
use Rattle.std.proofs.Math.Nat.{add-mod_right, zero-mod, suc-mul, mul-mod_left}
use Rattle.std.proofs.Math.Pow.{mod-mod-pow}
use Rattle.std.proofs.lemmas.Bool.{cases_lt}
use Rattle.prefix_min.specs.declared.parts.FieldPart.{FieldPart}
use Rattle.prefix_min.specs.Growth.{IsAbout}

pub double-one : (n : ℕ) → 2 ^ (n + 1) ≡ 2 ^ n + 2 ^ n
double-one n = ap (λ k. 2 ^ k) (let e : n + 1 ≡ suc n = omega arith in e) ∙ double n

-- a power that isn't the first is twice the one below it
pub halved : (n : ℕ) → 1 < 2 ^ n → (n ≡ suc (n - 1)) × (2 ^ n ≡ 2 ^ (n - 1) + 2 ^ (n - 1))
halved zero h = absurd (omega (arith, h))
halved (suc n) h =
    let e : suc n - 1 ≡ n = omega arith in
    (ap suc (sym e), double n ∙ ap (λ k. 2 ^ k + 2 ^ k) (sym e))

pub one_bit : (n : ℕ) → n ≤ 32 → (1 * 2 ^ n) % 2 ^ 64 ≡ 2 ^ n
one_bit n h = one_shl n 64 (omega arith)

-- of two multiples the lesser lies a whole step before the greater
step_apart : (m a b : ℕ) → a % m ≡ 0 → b % m ≡ 0 → a < b → a + m ≤ b
step_apart m a b h k lt = elim (cases_lt (a / m) (b / m)) [
  | inl less ↦ omega (arith, div-add-mod' a m, div-add-mod' b m, h, k, suc-mul (a / m) m, mul-le (suc (a / m)) m (b / m) m (let e : suc (a / m) ≤ b / m = omega (arith, less) in e) (let e : m ≤ m = omega arith in e))
  | inr ge ↦ absurd (omega (arith, div-add-mod' a m, div-add-mod' b m, h, k, lt, mul-le (b / m) m (a / m) m ge (let e : m ≤ m = omega arith in e)))
]

-- a multiple of a power is one of each lesser power
pub lesser : (k n v : ℕ) → k ≤ n → v % 2 ^ n ≡ 0 → v % 2 ^ k ≡ 0
lesser k n v le h =
    let e : (n - k) + k ≡ n = omega (arith, le) in
    sym (mod-mod-pow v (n - k) k) ∙ ap (λ m. v % 2 ^ m % 2 ^ k) e ∙ ap (λ x. x % 2 ^ k) h ∙ zero-mod (2 ^ k)

-- of two parts that meet the smaller lies in the greater
pub from-within : (k n v w : ℕ) → k ≤ n → v % 2 ^ k ≡ 0 → w % 2 ^ n ≡ 0 → w < v + 2 ^ k → w ≤ v
from-within k n v w le h g meets = elim (cases_lt v w) [
  | inl lt ↦ absurd (omega (arith, step_apart (2 ^ k) v w h (lesser k n w le g) lt, meets))
  | inr ge ↦ ge
]

pub to-within : (k n v w : ℕ) → k ≤ n → v % 2 ^ k ≡ 0 → w % 2 ^ n ≡ 0 → v < w + 2 ^ n → v + 2 ^ k ≤ w + 2 ^ n
to-within k n v w le h g meets = step_apart (2 ^ k) v (w + 2 ^ n) h (lesser k n (w + 2 ^ n) le (add-mod_right w (2 ^ n) ∙ g)) meets

-- a part is the lower half of the one about it, or the upper half
over_cases : (q k r : ℕ) → q < 2 → r ≡ q * 2 ^ k + 0 → (r ≡ 0) ⊎ (r ≡ 2 ^ k)
over_cases zero k r lt e = inl (omega (arith, e))
over_cases (suc zero) k r lt e = inr (omega (arith, e))
over_cases (suc (suc q)) k r lt e = absurd (omega (arith, lt))

over : (k v : ℕ) → v % 2 ^ k ≡ 0 → (v % 2 ^ (k + 1) ≡ 0) ⊎ (v % 2 ^ (k + 1) ≡ 2 ^ k)
over k v h =
    let e : 1 + k ≡ k + 1 = omega arith in
    let parts : v % 2 ^ (k + 1) ≡ (v / 2 ^ k % 2 ^ 1) * 2 ^ k + 0 = ap (λ m. v % 2 ^ m) (sym e) ∙ mod-pow-add v 1 k ∙ ap (λ x. (v / 2 ^ k % 2 ^ 1) * 2 ^ k + x) h in
    over_cases (v / 2 ^ k % 2 ^ 1) k (v % 2 ^ (k + 1)) (mod_below (v / 2 ^ k) (2 ^ 1) (omega arith)) parts

pub sides : (k v w : ℕ) → v % 2 ^ k ≡ 0 → w ≡ v - v % 2 ^ (k + 1) → (w ≡ v) ⊎ (w + 2 ^ k ≡ v)
sides k v w h e = elim (over k v h) [
  | inl none ↦ inl (omega (arith, e, none))
  | inr half ↦ inr (omega (arith, e, half, div-add-mod' v (2 ^ (k + 1))))
]

pub about-aligned : (k v w : ℕ) → w ≡ v - v % 2 ^ k → w % 2 ^ k ≡ 0
about-aligned k v w e =
    let m = 2 ^ k in
    let is : w ≡ v / m * m = omega (arith, e, div-add-mod' v m) in
    ap (λ x. x % m) is ∙ mul-mod_left (v / m) m

pub about-ends : (k v w : ℕ) → v % 2 ^ k ≡ 0 → w ≡ v - v % 2 ^ (k + 1) → v + 2 ^ k ≤ w + 2 ^ (k + 1)
about-ends k v w h e = elim (sides k v w h e) [
  | inl same ↦ omega (arith, same, double-one k)
  | inr half ↦ omega (arith, half, double-one k)
]

-- and so does a greater one that holds its low value
pub about-around : (low bits most limit : ℕ) (p : FieldPart) → p.low ≡ low - low % 2 ^ p.bits → bits ≤ p.bits → p.bits ≤ most → low % 2 ^ bits ≡ 0 → p.low + 2 ^ p.bits ≤ limit → IsAbout low bits most limit p
about-around low bits most limit p l le short h ends =
    let aligned = about-aligned p.bits low p.low l in
    record {
      from = omega (arith, l);
      to = to-within bits p.bits low p.low le h aligned (omega (arith, l, mod_below low (2 ^ p.bits) (pow_pos p.bits)));
      less = le;
      short = short;
      aligned = aligned;
      ends = ends;
    }

-- Powers of two. A block of 2 ^ suc n values is two of 2 ^ n values.
use Rattle.std.proofs.Common.{◌≡◌, ℕ, suc, ◌+◌, ◌-◌, ◌%◌, ◌^◌, ◌<◌, arith, ap, subst, sym, ◌∙◌, inl, inr}
use Rattle.std.proofs.Math.Nat.{two-pow-succ, add-mod_right, zero-mod}
use Rattle.std.proofs.Math.Numerals.{one-add}
use Rattle.std.proofs.Math.Pow.{mod-mod-pow}
use Rattle.std.proofs.lemmas.Bool.{cases_lt}

pub double : (n : ℕ) → 2 ^ suc n ≡ 2 ^ n + 2 ^ n
double n = two-pow-succ n

-- what holds on both halves of a block holds on the block
pub on_block : (P : ℕ → Type 0) (n v : ℕ) → ((k : ℕ) → k < 2 ^ n → P (v + k)) → ((k : ℕ) → k < 2 ^ n → P (v + 2 ^ n + k)) → (k : ℕ) → k < 2 ^ suc n → P (v + k)
on_block P n v low high k small =
    elim (cases_lt k (2 ^ n)) [
      | inl h ↦ low k h
      | inr h ↦ let e : v + 2 ^ n + (k - 2 ^ n) ≡ v + k = omega arith in let d = double n in subst P e (high (k - 2 ^ n) (omega arith))
    ]

pub on_low : (P : ℕ → Type 0) (n v : ℕ) → ((k : ℕ) → k < 2 ^ suc n → P (v + k)) → (k : ℕ) → k < 2 ^ n → P (v + k)
on_low P n v all k small = let d = double n in all k (omega arith)

pub on_high : (P : ℕ → Type 0) (n v : ℕ) → ((k : ℕ) → k < 2 ^ suc n → P (v + k)) → (k : ℕ) → k < 2 ^ n → P (v + 2 ^ n + k)
on_high P n v all k small =
    let d = double n in
    let e : v + (2 ^ n + k) ≡ v + 2 ^ n + k = omega arith in
    subst P e (all (2 ^ n + k) (omega arith))

pub mod_mod : (n v : ℕ) → v % 2 ^ suc n % 2 ^ n ≡ v % 2 ^ n
mod_mod n v = ap (λ m. v % 2 ^ m % 2 ^ n) (sym (one-add n)) ∙ mod-mod-pow v 1 n

-- a multiple of a power of two is one of half that power, and so is the value half a step on
pub aligned_low : (n v : ℕ) → v % 2 ^ suc n ≡ 0 → v % 2 ^ n ≡ 0
aligned_low n v h = sym (mod_mod n v) ∙ ap (λ x. x % 2 ^ n) h ∙ zero-mod (2 ^ n)

pub aligned_high : (n v : ℕ) → v % 2 ^ suc n ≡ 0 → (v + 2 ^ n) % 2 ^ n ≡ 0
aligned_high n v h = add-mod_right v (2 ^ n) ∙ aligned_low n v h

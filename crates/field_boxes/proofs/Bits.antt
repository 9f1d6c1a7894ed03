-- Numbers as their bits.
use Rattle.std.proofs.Common.{◌≡◌, ◌∷◌, ◌++◌, ℕ, zero, suc, ◌+◌, ◌*◌, ◌/◌, ◌%◌, ◌^◌, ◌<◌, List, Bool, true, false, ap, refl, sym, subst, ◌∙◌, arith, inl, inr, eq-eqb, length, take}
use Rattle.std.specs.Prelude.{nat_eq, ◌&&◌}
use Rattle.std.proofs.lemmas.Nat.{pow_pos, shr-shr, shr_split, shr_below, field_of, mod_below}
use Rattle.std.proofs.Math.Nat.{mod-mod}
use Rattle.std.proofs.Math.Numerals.{one-add}
use Rattle.std.proofs.lemmas.Bool.{eqb-true, ne_eqb, false≢true}
use Rattle.std.proofs.lemmas.Bool.Decides.{eqb_tells}
use Rattle.std.proofs.lemmas.List.{take_at}
use Rattle.field_boxes.specs.Headline.Bits.{bits}
use Rattle.field_boxes.specs.Bits.{begins}
use Rattle.field_boxes.proofs.Powers.{mod_mod}

pub length-bits : (n v : ℕ) → length (bits n v) ≡ n
length-bits zero v = refl
length-bits (suc n) v = ap suc (length-bits n v)

-- the highest bits are those of the quotient
pub bits-add : (l k v : ℕ) → bits (l + k) v ≡ bits l (v / 2 ^ k) ++ bits k v
bits-add zero k v = ap (λ n. bits n v) (let e : 0 + k ≡ k = omega arith in e)
bits-add (suc l) k v =
    let e : suc l + k ≡ suc (l + k) = omega arith in
    let c : k + l ≡ l + k = omega arith in
    let top : v / 2 ^ (l + k) ≡ v / 2 ^ k / 2 ^ l = ap (λ n. v / 2 ^ n) (sym c) ∙ sym (shr-shr v k l) in
    ap (λ n. bits n v) e ∙ ap (λ x. nat_eq (x % 2) 1 ∷ bits (l + k) v) top ∙ ap (λ bs. nat_eq (v / 2 ^ k / 2 ^ l % 2) 1 ∷ bs) (bits-add l k v)

-- the bits above are not seen
pub bits-mod : (n v : ℕ) → bits n (v % 2 ^ n) ≡ bits n v
bits-mod zero v = refl
bits-mod (suc n) v =
    let top : v % 2 ^ suc n / 2 ^ n % 2 ≡ v / 2 ^ n % 2 =
    ap (λ m. v % 2 ^ m / 2 ^ n % 2) (sym (one-add n)) ∙ ap (λ x. x % 2) (field_of v 1 n) ∙ mod-mod (v / 2 ^ n) 2 in
    let low : bits n (v % 2 ^ suc n) ≡ bits n v = sym (bits-mod n (v % 2 ^ suc n)) ∙ ap (bits n) (mod_mod n v) ∙ bits-mod n v in
    ap (λ x. nat_eq x 1 ∷ bits n (v % 2 ^ suc n)) top ∙ ap (λ bs. nat_eq (v / 2 ^ n % 2) 1 ∷ bs) low

nat_eq_comm : (a b : ℕ) → nat_eq a b ≡ nat_eq b a
nat_eq_comm a b = elim (eqb_tells a b) [ inl t ↦ t.0 ∙ sym (eq-eqb b a (sym t.1)) | inr t ↦ t.0 ∙ sym (ne_eqb b a (λ e. t.1 (sym e))) ]

-- two numbers of one bit more, by their highest bits and the rest
same_parts : (n a b : ℕ) → (a / 2 ^ n ≡ b / 2 ^ n) → (a % 2 ^ n ≡ b % 2 ^ n) → a ≡ b
same_parts n a b top low = sym (shr_split a n) ∙ ap (λ x. x * 2 ^ n + a % 2 ^ n) top ∙ ap (λ x. b / 2 ^ n * 2 ^ n + x) low ∙ shr_split b n

-- the highest bit of a number of one bit more
top_bit : (n a : ℕ) → a < 2 ^ suc n → a / 2 ^ n < 2
top_bit n a small = shr_below a 1 n (subst (λ m. a < 2 ^ m) (sym (one-add n)) small)

begins_top : (x y : ℕ) (bs cs : List Bool) → x < 2 → y < 2 → begins (nat_eq (x % 2) 1 ∷ bs) (nat_eq (y % 2) 1 ∷ cs) ≡ nat_eq x y && begins bs cs
begins_top zero zero bs cs h k = refl
begins_top zero (suc zero) bs cs h k = refl
begins_top (suc zero) zero bs cs h k = refl
begins_top (suc zero) (suc zero) bs cs h k = refl
begins_top zero (suc (suc y)) bs cs h k = absurd (omega arith)
begins_top (suc zero) (suc (suc y)) bs cs h k = absurd (omega arith)
begins_top (suc (suc x)) y bs cs h k = absurd (omega arith)

eq_parts : (n a b : ℕ) (s t : Bool) → nat_eq (a / 2 ^ n) (b / 2 ^ n) ≡ s → nat_eq (a % 2 ^ n) (b % 2 ^ n) ≡ t → s && t ≡ nat_eq a b
eq_parts n a b true true h k = sym (eq-eqb a b (same_parts n a b (eqb-true (a / 2 ^ n) (b / 2 ^ n) h) (eqb-true (a % 2 ^ n) (b % 2 ^ n) k)))
eq_parts n a b true false h k = sym (ne_eqb a b (λ e. false≢true (sym k ∙ eq-eqb (a % 2 ^ n) (b % 2 ^ n) (ap (λ x. x % 2 ^ n) e))))
eq_parts n a b false t h k = sym (ne_eqb a b (λ e. false≢true (sym h ∙ eq-eqb (a / 2 ^ n) (b / 2 ^ n) (ap (λ x. x / 2 ^ n) e))))

-- bits begin with the bits of a number exactly where they are that number's
pub begins-bits : (n a b : ℕ) (rest : List Bool) → a < 2 ^ n → b < 2 ^ n → begins (bits n a) (bits n b ++ rest) ≡ nat_eq a b
begins-bits zero a b rest h k = let e : a ≡ b = omega (arith, h, k) in sym (eq-eqb a b e)
begins-bits (suc n) a b rest h k =
    let low = begins-bits n (a % 2 ^ n) (b % 2 ^ n) rest (mod_below a (2 ^ n) (pow_pos n)) (mod_below b (2 ^ n) (pow_pos n)) in
    let same : begins (bits n a) (bits n b ++ rest) ≡ nat_eq (a % 2 ^ n) (b % 2 ^ n) = ap (λ bs. begins bs (bits n b ++ rest)) (sym (bits-mod n a)) ∙ ap (λ bs. begins (bits n (a % 2 ^ n)) (bs ++ rest)) (sym (bits-mod n b)) ∙ low in
    begins_top (a / 2 ^ n) (b / 2 ^ n) (bits n a) (bits n b ++ rest) (top_bit n a h) (top_bit n b k)
    ∙ ap (λ t. nat_eq (a / 2 ^ n) (b / 2 ^ n) && t) same
    ∙ eq_parts n a b (nat_eq (a / 2 ^ n) (b / 2 ^ n)) (nat_eq (a % 2 ^ n) (b % 2 ^ n)) refl refl

-- a prefix holds the values that begin with its bits
pub prefix-begins : (l k p v : ℕ) → p < 2 ^ (l + k) → v < 2 ^ (l + k) → nat_eq (v / 2 ^ k) (p / 2 ^ k) ≡ begins (take l (bits (l + k) p)) (bits (l + k) v)
prefix-begins l k p v h j =
    let front : take l (bits (l + k) p) ≡ bits l (p / 2 ^ k) = ap (take l) (bits-add l k p) ∙ take_at (bits l (p / 2 ^ k)) (bits k p) l (length-bits l (p / 2 ^ k)) in
    rw (front, bits-add l k v) (nat_eq_comm (v / 2 ^ k) (p / 2 ^ k) ∙ sym (begins-bits l (p / 2 ^ k) (v / 2 ^ k) (bits k v) (shr_below p l k h) (shr_below v l k j)))

-- over any width
pub begins_at : (w l k p v : ℕ) → l + k ≡ w → p < 2 ^ w → v < 2 ^ w → begins (take l (bits w p)) (bits w v) ≡ nat_eq (v / 2 ^ k) (p / 2 ^ k)
begins_at w l k p v e =
    subst (λ n. p < 2 ^ n → v < 2 ^ n → begins (take l (bits n p)) (bits n v) ≡ nat_eq (v / 2 ^ k) (p / 2 ^ k)) e (λ h j. sym (prefix-begins l k p v h j))

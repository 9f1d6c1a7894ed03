-- The prefixes of a block: none where the set has none of it, one where it has all of it, else those of its halves.
use Rattle.std.proofs.Common.{◌≡◌, ◌∷◌, ◌++◌, ℕ, zero, suc, ◌+◌, ◌^◌, ◌<◌, [], Bool, true, false, ap, refl, sym, subst, ◌∙◌, arith, ◌&&◌, if◌then◌else◌, pow_pos}
use Rattle.std.proofs.lemmas.Bool.{and_parts, false≢true, and_from}
use Rattle.range_prefix.specs.Shortest.{has_block, block_prefix, shortest_in}
use Rattle.field_boxes.proofs.Powers.{on_block, on_low, on_high}

pub has_block-at : (set : ℕ → Bool) (n v : ℕ) → has_block set n v ≡ true → (k : ℕ) → k < 2 ^ n → set (v + k) ≡ true
has_block-at set zero v h k small = let e : v + k ≡ v = omega arith in ap set e ∙ h
has_block-at set (suc n) v h k small =
    let parts = and_parts (has_block set n v) (has_block set n (v + 2 ^ n)) h in
    on_block (λ x. set x ≡ true) n v (has_block-at set n v parts.0) (has_block-at set n (v + 2 ^ n) parts.1) k small

pub has_block-from : (set : ℕ → Bool) (n v : ℕ) → ((k : ℕ) → k < 2 ^ n → set (v + k) ≡ true) → has_block set n v ≡ true
has_block-from set zero v h = let e : v ≡ v + 0 = omega arith in ap set e ∙ h 0 (omega arith)
has_block-from set (suc n) v h =
    and_from (has_block set n v) (has_block set n (v + 2 ^ n)) (has_block-from set n v (on_low (λ x. set x ≡ true) n v h)) (has_block-from set n (v + 2 ^ n) (on_high (λ x. set x ≡ true) n v h))

lacks : (set : ℕ → Bool) (n v k : ℕ) → k < 2 ^ n → set (v + k) ≡ false → (t : Bool) → has_block set n v ≡ t → t ≡ false
lacks set n v k small h true e = absurd (false≢true (sym h ∙ has_block-at set n v e k small))
lacks set n v k small h false e = refl

-- a set that lacks a value of a block hasn't the whole block
pub has_block-lacks : (set : ℕ → Bool) (n v k : ℕ) → k < 2 ^ n → set (v + k) ≡ false → has_block set n v ≡ false
has_block-lacks set n v k small h = lacks set n v k small h (has_block set n v) refl

pub whole_in : (width : ℕ) (set : ℕ → Bool) (n v : ℕ) → has_block set n v ≡ true → shortest_in width set n v ≡ block_prefix width n v ∷ []
whole_in width set zero v h = ap (λ t. if t then block_prefix width zero v ∷ [] else []) h
whole_in width set (suc n) v h = ap (λ t. if t then block_prefix width (suc n) v ∷ [] else shortest_in width set n v ++ shortest_in width set n (v + 2 ^ n)) h

pub halves_in : (width : ℕ) (set : ℕ → Bool) (n v : ℕ) → has_block set (suc n) v ≡ false → shortest_in width set (suc n) v ≡ shortest_in width set n v ++ shortest_in width set n (v + 2 ^ n)
halves_in width set n v h = ap (λ t. if t then block_prefix width (suc n) v ∷ [] else shortest_in width set n v ++ shortest_in width set n (v + 2 ^ n)) h

pub nothing_in : (width : ℕ) (set : ℕ → Bool) (n v : ℕ) → ((k : ℕ) → k < 2 ^ n → set (v + k) ≡ false) → shortest_in width set n v ≡ []
nothing_in width set zero v h = let e : v ≡ v + 0 = omega arith in ap (λ t. if t then block_prefix width zero v ∷ [] else []) (ap set e ∙ h 0 (omega arith))
nothing_in width set (suc n) v h =
    halves_in width set n v (has_block-lacks set (suc n) v 0 (pow_pos (suc n)) (h 0 (pow_pos (suc n))))
    ∙ ap (λ ps. ps ++ shortest_in width set n (v + 2 ^ n)) (nothing_in width set n v (on_low (λ x. set x ≡ false) n v h))
    ∙ nothing_in width set n (v + 2 ^ n) (on_high (λ x. set x ≡ false) n v h)

has_block-same : (set other : ℕ → Bool) (n v : ℕ) → ((k : ℕ) → k < 2 ^ n → set (v + k) ≡ other (v + k)) → has_block set n v ≡ has_block other n v
has_block-same set other zero v h = let e : v + 0 ≡ v = omega arith in subst (λ x. set x ≡ other x) e (h 0 (omega arith))
has_block-same set other (suc n) v h =
    ap (λ t. t && has_block set n (v + 2 ^ n)) (has_block-same set other n v (on_low (λ x. set x ≡ other x) n v h))
    ∙ ap (λ t. has_block other n v && t) (has_block-same set other n (v + 2 ^ n) (on_high (λ x. set x ≡ other x) n v h))

-- sets with the same values of a block need the same prefixes there
pub same_in : (width : ℕ) (set other : ℕ → Bool) (n v : ℕ) → ((k : ℕ) → k < 2 ^ n → set (v + k) ≡ other (v + k)) → shortest_in width set n v ≡ shortest_in width other n v
same_in width set other zero v h = ap (λ t. if t then block_prefix width zero v ∷ [] else []) (has_block-same set other zero v h)
same_in width set other (suc n) v h =
    ap (λ t. if t then block_prefix width (suc n) v ∷ [] else shortest_in width set n v ++ shortest_in width set n (v + 2 ^ n)) (has_block-same set other (suc n) v h)
    ∙ ap (λ ps. if has_block other (suc n) v then block_prefix width (suc n) v ∷ [] else ps ++ shortest_in width set n (v + 2 ^ n)) (same_in width set other n v (on_low (λ x. set x ≡ other x) n v h))
    ∙ ap (λ ps. if has_block other (suc n) v then block_prefix width (suc n) v ∷ [] else shortest_in width other n v ++ ps) (same_in width set other n (v + 2 ^ n) (on_high (λ x. set x ≡ other x) n v h))

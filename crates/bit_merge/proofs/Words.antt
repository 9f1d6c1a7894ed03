-- The join of two words.
use Rattle.std.proofs.Common.{◌≡◌, ◌∷◌, ℕ, List, [], ◌≤◌, arith, ap, refl, sym, ◌∙◌, Bool, true, false, inl, inr, Some, None, ◌⊎◌, suc, ◌&&◌, ◌||◌, not, true≢false}
use Rattle.std.proofs.Math.Bool.{or-false}
use Rattle.ternary_words.specs.Headline.Word.{Trit, agrees}
use Rattle.ternary_words.specs.Word.{trit_agrees}
use Rattle.bit_merge.specs.Merge.{is_star, HaveSameStars, differing, CanJoin, join}

-- words that don't differ are one
same : (a b : List Trit) → HaveSameStars a b → differing a b ≤ 0 → (a ≡ b) × (join a b ≡ a)
same [] [] s d = (refl, refl)
same (None ∷ a) (None ∷ b) s d = let h = same a b s.1 d in (ap (λ r. None ∷ r) h.0, ap (λ r. None ∷ r) h.1)
same (None ∷ a) (Some u ∷ b) s d = absurd (true≢false s.0)
same (Some t ∷ a) (None ∷ b) s d = absurd (true≢false (sym s.0))
same (Some true ∷ a) (Some true ∷ b) s d = let h = same a b s.1 d in (ap (λ r. Some true ∷ r) h.0, ap (λ r. Some true ∷ r) h.1)
same (Some true ∷ a) (Some false ∷ b) s d = absurd (omega (arith, d))
same (Some false ∷ a) (Some true ∷ b) s d = absurd (omega (arith, d))
same (Some false ∷ a) (Some false ∷ b) s d = let h = same a b s.1 d in (ap (λ r. Some false ∷ r) h.0, ap (λ r. Some false ∷ r) h.1)
same a b s d = absurd s

-- one more place at which both have one trit
alike_step : (t x y z : Bool) → z ≡ (x || y) → (t && z) ≡ ((t && x) || (t && y))
alike_step true x y z h = h
alike_step false x y z h = refl

-- one more place at which they differ
unlike_step : (t : Bool) (a b : List Trit) (bit : Bool) (key : List Bool) → (a ≡ b) × (join a b ≡ a) →
    agrees (join a b) key ≡ (agrees (Some t ∷ a) (bit ∷ key) || agrees (Some (not t) ∷ b) (bit ∷ key))
unlike_step true a b false key h = ap (λ w. agrees w key) (h.1 ∙ h.0)
unlike_step false a b true key h = ap (λ w. agrees w key) (h.1 ∙ h.0)
unlike_step t a b bit key h = ap (λ w. agrees w key) h.1 ∙ sym (or-false (agrees a key))

pub join-agrees : (a b : List Trit) (key : List Bool) → CanJoin a b → agrees (join a b) key ≡ (agrees a key || agrees b key)
join-agrees (s ∷ a) [] key j = absurd j.0
join-agrees (None ∷ a) (None ∷ b) (k ∷ key) j = join-agrees a b key (j.0.1, j.1)
join-agrees (None ∷ a) (Some u ∷ b) (k ∷ key) j = absurd (true≢false j.0.0)
join-agrees (Some t ∷ a) (None ∷ b) (k ∷ key) j = absurd (true≢false (sym j.0.0))
join-agrees (Some true ∷ a) (Some true ∷ b) (k ∷ key) j = alike_step (trit_agrees (Some true) k) (agrees a key) (agrees b key) (agrees (join a b) key) (join-agrees a b key (j.0.1, j.1))
join-agrees (Some true ∷ a) (Some false ∷ b) (k ∷ key) j = unlike_step true a b k key (same a b j.0.1 (omega (arith, j.1)))
join-agrees (Some false ∷ a) (Some true ∷ b) (k ∷ key) j = unlike_step false a b k key (same a b j.0.1 (omega (arith, j.1)))
join-agrees (Some false ∷ a) (Some false ∷ b) (k ∷ key) j = alike_step (trit_agrees (Some false) k) (agrees a key) (agrees b key) (agrees (join a b) key) (join-agrees a b key (j.0.1, j.1))
join-agrees a b key j = refl

-- two words can be joined, or not
no_step : {P Q : Type 0} → P ⊎ (P → ⊥) → Q ⊎ (Q → ⊥) → (P × Q) ⊎ (P × Q → ⊥)
no_step (inl p) (inl q) = inl (p, q)
no_step (inl p) (inr n) = inr (λ h. n h.1)
no_step (inr n) q = inr (λ h. n h.0)

same_bool : (a b : Bool) → (a ≡ b) ⊎ (a ≡ b → ⊥)
same_bool true false = inr (λ e. true≢false e)
same_bool false true = inr (λ e. true≢false (sym e))
same_bool a b = inl refl

stars_or : (a b : List Trit) → HaveSameStars a b ⊎ (HaveSameStars a b → ⊥)
stars_or [] [] = inl tt
stars_or (s ∷ a) (t ∷ b) = no_step (same_bool (is_star s) (is_star t)) (stars_or a b)
stars_or a b = inr (λ h. h)

few_or : (n : ℕ) → (n ≤ 1) ⊎ (n ≤ 1 → ⊥)
few_or (suc (suc n)) = inr (λ h. omega (arith, h))
few_or n = inl (omega arith)

pub can-join_or : (a b : List Trit) → CanJoin a b ⊎ (CanJoin a b → ⊥)
can-join_or a b = no_step (stars_or a b) (few_or (differing a b))

-- The least place of a word of some kind.
use Rattle.std.proofs.Common.{◌≡◌, ◌⊎◌, ℕ, ◌+◌, ◌^◌, ◌≤◌, min, ap, sym, ◌∙◌, subst, arith, Option, Some, None, inl, inr, bit_and, bit_xor}
use Rattle.std.proofs.lemmas.Bool.{cases_lt}
use Rattle.ternary_words.specs.declared.word.Word.{Word}
use Rattle.bit_merge.specs.Near.{IsNear}
use Rattle.bit_merge.specs.Slots.{Slots, at, IsLeast, IsPartner, IsWord, IsFirstOfItsWord, lesser_of}
use Rattle.bit_merge.proofs.Nearness.{near-up, near-down, near-none, near-partner, partner-near, alike-too}

pub least-iff : (slots : Slots) (P Q : Word → Type 0) (found : Option ℕ) → ((b : Word) → P b → Q b) → ((b : Word) → Q b → P b) → IsLeast slots P found → IsLeast slots Q found
least-iff slots P Q None f g h = λ k b e q. h k b e (g b q)
least-iff slots P Q (Some place) f g h = ((h.0.0, h.0.1, f h.0.0 h.0.2), λ k b e q. h.1 k b e (g b q))

abbrev Either : (Word → Type 0) → (Word → Type 0) → Word → Type 0
Either P Q b = P b ⊎ Q b

pub least-either : (slots : Slots) (P Q : Word → Type 0) (f g : Option ℕ) → IsLeast slots P f → IsLeast slots Q g → IsLeast slots (Either P Q) (lesser_of f g)
least-either slots P Q None None h g = λ k b e r. elim r [ inl p ↦ h k b e p | inr q ↦ g k b e q ]
least-either slots P Q None (Some y) h g = ((g.0.0, g.0.1, inr g.0.2), λ k b e r. elim r [ inl p ↦ absurd (h k b e p) | inr q ↦ g.1 k b e q ])
least-either slots P Q (Some x) None h g = ((h.0.0, h.0.1, inl h.0.2), λ k b e r. elim r [ inl p ↦ h.1 k b e p | inr q ↦ absurd (g k b e q) ])
least-either slots P Q (Some x) (Some y) h g =
    let both = λ (k : ℕ) (b : Word) (e : at slots k ≡ Some b) (r : P b ⊎ Q b).
    (let z : min x y ≤ k = elim r [ inl p ↦ (let m = h.1 k b e p in omega (arith, m)) | inr q ↦ (let m = g.1 k b e q in omega (arith, m)) ] in z) in
    elim (cases_lt x y) [
      | inl less ↦ let e : x ≡ min x y = omega (arith, less) in ((h.0.0, ap (at slots) (sym e) ∙ h.0.1, inl h.0.2), both)
      | inr more ↦ let e : y ≡ min x y = omega (arith, more) in ((g.0.0, ap (at slots) (sym e) ∙ g.0.1, inr g.0.2), both)
    ]

-- one bit after another
abbrev Near : ℕ → Word → Word → Type 0
Near n w b = IsNear n w.mask w.value b.mask b.value

pub least-start : (slots : Slots) (w : Word) (found : Option ℕ) → IsLeast slots (IsWord w.mask w.value) found → IsLeast slots (Near 0 w) found
least-start slots w found h =
    least-iff slots (IsWord w.mask w.value) (Near 0 w) found (λ b p. (p.0, inl p.1))
    (λ b p. (p.0, elim p.1 [ inl e ↦ e | inr r ↦ absurd (omega (arith, r.1)) ])) h

pub least-skip : (slots : Slots) (w : Word) (n : ℕ) (found : Option ℕ) → bit_and w.mask (2 ^ n) ≡ 0 → IsLeast slots (Near n w) found → IsLeast slots (Near (n + 1) w) found
least-skip slots w n found e h =
    least-iff slots (Near n w) (Near (n + 1) w) found (λ b p. near-up n w.mask w.value b.mask b.value p) (λ b p. near-none n w.mask w.value b.mask b.value e p) h

pub least-next : (slots : Slots) (w : Word) (n : ℕ) (found other : Option ℕ) → bit_and w.mask (2 ^ n) ≡ 2 ^ n → IsLeast slots (Near n w) found →
    IsLeast slots (IsWord w.mask (bit_xor w.value (2 ^ n))) other → IsLeast slots (Near (n + 1) w) (lesser_of found other)
least-next slots w n found other e h g =
    let Q = IsWord w.mask (bit_xor w.value (2 ^ n)) in
    least-iff slots (Either (Near n w) Q) (Near (n + 1) w) (lesser_of found other)
    (λ b p. elim p [ inl r ↦ near-up n w.mask w.value b.mask b.value r | inr r ↦ (r.0, inr (n, omega arith, e, r.1)) ])
    (λ b p. elim (near-down n w.mask w.value b.mask b.value p) [ inl r ↦ inl r | inr r ↦ inr (r.1, r.2) ]) (least-either slots (Near n w) Q found other h g)

pub least-end : (slots : Slots) (w : Word) (found : Option ℕ) → IsLeast slots (Near 104 w) found → IsLeast slots (IsPartner w) found
least-end slots w found h = least-iff slots (Near 104 w) (IsPartner w) found (λ b p. near-partner w b p) (λ b p. partner-near w b p) h

pub partner-at : (slots : Slots) (w : Word) (place : ℕ) (b : Word) → IsLeast slots (IsPartner w) (Some place) → at slots place ≡ Some b → IsPartner w b
partner-at slots w place b h e =
    let same : h.0.0 ≡ b = cc (h.0.1, e) in
    subst (λ (x : Word). IsPartner w x) same h.0.2

-- the least partner is the first of its word
pub partner-first : (slots : Slots) (w : Word) (place : ℕ) → IsLeast slots (IsPartner w) (Some place) → IsFirstOfItsWord slots place
partner-first slots w place h k a b e f is = h.1 k b f (alike-too w a b is (partner-at slots w place a h e))

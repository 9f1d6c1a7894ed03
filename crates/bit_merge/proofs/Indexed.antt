-- The places of words stay known when a word is taken or put.
use Rattle.std.proofs.Common.{◌≡◌, ◌⊎◌, ℕ, ◌<◌, ◌≤◌, List, Bool, true, false, length, set, ap, refl, sym, subst, ◌∙◌, arith, Option, Some, None, inl, inr, eq-eqb, suc, cond, nat_eq, ◌&&◌, slice_index_or, length-set, get_or-set_same, get_or-set_other}
use Rattle.std.proofs.lemmas.Bool.{cases_eq, eqb-true, true≢false, and_parts}
use Rattle.ternary_words.specs.declared.word.Word.{Word}
use Rattle.bit_merge.specs.Slots.{Slots, at, IsLeast, IsWord, IsFirstOfItsWord}
use Rattle.bit_merge.specs.Index.{same_word, IsLeastFrom, IsIndexed}
use Rattle.bit_merge.proofs.Held.{at-without}

-- from the first place on
pub least-from : (slots : Slots) (Fits : Word → Type 0) (found : Option ℕ) → IsLeastFrom slots 0 Fits found → IsLeast slots Fits found
least-from slots Fits None h = λ k b e f. h k b (omega arith) e f
least-from slots Fits (Some place) h = (h.1, λ k b e f. h.2 k b (omega arith) e f)

-- where the words that fit are the same, from some place on
same_from : (old new : Slots) (from to : ℕ) (Fits : Word → Type 0) (found : Option ℕ) →
    ((k : ℕ) (b : Word) → to ≤ k → at new k ≡ Some b → Fits b → (from ≤ k) × (at old k ≡ Some b)) →
    ((k : ℕ) (b : Word) → from ≤ k → at old k ≡ Some b → Fits b → (to ≤ k) × (at new k ≡ Some b)) →
    IsLeastFrom old from Fits found → IsLeastFrom new to Fits found
same_from old new from to Fits None f g h = λ k b le e fit. let r = f k b le e fit in h k b r.0 r.1 fit
same_from old new from to Fits (Some place) f g h =
    let r = g place h.1.0 h.0 h.1.1 h.1.2 in
    (r.0, (h.1.0, r.1, h.1.2), λ k b le e fit. let s = f k b le e fit in h.2 k b s.0 s.1 fit)

-- after a change at p a place has what was put there, or what it had
changed : (slots : Slots) (p k : ℕ) (v : Option Word) → p < length slots → ((k ≡ p) × (at (set slots p v) k ≡ v)) ⊎ ((k ≡ p → ⊥) × (at (set slots p v) k ≡ at slots k))
changed slots p k v within =
    elim (cases_eq k p) [
      | inl same ↦ inl (same, ap (at (set slots p v)) same ∙ get_or-set_same slots p v None within)
      | inr other ↦ inr (other, get_or-set_other slots p k v None other)
    ]

-- a change at p of words that don't fit, or that stand before the places that count
unseen : (slots : Slots) (p from to : ℕ) (v : Option Word) (Fits : Word → Type 0) (found : Option ℕ) → p < length slots →
    ((b : Word) → from ≤ p → at slots p ≡ Some b → Fits b → ⊥) → ((b : Word) → to ≤ p → v ≡ Some b → Fits b → ⊥) →
    ((k : ℕ) (b : Word) → (k ≡ p → ⊥) → at slots k ≡ Some b → Fits b → (from ≤ k → to ≤ k) × (to ≤ k → from ≤ k)) →
    IsLeastFrom slots from Fits found → IsLeastFrom (set slots p v) to Fits found
unseen slots p from to v Fits found within was is count h =
    same_from slots (set slots p v) from to Fits found
    (λ k b le e fit. elim (changed slots p k v within) [
      | inl r ↦ absurd (is b (omega (arith, r.0, le)) (sym r.1 ∙ e) fit)
      | inr r ↦ let old = sym r.1 ∙ e in ((count k b r.0 old fit).1 le, old)
    ])
    (λ k b le e fit. elim (changed slots p k v within) [
      | inl r ↦ absurd (was b (omega (arith, r.0, le)) (ap (at slots) (sym r.0) ∙ e) fit)
      | inr r ↦ ((count k b r.0 e fit).0 le, r.1 ∙ e)
    ]) h

unseen_from : (slots : Slots) (p from : ℕ) (v : Option Word) (Fits : Word → Type 0) (found : Option ℕ) → p < length slots →
    ((b : Word) → from ≤ p → at slots p ≡ Some b → Fits b → ⊥) → ((b : Word) → from ≤ p → v ≡ Some b → Fits b → ⊥) →
    IsLeastFrom slots from Fits found → IsLeastFrom (set slots p v) from Fits found
unseen_from slots p from v Fits found within was is h = unseen slots p from from v Fits found within was is (λ k b other e fit. (λ le. le, λ le. le)) h

-- words are alike either way
turn_word : (b c : Word) → IsWord b.mask b.value c → IsWord c.mask c.value b
turn_word b c h = (sym h.0, sym h.1)

same_parts : (p q : Word) → same_word p q ≡ true → (p.mask ≡ q.mask) × (p.value ≡ q.value)
same_parts p q h = let r = and_parts (nat_eq p.value q.value) (nat_eq p.mask q.mask) h in (eqb-true p.mask q.mask r.1, eqb-true p.value q.value r.0)

is_same : (p q : Word) → p.mask ≡ q.mask → p.value ≡ q.value → same_word p q ≡ true
is_same p q e f = ap (λ t. t && nat_eq p.mask q.mask) (eq-eqb p.value q.value f) ∙ eq-eqb p.mask q.mask e

-- w leads to this place, and each other word where it led before
head_step : (slots : Slots) (w q : Word) (first found : Option ℕ) (t : Bool) → same_word w q ≡ t → IsLeastFrom slots 0 (IsWord w.mask w.value) first →
    ((IsWord q.mask q.value w → ⊥) → IsLeastFrom slots 0 (IsWord q.mask q.value) found) → IsLeastFrom slots 0 (IsWord q.mask q.value) (cond t first found)
head_step slots w q first found true e h f =
    let same = same_parts w q e in
    subst (λ m. IsLeastFrom slots 0 (IsWord m q.value) first) same.0 (subst (λ v. IsLeastFrom slots 0 (IsWord w.mask v) first) same.1 h)
head_step slots w q first found false e h f = f (λ is. true≢false (sym (is_same w q is.0 is.1) ∙ e))

-- the word at p is taken: the next one of its like is the first
pub indexed-taken : (slots : Slots) (least new : Word → Option ℕ) (next : List (Option ℕ)) (p : ℕ) (w : Word) → p < length slots → at slots p ≡ Some w →
    IsFirstOfItsWord slots p → ((q : Word) → new q ≡ cond (same_word w q) (slice_index_or next p None) (least q)) → IsIndexed slots least next → IsIndexed (set slots p None) new next
indexed-taken slots least new next p w within here first put h =
    let now = set slots p None in
    let link = slice_index_or next p None in
    let fits = λ (Fits : Word → Type 0) (b : Word) (e : at slots p ≡ Some b) (fit : Fits b). (let same : b ≡ w = cc (e, here) in subst Fits same fit) in
    let head : IsLeastFrom now 0 (IsWord w.mask w.value) link =
    unseen slots p (suc p) 0 None (IsWord w.mask w.value) link within (λ b le e fit. omega (arith, le)) (λ b le e fit. cc e)
    (λ k b other e fit. (λ le. omega arith, λ le. let f = first k w b here e fit in omega (arith, f, other))) (h.links p w here) in
    record {
      count = h.count ∙ sym (length-set slots p None);
      heads = λ q.
          let Fits = IsWord q.mask q.value in
          subst (IsLeastFrom now 0 Fits) (sym (put q))
          (head_step now w q link (least q) (same_word w q) refl head
          (λ n. unseen_from slots p 0 None Fits (least q) within (λ b le e fit. n (fits Fits b e fit)) (λ b le e fit. cc e) (h.heads q)));
      links = λ k x e.
          let Fits = IsWord x.mask x.value in
          let old = at-without slots p k x e in
          unseen_from slots p (suc k) None Fits (slice_index_or next k None) within
          (λ b le f fit. let g = first k w x here old (turn_word x w (fits Fits b f fit)) in omega (arith, g, le)) (λ b le f fit. cc f) (h.links k x old);
    }

abbrev pub InFront : Slots → ℕ → Word → Type 0
InFront slots p w = (k : ℕ) (b : Word) → at slots k ≡ Some b → IsWord w.mask w.value b → p < k

-- a word is put at an empty place, in front of its like
pub indexed-put : (slots : Slots) (least new : Word → Option ℕ) (next : List (Option ℕ)) (p : ℕ) (w : Word) → p < length slots → at slots p ≡ None → InFront slots p w →
    ((q : Word) → new q ≡ cond (same_word w q) (Some p) (least q)) → IsIndexed slots least next → IsIndexed (set slots p (Some w)) new (set next p (least w))
indexed-put slots least new next p w within empty front put h =
    let now = set slots p (Some w) in
    let links = set next p (least w) in
    let fits = λ (Fits : Word → Type 0) (b : Word) (e : Some w ≡ Some b) (fit : Fits b). (let same : b ≡ w = cc e in subst Fits same fit) in
    let head : IsLeastFrom now 0 (IsWord w.mask w.value) (Some p) = (
      omega arith,
      (w, get_or-set_same slots p (Some w) None within, (refl, refl)),
      λ k b le e fit. elim (changed slots p k (Some w) within) [ inl r ↦ omega (arith, r.0) | inr r ↦ let f = front k b (sym r.1 ∙ e) fit in omega (arith, f) ],
    ) in
    let behind : IsLeastFrom now (suc p) (IsWord w.mask w.value) (least w) =
    unseen slots p 0 (suc p) (Some w) (IsWord w.mask w.value) (least w) within (λ b le e fit. cc (e, empty)) (λ b le e fit. omega (arith, le))
    (λ k b other e fit. (λ le. let f = front k b e fit in omega (arith, f), λ le. omega arith))
    (h.heads w) in
    record {
      count = length-set next p (least w) ∙ h.count ∙ sym (length-set slots p (Some w));
      heads = λ q.
          let Fits = IsWord q.mask q.value in
          subst (IsLeastFrom now 0 Fits) (sym (put q))
          (head_step now w q (Some p) (least q) (same_word w q) refl head
          (λ n. unseen_from slots p 0 (Some w) Fits (least q) within (λ b le e fit. cc (e, empty)) (λ b le e fit. n (fits Fits b e fit)) (h.heads q)));
      links = λ k x e. elim (changed slots p k (Some w) within) [
        | inl r ↦
            let same : w ≡ x = cc (r.1, e) in
            subst (λ j. IsLeastFrom now (suc j) (IsWord x.mask x.value) (slice_index_or links j None)) (sym r.0)
            (subst (λ (v : Word). IsLeastFrom now (suc p) (IsWord v.mask v.value) (slice_index_or links p None)) same
            (subst (IsLeastFrom now (suc p) (IsWord w.mask w.value)) (sym (get_or-set_same next p (least w) None (omega (arith, within, h.count)))) behind))
        | inr r ↦
            let Fits = IsWord x.mask x.value in
            let old = sym r.1 ∙ e in
            subst (IsLeastFrom now (suc k) Fits) (sym (get_or-set_other next p k (least w) None r.0))
            (unseen_from slots p (suc k) (Some w) Fits (slice_index_or next k None) within (λ b le f fit. cc (f, empty))
            (λ b le f fit. let g = front k x old (turn_word x w (fits Fits b f fit)) in omega (arith, g, le)) (h.links k x old))
      ];
    }

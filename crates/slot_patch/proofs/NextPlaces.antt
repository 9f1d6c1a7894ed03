-- The first place of each word, when one place more is known.
use Rattle.std.proofs.Common.{◌≡◌, ◌<◌, ℕ, suc, cond, nat_eq, ◌&&◌, Bool, true, false, List, Option, Some, None, length, set, slice_get, inl, inr, ap, sym, ◌∙◌, refl, subst, arith, length-set, get_or-set_same, get_or-set_other, eq-eqb}
use Rattle.std.specs.Prelude.{slice_index_or}
use Rattle.std.specs.HashMap.{get}
use Rattle.std.proofs.lemmas.Bool.{cases_eq, eqb-true, true≢false, and_parts}
use Rattle.ternary_words.specs.declared.word.Word.{Word}
use Rattle.ternary_words.specs.declared.entry.Entry.{Entry}
use Rattle.slot_patch.specs.Finding.{ArePlaces, HasWord, IsNext, NoneHas, same_word}
use Rattle.slot_patch.specs.declared.word_places.WordPlaces.{WordPlaces}

-- a slot has one entry
pub one_entry : (entries : List Entry) (j k : ℕ) (a b : Entry) → slice_get entries j ≡ Some a → slice_get entries k ≡ Some b → k ≡ j → b ≡ a
one_entry entries j k a b h g same = let e : slice_get entries k ≡ Some a = ap (slice_get entries) same ∙ h in cc

none_more : (entries : List Entry) (place to mask value : ℕ) (e : Entry) → slice_get entries place ≡ Some e → (HasWord mask value e → ⊥) →
    NoneHas entries (suc place) to mask value → NoneHas entries place to mask value
none_more entries place to mask value e at apart h = λ k x from below get has.
    elim (cases_eq k place) [
      | inl same ↦ apart (subst (HasWord mask value) (one_entry entries place k e x at get same) has)
      | inr other ↦ h k x (omega (arith, from, other)) below get has
    ]

-- an entry of another word in front
pub next_past : (entries : List Entry) (place mask value : ℕ) (e : Entry) (found : Option ℕ) → slice_get entries place ≡ Some e → (HasWord mask value e → ⊥) →
    IsNext entries (suc place) mask value found → IsNext entries place mask value found
next_past entries place mask value e None at apart h = none_more entries place (length entries) mask value e at apart h
next_past entries place mask value e (Some n) at apart h =
    let behind = h.behind in
    record { behind = omega (arith, behind); entry = h.entry; at = h.at; word = h.word; before = none_more entries place n mask value e at apart h.before }

-- an entry of the word in front
pub next_here : (entries : List Entry) (place mask value : ℕ) (e : Entry) → slice_get entries place ≡ Some e → HasWord mask value e → IsNext entries place mask value (Some place)
next_here entries place mask value e at has =
    record { behind = omega arith; entry = e; at = at; word = has; before = λ k x from below get fits. omega (arith, from, below) }

same_parts : (p q : Word) → same_word p q ≡ true → (p.mask ≡ q.mask) × (p.value ≡ q.value)
same_parts p q h = let r = and_parts (nat_eq p.value q.value) (nat_eq p.mask q.mask) h in (eqb-true p.mask q.mask r.1, eqb-true p.value q.value r.0)

parts_same : (p q : Word) → p.mask ≡ q.mask → p.value ≡ q.value → same_word p q ≡ true
parts_same p q e f = ap (λ t. t && nat_eq p.mask q.mask) (eq-eqb p.value q.value f) ∙ eq-eqb p.mask q.mask e

head_step : (entries : List Entry) (place : ℕ) (e : Entry) (q : Word) (found : Option ℕ) (t : Bool) → slice_get entries place ≡ Some e →
    same_word e.word q ≡ t → IsNext entries (suc place) q.mask q.value found → IsNext entries place q.mask q.value (cond t (Some place) found)
head_step entries place e q found true at same h = next_here entries place q.mask q.value e at (same_parts e.word q same)
head_step entries place e q found false at same h =
    next_past entries place q.mask q.value e found at (λ has. true≢false (sym (parts_same e.word q has.0 has.1) ∙ same)) h

pub places-put : (entries : List Entry) (place : ℕ) (e : Entry) (before now : WordPlaces) (behind : Option ℕ) → slice_get entries place ≡ Some e →
    place < length before.next.items → behind ≡ get same_word before.first e.word →
    ((q : Word) → get same_word now.first q ≡ cond (same_word e.word q) (Some place) (get same_word before.first q)) →
    now.next.items ≡ set before.next.items place behind → ArePlaces entries (suc place) before → ArePlaces entries place now
places-put entries place e before now behind at within old put links h = record {
  count = ap length links ∙ length-set before.next.items place behind ∙ h.count;
  heads = λ q.
      subst (IsNext entries place q.mask q.value) (sym (put q))
      (head_step entries place e q (get same_word before.first q) (same_word e.word q) at refl (h.heads q));
  links = λ k x from get_k.
      elim (cases_eq k place) [
        | inl same ↦
            let one = one_entry entries place k e x at get_k same in
            let linked : slice_index_or now.next.items k None ≡ get same_word before.first e.word =
            ap (λ (xs : List (Option ℕ)). slice_index_or xs k None) links ∙ ap (λ n. slice_index_or (set before.next.items place behind) n None) same
            ∙ get_or-set_same before.next.items place behind None within ∙ old in
            let head = h.heads e.word in
            subst (λ (y : Option ℕ). IsNext entries (suc k) x.word.mask x.word.value y) (sym linked)
            (subst (λ n. IsNext entries (suc n) x.word.mask x.word.value (get same_word before.first e.word)) (sym same)
            (subst (λ (y : Entry). IsNext entries (suc place) y.word.mask y.word.value (get same_word before.first e.word)) (sym one) head))
        | inr other ↦
            let linked : slice_index_or now.next.items k None ≡ slice_index_or before.next.items k None =
            ap (λ (xs : List (Option ℕ)). slice_index_or xs k None) links ∙ get_or-set_other before.next.items place k behind None other in
            subst (λ (y : Option ℕ). IsNext entries (suc k) x.word.mask x.word.value y) (sym linked) (h.links k x (omega (arith, from, other)) get_k)
      ];
}

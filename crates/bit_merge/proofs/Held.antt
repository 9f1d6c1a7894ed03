-- The word in hand: a pair that can be joined holds it, or lies wholly behind the place that was taken.
use Rattle.std.proofs.Common.{◌≡◌, ◌⊎◌, ◌∷◌, ℕ, ◌<◌, ◌≤◌, min, length, set, ap, sym, subst, ◌∙◌, arith, Some, None, inl, inr, suc, zero}
use Rattle.std.proofs.lemmas.Bool.{cases_lt, cases_eq}
use Rattle.std.proofs.lemmas.List.{length-set, get_or-set_same, get_or-set_other, set-set, set_comm, set-get_or}
use Rattle.ternary_words.specs.Views.{word_of}
use Rattle.ternary_words.specs.declared.word.Word.{Word}
use Rattle.bit_merge.specs.Merge.{CanJoin, join}
use Rattle.bit_merge.specs.Slots.{Slots, at, entries_of, LeadTo, AreDone, IsLeast, IsPartner, IsWord, IsFirstOfItsWord, IsJoining}
use Rattle.bit_merge.proofs.Symmetric.{can-join-comm, join-comm}
use Rattle.bit_merge.proofs.Nearness.{alike-partner}
use Rattle.bit_merge.proofs.SlotSteps.{AreFirst, lead-step, lead-both}

-- what is left after a word was taken stood there before
pub at-without : (slots : Slots) (p k : ℕ) (a : Word) → at (set slots p None) k ≡ Some a → at slots k ≡ Some a
at-without (s ∷ slots) zero zero a h = absurd (cc h)
at-without (s ∷ slots) (suc p) (suc k) a h = at-without slots p k a h
at-without slots p k a h = h

pub done-without : (slots : Slots) (p n : ℕ) → AreDone slots n → AreDone (set slots p None) n
done-without slots p n done i j a b less h k c = done i j a b less (at-without slots p i a h) (at-without slots p j b k) c

-- a place more, which is empty
pub done-empty : (slots : Slots) (n : ℕ) → at slots n ≡ None → AreDone slots n → AreDone slots (suc n)
done-empty slots n empty done i j a b less h k c =
    elim (cases_lt i n) [
      | inl small ↦ done i j a b small h k c
      | inr large ↦
          let e : i ≡ n = omega (arith, less, large) in
          let f = sym empty ∙ ap (at slots) (sym e) ∙ h in absurd (cc f)
    ]

-- the word at the next place is the first of its like
pub done-first : (slots : Slots) (n : ℕ) → AreDone slots n → IsFirstOfItsWord slots n
done-first slots n done k a b h g is =
    elim (cases_lt k n) [
      | inl less ↦ let e = done k n b a less g h (can-join-comm (word_of a) (word_of b) (alike-partner a b is)) in omega (arith, less, e)
      | inr more ↦ more
    ]

-- what is known while a word is in hand, that belongs at a place
pub record IsHeld (start : Slots) (taken : ℕ) (slots : Slots) (place : ℕ) (word : Word) : Type 0 where
  pub low : place ≤ taken
  pub within : taken < length start
  pub count : length slots ≡ length start
  pub empty : at slots place ≡ None
  pub clear : AreDone slots (suc taken)
  pub leads : LeadTo start (set slots place (Some word))

pub held-start : (slots : Slots) (taken : ℕ) (word : Word) → taken < length slots → at slots taken ≡ None → AreDone slots (suc taken) →
    IsHeld (set slots taken (Some word)) taken slots taken word
held-start slots taken word within empty done = record {
  low = omega arith;
  within = omega (arith, within, length-set slots taken (Some word));
  count = sym (length-set slots taken (Some word));
  empty = empty;
  clear = done;
  leads = λ d out m. m;
}

-- the words with the one in hand at its place
abbrev whole : Slots → ℕ → Word → Slots
whole slots place word = set slots place (Some word)

at_hand : (slots : Slots) (place : ℕ) (word : Word) → place < length slots → at (whole slots place word) place ≡ Some word
at_hand slots place word h = get_or-set_same slots place (Some word) None h

at_other : (slots : Slots) (place : ℕ) (word : Word) (k : ℕ) → (k ≡ place → ⊥) → at (whole slots place word) k ≡ at slots k
at_other slots place word k n = get_or-set_other slots place k (Some word) None n

-- a word of the whole is the one in hand, or another
at_which : (slots : Slots) (place : ℕ) (word : Word) (k : ℕ) (x : Word) → place < length slots → at (whole slots place word) k ≡ Some x →
    ((k ≡ place) × (word ≡ x)) ⊎ ((k ≡ place → ⊥) × (at slots k ≡ Some x))
at_which slots place word k x within h =
    elim (cases_eq k place) [
      | inl e ↦ let f = sym (at_hand slots place word within) ∙ ap (at (whole slots place word)) (sym e) ∙ h in inl (e, cc f)
      | inr n ↦ inr (n, sym (at_other slots place word k n) ∙ h)
    ]

-- a word that stands there and can be joined with the one in hand
record IsPartnerAt (slots : Slots) (word : Word) (k : ℕ) (x : Word) : Type 0 where
  stands : at slots k ≡ Some x
  partner : IsPartner word x

-- two words of the whole that can be joined: one is in hand, or the first stands behind the place that was taken
which_pair : (slots : Slots) (taken place : ℕ) (word : Word) → AreDone slots (suc taken) → (k l : ℕ) (x y : Word) → (k ≡ l → ⊥) → CanJoin (word_of x) (word_of y) →
    ((k ≡ place) × (word ≡ x)) ⊎ ((k ≡ place → ⊥) × (at slots k ≡ Some x)) → ((l ≡ place) × (word ≡ y)) ⊎ ((l ≡ place → ⊥) × (at slots l ≡ Some y)) →
    ((k ≡ place) × IsPartnerAt slots word l y) ⊎ (((l ≡ place) × IsPartnerAt slots word k x) ⊎ (taken < k))
which_pair slots taken place word clear k l x y other can (inl h) (inl g) = absurd (other (h.0 ∙ sym g.0))
which_pair slots taken place word clear k l x y other can (inl h) (inr g) =
    inl (h.0, record { stands = g.1; partner = subst (λ (z : Word). CanJoin (word_of z) (word_of y)) (sym h.1) can })
which_pair slots taken place word clear k l x y other can (inr h) (inl g) =
    inr (inl (g.0, record { stands = h.1; partner = can-join-comm (word_of x) (word_of word) (subst (λ (z : Word). CanJoin (word_of x) (word_of z)) (sym g.1) can) }))
which_pair slots taken place word clear k l x y other can (inr h) (inr g) =
    elim (cases_lt taken k) [ inl m ↦ inr (inr m) | inr m ↦ absurd (other (clear k l x y (omega (arith, m)) h.1 g.1 can)) ]

-- a place that is empty stays as it is without its word
unset : (slots : Slots) (place : ℕ) (word : Word) → at slots place ≡ None → set (whole slots place word) place None ≡ slots
unset slots place word empty = set-set slots place (Some word) None ∙ ap (set slots place) (sym empty) ∙ set-get_or slots place None

held_before : (start : Slots) (taken : ℕ) (slots : Slots) (place : ℕ) (word next : Word) (p : ℕ) (b : Word) → IsHeld start taken slots place word → p < place →
    at slots p ≡ Some b → IsPartner word b → ((k : ℕ) (b : Word) → at slots k ≡ Some b → IsPartner word b → p ≤ k) → word_of next ≡ join (word_of word) (word_of b) →
    IsHeld start taken (set slots p None) p next
held_before start taken slots place word next p b h less here can first is =
    let within : place < length slots = omega (arith, h.low, h.within, h.count) in
    let other : p ≡ place → ⊥ = λ e. omega (arith, e, less) in
    let W = whole slots place word in
    let found : AreFirst W p place b word = record {
      less = less;
      here = at_other slots place word p other ∙ here;
      there = at_hand slots place word within;
      joinable = can-join-comm (word_of word) (word_of b) can;
      least = λ k l x y rise e f j.
          elim (which_pair slots taken place word h.clear k l x y (λ same. omega (arith, same, rise)) j (at_which slots place word k x within e) (at_which slots place word l y within f)) [
            | inl r ↦ inl (omega (arith, r.0, less))
            | inr (inl r) ↦ let le = first k x r.1.stands r.1.partner in elim (cases_lt p k) [ inl m ↦ inl m | inr m ↦ inr (omega (arith, m, le), omega (arith, r.0)) ]
            | inr (inr r) ↦ inl (omega (arith, r, h.low, less))
          ];
    } in
    let turned : place ≡ p → ⊥ = λ e. omega (arith, e, less) in
    let there : at (set W p (Some next)) place ≡ Some word = get_or-set_other W p place (Some next) None turned ∙ at_hand slots place word within in
    let made : set (set slots p None) p (Some next) ≡ set (set W p (Some next)) place None =
    set-set slots p None (Some next) ∙ ap (λ l. set l p (Some next)) (sym (unset slots place word h.empty)) ∙ sym (set_comm W p place (Some next) None other) in
    record {
      low = omega (arith, less, h.low);
      within = h.within;
      count = length-set slots p None ∙ h.count;
      empty = get_or-set_same slots p None None (omega (arith, less, within));
      clear = done-without slots p (suc taken) h.clear;
      leads = lead-both start W (set (set slots p None) p (Some next)) h.leads
          (lead-step W (set (set slots p None) p (Some next)) p place b word next found (is ∙ join-comm (word_of word) (word_of b) can.0) there made);
    }

held_behind : (start : Slots) (taken : ℕ) (slots : Slots) (place : ℕ) (word next : Word) (p : ℕ) (b : Word) → IsHeld start taken slots place word → place < p →
    at slots p ≡ Some b → IsPartner word b → ((k : ℕ) (b : Word) → at slots k ≡ Some b → IsPartner word b → p ≤ k) → word_of next ≡ join (word_of word) (word_of b) →
    IsHeld start taken (set slots p None) place next
held_behind start taken slots place word next p b h more here can first is =
    let within : place < length slots = omega (arith, h.low, h.within, h.count) in
    let other : p ≡ place → ⊥ = λ e. omega (arith, e, more) in
    let turned : place ≡ p → ⊥ = λ e. omega (arith, e, more) in
    let W = whole slots place word in
    let found : AreFirst W place p word b = record {
      less = more;
      here = at_hand slots place word within;
      there = at_other slots place word p other ∙ here;
      joinable = can;
      least = λ k l x y rise e f j.
          elim (which_pair slots taken place word h.clear k l x y (λ same. omega (arith, same, rise)) j (at_which slots place word k x within e) (at_which slots place word l y within f)) [
            | inl r ↦ inr (sym r.0, first l y r.1.stands r.1.partner)
            | inr (inl r) ↦ let le = first k x r.1.stands r.1.partner in absurd (omega (arith, le, r.0, rise, more))
            | inr (inr r) ↦ inl (omega (arith, r, h.low))
          ];
    } in
    let again : set W place (Some next) ≡ set slots place (Some next) = set-set slots place (Some word) (Some next) in
    let there : at (set W place (Some next)) p ≡ Some b = get_or-set_other W place p (Some next) None other ∙ at_other slots place word p other ∙ here in
    let made : set (set slots p None) place (Some next) ≡ set (set W place (Some next)) p None =
    set_comm slots p place None (Some next) other ∙ ap (λ l. set l p None) (sym again) in
    record {
      low = h.low;
      within = h.within;
      count = length-set slots p None ∙ h.count;
      empty = get_or-set_other slots p place None None turned ∙ h.empty;
      clear = done-without slots p (suc taken) h.clear;
      leads = lead-both start W (set (set slots p None) place (Some next)) h.leads
          (lead-step W (set (set slots p None) place (Some next)) place p word b next found is there made);
    }

held_at : (start : Slots) (taken : ℕ) (slots now : Slots) (place p : ℕ) (next : Word) → now ≡ slots → IsHeld start taken slots place next → p ≡ place → IsHeld start taken now p next
held_at start taken slots now place p next e h f = subst (λ l. IsHeld start taken l p next) (sym e) (subst (λ k. IsHeld start taken slots k next) (sym f) h)

-- the join is in hand at the lesser place
pub held-next : (start : Slots) (taken : ℕ) (slots now : Slots) (place : ℕ) (word next : Word) (p : ℕ) → IsHeld start taken slots place word →
    IsJoining slots now word next p → IsHeld start taken now (min place p) next
held-next start taken slots now place word next p h j =
    elim (cases_lt p place) [
      | inl less ↦ held_at start taken (set slots p None) now p (min place p) next j.taken
          (held_before start taken slots place word next p j.partner h less j.here j.can j.first j.join) (omega (arith, less))
      | inr more ↦
          let apart : p ≡ place → ⊥ = λ e. let f = sym h.empty ∙ ap (at slots) (sym e) ∙ j.here in cc f in
          held_at start taken (set slots p None) now place (min place p) next j.taken
          (held_behind start taken slots place word next p j.partner h (omega (arith, more, apart)) j.here j.can j.first j.join) (omega (arith, more))
    ]

-- put down, where it has no partner
pub held-down : (start : Slots) (taken : ℕ) (slots : Slots) (place : ℕ) (word : Word) → IsHeld start taken slots place word → IsLeast slots (IsPartner word) None →
    AreDone (set slots place (Some word)) (suc taken)
held-down start taken slots place word h none i j a b less e f can =
    let within : place < length slots = omega (arith, h.low, h.within, h.count) in
    elim (cases_eq i j) [
      | inl same ↦ same
      | inr other ↦ elim (which_pair slots taken place word h.clear i j a b other can (at_which slots place word i a within e) (at_which slots place word j b within f)) [
        | inl r ↦ absurd (none j b r.1.stands r.1.partner)
        | inr (inl r) ↦ absurd (none i a r.1.stands r.1.partner)
        | inr (inr r) ↦ absurd (omega (arith, r, less))
      ]
    ]

-- a taken word leaves fewer
pub fewer-left : (slots : Slots) (p : ℕ) (b : Word) → at slots p ≡ Some b → length (entries_of None (set slots p None)) < length (entries_of None slots)
fewer-left (Some w ∷ slots) zero b h = omega arith
fewer-left (None ∷ slots) (suc p) b h = fewer-left slots p b h
fewer-left (Some w ∷ slots) (suc p) b h = omega (arith, fewer-left slots p b h)
fewer-left slots p b h = absurd (cc h)

-- the place that is taken
pub done-taken : (slots now : Slots) (n : ℕ) → n < length slots → now ≡ set slots n None → AreDone slots n → AreDone now (suc n)
done-taken slots now n within e done =
    subst (λ l. AreDone l (suc n)) (sym e) (done-empty (set slots n None) n (get_or-set_same slots n None None within) (done-without slots n n done))

pub put-back : (slots now : Slots) (n : ℕ) (word : Word) → now ≡ set slots n None → Some word ≡ at slots n → set now n (Some word) ≡ slots
put-back slots now n word e h = ap (λ l. set l n (Some word)) e ∙ set-set slots n None (Some word) ∙ ap (set slots n) h ∙ set-get_or slots n None

pub done-fewer : (slots : Slots) (n m : ℕ) → m ≤ n → AreDone slots n → AreDone slots m
done-fewer slots n m le done i j a b less h k c = done i j a b (omega (arith, less, le)) h k c

pub joining-fewer : (slots now : Slots) (word next : Word) (p : ℕ) → IsJoining slots now word next p → length (entries_of None now) < length (entries_of None slots)
joining-fewer slots now word next p j = subst (λ l. length (entries_of None l) < length (entries_of None slots)) (sym j.taken) (fewer-left slots p j.partner j.here)

-- where the word in hand has no partner, it stands nowhere, and may be put down
pub stands-nowhere : (slots into : Slots) (word : Word) → IsLeast slots (IsPartner word) None → into ≡ slots → (k : ℕ) (b : Word) → at into k ≡ Some b → IsWord word.mask word.value b → ⊥
stands-nowhere slots into word none e k b h is = none k b (ap (λ l. at l k) (sym e) ∙ h) (alike-partner word b is)

pub settled-done : (start : Slots) (taken : ℕ) (slots into now : Slots) (place : ℕ) (word : Word) → IsHeld start taken slots place word → IsLeast slots (IsPartner word) None →
    into ≡ slots → now ≡ set into place (Some word) → AreDone now (suc taken)
settled-done start taken slots into now place word h none e f =
    subst (λ l. AreDone l (suc taken)) (sym (f ∙ ap (λ l. set l place (Some word)) e)) (held-down start taken slots place word h none)

pub settled-leads : (start : Slots) (taken : ℕ) (slots into now : Slots) (place : ℕ) (word : Word) → IsHeld start taken slots place word →
    into ≡ slots → now ≡ set into place (Some word) → LeadTo start now
settled-leads start taken slots into now place word h e f = subst (LeadTo start) (sym (f ∙ ap (λ l. set l place (Some word)) e)) h.leads

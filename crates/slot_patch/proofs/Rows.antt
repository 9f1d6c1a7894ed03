-- Row by row: how few slots a layout can have at least.
use Rattle.std.proofs.Common.{◌≡◌, ◌≤◌, ◌<◌, ◌+◌, ◌-◌, ◌∷◌, ℕ, zero, suc, min, Bool, true, false, if◌then◌else◌, List, [], Option, Some, None, length, drop, slice_get, get_or, inl, inr, refl, ap, sym, ◌∙◌, subst, arith, drop-cons}
use Rattle.std.specs.Prelude.{slice_index_or, nat_eq, ◌&&◌}
use Rattle.std.proofs.lemmas.Bool.{cases_eq, cases_lt, and_parts, eqb-true, eq-eqb}
use Rattle.std.proofs.lemmas.Option.{get_or_from_slice_get, slice_get_read, slice_get_within}
use Rattle.std.proofs.Math.Seq.{drop-length}
use Rattle.ternary_words.specs.declared.entry.Entry.{Entry}
use Rattle.slot_patch.specs.Finding.{ArePlaces, HasWord, IsNext}
use Rattle.slot_patch.specs.Least.{least_slots, same_word}
use Rattle.slot_patch.specs.Piles.{AreBounded, AreLaid, AreLowered, AreTaken, IsTaken, below}
use Rattle.slot_patch.specs.Sharing.{HaveOneWordAt}
use Rattle.slot_patch.specs.declared.piles.Piles.{Piles}
use Rattle.slot_patch.specs.declared.word_places.WordPlaces.{WordPlaces}
use Rattle.slot_patch.proofs.Builders.{some-at}
use Rattle.slot_patch.proofs.Counts.{below-more, lowered-on, taken-on}

-- the first slot is taken in one of three ways

bounded_first : (t : Bool) (x y z n m behind here there : ℕ) → n + suc m ≤ x + behind → behind ≤ here → suc n + m ≤ y + there → there ≤ here →
    (t ≡ true → n + suc m ≤ z + here) → suc n + suc m ≤ suc (min (min x y) (if t then z else x)) + here
bounded_first true x y z n m behind here there skip_old old_more skip_new new_more share = let s = share refl in omega arith
bounded_first false x y z n m behind here there skip_old old_more skip_new new_more share = omega arith

-- the head of what is bounded
pub bounded-least : (old new : List Entry) (places : List ℕ) → AreBounded old new places → length old + length new ≤ least_slots same_word old new + below (length new) places
bounded-least old [] places h = omega (arith, h)
bounded-least old (b ∷ new) places h = h.0

pub bounded-row : (a : Entry) (old new : List Entry) (before now : List ℕ) → AreLowered before now → AreBounded old new before → AreTaken a new before now → AreBounded (a ∷ old) new now
bounded-row a old [] before now lowered h taken = let l = lowered 0 in omega (arith, h, l)
bounded-row a old (b ∷ new) before now lowered h taken =
    let rest = bounded-row a old new before now lowered h.1 taken.1 in
    let head = bounded-least (a ∷ old) new now rest in
    let behind = bounded-least old new before h.1 in
    let l = lowered (suc (length new)) in
    let more = below-more (length new) now in (
      bounded_first (same_word a b) (least_slots same_word old (b ∷ new)) (least_slots same_word (a ∷ old) new) (least_slots same_word old new) (length old) (length new)
          (below (suc (length new)) before) (below (suc (length new)) now) (below (length new) now) h.0 l head more (λ same. let t = taken.0 same in omega (arith, t, behind)),
      rest,
    )

pub bounded-none : (new : List Entry) → AreBounded [] new []
bounded-none [] = omega arith
bounded-none (b ∷ new) = (omega arith, bounded-none new)

-- entries that are taken, by their places

pub taken-all : (a : Entry) (new : List Entry) (before now : List ℕ) →
    ((j : ℕ) (b : Entry) → slice_get new j ≡ Some b → same_word a b ≡ true → IsTaken (length new - suc j) before now) → AreTaken a new before now
taken-all a [] before now h = tt
taken-all a (b ∷ new) before now h = (
  λ same. subst (λ n. IsTaken n before now) (let e : suc (length new) - 1 ≡ length new = omega arith in e) (h 0 b refl same),
  taken-all a new before now (λ j c at same. subst (λ n. IsTaken n before now) (let e : suc (length new) - suc (suc j) ≡ length new - suc j = omega arith in e) (h (suc j) c at same)),
)

-- how many places are left at most
abbrev pub places_left : ℕ → Option ℕ → ℕ
places_left n None = 0
places_left n (Some place) = suc (n - place)

-- the pairs of one old entry, so far

pub record AreRowTaken (old new : List Entry) (row : ℕ) (a : Entry) (before now : Piles) (at : Option ℕ) : Type 0 where
  pub cursor : ℕ
  pub within : cursor ≤ length new
  pub found : IsNext new cursor a.word.mask a.word.value at
  pub laid : AreLaid old new row (length new - cursor) now
  pub lowered : AreLowered before.places.items now.places.items
  pub taken : (j : ℕ) (b : Entry) → j < cursor → slice_get new j ≡ Some b → same_word a b ≡ true → IsTaken (length new - suc j) before.places.items now.places.items

words_same : (a b : Entry) → same_word a b ≡ true → HasWord a.word.mask a.word.value b
words_same a b h = let r = and_parts (nat_eq a.word.mask b.word.mask) (nat_eq a.word.value b.word.value) h in
    (sym (eqb-true a.word.mask b.word.mask r.0), sym (eqb-true a.word.value b.word.value r.1))

same_words : (a b : Entry) → HasWord a.word.mask a.word.value b → same_word a b ≡ true
same_words a b h = ap (λ t. t && nat_eq a.word.value b.word.value) (eq-eqb a.word.mask b.word.mask (sym h.0)) ∙ eq-eqb a.word.value b.word.value (sym h.1)

pub row-begins : (old new : List Entry) (row : ℕ) (a : Entry) (p : Piles) (at : Option ℕ) → IsNext new 0 a.word.mask a.word.value at → AreLaid old new row (length new) p → AreRowTaken old new row a p p at
row-begins old new row a p at found h = record {
  cursor = 0;
  within = omega arith;
  found = found;
  laid = subst (λ n. AreLaid old new row n p) (let e : length new ≡ length new - 0 = omega arith in e) h;
  lowered = λ n. omega arith;
  taken = λ j b less get same. absurd (omega (arith, less));
}

-- the entries of one word have the same next place
next_of : (new : List Entry) (from : ℕ) (a b : Entry) (at : Option ℕ) → HasWord a.word.mask a.word.value b → IsNext new from b.word.mask b.word.value at → IsNext new from a.word.mask a.word.value at
next_of new from a b at is h = subst (λ m. IsNext new from m a.word.value at) is.0 (subst (λ v. IsNext new from b.word.mask v at) is.1 h)

pub row-goes-on : (old new : List Entry) (row : ℕ) (a : Entry) (before middle now : Piles) (place : ℕ) (at : Option ℕ) (places : WordPlaces) → ArePlaces new 0 places →
    AreRowTaken old new row a before middle (Some place) → AreLowered middle.places.items now.places.items → IsTaken (length new - suc place) middle.places.items now.places.items →
    ((limit : ℕ) → AreLaid old new row limit middle → length new - suc place < limit → AreLaid old new row (length new - suc place) now) →
    at ≡ slice_index_or places.next.items place None → AreRowTaken old new row a before now at
row-goes-on old new row a before middle now place at places ps h lowered taken lay is =
    let first = h.found in
    let small = slice_get_within new place first.entry first.at in
    let from = first.behind in
    let linked = next_of new (suc place) a first.entry (slice_index_or places.next.items place None) first.word (ps.links place first.entry (omega arith) first.at) in
    record {
      cursor = suc place;
      within = small;
      found = subst (λ (o : Option ℕ). IsNext new (suc place) a.word.mask a.word.value o) (sym is) linked;
      laid = lay (length new - h.cursor) h.laid (omega (arith, small, from));
      lowered = lowered-on before.places.items middle.places.items now.places.items h.lowered lowered;
      taken = λ j b less get same.
          elim (cases_eq j place) [
            | inl here ↦ subst (λ n. IsTaken (length new - suc n) before.places.items now.places.items) (sym here)
                (taken-on (length new - suc place) before.places.items middle.places.items now.places.items now.places.items h.lowered taken (λ n. omega arith))
            | inr other ↦ elim (cases_lt j h.cursor) [
              | inl front ↦ taken-on (length new - suc j) before.places.items before.places.items middle.places.items now.places.items (λ n. omega arith) (h.taken j b front get same) lowered
              | inr behind ↦ absurd (first.before j b behind (omega (arith, less, other)) get (words_same a b same))
            ]
          ];
    }

pub row-taken : (old new : List Entry) (row : ℕ) (a : Entry) (before now : Piles) → AreRowTaken old new row a before now None → AreTaken a new before.places.items now.places.items
row-taken old new row a before now h = taken-all a new before.places.items now.places.items (λ j b get same.
    elim (cases_lt j h.cursor) [
      | inl front ↦ h.taken j b front get same
      | inr behind ↦ absurd (h.found j b behind (slice_get_within new j b get) get (words_same a b same))
    ])

-- the pair that is laid next
pub next-pair : (old new : List Entry) (row : ℕ) (a : Entry) (before now : Piles) (place : ℕ) → slice_get old row ≡ Some a → AreRowTaken old new row a before now (Some place) → HaveOneWordAt old new row place
next-pair old new row a before now place at h = record { a = a; b = h.found.entry; old_at = at; new_at = h.found.at; same = same_words a h.found.entry h.found.word }

pub place-within : {old new : List Entry} {row : ℕ} {a : Entry} {before now : Piles} {place : ℕ} → AreRowTaken old new row a before now (Some place) → place < length new
place-within {new = new} {place = place} h = slice_get_within new place h.found.entry h.found.at

-- the same as the code comes to it
pub row-so-far : (old new : List Entry) (row : ℕ) (a : Entry) (before now : Piles) (at : Option ℕ) (place : ℕ) → at ≡ Some place → row < length old → a ≡ get_or old row a →
    ((x : Entry) → slice_get old row ≡ Some x → AreRowTaken old new row x before now at) → AreRowTaken old new row a before now (Some place)
row-so-far old new row a before now at place is small there h =
    subst (λ (o : Option ℕ). AreRowTaken old new row a before now o) is (h a (slice_get_read old (length old) row a refl small there))

-- one row more
pub rows-on : (old new : List Entry) (row : ℕ) (before now : List ℕ) → row < length old → AreBounded (drop (suc row) old) new before → AreLowered before now →
    ((a : Entry) → slice_get old row ≡ Some a → AreTaken a new before now) → AreBounded (drop row old) new now
rows-on old new row before now small h lowered taken =
    let a = some-at old row small in
    let head : get_or old row a.0 ≡ a.0 = get_or_from_slice_get old row a.0 a.0 a.1 in
    let parts : drop row old ≡ a.0 ∷ drop (suc row) old = drop-cons old row a.0 small ∙ ap (λ (x : Entry). x ∷ drop (suc row) old) head in
    subst (λ (es : List Entry). AreBounded es new now) (sym parts) (bounded-row a.0 (drop (suc row) old) new before now lowered h (taken a.0 a.1))

pub rows-none : (old new : List Entry) (places : List ℕ) → places ≡ [] → AreBounded (drop (length old) old) new places
rows-none old new places none =
    subst (λ (es : List Entry). AreBounded es new places) (sym (drop-length old)) (subst (λ (ps : List ℕ). AreBounded [] new ps) (sym none) (bounded-none new))

-- fewer places are left behind the next one
pub left-less : (new : List Entry) (place mask value : ℕ) (at : Option ℕ) → place < length new → IsNext new (suc place) mask value at → places_left (length new) at < places_left (length new) (Some place)
left-less new place mask value None small h = omega arith
left-less new place mask value (Some next) small h =
    let behind = h.behind in
    let within = slice_get_within new next h.entry h.at in
    omega (arith, behind, within, small)

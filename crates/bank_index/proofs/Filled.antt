-- The first of all slots that hits is what a lookup in the filled memory finds.
use Rattle.std.proofs.Common.{◌≡◌, ℕ, zero, suc, ◌+◌, ◌-◌, ◌<◌, ◌≤◌, Bool, true, false, cond, List, [], ◌∷◌, ◌++◌, Option, Some, None, length, map, replicate, get_or, find, position, option_map, length-append, ap, refl, sym, ◌∙◌, inl, inr, arith}
use Rattle.std.specs.Prelude.{slice_get}
use Rattle.std.specs.List.{range_with_len}
use Rattle.std.specs.Option.{option_map_or}
use Rattle.std.proofs.lemmas.Bool.{cases_eq, cases_lt}
use Rattle.std.proofs.lemmas.List.{length-map}
use Rattle.std.proofs.lemmas.Option.{slice_get_past}
use Rattle.ternary_words.specs.Headline.Word.{agrees, header_bits}
use Rattle.ternary_words.specs.Views.{word_of}
use Rattle.ternary_words.specs.declared.entry.Entry.{Entry}
use Rattle.tcam_sim.specs.Slots.{Stored, decision_in, filled, look_up, slot_agrees, stored}
use Rattle.tcam_sim.proofs.Searches.{searched}
use Rattle.bank_index.specs.Hits.{all_slots, decision_at, first_of, hits}

-- the first number of a range that passes a test
record IsFound (p : ℕ → Bool) (from to k : ℕ) : Type 0 where
  behind : from ≤ k
  below : k < to
  passes : p k ≡ true
  before : (j : ℕ) → from ≤ j → j < k → p j ≡ false

same_some : (a k : ℕ) → Some a ≡ Some k → a ≡ k
same_some a k e = cc

found_step : (p : ℕ → Bool) (n a k : ℕ) (t : Bool) (rest : Option ℕ) → p a ≡ t → cond t (Some a) rest ≡ Some k → (rest ≡ Some k → IsFound p (a + 1) (a + 1 + n) k) → IsFound p a (a + suc n) k
found_step p n a k true rest e found later =
    let same : a ≡ k = same_some a k found in
    record { behind = omega (arith, same); below = omega (arith, same); passes = ap p (sym same) ∙ e; before = λ j le lt. absurd (omega (arith, le, lt, same)) }
found_step p n a k false rest e found later =
    let r = later found in
    record {
      behind = omega (arith, r.behind);
      below = omega (arith, r.below);
      passes = r.passes;
      before = λ j le lt. elim (cases_eq j a) [ inl same ↦ ap p same ∙ e | inr apart ↦ r.before j (omega (arith, le, apart)) lt ];
    }

found_in : (p : ℕ → Bool) (n a k : ℕ) → find p (range_with_len a n) ≡ Some k → IsFound p a (a + n) k
found_in p zero a k e = cc
found_in p (suc n) a k e = found_step p n a k (p a) (find p (range_with_len (a + 1) n)) refl e (λ later. found_in p n (a + 1) k later)

none_step : (p : ℕ → Bool) (n a j : ℕ) (t : Bool) (rest : Option ℕ) → p a ≡ t → cond t (Some a) rest ≡ None → a ≤ j → j < a + suc n → (rest ≡ None → a + 1 ≤ j → j < a + 1 + n → p j ≡ false) → p j ≡ false
none_step p n a j true rest e none le lt later = cc
none_step p n a j false rest e none le lt later = elim (cases_eq j a) [ inl same ↦ ap p same ∙ e | inr apart ↦ later none (omega (arith, le, apart)) (omega (arith, lt)) ]

none_in : (p : ℕ → Bool) (n a j : ℕ) → find p (range_with_len a n) ≡ None → a ≤ j → j < a + n → p j ≡ false
none_in p zero a j e le lt = absurd (omega (arith, le, lt))
none_in p (suc n) a j e le lt = none_step p n a j (p a) (find p (range_with_len (a + 1) n)) refl e le lt (λ none behind below. none_in p n (a + 1) j none behind below)

-- the slots of a filled memory, by number
abbrev nothing : Option Stored
nothing = None

empty_at : (count k : ℕ) → get_or (replicate count nothing) k nothing ≡ nothing
empty_at zero k = refl
empty_at (suc count) zero = refl
empty_at (suc count) (suc k) = empty_at count k

held_at : (count : ℕ) (entries : List Entry) (k : ℕ) → get_or (map (λ (e : Entry). Some (stored e)) entries ++ replicate count None) k None ≡ option_map stored (slice_get entries k)
held_at count [] k = empty_at count k
held_at count (e ∷ entries) zero = refl
held_at count (e ∷ entries) (suc k) = held_at count entries k

agrees_stored : (key : List Bool) (entry : Option Entry) → slot_agrees key (option_map stored entry) ≡ option_map_or (λ (e : Entry). agrees (word_of e.word) key) entry false
agrees_stored key None = refl
agrees_stored key (Some e) = refl

decision_stored : (entry : Option Entry) → decision_in (option_map stored entry) ≡ option_map_or (λ (e : Entry). e.decision) entry 0
decision_stored None = refl
decision_stored (Some e) = refl

slot_hits : (count : ℕ) (entries : List Entry) (key : List Bool) (k : ℕ) → slot_agrees key (get_or (filled count entries) k None) ≡ hits entries key k
slot_hits count entries key k = ap (slot_agrees key) (held_at (count - length entries) entries k) ∙ agrees_stored key (slice_get entries k)

slot_decides : (count : ℕ) (entries : List Entry) (k : ℕ) → decision_in (get_or (filled count entries) k None) ≡ decision_at entries k
slot_decides count entries k = ap decision_in (held_at (count - length entries) entries k) ∙ decision_stored (slice_get entries k)

as_many : (count : ℕ) (entries : List Entry) → length entries ≤ length (filled count entries)
as_many count entries =
    let held : Entry → Option Stored = λ e. Some (stored e) in
    let front = length-map entries held in
    let all = length-append (map held entries) (replicate (count - length entries) None) in
    omega (arith, front, all)

no_hit_past : (entries : List Entry) (key : List Bool) (k : ℕ) → length entries ≤ k → hits entries key k ≡ false
no_hit_past entries key k past = ap (λ o. option_map_or (λ (e : Entry). agrees (word_of e.word) key) o false) (slice_get_past entries k past)

by_found : (count : ℕ) (entries : List Entry) (key : List Bool) (found : Option ℕ) → first_of entries key (all_slots entries) ≡ found → found ≡ position (slot_agrees key) (filled count entries)
by_found count entries key (Some k) e =
    let r = found_in (hits entries key) (length entries) 0 k e in
    let at = slot_hits count entries key in
    let many = as_many count entries in
    searched (filled count entries) key (length (filled count entries)) (Some k) refl
    (record { behind = omega arith; below = omega (arith, r.below, many); agrees = at k ∙ r.passes; before = λ j le lt. at j ∙ r.before j le lt }) tt
by_found count entries key None e =
    let at = slot_hits count entries key in
    searched (filled count entries) key (length (filled count entries)) None refl tt
    (λ j le lt. at j ∙ (elim (cases_lt j (length entries)) [ inl within ↦ none_in (hits entries key) (length entries) 0 j e le (omega (arith, within)) | inr past ↦ no_hit_past entries key j past ]))

same_map : {X Y : Type 0} (f g : X → Y) (found : Option X) → ((x : X) → f x ≡ g x) → option_map f found ≡ option_map g found
same_map f g None h = refl
same_map f g (Some x) h = ap Some (h x)

-- a search among all entries finds what a lookup finds in the slots into which they were loaded
pub looked_up : (slots : List (Option Stored)) (entries : List Entry) (values : List ℕ) (found : Option ℕ) → slots ≡ filled (length slots) entries → found ≡ first_of entries (header_bits values) (all_slots entries) →
    option_map {U = ℕ × ℕ} (λ k. (k, decision_at entries k)) found ≡ look_up slots values
looked_up slots entries values found same first =
    let held = filled (length slots) entries in
    ap (option_map {U = ℕ × ℕ} (λ k. (k, decision_at entries k))) (first ∙ by_found (length slots) entries (header_bits values) (first_of entries (header_bits values) (all_slots entries)) refl)
    ∙ same_map {Y = ℕ × ℕ} (λ k. (k, decision_at entries k)) (λ k. (k, decision_in (get_or held k None))) (position (slot_agrees (header_bits values)) held) (λ k. ap (λ d. (k, d)) (sym (slot_decides (length slots) entries k)))
    ∙ ap (λ xs. look_up xs values) (sym same)

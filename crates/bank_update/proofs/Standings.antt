-- Tables whose entries stand side by side, slot by slot.
use Rattle.std.proofs.Common.{◌≡◌, ◌⊎◌, ◌∷◌, ◌++◌, ℕ, zero, suc, ◌+◌, ◌-◌, ◌≤◌, ◌<◌, Bool, true, false, cond, List, [], Option, Some, None, option_map, length, map, replicate, set, slice_get, inl, inr, refl, ap, sym, subst, ◌∙◌, arith}
use Rattle.std.specs.Prelude.{find, option_and_then}
use Rattle.std.proofs.lemmas.List.Elements.{All-nil, filter_map-append}
use Rattle.std.proofs.lemmas.List.{append-nil}
use Rattle.field_boxes.specs.Names.{name_at}
use Rattle.ternary_words.specs.Headline.Table as words
use Rattle.ternary_words.specs.Limits.{AreNumbered}
use Rattle.ternary_words.specs.Views.{entry_of}
use Rattle.ternary_words.specs.declared.entry.Entry.{Entry}
use Rattle.tcam_sim.specs.Slots.{Stored, look_up, stored}
use Rattle.bank_update.specs.Banks.{alone, least_match, matches}
use Rattle.bank_update.specs.Standing.{bank_of, entries_in, is_taken}
use Rattle.bank_update.proofs.LookUps.{answer_step, decided, looked-up}

-- the entries in them

in_empty : (n : ℕ) → entries_in (replicate n None) ≡ []
in_empty zero = refl
in_empty (suc n) = in_empty n

in_full : (entries : List Entry) → entries_in (map (λ e. Some e) entries) ≡ entries
in_full [] = refl
in_full (e ∷ entries) = ap (λ es. e ∷ es) (in_full entries)

abbrev own : Option Entry → Option Entry
own slot = slot

pub entries-alone : (slots from : ℕ) (entries : List Entry) → entries_in (alone slots from entries) ≡ entries
entries-alone slots from entries =
    let behind : List (Option Entry) = replicate (slots - from - length entries) None in
    filter_map-append own (replicate from None) (map (λ e. Some e) entries ++ behind)
    ∙ ap (λ es. es ++ entries_in (map (λ e. Some e) entries ++ behind)) (in_empty from)
    ∙ filter_map-append own (map (λ e. Some e) entries) behind
    ∙ ap (λ es. es ++ entries_in behind) (in_full entries)
    ∙ ap (λ es. entries ++ es) (in_empty (slots - from - length entries))
    ∙ append-nil entries

-- which slots are taken

empty_at : (n k : ℕ) → is_taken (replicate n None) k ≡ false
empty_at zero k = refl
empty_at (suc n) zero = refl
empty_at (suc n) (suc k) = empty_at n k

taken_at : (a b k : ℕ) (es : List Entry) → a ≤ k → k < a + length es → is_taken (replicate a None ++ (map (λ e. Some e) es ++ replicate b None)) k ≡ true
taken_at zero b k [] low high = absurd (omega (arith, high))
taken_at zero b zero (e ∷ es) low high = refl
taken_at zero b (suc k) (e ∷ es) low high = taken_at zero b k es (omega arith) (omega (arith, high))
taken_at (suc a) b zero es low high = absurd (omega (arith, low))
taken_at (suc a) b (suc k) es low high = taken_at a b k es (omega (arith, low)) (omega (arith, high))

free_at : (a b k : ℕ) (es : List Entry) → (k < a) ⊎ (a + length es ≤ k) → is_taken (replicate a None ++ (map (λ e. Some e) es ++ replicate b None)) k ≡ false
free_at zero b k [] out = empty_at b k
free_at zero b zero (e ∷ es) (inl low) = absurd (omega (arith, low))
free_at zero b zero (e ∷ es) (inr high) = absurd (omega (arith, high))
free_at zero b (suc k) (e ∷ es) (inl low) = absurd (omega (arith, low))
free_at zero b (suc k) (e ∷ es) (inr high) = free_at zero b k es (inr (omega (arith, high)))
free_at (suc a) b zero es out = refl
free_at (suc a) b (suc k) es (inl low) = free_at a b k es (inl (omega (arith, low)))
free_at (suc a) b (suc k) es (inr high) = free_at a b k es (inr (omega (arith, high)))

pub taken-in : (slots from k : ℕ) (es : List Entry) → from ≤ k → k < from + length es → is_taken (alone slots from es) k ≡ true
taken-in slots from k es low high = taken_at from (slots - from - length es) k es low high

pub taken-out : (slots from k : ℕ) (es : List Entry) → (k < from) ⊎ (from + length es ≤ k) → is_taken (alone slots from es) k ≡ false
taken-out slots from k es out = free_at from (slots - from - length es) k es out

-- a slot that is set
pub set-got : {X : Type 0} (xs : List X) (k : ℕ) (x : X) → k < length xs → slice_get (set xs k x) k ≡ Some x
set-got [] k x h = absurd (omega (arith, h))
set-got (y ∷ xs) zero x h = refl
set-got (y ∷ xs) (suc k) x h = set-got xs k x (omega (arith, h))

pub get-mapped : {X Y : Type 0} (f : X → Y) (xs : List X) (k : ℕ) (x : X) → slice_get xs k ≡ Some x → slice_get (map f xs) k ≡ Some (f x)
get-mapped f [] k x h = absurd (cc)
get-mapped f (y ∷ xs) zero x h = ap (λ z. Some (f z)) (let e : y ≡ x = cc in e)
get-mapped f (y ∷ xs) (suc k) x h = get-mapped f xs k x h

-- a lookup over entries

abbrev pub matching : List ℕ → Entry → Bool
matching values e = matches values (stored e)

abbrev seen : ℕ × Entry → ℕ × Stored
seen r = (r.0, stored r.1)

least_step : (t : Bool) (from : ℕ) (e : Entry) (o : Option (ℕ × Stored)) (p : Option (ℕ × Entry)) → o ≡ option_map seen p → cond t (Some (from, stored e)) o ≡ option_map seen (cond t (Some (from, e)) p)
least_step true from e o p h = refl
least_step false from e o p h = h

least_mapped : (values : List ℕ) (bank : List (Option Entry)) (from : ℕ) → least_match (matches values) (bank_of bank) from ≡ option_map seen (least_match (matching values) bank from)
least_mapped values [] from = refl
least_mapped values (None ∷ bank) from = least_mapped values bank (suc from)
least_mapped values (Some e ∷ bank) from =
    least_step (matching values e) from e (least_match (matches values) (bank_of bank) (suc from)) (least_match (matching values) bank (suc from)) (least_mapped values bank (suc from))

abbrev pub numbered : ℕ × Entry → ℕ × ℕ
numbered r = (r.0, r.1.decision)

twice : (o : Option (ℕ × Entry)) → option_map decided (option_map seen o) ≡ option_map numbered o
twice None = refl
twice (Some r) = refl

pub look-entries : (bank : List (Option Entry)) (values : List ℕ) → look_up (bank_of bank) values ≡ option_map numbered (least_match (matching values) bank 0)
look-entries bank values =
    looked-up (bank_of bank) values ∙ ap (option_map decided) (least_mapped values bank 0) ∙ twice (least_match (matching values) bank 0)

-- what a table answers, by its entries
pub answers-of : (names : List (List ℕ)) (values : List ℕ) (entries : List Entry) →
    option_and_then (λ (e : Entry). name_at names e.decision) (find (matching values) entries) ≡ words.answer (map (entry_of names) entries) values
answers-of names values [] = refl
answers-of names values (e ∷ entries) =
    answer_step (λ (x : Entry). name_at names x.decision) (λ (x : words.Entry). x.decision) (matching values e) e (entry_of names e)
    (find (matching values) entries) (find (words.entry_matches values) (map (entry_of names) entries)) refl (answers-of names values entries)

pub numbered-at : (count : ℕ) (entries : List Entry) (k : ℕ) (e : Entry) → AreNumbered count entries → slice_get entries k ≡ Some e → e.decision ≤ count
numbered-at count [] k e all h = absurd (cc)
numbered-at count (x ∷ entries) zero e all h = subst (λ (v : Entry). v.decision ≤ count) (let s : x ≡ e = cc in s) (all 0 x (omega arith))
numbered-at count (x ∷ entries) (suc k) e all h = numbered-at count entries k e (λ j d small. all (suc j) d (omega (arith, small))) h

-- a memory without a table

pub bank-none : (n : ℕ) → bank_of (replicate n None) ≡ replicate n None
bank-none zero = refl
bank-none (suc n) = ap (λ (slots : List (Option Stored)). None ∷ slots) (bank-none n)

pub numbered-none : (names : List (List ℕ)) (n : ℕ) → AreNumbered (length names) (entries_in (replicate n None))
numbered-none names n = subst (AreNumbered (length names)) (sym (in_empty n)) (All-nil (λ (e : Entry). e.decision ≤ length names))

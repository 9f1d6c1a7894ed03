-- The first of some places whose item has a header, and what it decides.
use Rattle.std.specs.Prelude.{◌≡◌, ℕ, Bool, List, Option, Some, find, option_map, slice_get}
use Rattle.std.specs.List.{position_or_len}
use Rattle.std.specs.Option.{option_map_or}
use Rattle.ternary_words.specs.declared.word.Word.{Word}
use Rattle.table_equiv.specs.Places.{has_at}
use Rattle.table_equiv.specs.Cubes.{IsIn}

abbrev pub first_of : {A : Type 0} → (A → Bool) → List A → List ℕ → Option ℕ
first_of p items places = find (λ k. has_at p items k) places

-- what the item at a place decides; 0, which is nothing, behind the last one
abbrev pub decided_at : {A : Type 0} → (A → ℕ) → List A → ℕ → ℕ
decided_at d items k = option_map_or d (slice_get items k) 0

-- both decide the same, or neither is there
abbrev pub DecideSame : (ℕ → ℕ) → Option ℕ → Option ℕ → Type 0
DecideSame d one other = option_map d one ≡ option_map d other

-- the first of the places decides as the first item of all, on each header of the cube
abbrev pub KeepDecided : {A : Type 0} → (List ℕ → A → Bool) → (A → ℕ) → List A → List ℕ → Word → Type 0
KeepDecided has d items places w =
    (header : List ℕ) → IsIn w header → DecideSame (decided_at d items) (first_of (has header) items places) (Some (position_or_len (has header) items))

-- the first of the former places decides as that of the latter
abbrev pub KeepAlike : {A : Type 0} → (List ℕ → A → Bool) → (A → ℕ) → List A → List ℕ → List ℕ → Word → Type 0
KeepAlike has d items kept places w =
    (header : List ℕ) → IsIn w header → DecideSame (decided_at d items) (first_of (has header) items kept) (first_of (has header) items places)

-- the place is the first of the places on each header of the cube
abbrev pub Leads : {A : Type 0} → (List ℕ → A → Bool) → List A → List ℕ → Word → ℕ → Type 0
Leads has items places w place = (header : List ℕ) → IsIn w header → first_of (has header) items places ≡ Some place

-- the first item of all decides as the one at the place, on each header of the cube
abbrev pub DecidesAs : {A : Type 0} → (List ℕ → A → Bool) → (A → ℕ) → List A → Word → ℕ → Type 0
DecidesAs has d items w place = (header : List ℕ) → IsIn w header → decided_at d items (position_or_len (has header) items) ≡ decided_at d items place

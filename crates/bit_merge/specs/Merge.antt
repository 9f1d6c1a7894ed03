-- Bit merging: entries of one run whose words differ in at most one bit become one entry.
use Rattle.std.specs.Prelude.{◌≡◌, ◌⊎◌, ℕ, zero, suc, ◌+◌, ◌<◌, ◌≤◌, Bool, true, false, cond, List, [], ◌∷◌, ◌++◌, length, Option, Some, None}
use Rattle.std.specs.Bool.{beq}
use Rattle.ternary_words.specs.Headline.Word.{Trit}
use Rattle.ternary_words.specs.Headline.Table.{Entry}

abbrev pub is_star : Trit → Bool
is_star None = true
is_star (Some b) = false

abbrev pub same_trit : Trit → Trit → Bool
same_trit None None = true
same_trit None (Some b) = false
same_trit (Some a) None = false
same_trit (Some a) (Some b) = beq a b

-- the words have stars at the same places: their masks are equal
abbrev pub HaveSameStars : List Trit → List Trit → Type 0
HaveSameStars [] [] = Unit {0}
HaveSameStars [] (t ∷ b) = ⊥
HaveSameStars (s ∷ a) [] = ⊥
HaveSameStars (s ∷ a) (t ∷ b) = (is_star s ≡ is_star t) × HaveSameStars a b

-- in how many places the words differ
abbrev pub differing : List Trit → List Trit → ℕ
differing [] b = 0
differing (s ∷ a) [] = 0
differing (s ∷ a) (t ∷ b) = cond (same_trit s t) (differing a b) (suc (differing a b))

-- they have stars at the same places, and differ in at most one
abbrev pub CanJoin : List Trit → List Trit → Type 0
CanJoin a b = HaveSameStars a b × (differing a b ≤ 1)

-- a star where they differ
abbrev pub join : List Trit → List Trit → List Trit
join [] b = []
join (s ∷ a) [] = []
join (s ∷ a) (t ∷ b) = cond (same_trit s t) s None ∷ join a b

-- each entry decides this
abbrev pub AllDecide : Option (List ℕ) → List Entry → Type 0
AllDecide d [] = Unit {0}
AllDecide d (e ∷ entries) = (e.decision ≡ d) × AllDecide d entries

-- two entries of a table, and what stands before, between and after them
pub record Pair : Type 0 where
  pub before : List Entry
  pub first : Entry
  pub between : List Entry
  pub second : Entry
  pub after : List Entry

-- the two entries are of one run, which is neighbouring entries of one decision, and can be joined
pub record IsPair (entries : List Entry) (p : Pair) : Type 0 where
  pub parts : entries ≡ p.before ++ (p.first ∷ p.between ++ (p.second ∷ p.after))
  pub between : AllDecide p.first.decision p.between
  pub second : p.second.decision ≡ p.first.decision
  pub joinable : CanJoin p.first.word p.second.word

-- no two entries of one run can be joined
abbrev pub IsClosed : List Entry → Type 0
IsClosed entries = (p : Pair) → IsPair entries p → ⊥

-- the two as one entry
abbrev pub joint : Entry → Entry → Entry
joint x y = record { word = join x.word y.word; decision = x.decision }

-- the table with their join at the first place and without the second entry
abbrev pub joined : Pair → List Entry
joined p = p.before ++ (joint p.first p.second ∷ p.between ++ p.after)

abbrev pub first_place : Pair → ℕ
first_place p = length p.before

abbrev pub second_place : Pair → ℕ
second_place p = suc (length p.before + length p.between)

-- a lesser first place, or the same first place and no greater second one
abbrev pub ComesFirst : Pair → Pair → Type 0
ComesFirst p q = (first_place p < first_place q) ⊎ ((first_place p ≡ first_place q) × (second_place p ≤ second_place q))

-- of all pairs that can be joined, the one with the least first place and then the least second one
pub record IsFirstPair (entries : List Entry) (p : Pair) : Type 0 where
  pub pair : IsPair entries p
  pub least : (q : Pair) → IsPair entries q → ComesFirst p q

-- the table after so many joinings, each of the first pair, is this closed one
abbrev pub MergedIn : ℕ → List Entry → List Entry → Type 0
MergedIn zero entries out = IsClosed entries × (out ≡ entries)
MergedIn (suc n) entries out = (p : Pair) × IsFirstPair entries p × MergedIn n (joined p) out

-- the table after as many joinings as there can be, each of the first pair
abbrev pub IsMerged : List Entry → List Entry → Type 0
IsMerged entries out = (joinings : ℕ) × MergedIn joinings entries out

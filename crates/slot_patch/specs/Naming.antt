-- Numbers of decisions in a list of names that grows.
use Rattle.std.specs.Prelude.{◌≡◌, ℕ, suc, ◌≤◌, ◌++◌, Bool, List, length, slice_index, All, IsTrue}
use Rattle.std.specs.List.{AllZip}
use Rattle.field_boxes.specs.Names.{name_at}
use Rattle.ternary_words.specs.declared.entry.Entry.{Entry}

-- the later list has the names of the earlier one, in their order, and perhaps more
abbrev pub Grow : List (List ℕ) → List (List ℕ) → Type 0
Grow before now = (more : List (List ℕ)) × (now ≡ before ++ more)

-- what is true of each name of the earlier list and of each of these is true of each name of the later one
abbrev pub ComeFrom : List (List ℕ) → List (List ℕ) → List (List ℕ) → Type 0
ComeFrom before these now = (is : List ℕ → Bool) → All (λ name. IsTrue (is name)) before → All (λ name. IsTrue (is name)) these → All (λ name. IsTrue (is name)) now

-- for no decision and for each of the first names, the number of the same name in the list
pub record AreNumbersOf (count : ℕ) (names list : List (List ℕ)) (numbers : List ℕ) : Type 0 where
  pub many : length numbers ≡ suc count
  pub same : (k : ℕ) → k ≤ count → name_at list (slice_index numbers k) ≡ name_at names k
  pub within : (k : ℕ) → k ≤ count → slice_index numbers k ≤ length list

-- an entry with the number that its decision has in the list
abbrev pub renumbered : List ℕ → Entry → Entry
renumbered numbers e = record { word = e.word; decision = slice_index numbers e.decision }

-- the entries have the same words
abbrev pub HaveWordsOf : List Entry → List Entry → Type 0
HaveWordsOf made entries = AllZip (λ a b. a.word ≡ b.word) made entries

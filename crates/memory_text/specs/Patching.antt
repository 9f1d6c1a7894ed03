-- Plans that lead from a memory to a table.
use Rattle.std.specs.Prelude.{◌≡◌, ◌≢◌, ◌⊎◌, ℕ, ◌+◌, ◌*◌, ◌≤◌, Bool, true, false, ◌&&◌, List, [], ◌∷◌, length, take, Option, Some, None}
use Rattle.std.specs.Bool.{beq}
use Rattle.ternary_words.specs.Headline.Word.{Trit}
use Rattle.ternary_words.specs.Headline.Table.{Entry, Table, answer}
use Rattle.slot_patch.specs.Least.{least_slots}
use Rattle.memory_text.specs.Memory.{Memory, Plan, Write, after, entries_in}

-- what slots answer: the entry in the least slot that matches
abbrev pub answer_in : List (Option Entry) → List ℕ → Option (List ℕ)
answer_in slots values = answer (entries_in slots) values

-- the writes lead from what the slots hold to these entries, and no header is answered in a third way between
pub record IsGood (slots : List (Option Entry)) (entries : List Entry) (writes : List Write) : Type 0 where
  -- behind any number of writes a header is answered as before the first one, or as the entries answer it
  pub old_or_new : (d : ℕ) → d ≤ length writes → (values : List ℕ) →
      (answer_in (after slots (take d writes)) values ≡ answer_in slots values) ⊎ (answer_in (after slots (take d writes)) values ≡ answer entries values)
  -- a header that is answered otherwise than before the first one stays answered so
  pub stays : (d e : ℕ) → d ≤ e → e ≤ length writes → (values : List ℕ) →
      answer_in (after slots (take d writes)) values ≢ answer_in slots values → answer_in (after slots (take e writes)) values ≡ answer entries values
  -- behind the last one the slots hold these entries in order
  pub ends : entries_in (after slots writes) ≡ entries

-- whether two trits are the same
abbrev pub is_same_trit : Trit → Trit → Bool
is_same_trit None None = true
is_same_trit None (Some b) = false
is_same_trit (Some a) None = false
is_same_trit (Some a) (Some b) = beq a b

-- whether two words are the same
abbrev pub is_same_word : List Trit → List Trit → Bool
is_same_word [] [] = true
is_same_word [] (b ∷ bs) = false
is_same_word (a ∷ as') [] = false
is_same_word (a ∷ as') (b ∷ bs) = is_same_trit a b && is_same_word as' bs

-- the least number of slots that have room for both tables, where entries of one word may share a slot
abbrev pub slots_for : List Entry → List Entry → ℕ
slots_for old new = least_slots (λ a b. is_same_word a.word b.word) old new

-- a good plan from the memory to the table, with at most three writes an old entry and one a new one, and at most one for each where
-- there are so many slots
pub record LeadsTo (memory : Memory) (table : Table) (plan : Plan) : Type 0 where
  pub slots : plan.slots ≡ length memory.slots
  pub width : plan.width ≡ memory.width
  pub good : IsGood memory.slots table.entries plan.writes
  pub few : length plan.writes ≤ 3 * length (entries_in memory.slots) + length table.entries
  pub whole : length (entries_in memory.slots) + length table.entries ≤ length memory.slots → length plan.writes ≤ length (entries_in memory.slots) + length table.entries

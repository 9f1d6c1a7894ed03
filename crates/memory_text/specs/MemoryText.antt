-- The texts of memories and of plans.
use Rattle.std.specs.Prelude.{ℕ, suc, List, [], ◌∷◌, ◌++◌, Option, Some, None, codes, length}
use Rattle.std.specs.List.{flat_map}
use Rattle.std.specs.Fmt.{decimal}
use Rattle.ternary_words.specs.Headline.Table.{Entry}
use Rattle.table_text.specs.Headline.TableText.{entry_line}
use Rattle.memory_text.specs.declared.kind.TextKind.{TextKind}
use Rattle.memory_text.specs.declared.kind.TextKind.TheVariants as kinds
use Rattle.memory_text.specs.Memory.{Memory, Plan, Write, entries_in}

-- the word with which a text begins
abbrev pub kind_word : TextKind → List ℕ
kind_word kinds.Memory = codes "memory"
kind_word kinds.Plan = codes "plan"

-- what the lines behind the first one are
abbrev pub lines_word : TextKind → List ℕ
lines_word kinds.Memory = codes "entries"
lines_word kinds.Plan = codes "writes"

-- the first line: how many slots there are, how wide they are, and how many lines follow
abbrev pub first_line : TextKind → ℕ → ℕ → ℕ → List ℕ
first_line kind slots width lines = kind_word kind ++ codes " 1 slots " ++ decimal slots ++ codes " width " ++ decimal width ++ codes " " ++ lines_word kind ++ codes " " ++ decimal lines ++ 10 ∷ []

-- the line of an entry behind the number of its slot, from 1
abbrev pub slot_entry : ℕ → Entry → List ℕ
slot_entry slot e = decimal (suc slot) ++ codes " " ++ entry_line e

-- the line of a slot: none for an empty one
abbrev pub slot_line : ℕ → Option Entry → List ℕ
slot_line slot None = []
slot_line slot (Some e) = slot_entry slot e

-- the lines of slots from one on
abbrev pub slot_lines : ℕ → List (Option Entry) → List ℕ
slot_lines slot [] = []
slot_lines slot (held ∷ slots) = slot_line slot held ++ slot_lines (suc slot) slots

abbrev pub memory_text : Memory → List ℕ
memory_text m = first_line kinds.Memory (length m.slots) m.width (length (entries_in m.slots)) ++ slot_lines 0 m.slots

-- the line of a write
abbrev pub write_text : ℕ → Option Entry → List ℕ
write_text slot None = codes "clear " ++ decimal (suc slot) ++ 10 ∷ []
write_text slot (Some e) = codes "set " ++ slot_entry slot e

abbrev pub write_line : Write → List ℕ
write_line w = write_text w.slot w.entry

abbrev pub plan_text : Plan → List ℕ
plan_text p = first_line kinds.Plan p.slots p.width (length p.writes) ++ flat_map write_line p.writes

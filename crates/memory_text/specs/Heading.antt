-- The first line of a memory's text, and of a plan's.
use Rattle.std.specs.Prelude.{ℕ, ◌-◌, ◌==◌, List, Bool, ◌&&◌, Option, Some, None, codes, option_map, if◌then◌else◌}
use Rattle.std.specs.Str.{bytes_eq}
use Rattle.razor_limits.specs.declared.limits.TheConstants.{MOST_ENTRIES}
use Rattle.text_lines.specs.Numbers.{plain_number}
use Rattle.text_lines.specs.Headline.Steps.{◌>>=◌}
use Rattle.table_text.specs.Heading.{HeadingWords, slot_of, words_of}
use Rattle.memory_text.specs.declared.TheConstants.{MOST_WRITES}
use Rattle.memory_text.specs.declared.kind.TextKind.{TextKind}
use Rattle.memory_text.specs.declared.kind.TextKind.TheVariants as kinds
use Rattle.memory_text.specs.MemoryText.{kind_word, lines_word}

-- how many slots there are, how wide they are, and how many lines follow
pub record Heading : Type 0 where
  pub slots : ℕ
  pub width : ℕ
  pub lines : ℕ

-- a number from 1 to the greatest, without leading zeros
unfoldable pub number_from_one : ℕ → List ℕ → Option ℕ
number_from_one greatest text = do
  n ← plain_number greatest text
  if n == 0 then None else Some n

-- the slot with a number from 1 to so many; slots count from 0
abbrev pub slot_numbered : ℕ → List ℕ → Option ℕ
slot_numbered slots text = option_map (λ n. n - 1) (number_from_one slots text)

-- as many lines may follow: an entry a slot, and so many writes
abbrev pub most_lines : TextKind → ℕ → ℕ
most_lines kinds.Memory slots = slots
most_lines kinds.Plan slots = MOST_WRITES

-- whether the words that name the numbers stand in their places
abbrev pub is_labelled : TextKind → HeadingWords → Bool
is_labelled kind words = bytes_eq words.table (kind_word kind) && bytes_eq words.version (codes "1") && bytes_eq words.slot (codes "slots") && bytes_eq words.composed (codes "width") && bytes_eq words.entries (lines_word kind)

-- `memory 1 slots N width W entries E`, or `plan 1 slots N width W writes T`
unfoldable pub heading_of : TextKind → List ℕ → Option Heading
heading_of kind line = do
  words ← words_of line
  slots ← number_from_one MOST_ENTRIES words.slot_number
  width ← slot_of words.composed_number
  lines ← plain_number (most_lines kind slots) words.entries_number
  if is_labelled kind words then Some (record { slots = slots; width = width; lines = lines }) else None

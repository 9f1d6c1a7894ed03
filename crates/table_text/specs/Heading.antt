-- The first line of a table's text.
use Rattle.std.specs.Prelude.{ℕ, List, [], ◌∷◌, Bool, ◌&&◌, Option, Some, None, codes, if◌then◌else◌}
use Rattle.std.specs.Str.{bytes_eq}
use Rattle.razor_limits.specs.declared.limits.TheConstants.{MOST_ENTRIES}
use Rattle.table_text.specs.declared.heading.Version.{Version}
use Rattle.table_text.specs.declared.heading.Version.TheVariants.{Trits, Columns}
use Rattle.text_lines.specs.Headline.Cuts.{split_once}
use Rattle.text_lines.specs.Numbers.{plain_number}
use Rattle.text_lines.specs.Headline.Steps.{◌>>=◌}

-- the version of the text, the slot width, and the two counts
pub record Heading : Type 0 where
  pub version : Version
  pub slot : ℕ
  pub composed : ℕ
  pub entries : ℕ

-- the eight words of a first line, with a space between them
pub record HeadingWords : Type 0 where
  pub table : List ℕ
  pub version : List ℕ
  pub slot : List ℕ
  pub slot_number : List ℕ
  pub composed : List ℕ
  pub composed_number : List ℕ
  pub entries : List ℕ
  pub entries_number : List ℕ

-- a further space would stand in the last word
unfoldable pub words_of : List ℕ → Option HeadingWords
words_of line = do
  a ← split_once 32 line
  b ← split_once 32 a.1
  c ← split_once 32 b.1
  d ← split_once 32 c.1
  e ← split_once 32 d.1
  f ← split_once 32 e.1
  g ← split_once 32 f.1
  Some (record { table = a.0; version = b.0; slot = c.0; slot_number = d.0; composed = e.0; composed_number = f.0; entries = g.0; entries_number = g.1 })

abbrev pub version_of : List ℕ → Option Version
version_of text = if bytes_eq text (49 ∷ []) then Some Trits else (if bytes_eq text (50 ∷ []) then Some Columns else None)

-- 104, 144 or 288
abbrev pub slot_of : List ℕ → Option ℕ
slot_of text = if bytes_eq text (codes "104") then Some 104 else (if bytes_eq text (codes "144") then Some 144 else (if bytes_eq text (codes "288") then Some 288 else None))

-- whether the words that name the numbers stand in their places
abbrev pub is_labelled : HeadingWords → Bool
is_labelled words = bytes_eq words.table (codes "table") && bytes_eq words.slot (codes "slot") && bytes_eq words.composed (codes "composed") && bytes_eq words.entries (codes "entries")

-- `table V slot W composed C entries E`
unfoldable pub heading_of : List ℕ → Option Heading
heading_of line = do
  words ← words_of line
  version ← version_of words.version
  slot ← slot_of words.slot_number
  composed ← plain_number MOST_ENTRIES words.composed_number
  entries ← plain_number MOST_ENTRIES words.entries_number
  if is_labelled words then Some (record { version = version; slot = slot; composed = composed; entries = entries }) else None

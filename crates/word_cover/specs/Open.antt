-- Headers of a word that words leave open.
use Rattle.std.specs.Prelude.{◌≡◌, ℕ, true, false, List}
use Rattle.std.specs.List.{list_any}
use Rattle.field_boxes.specs.Headline.Fields.{IsHeader}
use Rattle.ternary_words.specs.declared.word.Word.{Word}
use Rattle.ternary_words.specs.Entries.{matches}
use Rattle.word_cover.specs.declared.shown.Shown.{Shown}
use Rattle.word_cover.specs.declared.shown.Shown.TheVariants.{Whole, Open, Unknown}
use Rattle.word_cover.specs.Covers.{Covers}

-- the word matches the header, and none of the words does
pub record IsLeftOpen (words : List Word) (w : Word) (header : List ℕ) : Type 0 where
  pub is : IsHeader header
  pub within : matches header w ≡ true
  pub without : list_any (matches header) words ≡ false

-- the words cover the word, or leave the header open
abbrev pub IsCover : List Word → Word → Shown → Type 0
IsCover words w Whole = Covers words w
IsCover words w (Open header) = IsLeftOpen words w header.values
IsCover words w Unknown = Unit {0}

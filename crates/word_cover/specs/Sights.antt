-- What is seen of a word and words at a glance.
use Rattle.std.specs.Prelude.{◌<◌, List, length}
use Rattle.ternary_words.specs.declared.word.Word.{Word}
use Rattle.word_cover.specs.declared.sight.Sight.{Sight}
use Rattle.word_cover.specs.declared.sight.Sight.TheVariants.{Whole, Few, Largest}
use Rattle.word_cover.specs.Covers.{Covers}

-- one of the words holds the word, or some word stands at the place
abbrev pub IsSeen : List Word → Word → Sight → Type 0
IsSeen words w Whole = Covers words w
IsSeen words w Few = Unit {0}
IsSeen words w (Largest place) = place < length words

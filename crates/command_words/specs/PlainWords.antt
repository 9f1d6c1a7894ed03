-- The plain words that are kept.
use Rattle.std.specs.Prelude.{ℕ, List, map, take}
use Rattle.command_words.specs.declared.plain.PlainWords.{PlainWords}

-- the words, in order
abbrev pub plain_seen : PlainWords → List (List ℕ)
plain_seen plain = map (λ word. word.now) (take plain.count plain.words)

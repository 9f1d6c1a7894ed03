-- Entries whose words are prefixes in each field.
use Rattle.std.proofs.Common.{ℕ, List, [], ◌∷◌, map}
use Rattle.std.specs.Prelude.{All}
use Rattle.std.proofs.lemmas.List.Elements.{All-cons, All-head, All-nil, All-tail}
use Rattle.ternary_words.specs.declared.entry.Entry.{Entry}
use Rattle.ternary_words.specs.Prefixes.{IsPrefixInEach}
use Rattle.ternary_words.specs.Headline.Table as by_name
use Rattle.ternary_words.specs.Views.{entry_of, word_of}
use Rattle.ternary_words.specs.Entries.{ArePrefixes}

-- with the names of their decisions
pub named_prefixes : (names : List (List ℕ)) (entries : List Entry) → ArePrefixes entries → All (λ (e : by_name.Entry). IsPrefixInEach e.word) (map (entry_of names) entries)
named_prefixes names [] all = All-nil _
named_prefixes names (e ∷ entries) all =
    All-cons (λ (x : by_name.Entry). IsPrefixInEach x.word) (entry_of names e) (map (entry_of names) entries) (All-head (λ (x : Entry). IsPrefixInEach (word_of x.word)) e entries all)
    (named_prefixes names entries (All-tail (λ (x : Entry). IsPrefixInEach (word_of x.word)) e entries all))

use Rattle.std.proofs.Common.{◌<◌, ℕ}
use Rattle.std.specs.Prelude.{slice_index_or}
use Rattle.ternary_words.specs.declared.entry.Entry.{Entry}
use Rattle.ternary_words.specs.Prefixes.{IsPrefixInEach}
use Rattle.ternary_words.specs.Views.{word_of}
use Rattle.ternary_words.proofs.prefix_words.are_prefixes.Given as goal

abbrev pub invariant-loop-entry : goal.invariant-loop-entry
invariant-loop-entry l = (k : ℕ) (d : Entry) → k < l.entry-index → IsPrefixInEach (word_of (slice_index_or l.entries k d).word)

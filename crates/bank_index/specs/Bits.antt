-- Single bits of keys and words.
use Rattle.std.specs.Prelude.{ℕ, ◌/◌, ◌%◌, ◌^◌, Bool, false, List, nat_eq, slice_get}
use Rattle.std.specs.Option.{option_map_or}
use Rattle.ternary_words.specs.Headline.Word.{Trit}
use Rattle.ternary_words.specs.Word.{trit, trit_agrees}
use Rattle.ternary_words.specs.declared.word.Word.{Word}
use Rattle.ternary_words.specs.declared.entry.Entry.{Entry}

-- whether the number has a 1 at the bit; bit 0 is the lowest
abbrev pub bit_at : ℕ → ℕ → Bool
bit_at number bit = nat_eq (number / 2 ^ bit % 2) 1

-- the word's trit at the bit
abbrev pub trit_at : Word → ℕ → Trit
trit_at word bit = trit (bit_at word.mask bit) (bit_at word.value bit)

-- whether the word's trit at the bit is '*' or this one
abbrev pub may_match : Word → ℕ → Bool → Bool
may_match word bit one = trit_agrees (trit_at word bit) one

-- whether the entry in the slot has such a word
abbrev pub may_hit : List Entry → ℕ → Bool → ℕ → Bool
may_hit entries bit one slot = option_map_or (λ e. may_match e.word bit one) (slice_get entries slot) false

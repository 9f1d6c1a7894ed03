-- A word and a key that agree, at one bit.
use Rattle.std.proofs.Common.{◌≡◌, ℕ, zero, suc, ◌<◌, Bool, true, false, List, Option, Some, None, ap, refl, ◌∙◌, inl, inr, arith}
use Rattle.std.specs.Prelude.{◌&&◌, nat_eq, slice_get, ◌/◌, ◌%◌, ◌^◌}
use Rattle.std.specs.Option.{option_map_or}
use Rattle.std.proofs.lemmas.Bool.{cases_eq}
use Rattle.field_boxes.specs.Headline.Bits.{bits}
use Rattle.ternary_words.specs.Headline.Word.{agrees}
use Rattle.ternary_words.specs.Word.{trit, trits, trit_agrees}
use Rattle.ternary_words.specs.Views.{word_of}
use Rattle.ternary_words.specs.declared.entry.Entry.{Entry}
use Rattle.bank_index.specs.Bits.{bit_at, may_hit, may_match}
use Rattle.bank_index.specs.Hits.{hits}

first_holds : (a b : Bool) → a && b ≡ true → a ≡ true
first_holds true b h = refl
first_holds false b h = h

second_holds : (a b : Bool) → a && b ≡ true → b ≡ true
second_holds true b h = h
second_holds false b h = cc

-- where n trits agree with n bits, each trit agrees with its bit
agrees_at : (n m v k b : ℕ) → b < n → agrees (trits (bits n m) (bits n v)) (bits n k) ≡ true → trit_agrees (trit (bit_at m b) (bit_at v b)) (bit_at k b) ≡ true
agrees_at zero m v k b within h = absurd (omega (arith, within))
agrees_at (suc n) m v k b within h =
    let top = trit_agrees (trit (bit_at m n) (bit_at v n)) (bit_at k n) in
    let rest = agrees (trits (bits n m) (bits n v)) (bits n k) in
    elim (cases_eq b n) [
      | inl same ↦ ap (λ i. trit_agrees (trit (bit_at m i) (bit_at v i)) (bit_at k i)) same ∙ first_holds top rest h
      | inr apart ↦ agrees_at n m v k b (omega (arith, within, apart)) (second_holds top rest h)
    ]

by_entry : (key bit : ℕ) (entry : Option Entry) → bit < 104 →
    option_map_or (λ (e : Entry). agrees (word_of e.word) (bits 104 key)) entry false ≡ true → option_map_or (λ (e : Entry). may_match e.word bit (bit_at key bit)) entry false ≡ true
by_entry key bit None within h = h
by_entry key bit (Some e) within h = agrees_at 104 e.word.mask e.word.value key bit within h

-- a slot that hits stands on the side of the key's bit
pub hits_there : (entries : List Entry) (key bit slot : ℕ) → bit < 104 → hits entries (bits 104 key) slot ≡ true → may_hit entries bit (bit_at key bit) slot ≡ true
hits_there entries key bit slot within h = by_entry key bit (slice_get entries slot) within h

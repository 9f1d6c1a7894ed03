-- Numbers whose bits are those of others one after another.
use Rattle.std.proofs.Common.{◌≡◌, ◌++◌, ℕ, ◌+◌, ◌*◌, ◌%◌, ◌^◌, length, slice_index, ◌<◌, ◌≤◌, List, [], append_assoc, append-nil, ap, sym, ◌∙◌, arith}
use Rattle.std.specs.Prelude.{bit_or}
use Rattle.std.proofs.lemmas.Nat.{div-mul-add, mod-mul-add, shl_whole, or_shifted}
use Rattle.field_boxes.specs.Headline.Bits.{bits}
use Rattle.ternary_words.specs.Headline.Word.{header_bits}
use Rattle.ternary_words.proofs.Fives.{five_of}
use Rattle.field_boxes.proofs.Bits.{bits-add, bits-mod}

-- the bits of a number that is another, moved up, and a lower part
pub bits-joined : (l k a b : ℕ) → b < 2 ^ k → bits (l + k) (a * 2 ^ k + b) ≡ bits l a ++ bits k b
bits-joined l k a b h =
    let low : bits k (a * 2 ^ k + b) ≡ bits k b = sym (bits-mod k (a * 2 ^ k + b)) ∙ ap (bits k) (mod-mul-add a (2 ^ k) b h) in
    bits-add l k (a * 2 ^ k + b) ∙ ap (λ n. bits l n ++ bits k (a * 2 ^ k + b)) (div-mul-add a (2 ^ k) b h) ∙ ap (λ bs. bits l a ++ bs) low

-- a shift in 128 bits that loses nothing, and the lower part in its place
pub or_joined : (a k b : ℕ) → a < 2 ^ 96 → k ≤ 32 → b < 2 ^ k → bit_or (a * 2 ^ k % 2 ^ 128) b ≡ a * 2 ^ k + b
or_joined a k b high few low = ap (λ n. bit_or n b) (shl_whole a 96 k 128 high (omega arith)) ∙ or_shifted a k b low

-- the bits of five numbers, one after another
pub bits-five : (j k l m n a b c d e : ℕ) → b < 2 ^ k → c < 2 ^ l → d < 2 ^ m → e < 2 ^ n →
    bits (j + k + l + m + n) ((((a * 2 ^ k + b) * 2 ^ l + c) * 2 ^ m + d) * 2 ^ n + e) ≡ bits j a ++ (bits k b ++ (bits l c ++ (bits m d ++ (bits n e ++ []))))
bits-five j k l m n a b c d e hb hc hd he =
    rw (bits-joined (j + k + l + m) n (((a * 2 ^ k + b) * 2 ^ l + c) * 2 ^ m + d) e he, bits-joined (j + k + l) m ((a * 2 ^ k + b) * 2 ^ l + c) d hd, bits-joined (j + k) l (a * 2 ^ k + b) c hc, bits-joined j k a b hb)
    (simp (append_assoc, append-nil))

-- the bits of a header whose key is built field by field
pub bits-header : (v : List ℕ) → length v ≡ 5 → slice_index v 1 < 2 ^ 32 → slice_index v 2 < 2 ^ 16 → slice_index v 3 < 2 ^ 16 → slice_index v 4 < 2 ^ 8 →
    bits 104 ((((slice_index v 0 * 2 ^ 32 + slice_index v 1) * 2 ^ 16 + slice_index v 2) * 2 ^ 16 + slice_index v 3) * 2 ^ 8 + slice_index v 4) ≡ header_bits v
bits-header v five h1 h2 h3 h4 =
    bits-five 32 32 16 16 8 (slice_index v 0) (slice_index v 1) (slice_index v 2) (slice_index v 3) (slice_index v 4) h1 h2 h3 h4
    ∙ ap header_bits (sym (five_of v 0 five))

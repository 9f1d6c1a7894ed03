-- The two numbers of a key, and those of a header.
use Rattle.std.proofs.Common.{◌≡◌, ℕ, ◌+◌, ◌*◌, ◌/◌, ◌%◌, arith}

-- 40 bits and 64 bits, of which the second number's are parted, are those of five numbers in turn
pub in_two : (s d sp dp p : ℕ) → (s * 256 + d / 16777216) * 18446744073709551616 + ((((d % 16777216) * 65536 + sp) * 65536 + dp) * 256 + p)
    ≡ (((s * 4294967296 + d) * 65536 + sp) * 65536 + dp) * 256 + p
in_two s d sp dp p = omega arith

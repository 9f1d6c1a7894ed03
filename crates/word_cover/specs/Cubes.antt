-- Cubes: ternary words by value and mask. Bits count from 0, the lowest one of the protocol.
use Rattle.std.specs.Prelude.{◌≡◌, ℕ, ◌/◌, ◌%◌, ◌^◌, ◌<◌, ◌⊎◌, nat_eq, Bool, bit_and, bit_or, bit_xor}
use Rattle.ternary_words.specs.declared.word.Word.{Word}

-- the bits that are asked for, and what they must be
pub record Cube : Type 0 where
  pub value : ℕ
  pub mask : ℕ

abbrev pub cube_of : Word → Cube
cube_of w = record { value = w.value; mask = w.mask }

-- the numbers have the same of these bits
abbrev pub SameBits : ℕ → ℕ → ℕ → Type 0
SameBits bits a b = bit_and (bit_xor a b) bits ≡ 0

-- the key has each bit that is asked for
abbrev pub HasKey : Cube → ℕ → Type 0
HasKey cube key = SameBits cube.mask key cube.value

-- the cube of all headers: no bit is asked for
abbrev pub all_headers : Cube
all_headers = record { value = 0; mask = 0 }

-- every bit that is asked for in both is the same
abbrev pub Meet : Cube → Cube → Type 0
Meet a b = SameBits (bit_and a.mask b.mask) a.value b.value

-- where they meet, the cube of the headers that both have
abbrev pub meet_of : Cube → Cube → Cube
meet_of a b = record { value = bit_or a.value b.value; mask = bit_or a.mask b.mask }

-- every bit that the second cube asks for is asked for in the first, and the same
abbrev pub HasBitsOf : Cube → Cube → Type 0
HasBitsOf a b = (bit_and b.mask a.mask ≡ b.mask) × SameBits b.mask a.value b.value

-- the last cube asks for exactly the bits that both of the others ask for, and the same
pub record IsHull (a b hull : Cube) : Type 0 where
  pub first : HasBitsOf a hull
  pub second : HasBitsOf b hull
  pub greatest : (c : Cube) → HasBitsOf a c → HasBitsOf b c → HasBitsOf hull c

-- the bit isn't asked for
abbrev pub IsOpen : Cube → ℕ → Type 0
IsOpen cube bit = (bit < 104) × (cube.mask / 2 ^ bit % 2 ≡ 0)

-- some header of the cube has this value there
abbrev pub Allows : Cube → ℕ → Bool → Type 0
Allows cube bit one = (cube.mask / 2 ^ bit % 2 ≡ 0) ⊎ (nat_eq (cube.value / 2 ^ bit % 2) 1 ≡ one)

-- the half with 0 at an open bit, and the one with 1
abbrev pub zero_half : Cube → ℕ → Cube
zero_half cube bit = record { value = cube.value; mask = bit_or cube.mask (2 ^ bit) }

abbrev pub one_half : Cube → ℕ → Cube
one_half cube bit = record { value = bit_or cube.value (2 ^ bit); mask = bit_or cube.mask (2 ^ bit) }

-- the cube that asks for these bits of the value
abbrev pub bits_of : ℕ → ℕ → Cube
bits_of bits value = record { value = bit_and value bits; mask = bits }

-- the number with 0 at these bits
abbrev pub without : ℕ → ℕ → ℕ
without n bits = bit_xor n (bit_and n bits)

-- the cube that asks for none of these bits, and else for those of the cube
abbrev pub freed_of : Cube → ℕ → Cube
freed_of cube bits = record { value = without cube.value bits; mask = without cube.mask bits }

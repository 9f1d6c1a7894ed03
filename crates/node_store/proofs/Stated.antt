-- The levels of the stated order, by how many of its fields are read.
use Rattle.std.proofs.Common.{◌≡◌, ◌<◌, ℕ, zero, suc, [], drop, refl, arith, rules}
use Rattle.field_boxes.specs.Headline.Fields.{stated}
use Rattle.field_boxes.specs.Fields.{greatest_of}
use Rattle.node_store.specs.Levels.{HasField, IsLevel, next, top_of}

pub all_fields : HasField stated
all_fields = search rules

pub has_field : (depth : ℕ) → depth < 5 → HasField (drop depth stated)
has_field zero h = all_fields
has_field (suc zero) h = all_fields.1
has_field (suc (suc zero)) h = all_fields.1.1
has_field (suc (suc (suc zero))) h = all_fields.1.1.1
has_field (suc (suc (suc (suc zero)))) h = all_fields.1.1.1.1
has_field (suc (suc (suc (suc (suc n))))) h = absurd (omega (arith, h))

none_left : (n : ℕ) → IsLevel (drop n [])
none_left zero = tt
none_left (suc n) = tt

pub is_level : (depth : ℕ) → IsLevel (drop depth stated)
is_level zero = all_fields
is_level (suc zero) = all_fields.1
is_level (suc (suc zero)) = all_fields.1.1
is_level (suc (suc (suc zero))) = all_fields.1.1.1
is_level (suc (suc (suc (suc zero)))) = all_fields.1.1.1.1
is_level (suc (suc (suc (suc (suc n))))) = none_left n

pub next_is : (depth : ℕ) → depth < 5 → next (drop depth stated) ≡ drop (suc depth) stated
next_is zero h = refl
next_is (suc zero) h = refl
next_is (suc (suc zero)) h = refl
next_is (suc (suc (suc zero))) h = refl
next_is (suc (suc (suc (suc zero)))) h = refl
next_is (suc (suc (suc (suc (suc n))))) h = absurd (omega (arith, h))

pub top_is : (depth : ℕ) → depth < 5 → top_of (drop depth stated) ≡ greatest_of depth
top_is zero h = refl
top_is (suc zero) h = refl
top_is (suc (suc zero)) h = refl
top_is (suc (suc (suc zero))) h = refl
top_is (suc (suc (suc (suc zero)))) h = refl
top_is (suc (suc (suc (suc (suc n))))) h = absurd (omega (arith, h))

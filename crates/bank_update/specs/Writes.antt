-- The writes by which a pending table replaces a settled one in a bank.
use Rattle.std.specs.Prelude.{◌≡◌, ℕ, zero, suc, ◌+◌, ◌-◌, ◌≤◌, Bool, true, false, not, cond, ◌&&◌, ◌||◌, nat_le, nat_lt, List, length, take, set, Option, None, slice_get}
use Rattle.std.specs.List.{list_any}
use Rattle.bank_update.specs.Banks.{alone}

-- how many slots the bank has; the settled table's entries stand from slot a on, the pending table's are to stand from slot b on
pub record Layout (E : Type 0) : Type 0 where
  pub slots : ℕ
  pub a : ℕ
  pub old : List E
  pub b : ℕ
  pub new : List E

-- the new block is directly below the old one (at the higher slots), or directly above it, inside the bank
abbrev pub IsBeside : {E : Type 0} → Bool → Layout E → Type 0
IsBeside true s = (s.b ≡ s.a + length s.old) × (s.b + length s.new ≤ s.slots)
IsBeside false s = (s.b + length s.new ≡ s.a) × (s.a + length s.old ≤ s.slots)

-- how many writes the swap has
abbrev pub write_count : {E : Type 0} → Layout E → ℕ
write_count s = length s.old + length s.new

-- the slot of a write, counted from 0: first those of the new entries in order, then those of the old ones from the last to the first
abbrev pub target : {E : Type 0} → Layout E → ℕ → ℕ
target s k = cond (nat_lt k (length s.new)) (s.b + k) (s.a + (write_count s - suc k))

-- what the write puts there: the new entry, or nothing
abbrev pub written : {E : Type 0} → Layout E → ℕ → Option E
written s k = slice_get s.new k

-- what stood there before the write: nothing, or the old entry
abbrev pub erased : {E : Type 0} → Layout E → ℕ → Option E
erased s k = cond (nat_lt k (length s.new)) None (slice_get s.old (write_count s - suc k))

-- the bank after the first writes
abbrev pub bank_after : {E : Type 0} → Layout E → ℕ → List (Option E)
bank_after s zero = alone s.slots s.a s.old
bank_after s (suc d) = set (bank_after s d) (target s d) (written s d)

-- the old entries that still stand after so many writes
abbrev pub old_left : {E : Type 0} → Layout E → ℕ → List E
old_left s d = take (length s.old - (d - length s.new)) s.old

-- the new entries that stand then
abbrev pub new_put : {E : Type 0} → Layout E → ℕ → List E
new_put s d = take d s.new

-- whether the new table answers after so many writes.
-- Below: no old entry that is left passes, and a new entry that stands does, or all new ones stand.
-- Above: a new entry that stands passes, or all new ones stand and no old entry that is left passes.
abbrev pub turned : {E : Type 0} → Bool → (E → Bool) → Layout E → ℕ → Bool
turned true m s d = not (list_any m (old_left s d)) && (list_any m (new_put s d) || nat_le (length s.new) d)
turned false m s d = list_any m (new_put s d) || (nat_le (length s.new) d && not (list_any m (old_left s d)))

-- whether the slot is one of so many from a slot on
abbrev pub in_block : ℕ → ℕ → ℕ → Bool
in_block from count slot = nat_le from slot && nat_lt slot (from + count)

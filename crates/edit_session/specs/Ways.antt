-- The ways in which the table of a commit takes the place of the settled one.
use Rattle.std.specs.Prelude.{◌≡◌, ℕ, length, Ok, Err}
use Rattle.ternary_words.specs.declared.table.Table.{Table}
use Rattle.bank_update.specs.Machine.{State}
use Rattle.bank_update.specs.Whole.{begin_answer, begun}
use Rattle.bank_update.specs.declared.refusal.BeginRefusal.TheVariants as begins
use Rattle.slot_patch.specs.Patching as patches
use Rattle.edit_session.specs.declared.refusal.CommitRefusal.{CommitRefusal}
use Rattle.edit_session.specs.declared.refusal.CommitRefusal.TheVariants as commits

-- whole, beside the old table, or in the slots where that stands
pub data Way : Type 0 where
  Whole : Way
  InPlace : Way

-- an update to the table has begun, of so many writes
abbrev pub HasBegun : Way → State → State → Table → ℕ → Type 0
HasBegun Whole s new table total = (begin_answer s (length table.entries.items) ≡ Ok total) × (new ≡ begun s table.entries.items table.names)
HasBegun InPlace s new table total = patches.HasBegun s new table total

-- there is no room for the table
abbrev pub LacksRoom : Way → State → Table → CommitRefusal → Type 0
LacksRoom Whole s table (commits.NoRoom above below wanted) = begin_answer s (length table.entries.items) ≡ Err (begins.NoRoom above below wanted)
LacksRoom InPlace s table (commits.NoSlots needed slots) = patches.LacksRoom s.settled table needed slots
LacksRoom way s table refusal = ⊥

-- there is no room for the table, or no memory for a plan
abbrev pub IsNotBegun : Way → State → Table → CommitRefusal → Type 0
IsNotBegun InPlace s table commits.Memory = Unit {0}
IsNotBegun way s table refusal = LacksRoom way s table refusal

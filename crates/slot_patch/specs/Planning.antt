-- What a plan for a new table is.
use Rattle.std.specs.Prelude.{◌≡◌, ◌+◌, ◌*◌, ◌≤◌, ◌<◌, List, length, Option}
use Rattle.ternary_words.specs.declared.entry.Entry.{Entry}
use Rattle.bank_update.specs.Standing.{bank_of, entries_in}
use Rattle.slot_patch.specs.Least.{least_slots, same_word}
use Rattle.slot_patch.specs.Plans.{IsPatch}
use Rattle.slot_patch.specs.declared.plan.Plan.{Plan}
use Rattle.slot_patch.specs.declared.plan.Planned.{Planned}
use Rattle.slot_patch.specs.declared.plan.Planned.TheVariants.{Ready, NoRoom}

-- a patch from these slots to slots that hold the table, with at most three writes an old entry and one a new one
pub record IsPlan (held : List (Option Entry)) (table : List Entry) (p : Plan) : Type 0 where
  pub patch : IsPatch (bank_of held) (bank_of p.table.items) p.writes.items
  pub entries : entries_in p.table.items ≡ table
  pub slots : length p.table.items ≡ length held
  pub few : length p.writes.items ≤ 3 * length (entries_in held) + length table

-- a plan, with at most as many writes as both tables have entries where there are so many slots, and slots enough for both; or more
-- slots are needed
abbrev pub IsPlanned : List (Option Entry) → List Entry → Planned → Type 0
IsPlanned held table (Ready p) = IsPlan held table p
    × (length (entries_in held) + length table ≤ length held → length p.writes.items ≤ length (entries_in held) + length table)
    × (least_slots same_word (entries_in held) table ≤ length held)
IsPlanned held table (NoRoom needed) = (needed ≡ least_slots same_word (entries_in held) table) × (length held < needed)

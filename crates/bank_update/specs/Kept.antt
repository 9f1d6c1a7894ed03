-- Tables and updates as the code keeps them.
use Rattle.std.specs.Prelude.{ℕ, [], Option, Some, None}
use Rattle.bank_update.specs.Machine.{Update}
use Rattle.bank_update.specs.Plans.{Plan}
use Rattle.bank_update.specs.Standing.{Standing}
use Rattle.bank_update.specs.Whole.{block, whole}
use Rattle.bank_update.specs.declared.block.Placed.{Placed}
use Rattle.bank_update.specs.declared.underway.Underway.{Underway}

-- a table that stands in so many slots; where there is none, all are empty
abbrev pub block_of : ℕ → Option Placed → Standing
block_of slots None = block slots 0 [] []
block_of slots (Some p) = block slots p.start p.table.entries.items p.table.names

-- the swap to a table
abbrev pub swap_to : Standing → Placed → Plan
swap_to old p = whole old p.start p.table.entries.items p.table.names

-- an update as the code keeps it
abbrev pub update_of : {P : Type 0} → (P → Plan) → Underway P → Update
update_of plan u = record { plan = plan u.plan; done = u.done; back = u.back }

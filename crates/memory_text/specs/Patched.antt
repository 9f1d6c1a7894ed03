-- What comes of planning a patch.
use Rattle.std.specs.Prelude.{◌≡◌, ◌<◌, ◌≤◌, List, length, map}
use Rattle.ternary_words.specs.Headline.Table.{Table}
use Rattle.bank_update.specs.declared.write.Put.{Put}
use Rattle.bank_update.specs.declared.write.Write.{Write}
use Rattle.memory_text.specs.declared.patching.Patched.{Patched}
use Rattle.memory_text.specs.declared.patching.Patched.TheVariants.{Ready, NoRoom}
use Rattle.memory_text.specs.Memory.{Memory, entries_in}
use Rattle.memory_text.specs.Patching.{LeadsTo, slots_for}
use Rattle.memory_text.specs.Views.{plan_of}

-- what a write puts down
abbrev pub put_of : Write → Put
put_of w = record { slot = w.slot; entry = w.entry }

-- what these writes put down
abbrev pub AreCopies : List Write → List Put → Type 0
AreCopies writes puts = puts ≡ map put_of writes

-- a good plan, where there are as many slots as both tables need; or they need more
abbrev pub IsPatched : Memory → Table → Patched → Type 0
IsPatched memory table (Ready plan) = LeadsTo memory table (plan_of plan) × (slots_for (entries_in memory.slots) table.entries ≤ length memory.slots)
IsPatched memory table (NoRoom needed) = (needed ≡ slots_for (entries_in memory.slots) table.entries) × (length memory.slots < needed)

-- Memories and plans of the code, by name.
use Rattle.std.specs.Prelude.{ℕ, List, map, Option, option_map}
use Rattle.ternary_words.specs.declared.entry.Entry as code_entry
use Rattle.ternary_words.specs.Headline.Table.{Entry}
use Rattle.ternary_words.specs.Views.{entry_of}
use Rattle.bank_update.specs.declared.write.Put.{Put}
use Rattle.table_text.specs.EntryViews.{spelled_view}
use Rattle.memory_text.specs.declared.memory.SlotMemory.{SlotMemory}
use Rattle.memory_text.specs.declared.plan.SlotPlan.{SlotPlan}
use Rattle.memory_text.specs.declared.draft.Draft.{Draft}
use Rattle.memory_text.specs.declared.line.SpelledWrite.{SpelledWrite}
use Rattle.memory_text.specs.declared.heading.Heading as code_heading
use Rattle.memory_text.specs.Heading.{Heading}
use Rattle.memory_text.specs.Memory.{Memory, Plan, Write}

-- what slots hold, with the names of the decisions
abbrev pub slots_of : List (List ℕ) → List (Option code_entry.Entry) → List (Option Entry)
slots_of names slots = map (option_map (entry_of names)) slots

abbrev pub memory_of : SlotMemory → Memory
memory_of m = record { width = m.width.bits; slots = slots_of m.names m.slots.items }

abbrev pub write_of : List (List ℕ) → Put → Write
write_of names p = record { slot = p.slot; entry = option_map (entry_of names) p.entry }

abbrev pub writes_of : List (List ℕ) → List Put → List Write
writes_of names puts = map (write_of names) puts

abbrev pub plan_of : SlotPlan → Plan
plan_of p = record { slots = p.slots; width = p.width.bits; writes = writes_of p.names p.writes.items }

-- the writes that were read
abbrev pub draft_of : Draft → List Write
draft_of d = writes_of d.names d.writes.items

abbrev pub spelled_of : SpelledWrite → Write
spelled_of w = record { slot = w.slot; entry = option_map spelled_view w.entry }

abbrev pub heading_view : code_heading.Heading → Heading
heading_view h = record { slots = h.slots; width = h.width.bits; lines = h.lines }

use Rattle.std.proofs.Common.{ℕ}
use Rattle.field_boxes.specs.Headline.Bits.{bits}
use Rattle.bank_index.specs.Hits.{all_slots, first_of}
use Rattle.bank_index.specs.Tree.{LeadsIn}
use Rattle.bank_index.proofs.index.Index.slots.Given as goal

abbrev pub invariant-loop-step : goal.invariant-loop-step
invariant-loop-step l = (steps : ℕ) × LeadsIn steps l.self.nodes.items l.self.entries.items l.key (first_of l.self.entries.items (bits 104 l.key) (all_slots l.self.entries.items)) l.place

use Rattle.std.proofs.Common.{ℕ, List, Option, Some, ap, refl}
use Rattle.ternary_words.specs.declared.entry.Entry as code_entry
use Rattle.ternary_words.specs.Headline.Table.{Entry}
use Rattle.ternary_words.specs.Views.{word_of}
use Rattle.table_text.specs.Names.{decided}
use Rattle.memory_text.proofs.Holding.{slots_set}
use Rattle.memory_text.proofs.memory.SlotMemory.set.Goals as goal

pub returns-clause-set : goal.returns-clause-set
returns-clause-set c =
    let m = c.args.self.now in
    let e : code_entry.Entry = record { word = c.args.word; decision = c.in_ok-decision.decision } in
    let one : Entry = record { word = word_of c.args.word; decision = decided c.args.decision.now } in
    slots_set m.names c.number_of.new.names m.slots.items _ c.args.slot (Some e) (Some one) c.in_ok-decision.ensures.extends m.numbered refl
    (ap (λ (d : Option (List ℕ)). let x : Entry = record { word = word_of c.args.word; decision = d } in Some x) c.in_ok-decision.ensures.number)

use Rattle.std.proofs.Common.{◌≡◌, ◌∙◌, Some, Option, ap, set, subst, sym, option_map}
use Rattle.std.specs.Prelude.{OnOk}
use Rattle.ternary_words.specs.declared.entry.Entry as code_entry
use Rattle.ternary_words.specs.Headline.Table.{Entry}
use Rattle.ternary_words.specs.Views.{entry_of}
use Rattle.memory_text.specs.Views.{slots_of}
use Rattle.memory_text.proofs.Holding.{entry_named}
use Rattle.memory_text.proofs.memory.SlotMemory.write.Goals as goal

pub returns-in-Some-clause-set : goal.returns-in-Some-clause-set
returns-in-Some-clause-set c =
    let names = c.args.names.now in
    let m = c.args.self.now in
    let new = c.set.new.self in
    let last = ap (λ (x : Entry). Some x) (entry_named names c.in-Some.entry c.name.result.now c.requires.spelled c.name.ensures)
    ∙ ap (λ (o : Option code_entry.Entry). option_map (entry_of names) o) (sym c.in-Some.is) in
    subst (λ (o : Option Entry). OnOk c.set.result (slots_of new.names new.slots.items ≡ set (slots_of m.names m.slots.items) c.args.write.now.slot o)) last c.set.ensures.set

use Rattle.std.proofs.Common.{◌≡◌, ◌∙◌, List, Option, None, ap, replicate, rules}
use Rattle.ternary_words.specs.declared.entry.Entry as code_entry
use Rattle.memory_text.specs.Memory.{Memory}
use Rattle.memory_text.specs.Views.{slots_of}
use Rattle.memory_text.proofs.Holding.{none_held}
use Rattle.memory_text.proofs.memory.SlotMemory.empty.Goals as goal

pub returns-clause-empty : goal.returns-clause-empty
returns-clause-empty c =
    let items : c.in_ok-vec.field-0.items ≡ replicate c.args.slots None = search rules in
    ap (λ slots. let m : Memory = record { width = c.args.width.bits; slots = slots } in m) (ap (λ (xs : List (Option code_entry.Entry)). slots_of c.new.result xs) items ∙ none_held c.new.result c.args.slots)

use Rattle.std.proofs.Common.{◌∙◌, List, Option, ap, arith, set, option_map}
use Rattle.ternary_words.specs.Headline.Table.{Entry}
use Rattle.ternary_words.specs.Views.{entry_of}
use Rattle.memory_text.specs.Views.{slots_of}
use Rattle.memory_text.proofs.Afterwards.{after_more}
use Rattle.memory_text.proofs.memory.SlotMemory.after.Goals as goal

pub loop-write-preserved : goal.loop-write-preserved
loop-write-preserved c =
    let names = c.args.plan.now.names in
    let l = c.loop-write in
    let p = c.write-item.result in
    record {
      many = c.in_ok-write.ensures.many ∙ l.invariant.many;
      width = c.in_ok-write.ensures.width ∙ l.invariant.width;
      slots = c.in_ok-write.ensures.set
          ∙ ap (λ (xs : List (Option Entry)). set xs p.slot (option_map (entry_of names) p.entry)) l.invariant.slots
          ∙ after_more names (slots_of c.args.self.names c.args.self.slots.items) _ l.write-index p c.write-item.is (omega arith);
    }

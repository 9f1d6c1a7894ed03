use Rattle.std.proofs.Common.{◌++◌, ◌∙◌, ap, arith, option_map, take, List, Option}
use Rattle.std.specs.Option.{option_to_list}
use Rattle.ternary_words.specs.declared.entry.Entry as code_entry
use Rattle.ternary_words.specs.Headline.Table.{Entry}
use Rattle.ternary_words.specs.Views.{entry_of}
use Rattle.memory_text.specs.Memory.{entries_in}
use Rattle.memory_text.specs.Views.{slots_of}
use Rattle.memory_text.proofs.Holding.{standing_more}
use Rattle.memory_text.proofs.standing.table_in.Goals as goal

pub loop-held-preserved : goal.loop-held-preserved
loop-held-preserved c =
    let names = c.args.memory.now.names in
    let l = c.loop-held in
    let items = c.deref-held-items.result.now in
    record {
      few = omega (arith, l.invariant.few, c.in_ok-entries.ensures.one_more);
      entries = c.in_ok-entries.ensures.entries
          ∙ ap (λ (es : List Entry). es ++ option_to_list (option_map (entry_of names) c.held-item.result)) l.invariant.entries
          ∙ ap (λ (o : Option code_entry.Entry). entries_in (slots_of names (take l.held-index items)) ++ option_to_list (option_map (entry_of names) o)) c.held-item.is
          ∙ standing_more names items l.held-index c.held-item.result (omega arith);
    }

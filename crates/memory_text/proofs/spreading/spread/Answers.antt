use Rattle.std.proofs.Common.{◌∙◌, ℕ, List, Option, None, Some, ap, arith, map, replicate, set, subst, sym, take, IsTrue}
use Rattle.ternary_words.specs.declared.entry.Entry as code_entry
use Rattle.ternary_words.specs.declared.slot_width.SlotWidth.{SlotWidth}
use Rattle.ternary_words.specs.Headline.Table.{Entry}
use Rattle.ternary_words.specs.Views.{entry_of}
use Rattle.table_text.specs.Names.{is_decision}
use Rattle.memory_text.specs.Memory.{after}
use Rattle.memory_text.specs.Spreading.{even_slot, even_writes}
use Rattle.memory_text.proofs.Afterwards.{spread_more}
use Rattle.memory_text.proofs.Holding.{entry_named, named_entry}
use Rattle.memory_text.proofs.LineTexts.{any_spelled}
use Rattle.memory_text.proofs.spreading.spread.Goals as goal

pub set-requires-clause-named : goal.set-requires-clause-named
set-requires-clause-named c =
    subst (λ (t : List ℕ). IsTrue (is_decision t)) (sym c.name-name.ensures) (any_spelled c.args.table.now.names c.requires.spelled c.index-entry.result.now.decision).decision

pub loop-place-preserved : goal.loop-place-preserved
loop-place-preserved c =
    let table = c.args.table.now in
    let l = c.loop-place in
    let e = c.index-entry.result.now in
    let base : List (Option Entry) = replicate c.args.slots None in
    let done = after base (even_writes c.args.slots c.len-many.result 0 (map (entry_of table.names) (take l.place table.entries.items))) in
    record {
      many = c.in_ok-set.ensures.many ∙ l.invariant.many;
      width = ap (λ (w : SlotWidth). w.bits) c.in_ok-set.ensures.width ∙ l.invariant.width;
      slots = c.in_ok-set.ensures.set
          ∙ ap (λ (xs : List (Option Entry)). set xs c.even_slot.result (Some (named_entry e c.name-name.result.now))) l.invariant.slots
          ∙ ap (λ (n : ℕ). set done n (Some (named_entry e c.name-name.result.now))) c.even_slot.ensures.slot
          ∙ ap (λ (x : Entry). set done (even_slot c.args.slots c.len-many.result l.place) (Some x)) (entry_named table.names e c.name-name.result.now c.requires.spelled c.name-name.ensures)
          ∙ ap (λ (x : code_entry.Entry). set done (even_slot c.args.slots c.len-many.result l.place) (Some (entry_of table.names x))) c.index-entry.ensures
          ∙ spread_more table.names base c.args.slots c.len-many.result table.entries.items l.place e (omega (arith, c.len-many.ensures));
    }

use Rattle.std.proofs.Common.{ap, ◌∙◌, map, arith}
use Rattle.std.specs.List.{flat_map}
use Rattle.razor_base.proofs.Writing.{puts-is, puts-next, puts-next_cut, puts-each, texts_map}
use Rattle.table_text.specs.Headline.TableText.{entry_line}
use Rattle.ternary_words.specs.Views.{entry_of}
use Rattle.table_text.proofs.write.put_entries.Goals as goal

pub returns-in_err-put_entry : goal.returns-in_err-put_entry
returns-in_err-put_entry g c =
    let t = c.args.table.now in
    let all = texts_map entry_line (entry_of t.names) c.deref-entry-items.result.now ∙ ap (λ es. flat_map entry_line (map (entry_of t.names) es)) c.deref-entry-items.ensures.value in
    puts-is (puts-next_cut (λ e. entry_line (entry_of t.names e)) _ c.loop-entry.entry-index _ _ (omega arith) c.entry-item.is c.from_residual.ensures.0 c.loop-entry.invariant c.in_err-put_entry.ensures) all

pub loop-entry-preserved : goal.loop-entry-preserved
loop-entry-preserved g c =
    let t = c.args.table.now in
    puts-next (λ e. entry_line (entry_of t.names e)) _ c.loop-entry.entry-index _ _ (omega arith) c.entry-item.is c.loop-entry.invariant c.in_ok-put_entry.ensures

pub returns : goal.returns
returns g c =
    let t = c.args.table.now in
    let all = texts_map entry_line (entry_of t.names) c.deref-entry-items.result.now ∙ ap (λ es. flat_map entry_line (map (entry_of t.names) es)) c.deref-entry-items.ensures.value in
    puts-is (puts-each (λ e. entry_line (entry_of t.names e)) _ c.loop-entry.entry-index (omega arith) c.loop-entry.invariant) all

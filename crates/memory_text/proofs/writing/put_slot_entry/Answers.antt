use Rattle.std.proofs.Common.{[], ◌∷◌, ◌++◌, add-one, append_assoc}
use Rattle.field_boxes.specs.Headline.Names.{text_of}
use Rattle.field_boxes.specs.Names.{name_at}
use Rattle.razor_base.proofs.Writing.{puts-then, puts-more, puts-stop, puts-is}
use Rattle.table_text.specs.Headline.TableText.{entry_line}
use Rattle.ternary_words.specs.Views.{entry_of}
use Rattle.memory_text.proofs.writing.put_slot_entry.Goals as goal

pub returns-in_err-put_parts : goal.returns-in_err-put_parts
returns-in_err-put_parts g c =
    puts-is (puts-stop c.from_residual.ensures.0 (puts-more (entry_line (entry_of c.args.names.now c.args.entry.now)) c.in_err-put_parts.ensures)) (simp (c.from.ensures, add-one, append_assoc))

pub returns-in_err-put_word : goal.returns-in_err-put_word
returns-in_err-put_word g c =
    let name = text_of (name_at c.args.names.now c.args.entry.now.decision) in
    puts-is (puts-stop c.from_residual-in_err-put_word.ensures.0 (puts-more (name ++ 10 ∷ []) (puts-then c.in_ok-put_parts.ensures c.in_err-put_word.ensures))) (simp (c.from.ensures, add-one, append_assoc))

pub returns : goal.returns
returns g c =
    puts-is (puts-then (puts-then c.in_ok-put_parts.ensures c.in_ok-put_word.ensures) c.put_parts-2.ensures) (simp (c.name-name.ensures, c.from.ensures, add-one, append_assoc))

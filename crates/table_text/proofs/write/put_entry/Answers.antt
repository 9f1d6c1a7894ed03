use Rattle.std.proofs.Common.{[], ◌∷◌, append_assoc}
use Rattle.field_boxes.specs.Headline.Names.{text_of}
use Rattle.field_boxes.specs.Names.{name_at}
use Rattle.razor_base.proofs.Writing.{puts-then, puts-more, puts-stop, puts-is}
use Rattle.table_text.proofs.write.put_entry.Goals as goal

pub returns-in_err-put_word : goal.returns-in_err-put_word
returns-in_err-put_word g c =
    let name = text_of (name_at c.args.names.now c.args.entry.now.decision) in
    puts-stop c.from_residual.ensures.0 (puts-more (10 ∷ []) (puts-more name c.in_err-put_word.ensures))

pub returns : goal.returns
returns g c = puts-is (puts-then c.in_ok-put_word.ensures c.put_parts.ensures) (simp (c.name-name.ensures, append_assoc))

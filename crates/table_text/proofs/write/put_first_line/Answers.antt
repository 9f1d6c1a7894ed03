use Rattle.std.proofs.Common.{◌≡◌, append_assoc, length, sym, ◌∙◌, rules}
use Rattle.std.proofs.lemmas.List.{length-map}
use Rattle.razor_base.proofs.Writing.{puts-is}
use Rattle.ternary_words.specs.Views.{entry_of}
use Rattle.table_text.proofs.write.put_first_line.Goals as goal

pub returns : goal.returns
returns g c =
    let t = c.args.table.now in
    let len : c.len.result ≡ length t.entries.items = search rules in
    let many = len ∙ sym (length-map t.entries.items (entry_of t.names)) in
    puts-is c.put_parts.ensures (simp (c.from.ensures, c.from-2.ensures, many, append_assoc))

use Rattle.std.proofs.Common.{List, sym, subst}
use Rattle.std.proofs.lemmas.Bool.{OnTrue_at}
use Rattle.field_boxes.specs.Alike.{AreAlike}
use Rattle.ternary_words.specs.declared.entry.Entry.{Entry}
use Rattle.ternary_words.specs.Entries.{answer}
use Rattle.table_steps.proofs.Removed.{inserted-alike}
use Rattle.table_steps.proofs.steps.put_in.Goals as goal

pub returns-clause-alike : goal.returns-clause-alike
returns-clause-alike c =
    let table = c.args.table.now.items in
    subst (λ (es : List Entry). AreAlike (answer es) (answer table)) (sym c.in_ok-insert.ensures.items)
    (inserted-alike table c.as_slice-entries.result.now c.args.place c.args.entry c.as_slice-entries.ensures.value c.requires (OnTrue_at c.if-not-free.false c.in_ok-free.ensures))

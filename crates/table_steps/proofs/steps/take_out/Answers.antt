use Rattle.std.proofs.Common.{List, subst}
use Rattle.std.specs.List.{remove}
use Rattle.std.proofs.lemmas.Bool.{OnTrue_at}
use Rattle.field_boxes.specs.Alike.{AreAlike}
use Rattle.ternary_words.specs.declared.entry.Entry.{Entry}
use Rattle.ternary_words.specs.Entries.{answer}
use Rattle.table_steps.proofs.Parted.{shortened-start, shortened-removed}
use Rattle.table_steps.proofs.steps.take_out.Goals as goal

pub returns-in_err-redundant-clause-shortened : goal.returns-in_err-redundant-clause-shortened
returns-in_err-redundant-clause-shortened c = shortened-start c.args.table.now.items

pub returns-then-not-branch-clause-shortened : goal.returns-then-not-branch-clause-shortened
returns-then-not-branch-clause-shortened c = shortened-start c.args.table.now.items

pub returns-clause-shortened : goal.returns-clause-shortened
returns-clause-shortened c =
    let table = c.args.table.now.items in
    shortened-removed table c.remove.new.self.items c.args.place c.remove.ensures.items
    (subst (λ (es : List Entry). AreAlike (answer (remove es c.args.place)) (answer es)) c.as_slice.ensures.value (OnTrue_at c.if-not-branch.false c.in_ok-redundant.ensures))

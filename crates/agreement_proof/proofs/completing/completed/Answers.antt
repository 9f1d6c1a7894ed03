use Rattle.std.proofs.Common.{◌++◌, ◌∙◌, ap, length, refl}
use Rattle.agreement_check.specs.Proofs.{heading_text}
use Rattle.agreement_check.specs.Views.{sides_in}
use Rattle.agreement_proof.specs.Outcome.{values_of}
use Rattle.agreement_proof.proofs.Whole.{agree-below, completed-at, found-stated}
use Rattle.agreement_proof.proofs.completing.completed.Goals as goal

pub put_pairs-requires : goal.put_pairs-requires
put_pairs-requires c = agree-below c.args.list.now c.args.table.now _ c.args.header refl refl c.bound_of.ensures c.requires

pub returns : goal.returns
returns c =
    let list = c.args.list.now in
    let table = c.args.table.now in
    let before = values_of c.args.header in
    completed-at c.right_proofs_are_valid.ensures list table before c.bound_of.result c.in_ok-entries.entries.items c.in_ok-rules.rules.items c.put_heading.new.text.items c.put_entries.new.text.items
    c.put_rules.new.text.items c.put_pairs.new.text.items c.put_end.new.text.items c.in_ok-pairs.pairs (record { shown = c.shown_by-shown.result; pairs = c.in_ok-pairs.pairs }) c.bound_of.ensures
    (found-stated list table c.args.header c.requires)
    (c.in_ok-put_heading.ensures ∙ ap (λ x. x ++ heading_text (length list.rules.items) (length table.entries.items) before) c.new-text.ensures.items) c.in_ok-entries.ensures c.in_ok-rules.ensures
    c.in_ok-pairs.ensures c.in_ok-put_end.ensures refl c.shown_by-shown.ensures.shown

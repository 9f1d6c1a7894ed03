use Rattle.std.proofs.Common.{◌+◌, ◌-◌, take, drop, length}
use Rattle.std.specs.List.{remove}
use Rattle.field_boxes.specs.Alike.{AreAlike}
use Rattle.table_steps.specs.Free.{IsFree, words_of}
use Rattle.ternary_words.specs.Entries.{answer}
use Rattle.table_steps.proofs.Outcomes.{if_yes}
use Rattle.table_steps.proofs.Removed.{removed-alike}
use Rattle.table_steps.proofs.steps.redundant.Goals as goal

pub returns : goal.returns
returns c =
    let table = c.args.table.now in
    let k = c.args.place in
    let e = c.index-table-place.result in
    if_yes c.free_for.result (IsFree (words_of (take k table)) (take (length table - (k + 1)) (drop (k + 1) table)) e.word e.decision) (AreAlike (answer (remove table k)) (answer table))
    (λ free. removed-alike table k e c.requires c.index-table-place.is free) c.free_for.ensures

use Rattle.field_boxes.specs.Lists.{name_decided}
use Rattle.list_equiv.specs.Names.{name_of}
use Rattle.list_equiv.proofs.Compared.{list_names, list_within, verdict_as}
use Rattle.partition_check.specs.Agreement.{name_answered}
use Rattle.box_partition.proofs.Answered.{table-names, table-within}
use Rattle.box_partition.proofs.difference.differ.Goals as goal

pub entries_by_number-requires : goal.entries_by_number-requires
entries_by_number-requires c = rw c.deref.ensures.value c.requires

pub compare-requires-clause-left : goal.compare-requires-clause-left
compare-requires-clause-left c = list_within c.args.list.now c.deref-2.result.now c.deref-2.ensures.value

pub compare-requires-clause-right : goal.compare-requires-clause-right
compare-requires-clause-right c =
    table-within c.args.table.now c.deref.result.now c.in_ok-entries.entries.items c.deref-3.result.now c.deref.ensures.value c.deref-3.ensures.value c.in_ok-entries.ensures

pub returns : goal.returns
returns c =
    let list = c.args.list.now in
    let table = c.args.table.now in
    verdict_as list.names table.names (name_of list.names c.deref-2.result.now) (name_of table.names c.deref-3.result.now) (name_decided list) (name_answered table) c.in_ok-verdict.verdict
    (λ header is. list_names list c.deref-2.result.now c.deref-2.ensures.value header)
    (λ header is. table-names c.first_matches_decide.ensures.entry table c.deref.result.now c.in_ok-entries.entries.items c.deref-3.result.now c.deref.ensures.value c.deref-3.ensures.value c.in_ok-entries.ensures header is)
    c.in_ok-verdict.ensures

use Rattle.std.proofs.Common.{◌∙◌}
use Rattle.field_boxes.specs.Headline.Fields.{stated}
use Rattle.fdd_ops.proofs.Levels.{all_fields}
use Rattle.node_store.proofs.Canonical.{in_use}
use Rattle.node_store.proofs.Growth.{level_kept}
use Rattle.partition_check.specs.Claims.{rule_matches, entry_matches}
use Rattle.box_partition.proofs.Stated.{in_order}
use Rattle.box_partition.proofs.Endings.{is-refused, is-writing, answers-first}
use Rattle.box_partition.proofs.certificate.write_rows.Goals as goal

pub returns-in_err-rules : goal.returns-in_err-rules
returns-in_err-rules g c =
    is-refused c.first_matches_decide.ensures.rule c.first_matches_decide.ensures.entry c.args.list.now c.args.table.now c.requires.agree c.from_residual.ensures.1

pub entries_by_place-requires-clause-prefixes : goal.entries_by_place-requires-clause-prefixes
entries_by_place-requires-clause-prefixes g c = rw c.deref-2.ensures.value c.requires.prefixes

pub returns-in_err-entries : goal.returns-in_err-entries
returns-in_err-entries g c =
    is-refused c.first_matches_decide.ensures.rule c.first_matches_decide.ensures.entry c.args.list.now c.args.table.now c.requires.agree c.from_residual-in_err-entries.ensures.1

pub returns-in_err-first_rule : goal.returns-in_err-first_rule
returns-in_err-first_rule g c =
    is-refused c.first_matches_decide.ensures.rule c.first_matches_decide.ensures.entry c.args.list.now c.args.table.now c.requires.agree c.from_residual-in_err-first_rule.ensures.1

pub returns-in_err-first_entry : goal.returns-in_err-first_entry
returns-in_err-first_entry g c =
    is-refused c.first_matches_decide.ensures.rule c.first_matches_decide.ensures.entry c.args.list.now c.args.table.now c.requires.agree c.from_residual-in_err-first_entry.ensures.1

pub write_nodes-requires-clause-left : goal.write_nodes-requires-clause-left
write_nodes-requires-clause-left g c =
    let left = c.in_ok-first_rule in
    level_kept c.build.new.store c.build-2.new.store left.first_rule.0 c.in_ok-first_entry.ensures.grows (in_use c.build.new.store left.first_rule.0 stated all_fields (left.ensures.level ∙ c.stated_order.ensures.stated))
    ∙ left.ensures.level ∙ c.stated_order.ensures.stated

pub returns : goal.returns
returns g c =
    let law = c.first_matches_decide.ensures in
    let first = c.build.new.store in
    let second = c.build-2.new.store in
    let left = c.in_ok-first_rule in
    let right = c.in_ok-first_entry in
    is-writing law.rule law.entry second left.first_rule.0 right.first_entry.0 c.args.list.now c.args.table.now c.requires.agree
    (answers-first rule_matches second left.first_rule.0 c.deref.result.now c.args.list.now.rules.items c.in_ok-rules.rules.items c.deref-3.result.now c.deref.ensures.value c.deref-3.ensures.value c.in_ok-rules.ensures
    (λ header h. right.ensures.grows.answers left.first_rule.0 header (in_use first left.first_rule.0 stated all_fields (left.ensures.level ∙ c.stated_order.ensures.stated))
    ∙ in_order _ first left.first_rule.0 _ c.stated_order.ensures.stated left.ensures.answers header h))
    (answers-first entry_matches second right.first_entry.0 c.deref-2.result.now c.args.table.now.entries.items c.in_ok-entries.entries.items c.deref-4.result.now c.deref-2.ensures.value c.deref-4.ensures.value c.in_ok-entries.ensures
    (in_order _ second right.first_entry.0 _ c.stated_order-2.ensures.stated right.ensures.answers))
    c.write_nodes.ensures.puts c.write_nodes.ensures.count

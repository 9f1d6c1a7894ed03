use Rattle.std.proofs.Common.{◌∙◌}
use Rattle.field_boxes.specs.declared.header.Header.{Header}
use Rattle.field_boxes.specs.Headline.Fields.{stated}
use Rattle.node_store.specs.Diagram.{answer}
use Rattle.node_store.proofs.Canonical.{in_use}
use Rattle.fdd_ops.proofs.Levels.{all_fields}
use Rattle.list_equiv.specs.Names.{name_of}
use Rattle.list_equiv.proofs.Compared.{by_others, in_order, tell_apart}
use Rattle.list_equiv.proofs.apart.first_apart.Goals as goal

pub returns : goal.returns
returns c =
    let first = c.build.new.store in
    let second = c.build-2.new.store in
    let left = c.in_ok-left_node in
    let right = c.in_ok-right_node in
    let ls = c.args.left.now in
    let rs = c.args.right.now in
    let names = c.args.left_names.now in
    let others = c.args.right_names.now in
    by_others (λ (h : Header). h.values) (answer second left.left_node.0) (answer second right.right_node.0) (name_of names ls) (name_of others rs) c.least_difference.result
    (tell_apart second left.left_node.0 right.right_node.0 names others ls rs c.are_names.ensures c.are_names-2.ensures c.requires.left c.requires.right
    (λ header h.
    right.ensures.grows.answers left.left_node.0 header (in_use first left.left_node.0 stated all_fields (left.ensures.level ∙ c.stated_order.ensures.stated))
    ∙ in_order _ first left.left_node.0 names others ls c.in_ok-left_rules.left_rules.items c.deref.result.now c.stated_order.ensures.stated c.deref.ensures.value left.ensures.answers c.in_ok-left_rules.ensures header h)
    (in_order _ second right.right_node.0 others others rs c.in_ok-right_rules.right_rules.items c.deref-2.result.now c.stated_order-2.ensures.stated c.deref-2.ensures.value right.ensures.answers c.in_ok-right_rules.ensures))
    c.least_difference.ensures

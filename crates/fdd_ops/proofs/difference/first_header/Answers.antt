use Rattle.fdd_ops.proofs.Differences.{five_fields, each_in_field}
use Rattle.fdd_ops.proofs.difference.first_header.Goals as goal

pub invariant_of-result : goal.invariant_of-result
invariant_of-result c =
    let found = five_fields _ _ _ _ _ _ _ _ c.same_answers.ensures.store c.requires.left
    c.first_parting-source.ensures c.first_parting-destination.ensures c.first_parting-source_port.ensures
    c.first_parting-destination_port.ensures c.first_parting-protocol.ensures in
    record { in_fields = each_in_field _ _ _ _ _ found.in_fields }

pub returns : goal.returns
returns c =
    five_fields _ _ _ _ _ _ _ _ c.same_answers.ensures.store c.requires.left
    c.first_parting-source.ensures c.first_parting-destination.ensures c.first_parting-source_port.ensures
    c.first_parting-destination_port.ensures c.first_parting-protocol.ensures

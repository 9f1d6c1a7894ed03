use Rattle.field_boxes.specs.Lists.{name_decided}
use Rattle.list_equiv.specs.Names.{name_of}
use Rattle.list_equiv.proofs.Compared.{list_names, list_within, verdict_as}
use Rattle.list_equiv.proofs.verdict.equal.Goals as goal

pub compare-requires-clause-left : goal.compare-requires-clause-left
compare-requires-clause-left c = list_within c.args.left.now c.deref.result.now c.deref.ensures.value

pub compare-requires-clause-right : goal.compare-requires-clause-right
compare-requires-clause-right c = list_within c.args.right.now c.deref-2.result.now c.deref-2.ensures.value

pub returns : goal.returns
returns c =
    let left = c.args.left.now in
    let right = c.args.right.now in
    verdict_as left.names right.names (name_of left.names c.deref.result.now) (name_of right.names c.deref-2.result.now) (name_decided left) (name_decided right) c.in_ok-verdict.verdict
    (λ header is. list_names left c.deref.result.now c.deref.ensures.value header) (λ header is. list_names right c.deref-2.result.now c.deref-2.ensures.value header) c.in_ok-verdict.ensures

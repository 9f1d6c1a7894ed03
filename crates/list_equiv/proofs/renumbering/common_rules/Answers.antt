use Rattle.list_equiv.proofs.Renumbered.{decides_common}
use Rattle.list_equiv.proofs.renumbering.common_rules.Goals as goal

pub returns : goal.returns
returns c = λ header is.
    decides_common c.args.names.now c.args.others.now c.args.rules.now c.in_ok-made.made.items c.open.result header c.in_ok-extend_from_slice.ensures.items
    c.in_ok-made.ensures (c.open.ensures.matched header is) c.open.ensures.decision

use Rattle.node_store.proofs.Added.{added}
use Rattle.node_store.proofs.store.Store.add.Goals as goal

pub invariant_of-self-2 : goal.invariant_of-self-2
invariant_of-self-2 c =
    (added c.self.inside.nodes.keys _ c.args.node _ c.args.self.now c.self.view_is c.self.invariant c.requires c.in_ok-number.ensures.keys c.in_ok-number.ensures.stored).store

pub returns-clause-numbered : goal.returns-clause-numbered
returns-clause-numbered c =
    (added c.self.inside.nodes.keys _ c.args.node _ c.args.self.now c.self.view_is c.self.invariant c.requires c.in_ok-number.ensures.keys c.in_ok-number.ensures.stored).numbered

pub returns-clause-grows : goal.returns-clause-grows
returns-clause-grows c =
    (added c.self.inside.nodes.keys _ c.args.node _ c.args.self.now c.self.view_is c.self.invariant c.requires c.in_ok-number.ensures.keys c.in_ok-number.ensures.stored).grown

use Rattle.std.proofs.Common.{◌∙◌, arith, subst, sym, List, ℕ, Bool, true}
use Rattle.table_compose.specs.Asked.{AreChildrenCosted}
use Rattle.table_compose.specs.Plans.{IsMarked}
use Rattle.table_compose.proofs.KeptCosts.{children_costed, learns_one, set_here}
use Rattle.table_compose.proofs.costs.Costs.work_out.Goals as goal

pub node_cost-requires-clause-children : goal.node_cost-requires-clause-children
node_cost-requires-clause-children c =
    subst (λ (cs : List ℕ). AreChildrenCosted c.args.store.now cs c.args.id.0) (sym c.as_slice-costs.ensures.value)
    (children_costed c.args.store.now c.args.self.now.known.items c.args.self.now.numbers.items c.args.id.0 c.requires.costs c.requires.children)

pub returns-in_err-cost-clause-learns : goal.returns-in_err-cost-clause-learns
returns-in_err-cost-clause-learns c = record {
  costs = c.requires.costs;
  earlier = λ k mark. mark;
  room = λ count h. record { known = h.known; numbers = h.numbers; places = let a = h.places in let n = c.node_cost.ensures.places in omega (arith, a, n) };
}

pub returns-clause-learns : goal.returns-clause-learns
returns-clause-learns c =
    learns_one c.args.store.now c.args.self.now c.keep.new.self c.args.id.0 c.in_ok-cost.cost c.requires.costs c.requires.number c.requires.room c.in_ok-cost.ensures.costed
    c.keep.ensures.known c.keep.ensures.numbers (c.keep.ensures.places ∙ c.node_cost.ensures.places)

pub returns-clause-known : goal.returns-clause-known
returns-clause-known c =
    subst (λ (ks : List Bool). IsMarked ks c.args.id.0) (sym c.keep.ensures.known) (set_here c.args.self.now.known.items c.args.id.0 true (let h = c.requires.room.known in omega (arith, h)))

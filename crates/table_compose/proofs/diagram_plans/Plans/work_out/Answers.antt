use Rattle.std.proofs.Common.{◌+◌, ◌∙◌, arith, subst, sym, refl, List, ℕ, Bool, true}
use Rattle.table_compose.specs.Asked.{AreChildrenCosted}
use Rattle.table_compose.specs.Plans.{IsMarked, IsPlanned}
use Rattle.table_compose.specs.Rows.{rows_of}
use Rattle.table_compose.proofs.KeptCosts.{set_here}
use Rattle.table_compose.proofs.KeptPlans.{children_planned, learns_labels, learns_one}
use Rattle.table_compose.proofs.diagram_plans.Plans.work_out.Goals as goal

pub of-requires-clause-children : goal.of-requires-clause-children
of-requires-clause-children c =
    subst (λ (cs : List ℕ). AreChildrenCosted c.args.store.now cs c.args.id.0) (sym c.as_slice-costs.ensures.value)
    (children_planned c.args.store.now c.args.self.now c.args.id.0 c.requires.plans c.requires.children)

pub returns-in_err-plan-clause-learns : goal.returns-in_err-plan-clause-learns
returns-in_err-plan-clause-learns c = learns_labels c.args.store.now c.args.self.now _ (c.args.id.0 + 1) c.requires.plans refl refl refl c.of.ensures.places

pub keep-requires : goal.keep-requires
keep-requires c = record {
  room = record {
    known = c.requires.room.known;
    costs = c.requires.room.costs;
    lists = c.requires.room.lists;
    places = let a = c.requires.room.places in let n = c.of.ensures.places in omega (arith, a, n);
  };
}

pub returns-clause-learns : goal.returns-clause-learns
returns-clause-learns c =
    learns_one c.args.store.now c.args.self.now c.keep.new.self c.args.id.0 c.in_ok-plan.plan.cost c.in_ok-plan.plan.rows c.same_answers.ensures.store c.requires.plans c.requires.unknown c.requires.number c.requires.room c.requires.children
    (subst (λ (cs : List ℕ). IsPlanned c.args.store.now cs c.args.id.0 (rows_of c.in_ok-plan.plan.rows.items) c.in_ok-plan.plan.cost) c.as_slice-costs.ensures.value c.in_ok-plan.ensures.plan)
    c.keep.ensures.known c.keep.ensures.costs c.keep.ensures.lists (c.keep.ensures.places ∙ c.of.ensures.places)

pub returns-clause-known : goal.returns-clause-known
returns-clause-known c =
    subst (λ (ks : List Bool). IsMarked ks c.args.id.0) (sym c.keep.ensures.known) (set_here c.args.self.now.known.items c.args.id.0 true (let h = c.requires.room.known in omega (arith, h)))

use Rattle.std.proofs.Common.{◌∙◌, ap, map, subst, sym}
use Rattle.node_store.specs.Diagram.{answer, edges_of}
use Rattle.node_store.specs.Levels.{next, top_of}
use Rattle.field_sets.specs.Placed.{PlacedAt, RiseFrom, led}
use Rattle.redundancy.specs.Blocks.{run_placed}
use Rattle.redundancy.proofs.Builds.{laid_covers, placed_rise, placed_stand}
use Rattle.redundancy.proofs.blocks.Blocks.layer_set.Goals as goal

pub laid-requires-clause-rise : goal.laid-requires-clause-rise
laid-requires-clause-rise c =
    let is = c.deref-2.ensures.value ∙ c.in_ok-placed.ensures ∙ ap (λ cs. map (run_placed cs) c.args.runs.now) c.deref.ensures.value in
    subst (RiseFrom 0 (top_of c.args.level.now)) (sym is) (placed_rise c.args.self.now c.args.level.now c.args.runs.now c.requires.apart c.requires.runs)

pub laid-requires-clause-children : goal.laid-requires-clause-children
laid-requires-clause-children c =
    let is = c.deref-2.ensures.value ∙ c.in_ok-placed.ensures ∙ ap (λ cs. map (run_placed cs) c.args.runs.now) c.deref.ensures.value in
    subst (PlacedAt c.args.sets.now (next c.args.level.now)) (sym is) (placed_stand c.args.sets.now c.args.self.now c.args.level.now c.args.runs.now c.requires.blocks c.requires.runs)

pub returns-clause-cover : goal.returns-clause-cover
returns-clause-cover c =
    let is = c.deref-2.ensures.value ∙ c.in_ok-placed.ensures ∙ ap (λ cs. map (run_placed cs) c.args.runs.now) c.deref.ensures.value in
    laid_covers c.args.sets.now c.laid.new.self c.args.self.now c.args.level.now c.args.none.0 c.in_ok-set.set.0 c.args.runs.now c.requires.level c.requires.blocks c.requires.runs c.requires.apart
    c.requires.none.answers
    (λ v values small. c.in_ok-set.ensures.answers v values small ∙ ap (λ placed. answer c.args.sets.now (led placed (edges_of c.args.sets.now c.args.none.0) v) values) is)

use Rattle.std.proofs.Common.{◌≤◌, arith, refl, subst, sym}
use Rattle.node_store.specs.Levels.{HasField, top_of}
use Rattle.node_store.specs.Diagram.{level_of, edges_of}
use Rattle.field_sets.proofs.Inside.{fill, lead_on, child, as_whole}
use Rattle.field_sets.proofs.parting.put_parts.Goals as goal

pub returns-clause-split : goal.returns-clause-split
returns-clause-split c =
    let nodes = c.args.store.now in
    let a = c.args.left.0 in
    let b = c.args.right.0 in
    let level = level_of nodes a in
    let top = top_of level in
    let lo = c.args.span.lo in
    let hi = c.args.span.hi in
    let here = c.edges.ensures.inner c.requires.inner in
    let there = c.edges-2.ensures.inner (subst HasField (sym c.requires.level) c.requires.inner) in
    let ordered : lo ≤ hi = c.args.span.ordered in
    let left = c.reaching-left.result.now in
    let right = c.reaching-right.result.now in
    let left_is = c.reaching-left.ensures top here.full in
    let right_is = c.reaching-right.ensures (top_of (level_of nodes b)) there.full in
    as_whole lo hi left right (edges_of nodes a) (edges_of nodes b) c.put_parts_of.new.parts.items
    (child nodes a level level lo c.edges.result.now left here refl left_is c.edges.ensures.edges)
    (child nodes b level (level_of nodes b) lo c.edges-2.result.now right there c.requires.level right_is c.edges-2.ensures.edges)
    (c.in_ok-put_parts_of.ensures.split lo top ordered c.requires.span
    (fill nodes a level level lo c.edges.result.now left here refl left_is (omega (arith, ordered, c.requires.span)))
    (fill nodes b level (level_of nodes b) lo c.edges-2.result.now right there c.requires.level right_is (omega (arith, ordered, c.requires.span))))

pub returns-clause-left : goal.returns-clause-left
returns-clause-left c =
    let nodes = c.args.store.now in
    let a = c.args.left.0 in
    let level = level_of nodes a in
    let here = c.edges.ensures.inner c.requires.inner in
    c.in_ok-put_parts_of.ensures.left nodes _ (lead_on nodes a level level c.args.span.lo c.edges.result.now c.reaching-left.result.now here refl (c.reaching-left.ensures (top_of level) here.full))

pub returns-clause-right : goal.returns-clause-right
returns-clause-right c =
    let nodes = c.args.store.now in
    let b = c.args.right.0 in
    let level = level_of nodes c.args.left.0 in
    let field = level_of nodes b in
    let there = c.edges-2.ensures.inner (subst HasField (sym c.requires.level) c.requires.inner) in
    c.in_ok-put_parts_of.ensures.right nodes _ (lead_on nodes b level field c.args.span.lo c.edges-2.result.now c.reaching-right.result.now there c.requires.level (c.reaching-right.ensures (top_of field) there.full))

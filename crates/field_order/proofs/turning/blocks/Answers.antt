use Rattle.std.proofs.Common.{◌≡◌, ◌+◌, ◌∷◌, sym, subst, arith}
use Rattle.std.specs.Prelude.{suc}
use Rattle.std.proofs.lemmas.List.Elements.{All-push}
use Rattle.node_store.specs.declared.edge.Edge.{Edge}
use Rattle.node_store.specs.Diagram.{level_of}
use Rattle.node_store.specs.Levels.{next as next_level}
use Rattle.node_store.specs.Store.{LeadTo}
use Rattle.node_store.proofs.Canonical.{is_level}
use Rattle.node_store.proofs.Growth as growth
use Rattle.fdd_build.proofs.Fills.{full_after}
use Rattle.field_order.proofs.Rows.{lead_later}
use Rattle.field_order.proofs.Blocks.{blocks_more}
use Rattle.field_order.proofs.turning.blocks.Goals as goal

pub edge_of_block-requires-clause-nodes : goal.edge_of_block-requires-clause-nodes
edge_of_block-requires-clause-nodes c =
    let l = c.loop-filled in
    let side = c.args.field ∷ next_level c.args.level.now in
    lead_later c.args.store.now l.store side c.args.edges.now l.invariant.grows (is_level side c.requires.field) c.requires.nodes

pub loop-filled-preserved : goal.loop-filled-preserved
loop-filled-preserved c =
    let l = c.loop-filled in
    let first = c.args.store.now in
    let new = c.edge_of_block.new.store in
    let e = c.in_ok-edge.edge in
    let made = c.in_ok-edge.ensures in
    let level = c.args.level.now in
    let upper = c.args.field ∷ level in
    let count : c.from-filled.result + 1 ≡ suc e.hi = omega (arith, c.from-filled.ensures) in record {
      grows = growth.twice first l.store new l.invariant.grows made.grows;
      room = omega (arith, count, made.high);
      full = full_after l.filled (c.from-filled.result + 1) l.made.items c.push.new.self.items e l.invariant.full made.low count c.in_ok-push.ensures.ok;
      nodes = subst (LeadTo new upper) (sym c.in_ok-push.ensures.ok)
          (All-push (λ (x : Edge). level_of new x.to.0 ≡ upper) l.made.items e (lead_later l.store new upper l.made.items made.grows (is_level upper c.requires.upper) l.invariant.nodes) made.level);
      answers = blocks_more first l.store new level c.args.field c.args.edges.now c.requires.upper c.requires.field c.same_answers.ensures.store c.requires.full c.requires.nodes l.invariant.grows made.grows
          l.filled (c.from-filled.result + 1) e l.made.items c.push.new.self.items l.invariant.full l.invariant.nodes l.invariant.answers made.high made.answers count c.in_ok-push.ensures.ok;
    }

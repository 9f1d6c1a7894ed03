-- Nodes that answer 0 go on to as the store grows.
use Rattle.std.specs.Prelude.{List, slice_index_or}
use Rattle.std.proofs.Common.{sym, subst, ◌∙◌}
use Rattle.field_boxes.specs.Headline.Fields.{AreValues}
use Rattle.node_store.specs.Levels.{IsLevel}
use Rattle.node_store.specs.declared.edge.NodeId.{NodeId}
use Rattle.node_store.specs.Diagram.{Node}
use Rattle.node_store.specs.Store.{Grows}
use Rattle.node_store.proofs.Growth.{level_kept}
use Rattle.node_store.proofs.Canonical.{within}
use Rattle.fdd_build.specs.Nothing.{IsZero, AreZeros}

zero_lasts : (old new : List Node) (id : NodeId) → Grows old new → IsZero old id → IsZero new id
zero_lasts old new id g z =
    let used = within old id.0 z.within in
    let same = level_kept old new id.0 g used in record {
      within = subst IsLevel (sym same) z.within;
      zero = λ values h. g.answers id.0 values used ∙ z.zero values (subst (λ k. AreValues k values) same h);
    }

pub zeros_last : (old new : List Node) (ids : List NodeId) → Grows old new → AreZeros old ids → AreZeros new ids
zeros_last old new ids g all = λ k d h. zero_lasts old new (slice_index_or ids k d) g (all k d h)

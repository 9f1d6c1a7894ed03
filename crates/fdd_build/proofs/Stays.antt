-- What was found of old numbers stays when a store grows.
use Rattle.std.proofs.Common.{◌≡◌, ℕ, List, [], ◌∷◌, ◌∙◌}
use Rattle.node_store.specs.Levels.{IsLevel}
use Rattle.node_store.specs.Diagram.{Node}
use Rattle.node_store.specs.Store.{Grows}
use Rattle.node_store.proofs.Growth as growth
use Rattle.node_store.proofs.Canonical.{in_use}
use Rattle.node_store.specs.declared.edge.NodeId.{NodeId}
use Rattle.fdd_apply.proofs.Stays as pairs
use Rattle.fdd_build.specs.declared.builder.Builder.{Builder}
use Rattle.fdd_build.specs.Overlay.{shown}
use Rattle.fdd_build.specs.Nothing.{AnswersNothing, AreNothing}
use Rattle.fdd_build.specs.Builders.{IsBuilderOf}

pub nothing : (old new : List Node) (level : List ℕ) (id : ℕ) → Grows old new → IsLevel level → AnswersNothing old level id → AnswersNothing new level id
nothing old new level id g is n =
    let used = in_use old id level is n.level in record {
      level = growth.level_kept old new id g used ∙ n.level;
      zero = λ values h. g.answers id values used ∙ n.zero values h;
    }

pub all_nothing : (old new : List Node) (level : List ℕ) (ids : List NodeId) → Grows old new → IsLevel level → AreNothing old level ids → AreNothing new level ids
all_nothing old new level [] g is n = absurd n
all_nothing old new [] (id ∷ ids) g is n = (nothing old new [] id.0 g is n.0, n.1)
all_nothing old new (f ∷ level) (id ∷ ids) g is n = (nothing old new (f ∷ level) id.0 g is n.0, all_nothing old new level ids g is.1 n.1)

pub builder : (old new : List Node) (order : List ℕ) (b : Builder) → Grows old new → IsLevel order → IsBuilderOf old order b → IsBuilderOf new order b
builder old new order b g is k = record {
  overlay = k.overlay;
  nothing = all_nothing old new order b.laying.nothing.items g is k.nothing;
  results = pairs.results (shown b.laying.overlay) old new b.results g k.results;
}

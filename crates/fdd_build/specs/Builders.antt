-- What a builder keeps.
use Rattle.std.specs.Prelude.{◌≡◌, ℕ, List}
use Rattle.node_store.specs.Diagram.{Node}
use Rattle.fdd_apply.specs.Results.{AreResults}
use Rattle.fdd_build.specs.declared.builder.Builder.{Builder}
use Rattle.fdd_build.specs.declared.overlay.Overlay.TheVariants.{Answer}
use Rattle.fdd_build.specs.Overlay.{shown}
use Rattle.fdd_build.specs.Nothing.{AreNothing}

-- it lays answers over answers, and what it keeps of the nodes of this store is true: which of them answer 0 for the levels
-- of the order, and what pairs of them came to
pub record IsBuilderOf (nodes : List Node) (order : List ℕ) (b : Builder) : Type 0 where
  pub overlay : b.laying.overlay ≡ Answer
  pub nothing : AreNothing nodes order b.laying.nothing.items
  pub results : AreResults (shown b.laying.overlay) nodes b.results

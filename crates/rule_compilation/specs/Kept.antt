-- What is kept from one compiled list to the next.
use Rattle.std.specs.Prelude.{ℕ, List}
use Rattle.fdd_build.specs.Builders.{IsBuilderOf}
use Rattle.redundancy.specs.Removal.{IsRemovalOf}
use Rattle.rule_compilation.specs.declared.kept.Kept.{Kept}
use Rattle.table_compose.specs.Plans.{ArePlansOf}

-- all that is kept is true of the nodes of its store, whose diagrams read the fields in the order; it speaks of no list
pub record IsTrue (order : List ℕ) (k : Kept) : Type 0 where
  pub builder : IsBuilderOf k.store order k.builder
  pub plans : ArePlansOf k.store k.plans
  pub removal : IsRemovalOf k.store k.plans k.removal

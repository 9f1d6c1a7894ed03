use Rattle.std.proofs.Common.{◌≡◌, ℕ, List}
use Rattle.field_boxes.specs.NamedRules.{named_rules}
use Rattle.node_store.specs.Diagram.{level_of}
use Rattle.field_order.specs.Best.{AreNamesOf}
use Rattle.field_order.specs.Fronts.{AreFronts}
use Rattle.field_order.specs.Worth.{AreWorths}
use Rattle.field_order.specs.Search.{DecidesAs, IsBestSoFar, usual}
use Rattle.field_order.proofs.best.best_order.Given as goal

abbrev pub invariant-loop-place : goal.invariant-loop-place
invariant-loop-place l = record {
  root : level_of l.store l.root.0 ≡ usual;
  fronts : AreFronts l.store l.fronts;
  worths : AreWorths l.store l.worths;
  decides : (names : List (List ℕ)) → AreNamesOf l.rules names → DecidesAs l.store usual l.root.0 (named_rules names l.rules);
  best : (names : List (List ℕ)) → AreNamesOf l.rules names → IsBestSoFar (named_rules names l.rules) l.place l.best.order l.best.place l.best.cost;
}

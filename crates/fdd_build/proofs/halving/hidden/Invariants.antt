use Rattle.std.proofs.Common.{◌≡◌, ℕ, List, take}
use Rattle.std.specs.Prelude.{cond}
use Rattle.std.specs.List.{list_any}
use Rattle.field_boxes.specs.Headline.Fields.{AreValues}
use Rattle.node_store.specs.Diagram.{level_of, answer}
use Rattle.node_store.specs.Store.{Grows}
use Rattle.fdd_build.specs.Rules.{hides}
use Rattle.fdd_build.proofs.halving.hidden.Given as goal

abbrev pub invariant-loop-rule : goal.invariant-loop-rule
invariant-loop-rule l = record {
  level : level_of l.store l.shown.0 ≡ l.order;
  answers : (header : List ℕ) → AreValues l.order header →
      answer l.store l.shown.0 header ≡ cond (list_any (λ r. hides l.order r header) (take l.rule-index l.rules)) 0 (answer l.fn.store l.fn.below.0 header);
  grows : Grows l.fn.store l.store;
}

-- What was found of old numbers stays when a store grows.
use Rattle.std.proofs.Common.{ℕ, List, ◌∙◌, ap, subst, sym}
use Rattle.field_boxes.specs.Headline.Fields.{AreValues}
use Rattle.node_store.specs.Levels.{IsLevel}
use Rattle.node_store.specs.Diagram.{Node, answer}
use Rattle.node_store.specs.Store.{Grows}
use Rattle.node_store.proofs.Growth as growth
use Rattle.node_store.proofs.Canonical.{within, in_use}
use Rattle.node_store.specs.declared.edge.NodeId.{NodeId}
use Rattle.fdd_apply.specs.declared.pair.Pair.{Pair}
use Rattle.fdd_apply.specs.declared.results.Results.{Results}
use Rattle.fdd_apply.specs.Applied.{IsApplied}
use Rattle.fdd_apply.specs.Results.{AreResults}

pub applied : (f : ℕ → ℕ → ℕ) (old new : List Node) (pair : Pair) (c : NodeId) → Grows old new → IsApplied f old pair c → IsApplied f new pair c
applied f old new pair c g l =
    let a = pair.left.0 in
    let b = pair.right.0 in
    let at_a = within old a l.within in
    let at_b = in_use old b _ l.within l.beside in
    let at_c = in_use old c.0 _ l.within l.level in
    let same = growth.level_kept old new a g at_a in record {
      within = subst IsLevel (sym same) l.within;
      beside = growth.level_kept old new b g at_b ∙ l.beside ∙ sym same;
      level = growth.level_kept old new c.0 g at_c ∙ l.level ∙ sym same;
      answers = λ values h.
          g.answers c.0 values at_c
          ∙ l.answers values (subst (λ k. AreValues k values) same h)
          ∙ sym (ap (λ x. f x (answer new b values)) (g.answers a values at_a) ∙ ap (λ y. f (answer old a values) y) (g.answers b values at_b));
    }

pub results : (f : ℕ → ℕ → ℕ) (old new : List Node) (m : Results) → Grows old new → AreResults f old m → AreResults f new m
results f old new m g is pair c h = applied f old new pair c g (is pair c h)

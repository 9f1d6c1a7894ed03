-- What is found of the root's cost in an order holds of the rules that decide as the root answers.
use Rattle.std.proofs.Common.{◌≡◌, ℕ, List, ◌+◌, ◌≤◌, length, map, ap, sym, ◌∙◌, subst}
use Rattle.std.proofs.lemmas.List.Elements.{recursion_from_All}
use Rattle.field_boxes.specs.declared.rule.Rule as code
use Rattle.field_boxes.specs.Headline.Classifier.{Rule}
use Rattle.field_boxes.specs.NamedRules.{IsNumberedBy, named_rules}
use Rattle.field_boxes.specs.Names.{name_at}
use Rattle.node_store.specs.Levels.{IsLevel}
use Rattle.node_store.specs.Diagram.{Node, level_of}
use Rattle.node_store.specs.Store.{Grows}
use Rattle.node_store.proofs.Canonical.{in_use}
use Rattle.node_store.proofs.Growth as growth
use Rattle.fdd_build.proofs.Decided.{named, within}
use Rattle.field_order.specs.declared.worth.Worth.{Worth}
use Rattle.field_order.specs.declared.worth.Worth.TheVariants.{Is, Above}
use Rattle.field_order.specs.Best.{AreNamesOf}
use Rattle.field_order.specs.Order.{place_of}
use Rattle.field_boxes.specs.Orders.{AreDistinct, IsOrder}
use Rattle.field_order.specs.Fronts.{Fits}
use Rattle.field_order.specs.Worth.{DecideBy, IsAtLeast, IsCostBy, IsRearranged, IsWorth, AreFields, answer_by, digits}
use Rattle.field_order.specs.Search.{DecidesAs, usual}
use Rattle.node_store.proofs.Orders.{order_level}
use Rattle.field_order.proofs.RuleCosts.{AnswersRules}
use Rattle.field_order.proofs.Rearranged.{rearranged, place_digits, usual_order}
use Rattle.field_order.proofs.Trials.{Holds}
use Rattle.field_order.proofs.Values.{values, rearranged_source}

pub usual_level : IsLevel usual
usual_level = order_level usual usual_order

-- the rules decide as the node that was made of them
pub decides : (nodes : List Node) (root : ℕ) (rules : List code.Rule) (names : List (List ℕ)) → AreNamesOf rules names → AnswersRules nodes usual root rules → DecidesAs nodes usual root (named_rules names rules)
decides nodes root rules names are answers =
    let all = recursion_from_All (IsNumberedBy names) rules are.numbered in
    let low : (h : ℕ → ℕ) → Fits h → answer_by nodes usual root h ≤ length names =
    λ h fits. subst (λ n. n ≤ length names) (sym (answers (map h usual) (values h usual fits))) (within usual names rules (map h usual) all) in record {
      name = name_at names;
      apart = λ h k fits fit e. are.distinct (answer_by nodes usual root h) (answer_by nodes usual root k) (low h fits) (low k fit) e;
      decide = λ h fits. named usual names rules (map h usual) all ∙ ap (name_at names) (sym (answers (map h usual) (values h usual fits)));
    }

pub later : (old new : List Node) (root : ℕ) (rules : List (Rule (List ℕ))) → Grows old new → level_of old root ≡ usual → DecidesAs old usual root rules → DecidesAs new usual root rules
later old new root rules g at d =
    let same : (h : ℕ → ℕ) → answer_by new usual root h ≡ answer_by old usual root h = λ h. g.answers root (map h usual) (in_use old root usual usual_level at) in record {
      name = d.name;
      apart = λ h k fits fit e. same h ∙ d.apart h k fits fit (ap d.name (sym (same h)) ∙ e ∙ ap d.name (same k)) ∙ sym (same k);
      decide = λ h fits. d.decide h fits ∙ ap d.name (sym (same h));
    }

pub level_later : (old new : List Node) (root : ℕ) → Grows old new → level_of old root ≡ usual → level_of new root ≡ usual
level_later old new root g at = growth.level_kept old new root g (in_use old root usual usual_level at) ∙ at

module _ (nodes : List Node) (root place : ℕ) (order level : List ℕ) (same : level ≡ usual) (at : level_of nodes root ≡ usual) (is : IsOrder order) (here : place_of order ≡ place) where
  digits_are : digits (length level) place ≡ order
  digits_are =
      ap (λ l. digits (length l) place) same ∙ ap (digits 5) (sym here) ∙ subst (λ k. digits k (place_of order) ≡ order) is.five (place_digits order is.fields)

  -- the digits at an order's place are to be read from the root
  pub fields : AreFields nodes level (digits (length level) place) root
  fields = record {
    at = at ∙ sym same;
    apart = subst AreDistinct (sym same) usual_order.distinct;
    rearranged = subst (λ o. IsRearranged o level) (sym digits_are) (subst (IsRearranged order) (sym same) (rearranged order is));
  }

  module _ (rules : List (Rule (List ℕ))) (d : DecidesAs nodes usual root rules) where
    decide : DecideBy order (answer_by nodes usual root) d.name rules
    decide h fits = rearranged_source order usual h rules (rearranged order is) usual_order.distinct ∙ d.decide h fits

    read : (P : List ℕ → ((ℕ → ℕ) → ℕ) → Type 0) → P (digits (length level) place) (answer_by nodes (level_of nodes root) root) → P order (answer_by nodes usual root)
    read P h = subst (λ l. P order (answer_by nodes l root)) at (subst (λ o. P o (answer_by nodes (level_of nodes root) root)) digits_are h)

    pub holds : (worth : Worth) → IsWorth nodes (digits (length level) place) root worth → Holds rules order worth
    holds (Is n) w = read (λ o g. IsCostBy o g n) w.least d.name rules d.apart decide
    holds (Above n) w = read (λ o g. IsAtLeast o g (n + 1)) w d.name rules d.apart decide

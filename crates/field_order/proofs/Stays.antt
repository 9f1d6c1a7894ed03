-- What was found of old numbers stays when a store grows.
use Rattle.std.proofs.Common.{◌≡◌, ◌∷◌, ℕ, List, ◌+◌, ◌<◌, ◌≤◌, ◌^◌, length, map, ap, arith, sym, ◌∙◌, subst}
use Rattle.std.specs.List.{All, AllZip}
use Rattle.std.proofs.lemmas.List.{length-append}
use Rattle.node_store.specs.declared.edge.NodeId.{NodeId}
use Rattle.node_store.specs.declared.edge.Edge.{Edge}
use Rattle.node_store.specs.Levels.{HasField, IsLevel, bits_of}
use Rattle.node_store.specs.Diagram.{Node, level_of, answer}
use Rattle.node_store.specs.Store.{Grows}
use Rattle.node_store.proofs.Growth as growth
use Rattle.node_store.proofs.Canonical.{within, in_use, is_level}
use Rattle.field_order.specs.declared.fronts.Fronts.{Fronts}
use Rattle.field_order.specs.declared.worth.Worth.{Worth}
use Rattle.field_order.specs.declared.worth.Worth.TheVariants.{Is, Above}
use Rattle.field_order.specs.declared.worth.Valued.{Valued}
use Rattle.field_order.specs.declared.worth.Worths.{Worths}
use Rattle.field_order.specs.Fronts.{without, IsFront, IsFrontEdge, AreFronts}
use Rattle.field_order.specs.Worth.{IsExact, IsWorth, IsKept, AreWorths, AreFields, answer_by, digits}
use Rattle.field_order.proofs.Parts.{cost_alike, least_alike}
use Rattle.field_order.proofs.Zipped as zipped

module _ (old new : List Node) (g : Grows old new) where
  pub level : (id : ℕ) → id < length old → level_of new id ≡ level_of old id
  level id used = growth.level_kept old new id g used

  pub front : (id f F : ℕ) → IsFront old id f F → IsFront new id f F
  front id f F is =
      let used = within old id is.within in
      let same = level id used in
      let made = in_use old F (f ∷ without f (level_of old id)) (is_level (f ∷ without f (level_of old id)) is.field) is.level in record {
        within = subst IsLevel (sym same) is.within;
        field = subst (λ l. HasField (f ∷ without f l)) (sym same) is.field;
        level = level F made ∙ is.level ∙ ap (λ l. f ∷ without f l) (sym same);
        answers = λ h fits.
            g.answers F (map h (f ∷ without f (level_of new id))) made
            ∙ ap (λ l. answer old F (map h (f ∷ without f l))) same
            ∙ is.answers h fits
            ∙ ap (λ l. answer old id (map h l)) (sym same)
            ∙ sym (g.answers id (map h (level_of new id)) used);
      }

  pub fronts : (found : Fronts) → AreFronts old found → AreFronts new found
  fronts found are asked made h = front asked.id.0 asked.field made.0 (are asked made h)

  pub front_edges : (f : ℕ) (es ds : List Edge) → AllZip (IsFrontEdge old f) es ds → AllZip (IsFrontEdge new f) es ds
  front_edges f es ds z = zipped.weaker (IsFrontEdge old f) (IsFrontEdge new f) es ds (λ k e d at is. (is.0, front e.to.0 f d.to.0 is.1)) z

  same_answers : (id : ℕ) → id < length old → (h : ℕ → ℕ) → answer_by new (level_of new id) id h ≡ answer_by old (level_of old id) id h
  same_answers id used h = g.answers id (map h (level_of new id)) used ∙ ap (λ l. answer old id (map h l)) (level id used)

  pub exact : (order : List ℕ) (id n : ℕ) → id < length old → IsExact old order id n → IsExact new order id n
  exact order id n used is = record {
    least = cost_alike order (answer_by old (level_of old id) id) (answer_by new (level_of new id) id) (λ h fits. same_answers id used h) n is.least;
    few = subst (λ l. n ≤ 2 ^ bits_of l) (sym (level id used)) is.few;
  }

  pub worth : (order : List ℕ) (id : ℕ) (w : Worth) → id < length old → IsWorth old order id w → IsWorth new order id w
  worth order id (Is n) used is = exact order id n used is
  worth order id (Above n) used is = least_alike order (answer_by old (level_of old id) id) (answer_by new (level_of new id) id) (λ h fits. same_answers id used h) (n + 1) is

  pub kept : (key : Valued) (w : Worth) → IsKept old key w → IsKept new key w
  kept key w is = record {
    number = let n = ap (λ (nodes : List Node). length nodes) g.gained.1 ∙ length-append old g.gained.0 in omega (arith, is.number, n);
    worth_is = subst (λ l. IsWorth new (digits (length l) key.order) key.id.0 w) (sym (level key.id.0 is.number))
        (worth (digits (length (level_of old key.id.0)) key.order) key.id.0 w is.number is.worth_is);
  }

  pub worths : (found : Worths) → AreWorths old found → AreWorths new found
  worths found are key w h = kept key w (are key w h)

  pub exacts : (order : List ℕ) (ids : List NodeId) (ns : List ℕ) → All (λ (c : NodeId). c.0 < length old) ids → AllZip (λ (c : NodeId) n. IsExact old order c.0 n) ids ns →
      AllZip (λ (c : NodeId) n. IsExact new order c.0 n) ids ns
  exacts order ids ns used z =
      zipped.weaker (λ (c : NodeId) n. IsExact old order c.0 n) (λ (c : NodeId) n. IsExact new order c.0 n) ids ns
      (λ k c n at is. exact order c.0 n (zipped.all_at (λ (x : NodeId). x.0 < length old) ids k c used at) is) z

  pub fields : (l order : List ℕ) (id : ℕ) → IsLevel l → AreFields old l order id → AreFields new l order id
  fields l order id is are = record {
    at = level id (in_use old id l is are.at) ∙ are.at;
    apart = are.apart;
    rearranged = are.rearranged;
  }

-- What nodes cost together, as far as it is known.
use Rattle.std.proofs.Common.{◌≡◌, ◌∷◌, ◌++◌, ℕ, List, [], ◌+◌, ◌-◌, ◌<◌, ◌≤◌, length, get_or, take, ap, arith, refl, ◌∙◌}
use Rattle.std.specs.Prelude.{suc, zero, sum}
use Rattle.std.specs.List.{All, AllZip}
use Rattle.std.proofs.lemmas.List.Elements.{All-take, All-weaker}
use Rattle.std.proofs.lemmas.List.Sums.{sum_by-cons, sum_by-append}
use Rattle.node_store.specs.declared.edge.NodeId.{NodeId}
use Rattle.node_store.specs.Diagram.{Node, level_of}
use Rattle.node_store.specs.Levels.{IsLevel}
use Rattle.node_store.specs.Store.{Grows}
use Rattle.node_store.proofs.Canonical.{in_use}
use Rattle.node_store.proofs.Growth as growth
use Rattle.field_order.specs.Worth.{IsAtLeast, IsExact, AreFields, answer_by}
use Rattle.field_order.proofs.Stays as stays
use Rattle.field_order.proofs.Parts.{bound_of, at_least_one}

module _ (nodes : List Node) (order : List ℕ) where
  abbrev pub IsLow : NodeId → ℕ → Type 0
  IsLow c n = IsAtLeast order (answer_by nodes (level_of nodes c.0) c.0) n

  abbrev pub IsCost : NodeId → ℕ → Type 0
  IsCost c n = IsExact nodes order c.0 n

  abbrev pub AreAbove : List NodeId → ℕ → Type 0
  AreAbove ids cap = (lows : List ℕ) × AllZip IsLow ids lows × (cap < sum lows)

  -- each costs one entry at least
  ones : (ids : List NodeId) → (lows : List ℕ) × AllZip IsLow ids lows × (sum lows ≡ length ids)
  ones [] = ([], tt, refl)
  ones (c ∷ ids) = let rest = ones ids in
      (1 ∷ rest.0, (at_least_one order (answer_by nodes (level_of nodes c.0) c.0), rest.1), (let e = sum_by-cons (λ x. x) 1 rest.0 in omega (arith, e, rest.2)))

  -- the costs so far, and one entry of each that is left
  known : (ids : List NodeId) (i : ℕ) (weights : List ℕ) → AllZip IsCost (take i ids) weights → (lows : List ℕ) × AllZip IsLow ids lows × (sum lows ≡ sum weights + (length ids - i))
  known [] zero [] z = ([], tt, omega arith)
  known [] (suc i) [] z = ([], tt, omega arith)
  known (c ∷ ids) zero [] z = let all = ones (c ∷ ids) in (all.0, all.1, omega (arith, all.2))
  known (c ∷ ids) (suc i) (n ∷ weights) z =
      let rest = known ids i weights z.1 in (
        n ∷ rest.0,
        (bound_of order (answer_by nodes (level_of nodes c.0) c.0) n z.0.least, rest.1),
        (let e = sum_by-cons (λ x. x) n rest.0 in let d = sum_by-cons (λ x. x) n weights in omega (arith, e, d, rest.2)),
      )
  known ids i weights z = absurd assumption

  -- one that costs more than is left
  beyond : (ids : List NodeId) (i m : ℕ) (d : NodeId) (weights : List ℕ) → AllZip IsCost (take i ids) weights → i < length ids → IsLow (get_or ids i d) m →
      (lows : List ℕ) × AllZip IsLow ids lows × (sum lows + 1 ≡ sum weights + (length ids - i) + m)
  beyond [] i m d weights z less low = absurd (omega (arith, less))
  beyond (c ∷ ids) zero m d [] z less low = let rest = ones ids in
      (m ∷ rest.0, (low, rest.1), (let e = sum_by-cons (λ x. x) m rest.0 in omega (arith, e, rest.2)))
  beyond (c ∷ ids) (suc i) m d (n ∷ weights) z less low =
      let rest = beyond ids i m d weights z.1 (omega (arith, less)) low in (
        n ∷ rest.0,
        (bound_of order (answer_by nodes (level_of nodes c.0) c.0) n z.0.least, rest.1),
        (let e = sum_by-cons (λ x. x) n rest.0 in let k = sum_by-cons (λ x. x) n weights in omega (arith, e, k, rest.2)),
      )
  beyond ids i m d weights z less low = absurd assumption

  -- the cap is reached by those so far
  pub reached : (ids : List NodeId) (i others cap : ℕ) (weights : List ℕ) → AllZip IsCost (take i ids) weights → i < length ids → others ≤ sum weights + (length ids - i) - 1 → cap ≤ others → AreAbove ids cap
  reached ids i others cap weights z less low high = let k = known ids i weights z in (k.0, k.1, omega (arith, k.2, less, low, high))

  pub reached_all : (ids : List NodeId) (i others cap : ℕ) (weights : List ℕ) → AllZip IsCost (take i ids) weights → others ≤ sum weights + (length ids - i) - 1 → cap < others → AreAbove ids cap
  reached_all ids i others cap weights z low high = let k = known ids i weights z in (k.0, k.1, omega (arith, k.2, low, high))

  pub passed : (ids : List NodeId) (i others cap m : ℕ) (d : NodeId) (weights : List ℕ) → AllZip IsCost (take i ids) weights → i < length ids → others ≤ sum weights + (length ids - i) - 1 → others < cap →
      cap - others ≤ m → IsLow (get_or ids i d) (m + 1) → AreAbove ids cap
  passed ids i others cap m d weights z less low high far more = let k = beyond ids i (m + 1) d weights z less more in (k.0, k.1, omega (arith, k.2, less, low, high, far))

  -- one more is known
  pub others_more : (others cost n i now : ℕ) (weights more : List ℕ) → i < n → others ≤ sum weights + (n - i) - 1 → now ≤ others + cost - 1 → more ≡ weights ++ cost ∷ [] → now ≤ sum more + (n - (i + 1)) - 1
  others_more others cost n i now weights more less low is pushed =
      let total : sum more ≡ sum weights + cost = ap sum pushed ∙ sum_by-append (λ x. x) weights (cost ∷ []) ∙ ap (λ m. sum weights + m) (let e = sum_by-cons (λ x. x) cost [] in let one : sum (cost ∷ []) ≡ cost = omega (arith, e) in one) in
      omega (arith, total, low, is, less)

-- what nodes cost stays when the store grows
pub stay : (first old new : List Node) (level order : List ℕ) (ids : List NodeId) (i : ℕ) (weights : List ℕ) → IsLevel level → Grows first old → Grows old new →
    All (λ (c : NodeId). AreFields first level order c.0) ids → AllZip (λ (c : NodeId) n. IsExact old order c.0 n) (take i ids) weights →
    AllZip (λ (c : NodeId) n. IsExact new order c.0 n) (take i ids) weights
stay first old new level order ids i weights is g k all z =
    stays.exacts old new k order (take i ids) weights
    (All-take (λ (c : NodeId). c.0 < length old) i ids
    (All-weaker (λ (c : NodeId). AreFields first level order c.0) (λ (c : NodeId). c.0 < length old)
    (λ c fields. in_use old c.0 level is (growth.level_kept first old c.0 g (in_use first c.0 level is fields.at) ∙ fields.at)) ids all)) z

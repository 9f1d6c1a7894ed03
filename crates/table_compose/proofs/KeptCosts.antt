-- Costs that are kept of nodes: one more, more room, and a store that grows.
use Rattle.std.proofs.Common.{◌≡◌, ◌≢◌, ◌∷◌, ℕ, zero, suc, List, [], ◌<◌, ◌≤◌, ◌+◌, ◌^◌, Bool, true, length, ap, arith, refl, sym, ◌∙◌, subst, inl, inr, set}
use Rattle.std.proofs.lemmas.Option.{slice_get-get_or}
use Rattle.std.specs.Prelude.{All, Some, slice_get, slice_index}
use Rattle.std.proofs.lemmas.Bool.{cases_eq}
use Rattle.std.proofs.lemmas.List.Elements.{All-weaker}
use Rattle.std.proofs.lemmas.List.{get_or-set_same, get_or-set_other, length-append, length-set}
use Rattle.node_store.specs.declared.edge.Edge.{Edge}
use Rattle.node_store.specs.Diagram.{Node, level_of, edges_of}
use Rattle.node_store.specs.Levels.{bits_of}
use Rattle.node_store.specs.Store.{Grows}
use Rattle.node_store.proofs.Growth.{level_kept}
use Rattle.table_compose.specs.Diagrams.{IsCostOf}
use Rattle.table_compose.specs.Plans.{IsMarked, IsCosted}
use Rattle.table_compose.specs.declared.costs.Costs.{Costs}
use Rattle.table_compose.specs.Costs.{IsKeptCost, AreKept, AreCostsOf, HasRoom, LearnsCosts}
use Rattle.table_compose.specs.Asked.{AreChildrenCosted}

-- a place that was set, and another
pub set_here : {X : Type 0} (xs : List X) (i : ℕ) (x : X) → i < length xs → slice_get (set xs i x) i ≡ Some x
set_here xs i x h = slice_get-get_or (set xs i x) i x (omega (arith, length-set xs i x, h)) ∙ ap Some (get_or-set_same xs i x x h)

pub set_elsewhere : {X : Type 0} (xs : List X) (i k : ℕ) (x : X) → k ≢ i → slice_get (set xs i x) k ≡ slice_get xs k
set_elsewhere [] i k x h = refl
set_elsewhere (y ∷ xs) zero zero x h = absurd (h refl)
set_elsewhere (y ∷ xs) zero (suc k) x h = refl
set_elsewhere (y ∷ xs) (suc i) zero x h = refl
set_elsewhere (y ∷ xs) (suc i) (suc k) x h = set_elsewhere xs i k x (λ e. h (ap suc e))

-- a mark stays when another is set
pub still_marked : (known : List Bool) (i k : ℕ) → i < length known → IsMarked known k → IsMarked (set known i true) k
still_marked known i k room h = elim (cases_eq k i) [
  | inl e ↦ subst (IsMarked (set known i true)) (sym e) (set_here known i true room)
  | inr e ↦ set_elsewhere known i k true e ∙ h
]

module _ (nodes : List Node) (known : List Bool) (costs : List ℕ) (id cost : ℕ) (all : AreKept nodes known costs) (number : id < length nodes) (room : id < length costs) (costed : IsCosted nodes id cost) where
  here : IsKeptCost nodes (set costs id cost) id
  here = record {
    number = number;
    room = let n = length-set costs id cost in omega (arith, room, n);
    costed = subst (IsCosted nodes id) (sym (get_or-set_same costs id cost 0 room)) costed;
  }

  elsewhere : (k : ℕ) → k ≢ id → IsKeptCost nodes costs k → IsKeptCost nodes (set costs id cost) k
  elsewhere k other h = record {
    number = h.number;
    room = let n = length-set costs id cost in omega (arith, h.room, n);
    costed = subst (IsCosted nodes k) (sym (get_or-set_other costs id k cost 0 other)) h.costed;
  }

  -- one more cost is kept
  pub kept_more : AreKept nodes (set known id true) (set costs id cost)
  kept_more k marked = elim (cases_eq k id) [
    | inl e ↦ subst (IsKeptCost nodes (set costs id cost)) (sym e) here
    | inr e ↦ elsewhere k e (all k (sym (set_elsewhere known id k true e) ∙ marked))
  ]

-- what a node costs stays when the store grows
pub cost_stays : (old new : List Node) (fields : List ℕ) (id n : ℕ) → Grows old new → id < length old → IsCostOf old fields id n → IsCostOf new fields id n
cost_stays old new fields id n g less cost = λ name R apart decide.
    cost name R
    (λ a b ok okay e. sym (g.answers id a less) ∙ apart a b ok okay (ap name (g.answers id a less) ∙ e ∙ sym (ap name (g.answers id b less))) ∙ g.answers id b less)
    (λ values ok. decide values ok ∙ ap name (g.answers id values less))

pub costed_stays : (old new : List Node) (id n : ℕ) → Grows old new → id < length old → IsCosted old id n → IsCosted new id n
costed_stays old new id n g less c =
    let same = sym (level_kept old new id g less) in record {
      least = subst (λ level. IsCostOf new level id n) same (cost_stays old new (level_of old id) id n g less c.least);
      few = subst (λ level. n ≤ 2 ^ bits_of level) same c.few;
    }

pub used_later : (old new : List Node) (id : ℕ) → Grows old new → id < length old → id < length new
used_later old new id g h = let n = ap length g.gained.1 ∙ length-append old g.gained.0 in omega (arith, n, h)

-- what is kept stays when the store grows
pub kept_while_growing : (old new : List Node) (known : List Bool) (costs : List ℕ) → Grows old new → AreKept old known costs → AreKept new known costs
kept_while_growing old new known costs g all id h =
    let k = all id h in record {
      number = used_later old new id g k.number;
      room = k.room;
      costed = costed_stays old new id (slice_index costs id) g k.number k.costed;
    }

-- children that are known have their costs
pub children_costed : (nodes : List Node) (known : List Bool) (costs : List ℕ) (id : ℕ) → AreKept nodes known costs → All (λ (e : Edge). IsMarked known e.to.0) (edges_of nodes id) → AreChildrenCosted nodes costs id
children_costed nodes known costs id all h =
    All-weaker (λ (e : Edge). IsMarked known e.to.0) (λ (e : Edge). IsCosted nodes e.to.0 (slice_index costs e.to.0)) (λ e m. (all e.to.0 m).costed) (edges_of nodes id) h

-- nothing is learnt
pub learns_none : (nodes : List Node) (costs : Costs) → AreCostsOf nodes costs → LearnsCosts nodes costs costs
learns_none nodes costs are = record { costs = are; earlier = λ k mark. mark; room = λ count h. h }

-- what was learnt, and more
pub learns_twice : (nodes : List Node) (first second third : Costs) → LearnsCosts nodes first second → LearnsCosts nodes second third → LearnsCosts nodes first third
learns_twice nodes first second third a b = record {
  costs = b.costs;
  earlier = λ k mark. b.earlier k (a.earlier k mark);
  room = λ count h. b.room count (a.room count h);
}

pub less_room : (costs : Costs) (low most : ℕ) → low ≤ most → HasRoom costs most → HasRoom costs low
less_room costs low most le h = record { known = omega (arith, h.known, le); numbers = omega (arith, h.numbers, le); places = omega (arith, h.places, le) }

-- one more node is known, with its cost
pub learns_one : (nodes : List Node) (old new : Costs) (id cost : ℕ) → AreCostsOf nodes old → id < length nodes → HasRoom old (id + 1) → IsCosted nodes id cost →
    new.known.items ≡ set old.known.items id true → new.numbers.items ≡ set old.numbers.items id cost → length new.labels.children.places.items ≡ length old.labels.children.places.items → LearnsCosts nodes old new
learns_one nodes old new id cost are number room costed known numbers places =
    let known_room : id < length old.known.items = let h = room.known in omega (arith, h) in
    let numbers_room : id < length old.numbers.items = let h = room.numbers in omega (arith, h) in record {
      costs =
          subst (λ ks. AreKept nodes ks new.numbers.items) (sym known) (subst (λ ns. AreKept nodes (set old.known.items id true) ns) (sym numbers)
          (kept_more nodes old.known.items old.numbers.items id cost are number numbers_room costed));
      earlier = λ k mark. subst (λ ks. IsMarked ks k) (sym known) (still_marked old.known.items id k known_room mark);
      room = λ count h. record {
        known = let a = h.known in let n = ap length known ∙ length-set old.known.items id true in omega (arith, a, n);
        numbers = let a = h.numbers in let n = ap length numbers ∙ length-set old.numbers.items id cost in omega (arith, a, n);
        places = let a = h.places in omega (arith, a, places);
      };
    }

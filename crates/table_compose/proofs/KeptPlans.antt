-- Plans that are kept of nodes: one more, more room, and a store that grows.
use Rattle.std.proofs.Common.{◌≡◌, ◌≢◌, ◌∷◌, ℕ, List, [], ◌<◌, ◌≤◌, ◌+◌, Bool, true, false, length, ap, arith, refl, sym, ◌∙◌, subst, inl, inr, set}
use Rattle.std.specs.Prelude.{All, Some, slice_get, slice_index, slice_index_or}
use Rattle.std.specs.Global.{Vec}
use Rattle.std.specs.Option.{option_map_or}
use Rattle.std.proofs.lemmas.Bool.{cases_eq, true≢false}
use Rattle.std.proofs.lemmas.Option.{get_or_from_slice_get}
use Rattle.std.proofs.lemmas.List.{get_or-set_same, get_or-set_other, length-set}
use Rattle.std.proofs.lemmas.List.Elements.{All-head, All-tail, All-weaker}
use Rattle.std.proofs.lemmas.List.Sums.{sum_by-cons}
use Rattle.node_store.specs.declared.edge.Edge.{Edge}
use Rattle.node_store.specs.Edges.{child_of}
use Rattle.node_store.specs.Levels.{HasField, top_of}
use Rattle.node_store.specs.Diagram.{Node, node_edges, level_of, edges_of}
use Rattle.node_store.specs.Store.{IsStore, Grows}
use Rattle.node_store.proofs.Growth.{kept_place, level_kept}
use Rattle.prefix_min.specs.declared.row.PrefixRow.{PrefixRow}
use Rattle.prefix_min.specs.PrefixList.{IsRight, weight}
use Rattle.table_compose.specs.declared.diagram_plans.Plans.{Plans}
use Rattle.table_compose.specs.declared.row.Row.{Row}
use Rattle.table_compose.specs.Rows.{rows_of, rows_at}
use Rattle.table_compose.specs.Asked.{AreChildrenCosted}
use Rattle.table_compose.specs.Costs.{AreKept, IsKeptCost}
use Rattle.table_compose.specs.Plans.{IsMarked, AreClosedFrom, IsChild, IsCosted, IsListOf, IsPlanned, IsKeptPlan, ArePlansOf, KeepsPlans, HasRoom, LearnsBelow, width_of}
use Rattle.table_compose.proofs.Later.{child_older, child_marked, inner_of}
use Rattle.table_compose.proofs.KeptCosts.{set_here, set_elsewhere, still_marked, costed_stays, used_later}

-- what is kept, by its lists
abbrev pub AreKeptPlans : List Node → List Bool → List ℕ → List (Vec Row) → Type 0
AreKeptPlans nodes known costs lists = (id : ℕ) → IsMarked known id → IsKeptPlan nodes costs lists id

-- rows that don't have a label weigh the same, whatever it weighs
weight_set : (costs : List ℕ) (id cost : ℕ) (rows : List PrefixRow) → All (λ r. r.label ≢ id) rows → weight (set costs id cost) rows ≡ weight costs rows
weight_set costs id cost [] h = refl
weight_set costs id cost (r ∷ rows) h =
    let a = sum_by-cons (λ x. slice_index (set costs id cost) x.label) r rows in
    let b = sum_by-cons (λ x. slice_index costs x.label) r rows in
    let e = get_or-set_other costs id r.label cost 0 (All-head (λ x. x.label ≢ id) r rows h) in
    let i = weight_set costs id cost rows (All-tail (λ x. x.label ≢ id) r rows h) in
    omega (arith, a, b, e, i)

-- a node is planned alike when another's cost is set, to which none of its rows leads
planned_set : (nodes : List Node) (costs : List ℕ) (k id cost : ℕ) (rows : List PrefixRow) (n : ℕ) → IsPlanned nodes costs k rows n →
    (HasField (level_of nodes k) → (child : ℕ) → IsChild nodes k child → child ≢ id) → IsPlanned nodes (set costs id cost) k rows n
planned_set nodes costs k id cost rows n p other = record {
  costed = p.costed;
  list = p.list;
  sum = λ has. weight_set costs id cost rows (All-weaker (λ r. IsChild nodes k r.label) (λ r. r.label ≢ id) (λ r c. other has r.label c) rows (p.list has).children) ∙ p.sum has;
  leaf = p.leaf;
}

-- the rows of a list that was set, and of another
rows_here : (lists : List (Vec Row)) (id : ℕ) (rows : Vec Row) → id < length lists → rows_at (set lists id rows) id ≡ rows_of rows.items
rows_here lists id rows room = ap (λ o. option_map_or (λ l. rows_of l.items) o []) (set_here lists id rows room)

rows_elsewhere : (lists : List (Vec Row)) (id k : ℕ) (rows : Vec Row) → k ≢ id → rows_at (set lists id rows) k ≡ rows_at lists k
rows_elsewhere lists id k rows other = ap (λ o. option_map_or (λ l. rows_of l.items) o []) (set_elsewhere lists id k rows other)

module _ (nodes : List Node) (known : List Bool) (costs : List ℕ) (lists : List (Vec Row)) (id cost : ℕ) (rows : Vec Row) (s : IsStore nodes)
    (closed : AreClosedFrom nodes 0 known) (kept : AreKeptPlans nodes known costs lists) (unknown : slice_get known id ≢ Some true)
    (number : id < length nodes) (in_known : id < length known) (in_costs : id < length costs) (in_lists : id < length lists)
    (children : All (λ (e : Edge). IsMarked known e.to.0) (edges_of nodes id)) (planned : IsPlanned nodes costs id (rows_of rows.items) cost) where
  -- the others are known already
  pub other_known : (k : ℕ) → IsMarked known k → k ≢ id
  other_known k mark e = unknown (subst (IsMarked known) e mark)

  marked_before : (k : ℕ) → k ≢ id → IsMarked (set known id true) k → IsMarked known k
  marked_before k other mark = sym (set_elsewhere known id k true other) ∙ mark

  stay : (k : ℕ) → All (λ (e : Edge). IsMarked known e.to.0) (edges_of nodes k) → All (λ (e : Edge). IsMarked (set known id true) e.to.0) (edges_of nodes k)
  stay k h = All-weaker (λ (e : Edge). IsMarked known e.to.0) (λ (e : Edge). IsMarked (set known id true) e.to.0) (λ e m. still_marked known id e.to.0 in_known m) (edges_of nodes k) h

  pub closed_more : AreClosedFrom nodes 0 (set known id true)
  closed_more k low mark = elim (cases_eq k id) [
    | inl e ↦ subst (λ j. All (λ (x : Edge). IsMarked (set known id true) x.to.0) (edges_of nodes j)) (sym e) (stay id children)
    | inr e ↦ stay k (closed k low (marked_before k e mark))
  ]

  here : IsKeptPlan nodes (set costs id cost) (set lists id rows) id
  here = record {
    number = number;
    room = let n = length-set costs id cost in omega (arith, in_costs, n);
    listed = let n = length-set lists id rows in omega (arith, in_lists, n);
    planned =
        subst (IsPlanned nodes (set costs id cost) id (rows_at (set lists id rows) id)) (sym (get_or-set_same costs id cost 0 in_costs))
        (subst (λ rs. IsPlanned nodes (set costs id cost) id rs cost) (sym (rows_here lists id rows in_lists))
        (planned_set nodes costs id id cost (rows_of rows.items) cost planned (λ has child c e. let low = (child_older nodes id child s has c).0 in absurd (omega (arith, low, e)))));
  }

  child_known : (k : ℕ) → IsMarked known k → HasField (level_of nodes k) → (child : ℕ) → IsChild nodes k child → child ≢ id
  child_known k mark has child c = other_known child (subst (IsMarked known) c.2 (child_marked nodes known k c.0 closed mark (inner_of nodes k s has) c.1))

  elsewhere : (k : ℕ) → k ≢ id → IsMarked known k → IsKeptPlan nodes (set costs id cost) (set lists id rows) k
  elsewhere k other mark = let h = kept k mark in record {
    number = h.number;
    room = let n = length-set costs id cost in omega (arith, h.room, n);
    listed = let n = length-set lists id rows in omega (arith, h.listed, n);
    planned =
        subst (IsPlanned nodes (set costs id cost) k (rows_at (set lists id rows) k)) (sym (get_or-set_other costs id k cost 0 other))
        (subst (λ rs. IsPlanned nodes (set costs id cost) k rs (slice_index costs k)) (sym (rows_elsewhere lists id k rows other))
        (planned_set nodes costs k id cost (rows_at lists k) (slice_index costs k) h.planned (child_known k mark)));
  }

  pub kept_plans : AreKeptPlans nodes (set known id true) (set costs id cost) (set lists id rows)
  kept_plans k mark = elim (cases_eq k id) [
    | inl e ↦ subst (IsKeptPlan nodes (set costs id cost) (set lists id rows)) (sym e) here
    | inr e ↦ elsewhere k e (marked_before k e mark)
  ]

-- plans that have these lists
pub plans_by : (nodes : List Node) (plans : Plans) (known : List Bool) (costs : List ℕ) (lists : List (Vec Row)) → plans.known.items ≡ known → plans.costs.items ≡ costs → plans.lists.items ≡ lists →
    AreClosedFrom nodes 0 known → AreKeptPlans nodes known costs lists → ArePlansOf nodes plans
plans_by nodes plans known costs lists same costs_are lists_are closed kept = record {
  closed = subst (AreClosedFrom nodes 0) (sym same) closed;
  kept = subst (λ ks. AreKeptPlans nodes ks plans.costs.items plans.lists.items) (sym same)
      (subst (λ cs. AreKeptPlans nodes known cs plans.lists.items) (sym costs_are) (subst (λ ls. AreKeptPlans nodes known costs ls) (sym lists_are) kept));
}

-- one more node is known, with its plan
pub learns_one : (nodes : List Node) (old new : Plans) (id cost : ℕ) (rows : Vec Row) → IsStore nodes → ArePlansOf nodes old → slice_get old.known.items id ≢ Some true → id < length nodes → HasRoom old (id + 1) →
    All (λ (e : Edge). IsMarked old.known.items e.to.0) (edges_of nodes id) → IsPlanned nodes old.costs.items id (rows_of rows.items) cost →
    new.known.items ≡ set old.known.items id true → new.costs.items ≡ set old.costs.items id cost → new.lists.items ≡ set old.lists.items id rows →
    length new.labels.children.places.items ≡ length old.labels.children.places.items → LearnsBelow nodes old new (id + 1)
learns_one nodes old new id cost rows s are unknown number room children planned known costs lists places =
    let known_room : id < length old.known.items = let h = room.known in omega (arith, h) in
    let costs_room : id < length old.costs.items = let h = room.costs in omega (arith, h) in
    let lists_room : id < length old.lists.items = let h = room.lists in omega (arith, h) in
    let other : (k : ℕ) → IsMarked old.known.items k → k ≢ id = λ k mark e. unknown (subst (IsMarked old.known.items) e mark) in record {
      plans = plans_by nodes new (set old.known.items id true) (set old.costs.items id cost) (set old.lists.items id rows) known costs lists
          (closed_more nodes old.known.items old.costs.items old.lists.items id cost rows s are.closed are.kept unknown number known_room costs_room lists_room children planned)
          (kept_plans nodes old.known.items old.costs.items old.lists.items id cost rows s are.closed are.kept unknown number known_room costs_room lists_room children planned);
      keeps = record {
        known = λ k mark. subst (λ ks. IsMarked ks k) (sym known) (still_marked old.known.items id k known_room mark);
        costs = λ k mark. ap (λ cs. slice_index cs k) costs ∙ get_or-set_other old.costs.items id k cost 0 (other k mark);
        lists = λ k mark. ap (λ ls. rows_at ls k) lists ∙ rows_elsewhere old.lists.items id k rows (other k mark);
      };
      above = λ k low. ap (λ ks. slice_get ks k) known ∙ set_elsewhere old.known.items id k true (λ e. absurd (omega (arith, low, e)));
      room = λ count h. record {
        known = let a = h.known in let n = ap length known ∙ length-set old.known.items id true in omega (arith, a, n);
        costs = let a = h.costs in let n = ap length costs ∙ length-set old.costs.items id cost in omega (arith, a, n);
        lists = let a = h.lists in let n = ap length lists ∙ length-set old.lists.items id rows in omega (arith, a, n);
        places = let a = h.places in omega (arith, a, places);
      };
    }

-- nothing is learnt
pub learns_none : (nodes : List Node) (plans : Plans) (most : ℕ) → ArePlansOf nodes plans → LearnsBelow nodes plans plans most
learns_none nodes plans most are = record {
  plans = are;
  keeps = record { known = λ k mark. mark; costs = λ k mark. refl; lists = λ k mark. refl };
  above = λ k low. refl;
  room = λ count h. h;
}

-- where only the labels are others, nothing is learnt
pub learns_labels : (nodes : List Node) (old new : Plans) (most : ℕ) → ArePlansOf nodes old → new.known.items ≡ old.known.items → new.costs.items ≡ old.costs.items → new.lists.items ≡ old.lists.items →
    length new.labels.children.places.items ≡ length old.labels.children.places.items → LearnsBelow nodes old new most
learns_labels nodes old new most are known costs lists places = record {
  plans = plans_by nodes new old.known.items old.costs.items old.lists.items known costs lists are.closed are.kept;
  keeps = record {
    known = λ k mark. subst (λ ks. IsMarked ks k) (sym known) mark;
    costs = λ k mark. ap (λ cs. slice_index cs k) costs;
    lists = λ k mark. ap (λ ls. rows_at ls k) lists;
  };
  above = λ k low. ap (λ ks. slice_get ks k) known;
  room = λ count h. record {
    known = let a = h.known in let n = ap length known in omega (arith, a, n);
    costs = let a = h.costs in let n = ap length costs in omega (arith, a, n);
    lists = let a = h.lists in let n = ap length lists in omega (arith, a, n);
    places = let a = h.places in omega (arith, a, places);
  };
}

pub keeps_twice : (first second third : Plans) → KeepsPlans first second → KeepsPlans second third → KeepsPlans first third
keeps_twice first second third a b = record {
  known = λ k mark. b.known k (a.known k mark);
  costs = λ k mark. b.costs k (a.known k mark) ∙ a.costs k mark;
  lists = λ k mark. b.lists k (a.known k mark) ∙ a.lists k mark;
}

-- what was learnt, and more
pub learns_twice : (nodes : List Node) (first second third : Plans) (low most : ℕ) → low ≤ most → LearnsBelow nodes first second most → LearnsBelow nodes second third low → LearnsBelow nodes first third most
learns_twice nodes first second third low most le a b = record {
  plans = b.plans;
  keeps = keeps_twice first second third a.keeps b.keeps;
  above = λ k high. b.above k (omega (arith, le, high)) ∙ a.above k high;
  room = λ count h. b.room count (a.room count h);
}

pub learns_most : (nodes : List Node) (old new : Plans) (low most : ℕ) → low ≤ most → LearnsBelow nodes old new low → LearnsBelow nodes old new most
learns_most nodes old new low most le a = record {
  plans = a.plans;
  keeps = a.keeps;
  above = λ k high. a.above k (omega (arith, le, high));
  room = a.room;
}

-- where a child is the last that was learnt, and where it is the node itself
pub learns_part : (nodes : List Node) (first second third : Plans) (child id : ℕ) → child < id → LearnsBelow nodes first second id → LearnsBelow nodes second third (child + 1) → LearnsBelow nodes first third (id + 1)
learns_part nodes first second third child id low a b =
    learns_most nodes first third id (id + 1) (omega arith) (learns_twice nodes first second third (child + 1) id (omega (arith, low)) a b)

pub learns_here : (nodes : List Node) (first second third : Plans) (id : ℕ) → LearnsBelow nodes first second id → LearnsBelow nodes second third (id + 1) → LearnsBelow nodes first third (id + 1)
learns_here nodes first second third id a b = learns_twice nodes first second third (id + 1) (id + 1) (omega arith) (learns_most nodes first second id (id + 1) (omega arith) a) b

pub less_room : (plans : Plans) (low most : ℕ) → low ≤ most → HasRoom plans most → HasRoom plans low
less_room plans low most le h = record { known = omega (arith, h.known, le); costs = omega (arith, h.costs, le); lists = omega (arith, h.lists, le); places = omega (arith, h.places, le) }

-- the children of a node that is planned cost what stands under their numbers
pub children_planned : (nodes : List Node) (plans : Plans) (id : ℕ) → ArePlansOf nodes plans → All (λ (e : Edge). IsMarked plans.known.items e.to.0) (edges_of nodes id) → AreChildrenCosted nodes plans.costs.items id
children_planned nodes plans id are h =
    All-weaker (λ (e : Edge). IsMarked plans.known.items e.to.0) (λ (e : Edge). IsCosted nodes e.to.0 (slice_index plans.costs.items e.to.0)) (λ e m. (are.kept e.to.0 m).planned.costed) (edges_of nodes id) h

edges_kept : (old new : List Node) (id : ℕ) → Grows old new → id < length old → edges_of new id ≡ edges_of old id
edges_kept old new id g less = ap node_edges (ap (λ nodes. slice_get nodes id) g.gained.1 ∙ kept_place old g.gained.0 id less)

module _ (old new : List Node) (g : Grows old new) where
  list_stays : (id : ℕ) (rows : List PrefixRow) → id < length old → IsListOf old id rows → IsListOf new id rows
  list_stays id rows less l =
      let level = sym (level_kept old new id g less) in
      let edges = sym (edges_kept old new id g less) in record {
        right = subst (λ k. IsRight (width_of k) (child_of (edges_of new id)) rows) level (subst (λ es. IsRight (width_of (level_of old id)) (child_of es) rows) edges l.right);
        order = l.order;
        children = All-weaker (λ r. IsChild old id r.label) (λ r. IsChild new id r.label) (λ r c. (c.0, subst (λ k. c.0 ≤ top_of k) level c.1, ap (λ es. child_of es c.0) (sym edges) ∙ c.2)) rows l.children;
      }

  planned_stays : (costs : List ℕ) (id : ℕ) (rows : List PrefixRow) (n : ℕ) → id < length old → IsPlanned old costs id rows n → IsPlanned new costs id rows n
  planned_stays costs id rows n less p =
      let level = level_kept old new id g less in record {
        costed = costed_stays old new id n g less p.costed;
        list = λ has. list_stays id rows less (p.list (subst HasField level has));
        sum = λ has. p.sum (subst HasField level has);
        leaf = λ none. p.leaf (sym level ∙ none);
      }

  -- plans stay when the store grows
  pub plans_while_growing : (plans : Plans) → ArePlansOf old plans → ArePlansOf new plans
  plans_while_growing plans are = record {
    closed = λ id low mark. subst (λ es. All (λ (e : Edge). IsMarked plans.known.items e.to.0) es) (sym (edges_kept old new id g (are.kept id mark).number)) (are.closed id low mark);
    kept = λ id mark. let k = are.kept id mark in record {
      number = used_later old new id g k.number;
      room = k.room;
      listed = k.listed;
      planned = planned_stays plans.costs.items id (rows_at plans.lists.items id) (slice_index plans.costs.items id) k.number k.planned;
    };
  }

-- a number whose mark isn't set, and stays so
pub not_marked : (old new : List Bool) (id : ℕ) (m : Bool) → slice_get new id ≡ slice_get old id → m ≡ slice_index_or old id m → m ≡ false → slice_get new id ≢ Some true
not_marked old new id m same is unset mark = true≢false (sym (is ∙ get_or_from_slice_get old id true m (sym same ∙ mark)) ∙ unset)

-- costs that begin with those of plans
pub costs_begun : (nodes : List Node) (plans : Plans) (known slice : List Bool) (numbers costs : List ℕ) → ArePlansOf nodes plans → known ≡ slice → slice ≡ plans.known.items → numbers ≡ costs → costs ≡ plans.costs.items →
    AreKept nodes known numbers
costs_begun nodes plans known slice numbers costs are same value here now id mark =
    let k = are.kept id (subst (λ ks. IsMarked ks id) (same ∙ value) mark) in
    subst (λ ns. IsKeptCost nodes ns id) (sym (here ∙ now)) (record { number = k.number; room = k.room; costed = k.planned.costed })

-- Plans with room for more nodes behind them.
use Rattle.std.proofs.Common.{◌≡◌, ◌∷◌, ◌++◌, ℕ, zero, suc, List, [], ◌<◌, Bool, true, false, length, ap, arith, refl, sym, ◌∙◌, subst}
use Rattle.std.specs.Prelude.{All, replicate, slice_index}
use Rattle.std.specs.Option.{option_map_or}
use Rattle.std.specs.Global.{Vec}
use Rattle.std.proofs.lemmas.Bool.{true≢false}
use Rattle.std.proofs.lemmas.Option.{none-some, same_Some, slice_get_within}
use Rattle.std.proofs.lemmas.List.{length-append, get_or_append_left}
use Rattle.std.proofs.lemmas.List.Elements.{All-head, All-tail, All-weaker}
use Rattle.std.proofs.lemmas.List.Sums.{sum_by-cons}
use Rattle.node_store.specs.declared.edge.Edge.{Edge}
use Rattle.node_store.specs.Levels.{HasField}
use Rattle.node_store.specs.Diagram.{Node, level_of, edges_of}
use Rattle.node_store.specs.Store.{IsStore}
use Rattle.node_store.proofs.Growth.{kept_place}
use Rattle.prefix_min.specs.declared.row.PrefixRow.{PrefixRow}
use Rattle.prefix_min.specs.PrefixList.{weight}
use Rattle.table_compose.specs.declared.diagram_plans.Plans.{Plans}
use Rattle.table_compose.specs.declared.row.Row.{Row}
use Rattle.table_compose.specs.Rows.{rows_of, rows_at}
use Rattle.table_compose.specs.Plans.{IsMarked, IsChild, IsPlanned, IsKeptPlan, ArePlansOf, HasMoreRoom, KeepsPlans}
use Rattle.table_compose.proofs.Later.{child_marked, inner_of}

none_marked : (n k : ℕ) → IsMarked (replicate n false) k → ⊥
none_marked zero k h = none-some true h
none_marked (suc n) zero h = true≢false (sym (same_Some false true h))
none_marked (suc n) (suc k) h = none_marked n k h

-- what is marked was marked before
pub marked_before : (old : List Bool) (n k : ℕ) → IsMarked (old ++ replicate n false) k → IsMarked old k
marked_before [] n k h = absurd (none_marked n k h)
marked_before (m ∷ old) n zero h = h
marked_before (m ∷ old) n (suc k) h = marked_before old n k h

pub marked_still : (old more : List Bool) (k : ℕ) → IsMarked old k → IsMarked (old ++ more) k
marked_still old more k h = kept_place old more k (slice_get_within old k true h) ∙ h

-- rows with old labels weigh the same
weight_kept : (costs more : List ℕ) (rows : List PrefixRow) → All (λ r. r.label < length costs) rows → weight (costs ++ more) rows ≡ weight costs rows
weight_kept costs more [] h = refl
weight_kept costs more (r ∷ rows) h =
    let a = sum_by-cons (λ x. slice_index (costs ++ more) x.label) r rows in
    let b = sum_by-cons (λ x. slice_index costs x.label) r rows in
    let e = get_or_append_left costs more 0 r.label (All-head (λ x. x.label < length costs) r rows h) in
    let i = weight_kept costs more rows (All-tail (λ x. x.label < length costs) r rows h) in
    omega (arith, a, b, e, i)

rows_kept : (lists more : List (Vec Row)) (k : ℕ) → k < length lists → rows_at (lists ++ more) k ≡ rows_at lists k
rows_kept lists more k less = ap (λ o. option_map_or (λ l. rows_of l.items) o []) (kept_place lists more k less)

module _ (nodes : List Node) (old new : Plans) (s : IsStore nodes) (are : ArePlansOf nodes old) (more : HasMoreRoom old new) where
  before : (k : ℕ) → IsMarked new.known.items k → IsMarked old.known.items k
  before k mark = marked_before old.known.items more.known.0 k (subst (λ ks. IsMarked ks k) more.known.1 mark)

  still : (k : ℕ) → IsMarked old.known.items k → IsMarked new.known.items k
  still k mark = subst (λ ks. IsMarked ks k) (sym more.known.1) (marked_still old.known.items (replicate more.known.0 false) k mark)

  same_cost : (k : ℕ) → IsMarked old.known.items k → slice_index new.costs.items k ≡ slice_index old.costs.items k
  same_cost k mark = ap (λ cs. slice_index cs k) more.costs.1 ∙ get_or_append_left old.costs.items (replicate more.costs.0 0) 0 k (are.kept k mark).room

  same_rows : (k : ℕ) → IsMarked old.known.items k → rows_at new.lists.items k ≡ rows_at old.lists.items k
  same_rows k mark = ap (λ ls. rows_at ls k) more.lists.1 ∙ rows_kept old.lists.items more.lists.0 k (are.kept k mark).listed

  sum_kept : (k : ℕ) (rows : List PrefixRow) (n : ℕ) → IsMarked old.known.items k → HasField (level_of nodes k) → IsPlanned nodes old.costs.items k rows n → weight new.costs.items rows ≡ n
  sum_kept k rows n mark has p =
      ap (λ cs. weight cs rows) more.costs.1
      ∙ weight_kept old.costs.items (replicate more.costs.0 0) rows
      (All-weaker (λ r. IsChild nodes k r.label) (λ r. r.label < length old.costs.items)
      (λ r c. (are.kept r.label (subst (IsMarked old.known.items) c.2 (child_marked nodes old.known.items k c.0 are.closed mark (inner_of nodes k s has) c.1))).room) rows (p.list has).children)
      ∙ p.sum has

  planned_kept : (k : ℕ) (rows : List PrefixRow) (n : ℕ) → IsMarked old.known.items k → IsPlanned nodes old.costs.items k rows n → IsPlanned nodes new.costs.items k rows n
  planned_kept k rows n mark p = record {
    costed = p.costed;
    list = p.list;
    sum = λ has. sum_kept k rows n mark has p;
    leaf = p.leaf;
  }

  kept : (k : ℕ) → IsMarked old.known.items k → IsKeptPlan nodes new.costs.items new.lists.items k
  kept k mark = let h = are.kept k mark in record {
    number = h.number;
    room = let n = ap length more.costs.1 ∙ length-append old.costs.items (replicate more.costs.0 0) in let a = h.room in omega (arith, a, n);
    listed = let n = ap length more.lists.1 ∙ length-append old.lists.items more.lists.0 in let a = h.listed in omega (arith, a, n);
    planned =
        subst (IsPlanned nodes new.costs.items k (rows_at new.lists.items k)) (sym (same_cost k mark))
        (subst (λ rs. IsPlanned nodes new.costs.items k rs (slice_index old.costs.items k)) (sym (same_rows k mark))
        (planned_kept k (rows_at old.lists.items k) (slice_index old.costs.items k) mark h.planned));
  }

  -- plans stay when there is more room
  pub plans_in_room : ArePlansOf nodes new
  plans_in_room = record {
    closed = λ k low mark.
        All-weaker (λ (e : Edge). IsMarked old.known.items e.to.0) (λ (e : Edge). IsMarked new.known.items e.to.0) (λ e m. still e.to.0 m) (edges_of nodes k) (are.closed k low (before k mark));
    kept = λ k mark. kept k (before k mark);
  }

  pub keeps_in_room : KeepsPlans old new
  keeps_in_room = record { known = still; costs = same_cost; lists = same_rows }

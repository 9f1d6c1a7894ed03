-- The runs of a layer in turn, each by the lists as slices, and its end.
use Rattle.std.proofs.Common.{◌≡◌, ◌++◌, ℕ, suc, List, [], ◌<◌, ◌+◌, length, take, get_or, ap, arith, sym, ◌∙◌, subst, ◌≤◌, ◌∷◌}
use Rattle.std.proofs.Math.Seq.{take-suc, take-length}
use Rattle.std.specs.Prelude.{All, map, Some, option_map, slice_get}
use Rattle.smallvec.specs.SmallVec.{SmallVec}
use Rattle.std.proofs.lemmas.List.{get_or-map, length-map}
use Rattle.field_boxes.specs.Headline.Classifier.{Interval}
use Rattle.node_store.specs.Diagram.{Node, answer, level_of, edges_of}
use Rattle.field_sets.specs.declared.placed.Placed.{Placed}
use Rattle.redundancy_laws.specs.declared.context.Context.{Context}
use Rattle.redundancy.specs.declared.contexts.Stretch.{Stretch}
use Rattle.redundancy.specs.declared.sifting.layer.Change.{Change}
use Rattle.redundancy.specs.Stretches.{AreListed, stretch_at, stretches_at}
use Rattle.redundancy.specs.Drafts.{HaveRoom, placed_in, placed_for, IsTakenIn, IsDraft, leads_of, RiseUpTo, AreChanges}
use Rattle.redundancy.proofs.Drafting.{change_more, listed_below, run_end, later_end, rise_inside}
use Rattle.field_boxes.specs.declared.span.Span.{Span}
use Rattle.node_store.specs.Levels.{HasField, next as next_level, top_of}
use Rattle.field_boxes.specs.Spans.{interval_of}
use Rattle.node_store.specs.Store.{Grows, IsStore}
use Rattle.redundancy_laws.specs.declared.sifted.Sifted.{Sifted}
use Rattle.redundancy_laws.specs.Rows.{Row, in_front}
use Rattle.redundancy_laws.specs.Layers.{AreApartFrom, AreApart, rows_of_runs, end_of}
use Rattle.redundancy_laws.specs.Sifted.{AreContexts, IsSifted, no_node, context_at, node_at, IsSoFar, LeadsAs}
use Rattle.redundancy_laws.proofs.Below.{pairs-below}
use Rattle.redundancy.specs.declared.sifting.layer.Draft.{Draft}
use Rattle.std.proofs.lemmas.Option.{slice_get-map}
use Rattle.std.proofs.lemmas.List.Elements.{All-head, All-tail, All-nil}
use Rattle.node_store.proofs.Canonical.{is_level, is_next}
use Rattle.node_store.specs.declared.edge.NodeId.{NodeId}
use Rattle.node_store.proofs.Growth.{twice}
use Rattle.field_sets.specs.Placed.{led}
use Rattle.redundancy_laws.specs.Layers as laws
use Rattle.redundancy_laws.proofs.Apart.{apart-from, rows-more}
use Rattle.redundancy_laws.proofs.Covers.{end-more}
use Rattle.redundancy_laws.proofs.Kept.{none-so-far, so-far-stays, layer-sifted, made, made-stays, pairs-stay}
use Rattle.redundancy.specs.declared.blocks.Run.{Run}
use Rattle.redundancy.specs.declared.blocks.Cover.{Cover}
use Rattle.redundancy.specs.Blocks.{run_by, FitsRun, RiseApart}
use Rattle.redundancy.proofs.Numbers.{number_stays, edges_stay, pushed_to}

pub have_room : (nodes : List Node) (span : Interval) (pairs lower : List Context) (lists : List (SmallVec Stretch)) (count : ℕ) → count ≡ length lower → AreListed nodes span pairs (length pairs) lower lists → HaveRoom count lists
have_room nodes span pairs lower lists count is listed k d less =
    subst (λ n. All (λ (s : Stretch). s.place < n) (get_or lists k d).items) (sym is)
    (subst (All (λ (s : Stretch). s.place < length lower)) (get_or-map (λ (own : SmallVec Stretch). own.items) lists k d [] less) (listed.each k (let n = listed.number in omega (arith, less, n))).within)

-- what one change more says of a context
pub gathered_next : (changes : List Change) (k place : ℕ) (e : Change) (d : SmallVec Placed) (placed longer piece : List Placed) → k < length changes → place < length (get_or changes k e).placed.items →
    placed ≡ placed_for (take k changes) place → longer ≡ placed ++ piece → piece ≡ (get_or (get_or changes k e).placed.items place d).items → longer ≡ placed_for (take (k + 1) changes) place
gathered_next changes k place e d placed longer piece less room before longer_is piece_is =
    let one : suc k ≡ k + 1 = omega arith in
    longer_is
    ∙ ap (λ ps. placed ++ ps) (piece_is ∙ sym (get_or-map (λ (own : SmallVec Placed). own.items) (get_or changes k e).placed.items place d [] room))
    ∙ ap (λ ps. ps ++ placed_in (get_or changes k e) place) before
    ∙ sym (change_more (take k changes) (get_or changes k e) place)
    ∙ ap (λ cs. placed_for cs place) (sym (take-suc changes k e less) ∙ ap (λ m. take m changes) one)

pub pairs_listed : (nodes : List Node) (level wide : List ℕ) (span : Span) (pairs lower now : List Context) (lists : List (SmallVec Stretch)) → IsStore nodes → HasField level → wide ≡ next_level level → AreContexts nodes level pairs →
    span.hi ≤ top_of level → AreListed nodes (interval_of span) pairs (length pairs) lower lists → now ≡ lower → AreContexts nodes wide now
pairs_listed nodes level wide span pairs lower now lists store five same are inside listed is =
    subst (λ w. AreContexts nodes w now) (sym same) (subst (AreContexts nodes (next_level level)) (sym is)
    (pairs-below nodes level (interval_of span) pairs lower (λ c v. stretch_at (stretches_at lists c) v) store five are (listed_below nodes level (interval_of span) pairs lower lists inside listed)))

pub run_clause : (base old new : List Node) (level wide : List ℕ) (rows more : List Row) (pairs lower lower_now : List Context) (next : ℕ) (span : Span) (lists lists_now : List (SmallVec Stretch)) (inner : Sifted) (d e : Draft) →
    wide ≡ next_level level → lower_now ≡ lower → lists_now ≡ lists → HasField level → Grows old new → AreContexts old level pairs → span.hi ≤ top_of level → AreListed old (interval_of span) pairs (length pairs) lower lists →
    IsSifted new wide more lower_now inner → next ≤ span.lo → AreApartFrom (interval_of span) rows → IsDraft base old level rows pairs next d → IsTakenIn d lists_now inner e →
    IsDraft base new level (rows ++ map (in_front (interval_of span)) more) pairs (suc span.hi) e
run_clause base old new level wide rows more pairs lower lower_now next span lists lists_now inner d e same ln sn five grown are inside listed sifted above apart draft taken =
    run_end base old new level rows more pairs lower next span lists inner d e
    (record {
      five = five;
      grown = grown;
      are = are;
      inside = inside;
      listed = listed;
      sifted = subst (λ w. IsSifted new w more lower inner) same (subst (λ ps. IsSifted new wide more ps inner) ln sifted);
      above = above;
      apart = apart;
      draft = draft;
      taken = subst (λ ss. IsTakenIn d ss inner e) sn taken;
    })

pub answers_room : (nodes new : List Node) (level : List ℕ) (rows : List Row) (span : Span) (pairs lower lower_now : List Context) (lists lists_now : List (SmallVec Stretch)) (inner : Sifted) → lower_now ≡ lower → lists_now ≡ lists →
    AreListed nodes (interval_of span) pairs (length pairs) lower lists → IsSifted new level rows lower_now inner → HaveRoom (length inner.after.items) lists_now
answers_room nodes new level rows span pairs lower lower_now lists lists_now inner ln sn listed sifted =
    subst (HaveRoom (length inner.after.items)) (sym sn)
    (have_room nodes (interval_of span) pairs lower lists (length inner.after.items) (sifted.count ∙ ap (λ (ps : List Context). length ps) ln) listed)

-- runs are apart whatever their rows
apart_by : (rows others : ℕ → List Row) (least : ℕ) (runs : List Run) → AreApart least (map (run_by rows) runs) → AreApart least (map (run_by others) runs)
apart_by rows others least [] h = tt
apart_by rows others least (r ∷ runs) h = (h.0, h.1, apart_by rows others (r.span.hi + 1) runs h.2)

module _ (rows : ℕ → List Row) (runs : List Run) (k : ℕ) (r : Run) where
  abbrev Front : List laws.Run
  Front = take k (map (run_by rows) runs)

  run_there : slice_get runs k ≡ Some r → slice_get (map (run_by rows) runs) k ≡ Some (run_by rows r)
  run_there e = slice_get-map (run_by rows) runs k ∙ ap (option_map (run_by rows)) e

  pub above_front : RiseApart runs → slice_get runs k ≡ Some r → end_of 0 Front ≤ r.span.lo
  above_front apart e = (end-more 0 (map (run_by rows) runs) k (run_by rows r) (apart_by (λ block. []) rows 0 runs apart) (run_there e)).0

  pub apart_front : RiseApart runs → slice_get runs k ≡ Some r → AreApartFrom (interval_of r.span) (rows_of_runs Front)
  apart_front apart e = apart-from 0 (map (run_by rows) runs) k (run_by rows r) (apart_by (λ block. []) rows 0 runs apart) (run_there e)

  pub draft_next : (base new : List Node) (level : List ℕ) (pairs : List Context) (d : Draft) → RiseApart runs → slice_get runs k ≡ Some r →
      IsDraft base new level (rows_of_runs Front ++ map (in_front (interval_of r.span)) (rows r.block)) pairs (suc r.span.hi) d →
      IsDraft base new level (rows_of_runs (take (k + 1) (map (run_by rows) runs))) pairs (end_of 0 (take (k + 1) (map (run_by rows) runs))) d
  draft_next base new level pairs d apart e h =
      let more = rows-more (map (run_by rows) runs) k (run_by rows r) (run_there e) in
      let ends = (end-more 0 (map (run_by rows) runs) k (run_by rows r) (apart_by (λ block. []) rows 0 runs apart) (run_there e)).1 in
      let one : suc k ≡ k + 1 = omega arith in
      let past : suc r.span.hi ≡ r.span.hi + 1 = omega arith in
      subst (λ m. IsDraft base new level (rows_of_runs (take m (map (run_by rows) runs))) pairs (end_of 0 (take m (map (run_by rows) runs))) d) one
      (subst (λ n. IsDraft base new level (rows_of_runs (take (suc k) (map (run_by rows) runs))) pairs n d) (past ∙ sym ends)
      (subst (λ rs. IsDraft base new level rs pairs (suc r.span.hi) d) (sym more) h))

-- no run was taken in
pub draft_start : (nodes : List Node) (level : List ℕ) (pairs : List Context) (d : Draft) → IsStore nodes → HasField level → AreContexts nodes level pairs → d.kept.items ≡ [] → d.changes.items ≡ [] → IsDraft nodes nodes level [] pairs 0 d
draft_start nodes level pairs d store five are ek ec = record {
  so_far = subst (λ flags. IsSoFar nodes level [] pairs flags (leads_of nodes pairs d.changes.items)) (sym ek) (subst (λ cs. IsSoFar nodes level [] pairs [] (leads_of nodes pairs cs)) (sym ec) (none-so-far nodes level pairs store five are));
  room = subst (All (λ (change : Change). length change.placed.items ≡ length pairs)) (sym ec) (All-nil (λ (change : Change). length change.placed.items ≡ length pairs));
  rise = λ c less. subst (λ cs. RiseUpTo 0 0 (placed_for cs c)) (sym ec) (omega arith);
  children = λ c less. subst (λ cs. All (λ p. level_of nodes p.to.0 ≡ next_level level) (placed_for cs c)) (sym ec) (All-nil (λ p. level_of nodes p.to.0 ≡ next_level level));
}

-- all runs end inside the field
pub end_inside : (covers : List Cover) (number : ℕ) (level : List ℕ) (least : ℕ) (rows : ℕ → List Row) (runs : List Run) → least ≤ suc (top_of level) → All (FitsRun covers number level) runs → end_of least (map (run_by rows) runs) ≤ suc (top_of level)
end_inside covers number level least rows [] le all = le
end_inside covers number level least rows (r ∷ runs) le all =
    let inside = (All-head (FitsRun covers number level) r runs all).inside in
    end_inside covers number level (r.span.hi + 1) rows runs (omega (arith, inside)) (All-tail (FitsRun covers number level) r runs all)

module _ (base now : List Node) (level : List ℕ) (pairs : List Context) (changes : List Change) where
  -- contexts lead as they did
  leads_same : HasField level → Grows base now → AreContexts base level pairs → (c v : ℕ) → c < length pairs → leads_of now pairs changes c v ≡ leads_of base pairs changes c v
  leads_same five g are c v less = ap (λ es. led (placed_for changes c) es v) (edges_stay base now (context_at pairs c).after.0 level (is_level level five) g (are c less).0)

  pub numbers_now : (rows : List Row) (d : Draft) (next : ℕ) → HasField level → Grows base now → AreContexts base level pairs → d.changes.items ≡ changes → IsDraft base now level rows pairs next d →
      (c v : ℕ) → c < length pairs → v ≤ top_of level → level_of now (leads_of now pairs changes c v) ≡ next_level level
  numbers_now rows d next five g are ec draft c v less small =
      ap (level_of now) (leads_same five g are c v less ∙ sym (ap (λ cs. leads_of base pairs cs c v) ec)) ∙ draft.so_far.numbers c v less small

  pub changes_now : (rows : List Row) (d : Draft) (next : ℕ) → next ≤ suc (top_of level) → d.changes.items ≡ changes → IsDraft base now level rows pairs next d → AreChanges now level (length pairs) changes
  changes_now rows d next le ec draft =
      subst (AreChanges now level (length pairs)) ec
      (record {
        room = draft.room;
        rise = λ c less. rise_inside 0 (top_of level) (placed_for d.changes.items c) (later_end 0 next (suc (top_of level)) (placed_for d.changes.items c) le (draft.rise c less));
        children = draft.children;
      })

  -- a context's node leads as the changes say
  pub finished_next : (new : List Node) (c : ℕ) (placed : List Placed) (id : NodeId) → HasField level → Grows base now → Grows now new → AreContexts base level pairs → c < length pairs →
      placed ≡ placed_for changes c → ((k v : ℕ) → k < length pairs → v ≤ top_of level → level_of base (leads_of base pairs changes k v) ≡ next_level level) → level_of new id.0 ≡ level →
      ((v : ℕ) (values : List ℕ) → v ≤ top_of level → answer new id.0 (v ∷ values) ≡ answer now (led placed (edges_of now (context_at pairs c).after.0) v) values) →
      LeadsAs new level (leads_of base pairs changes) c id
  finished_next new c placed id five first g are less is numbers number answers =
      made now new level (leads_of base pairs changes) c id five g (λ v small. number_stays base now _ (next_level level) (is_next level five) first (numbers c v less small)) number
      (λ v values small.
      answers v values small
      ∙ ap (λ ps. answer now (led ps (edges_of now (context_at pairs c).after.0) v) values) is
      ∙ ap (λ n. answer now n values) (leads_same five first are c v less))

-- the layer by its nodes
pub layer_end : (base now new : List Node) (level : List ℕ) (next : ℕ) (rows : List Row) (pairs : List Context) (d : Draft) (changes : List Change) (s : Sifted) → HasField level → Grows base now → Grows now new → AreContexts base level pairs →
    IsDraft base now level rows pairs next d → d.changes.items ≡ changes → s.kept.items ≡ d.kept.items → length s.after.items ≡ length pairs →
    ((c : ℕ) → c < length pairs → LeadsAs new level (leads_of now pairs changes) c (node_at s.after.items c)) → IsSifted new level rows pairs s
layer_end base now new level next rows pairs d changes s five first g are draft ec ek count each =
    layer-sifted new level rows pairs (leads_of base pairs changes) s five
    (subst (λ flags. IsSoFar new level rows pairs flags (leads_of base pairs changes)) (sym ek)
    (so-far-stays now new level rows pairs d.kept.items (leads_of base pairs changes) five g (pairs-stay base now level pairs (is_level level five) first are)
    (subst (λ cs. IsSoFar now level rows pairs d.kept.items (leads_of base pairs cs)) ec draft.so_far)))
    count
    (λ c less. let l = each c less in record {
      number = l.number;
      answers = λ v values small ok. l.answers v values small ok ∙ ap (λ n. answer new n values) (leads_same base now level pairs changes five first are c v less);
    })

-- a node more
pub finished_more : (base now new : List Node) (level : List ℕ) (pairs : List Context) (changes : List Change) (placed_now placed : List Placed) (id : NodeId) (ids longer : List NodeId) (n : ℕ) → HasField level → Grows base now → Grows now new →
    AreContexts base level pairs → n < length pairs → placed_now ≡ placed → placed ≡ placed_for changes n →
    ((k v : ℕ) → k < length pairs → v ≤ top_of level → level_of base (leads_of base pairs changes k v) ≡ next_level level) → level_of new id.0 ≡ level →
    ((v : ℕ) (values : List ℕ) → v ≤ top_of level → answer new id.0 (v ∷ values) ≡ answer now (led placed_now (edges_of now (context_at pairs n).after.0) v) values) →
    length ids ≡ n → ((c : ℕ) → c < n → LeadsAs now level (leads_of base pairs changes) c (node_at ids c)) → longer ≡ ids ++ id ∷ [] →
    Grows base new × (length longer ≡ n + 1) × ((c : ℕ) → c < n + 1 → LeadsAs new level (leads_of base pairs changes) c (node_at longer c))
finished_more base now new level pairs changes placed_now placed id ids longer n five first g are less pn is numbers number answers count each longer_is =
    let p = pushed_to (λ c (i : NodeId). LeadsAs new level (leads_of base pairs changes) c i) no_node ids longer id n longer_is count
    (λ c small. made-stays now new level (leads_of base pairs changes) c (node_at ids c) five g
    (λ v low. number_stays base now _ (next_level level) (is_next level five) first (numbers c v (omega (arith, small, less)) low)) (each c small))
    (finished_next base now level pairs changes new n placed_now id five first g are less (pn ∙ is) numbers number answers) in
    (twice base now new first g, p.0, p.1)

-- all runs were taken in
pub draft_full : (rows : ℕ → List Row) (runs : List Run) (k : ℕ) (base now : List Node) (level : List ℕ) (pairs : List Context) (d : Draft) → k ≡ length runs →
    IsDraft base now level (rows_of_runs (take k (map (run_by rows) runs))) pairs (end_of 0 (take k (map (run_by rows) runs))) d →
    IsDraft base now level (rows_of_runs (map (run_by rows) runs)) pairs (end_of 0 (map (run_by rows) runs)) d
draft_full rows runs k base now level pairs d e draft =
    subst (λ rs. IsDraft base now level (rows_of_runs rs) pairs (end_of 0 rs) d) (take-length (map (run_by rows) runs))
    (subst (λ m. IsDraft base now level (rows_of_runs (take m (map (run_by rows) runs))) pairs (end_of 0 (take m (map (run_by rows) runs))) d) (e ∙ sym (length-map runs (run_by rows))) draft)

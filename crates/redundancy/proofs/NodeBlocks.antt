-- Blocks of nodes that are known, by plans that are known, as the store gains nodes and more plans are known.
use Rattle.std.proofs.Common.{◌≡◌, ◌∷◌, ℕ, List, [], ap, refl, subst, sym, ◌∙◌, ◌++◌, zero, suc, arith, inl, inr, take, ◌+◌, ◌-◌, ◌^◌, ◌<◌, ◌≤◌, length, map, get_or}
use Rattle.std.specs.Prelude.{All, IfOk, OnOk, None, Option, Some, Result, Ok, Err, replicate, slice_get, slice_index_or}
use Rattle.std.proofs.lemmas.List.Elements.{All-weaker, All-push}
use Rattle.node_store.specs.Diagram.{Node, level_of}
use Rattle.node_store.specs.Levels.{HasField, IsLevel, next, next as next_level, top_of}
use Rattle.node_store.specs.Store.{Grows, IsStore}
use Rattle.node_store.proofs.Growth.{level_kept}
use Rattle.prefix_min.specs.declared.row.PrefixRow.{PrefixRow}
use Rattle.table_compose.specs.declared.diagram_plans.Plans.{Plans}
use Rattle.table_compose.specs.Plans.{ArePlansOf, IsChild, IsMarked, KeepsPlans, width_of}
use Rattle.table_compose.specs.Rows.{rows_at}
use Rattle.table_compose.proofs.Later.{child_marked, child_older, inner_of}
use Rattle.redundancy_laws.specs.Rows.{last_row, Row, in_front}
use Rattle.redundancy.specs.declared.blocks.Blocks.{Blocks}
use Rattle.redundancy.specs.declared.blocks.node_blocks.Known.{Known}
use Rattle.redundancy.specs.NodeBlocks.{AreKnown, HasPlans, in_turn, node_rows, IsBlockOf}
use Rattle.redundancy.proofs.NodeRows.{same_in_turn}
use Rattle.std.proofs.Math.ListN.{set}
use Rattle.redundancy.specs.Blocks.{IsBlocks, BlocksGrow, IsBuilt, FitsRun, rows_of, run_by, FitRuns}
use Rattle.redundancy.proofs.Gathering.{blocks_same, built_grows, blocks_then, leads_stay, runs_agree, runs-append}
use Rattle.redundancy.proofs.ListRows.{set_cases, some_known}
use Rattle.std.proofs.Math.Seq.{take-suc}
use Rattle.std.proofs.lemmas.List.{length-append, length-map, map-append, append-nil, take_all}
use Rattle.std.proofs.lemmas.List.Concat.{flat_map-append}
use Rattle.std.proofs.lemmas.Nat.{pow_pos}
use Rattle.field_boxes.specs.Headline.Fields.{width}
use Rattle.field_boxes.specs.Headline.Prefix.{FitsWidth}
use Rattle.field_boxes.specs.Prefix.{prefix_interval}
use Rattle.field_boxes.specs.Spans.{interval_of}
use Rattle.field_boxes.proofs.Prefixes.{whole_step_within}
use Rattle.table_compose.specs.declared.row.Row as codes
use Rattle.table_compose.specs.Composed.{HaveLists}
use Rattle.table_compose.specs.Rows as plan_rows
use Rattle.table_compose.proofs.Gaining.{all_row, lists_at}
use Rattle.redundancy_laws.specs.Built.{field_of}
use Rattle.redundancy_laws.specs.Layers.{rows_of_runs}
use Rattle.redundancy.specs.declared.blocks.Run.{Run}

pub plans_below : (plans : Plans) (level : List ℕ) (id : ℕ) → HasField level → HasPlans plans level id → All (λ (r : PrefixRow). HasPlans plans (next level) r.label) (rows_at plans.lists.items id)
plans_below plans [] id has h = absurd has
plans_below plans (f ∷ level) id has h = h.1

marked : (plans : Plans) (level : List ℕ) (id : ℕ) → HasPlans plans level id → IsMarked plans.known.items id
marked plans [] id h = h
marked plans (f ∷ level) id h = h.0

-- where a node's plan is known, so are those of all to which its list leads
pub has_plans : (nodes : List Node) (plans : Plans) (level : List ℕ) (id : ℕ) → IsStore nodes → ArePlansOf nodes plans → IsLevel level → level_of nodes id ≡ level → IsMarked plans.known.items id → HasPlans plans level id
has_plans nodes plans [] id s p within at m = m
has_plans nodes plans (f ∷ level) id s p within at m =
    let has : HasField (level_of nodes id) = subst HasField (sym at) within in
    let below : (r : PrefixRow) → IsChild nodes id r.label → HasPlans plans level r.label = λ r c.
    has_plans nodes plans level r.label s p within.1 ((child_older nodes id r.label s has c).1 ∙ ap next at)
    (subst (IsMarked plans.known.items) c.2 (child_marked nodes plans.known.items id c.0 p.closed m (inner_of nodes id s has) c.1)) in
    (m, All-weaker (λ (r : PrefixRow). IsChild nodes id r.label) (λ (r : PrefixRow). HasPlans plans level r.label) below (rows_at plans.lists.items id) ((p.kept id m).planned.list has).children)

-- plans stay known
plans_learnt : (old new : Plans) (level : List ℕ) (id : ℕ) → KeepsPlans old new → HasPlans old level id → HasPlans new level id
plans_learnt old new [] id k h = k.known id h
plans_learnt old new (f ∷ level) id k h = (
  k.known id h.0,
  subst (λ (rs : List PrefixRow). All (λ (r : PrefixRow). HasPlans new level r.label) rs) (sym (k.lists id h.0))
      (All-weaker (λ (r : PrefixRow). HasPlans old level r.label) (λ (r : PrefixRow). HasPlans new level r.label) (λ r below. plans_learnt old new level r.label k below) (rows_at old.lists.items id) h.1),
)

-- the rows of a node by more plans
rows_learnt : (nodes : List Node) (old new : Plans) (level : List ℕ) (id : ℕ) → KeepsPlans old new → HasPlans old level id →
    node_rows nodes (rows_at new.lists.items) level id ≡ node_rows nodes (rows_at old.lists.items) level id
rows_learnt nodes old new [] id k h = refl
rows_learnt nodes old new (f ∷ level) id k h =
    let some = node_rows nodes (rows_at new.lists.items) level in
    let others = node_rows nodes (rows_at old.lists.items) level in
    ap (λ (rs : List PrefixRow). in_turn f some rs) (k.lists id h.0)
    ∙ same_in_turn f some others (rows_at old.lists.items id)
    (All-weaker (λ (r : PrefixRow). HasPlans old level r.label) (λ (r : PrefixRow). some r.label ≡ others r.label) (λ r below. rows_learnt nodes old new level r.label k below) (rows_at old.lists.items id) h.1)

-- and in a store that gained nodes
rows_later : (old new : List Node) (plans : Plans) (level : List ℕ) (id : ℕ) → Grows old new → ArePlansOf old plans → HasPlans plans level id →
    node_rows new (rows_at plans.lists.items) level id ≡ node_rows old (rows_at plans.lists.items) level id
rows_later old new plans [] id g p h = ap (λ (n : ℕ). last_row n ∷ []) (g.answers id [] (p.kept id h).number)
rows_later old new plans (f ∷ level) id g p h =
    let lists = rows_at plans.lists.items in
    let some = node_rows new lists level in
    let others = node_rows old lists level in
    same_in_turn f some others (lists id)
    (All-weaker (λ (r : PrefixRow). HasPlans plans level r.label) (λ (r : PrefixRow). some r.label ≡ others r.label) (λ r below. rows_later old new plans level r.label g p below) (lists id) h.1)

-- what is known of nodes stays where more plans are known
pub known_learnt : (nodes : List Node) (old new : Plans) (blocks : Blocks) (known : Known) → KeepsPlans old new → AreKnown nodes old blocks known → AreKnown nodes new blocks known
known_learnt nodes old new blocks known k all id number e =
    let h = all id number e in
    let level = level_of nodes id in record {
      planned = plans_learnt old new level id k h.planned;
      within = h.within;
      level_is = h.level_is;
      rows_are = h.rows_are ∙ sym (rows_learnt nodes old new level id k h.planned);
    }

-- and where the store gains nodes
pub known_later : (old new : List Node) (plans : Plans) (blocks : Blocks) (known : Known) → Grows old new → ArePlansOf old plans → AreKnown old plans blocks known → AreKnown new plans blocks known
known_later old new plans blocks known g p all id number e =
    let h = all id number e in
    let level = level_of old id in
    let same : level_of new id ≡ level = level_kept old new id g (p.kept id (marked plans level id h.planned)).number in record {
      planned = subst (λ l. HasPlans plans l id) (sym same) h.planned;
      within = h.within;
      level_is = h.level_is ∙ sym same;
      rows_are = h.rows_are ∙ sym (rows_later old new plans level id g p h.planned) ∙ ap (λ l. node_rows new (rows_at plans.lists.items) l id) (sym same);
    }

-- what is known of nodes stays where blocks are added
pub known_over : (nodes : List Node) (plans : Plans) (s0 s1 : List Node) (b0 b1 : Blocks) (known : Known) → BlocksGrow s0 s1 b0 b1 → AreKnown nodes plans b0 known → AreKnown nodes plans b1 known
known_over nodes plans s0 s1 b0 b1 known g h id number e =
    let k = h id number e in
    let less = k.within in record {
      planned = k.planned;
      within = omega (arith, less, g.count);
      level_is = ap (λ c. c.level.now) (g.covers_stay number less) ∙ k.level_is;
      rows_are = g.rows_stay number less ∙ k.rows_are;
    }

none_there : (n k number : ℕ) (X : Type 0) → slice_get (replicate n None) k ≡ Some (Some number) → X
none_there zero k number X e = absurd (cc)
none_there (suc n) zero number X e = absurd (cc)
none_there (suc n) (suc k) number X e = none_there n k number X e

-- a number that is known stands in front of what is added
some_before : (n m : ℕ) (xs : List (Option ℕ)) (k number : ℕ) → slice_get (take n xs ++ replicate m None) k ≡ Some (Some number) → slice_get xs k ≡ Some (Some number)
some_before zero m xs k number e = none_there m k number (slice_get xs k ≡ Some (Some number)) e
some_before (suc n) m [] k number e = let none : List (Option ℕ) = [] in none_there m k number (slice_get none k ≡ Some (Some number)) e
some_before (suc n) m (x ∷ xs) zero number e = e
some_before (suc n) m (x ∷ xs) (suc k) number e = some_before n m xs k number e

-- room for more nodes, of which nothing is known
pub known_room : (nodes : List Node) (plans : Plans) (blocks : Blocks) (old new : Known) (n m : ℕ) → new.numbers.items ≡ take n old.numbers.items ++ replicate m None → AreKnown nodes plans blocks old → AreKnown nodes plans blocks new
known_room nodes plans blocks old new n m is h id number e = h id number (some_before n m old.numbers.items id number (ap (λ (ns : List (Option ℕ)). slice_get ns id) (sym is) ∙ e))

pub known_more : (nodes : List Node) (plans : Plans) (blocks : Blocks) (old : Known) (id number : ℕ) → AreKnown nodes plans blocks old → IsBlockOf nodes plans blocks id number →
    (other found : ℕ) → slice_get (set old.numbers.items id (Some number)) other ≡ Some (Some found) → IsBlockOf nodes plans blocks other found
known_more nodes plans blocks old id number h here other found e =
    elim (set_cases old.numbers.items id (Some number) other (Some found) e) [
      | inl before ↦ h other found before
      | inr at ↦ subst (λ k. IsBlockOf nodes plans blocks k found) (sym at.0) (subst (λ n. IsBlockOf nodes plans blocks id n) (sym (some_known found number at.1)) here)
    ]

-- a block that was there
pub known_built : (nodes : List Node) (plans : Plans) (s : List Node) (blocks : Blocks) (id : ℕ) (level : List ℕ) (number : ℕ) → IsBlocks s blocks → level_of nodes id ≡ level → IsBlockOf nodes plans blocks id number →
    IsBuilt s s blocks blocks level (node_rows nodes (rows_at plans.lists.items) level id) number
known_built nodes plans s blocks id level number h at k =
    let same = blocks_same s blocks h in
    record {
      grows = same.grows;
      blocks = h;
      count = same.count;
      rows_stay = same.rows_stay;
      covers_stay = same.covers_stay;
      number_in = k.within;
      level_is = k.level_is ∙ at;
      rows_are = k.rows_are ∙ ap (λ n. node_rows nodes (rows_at plans.lists.items) n id) at;
    }

-- a block that was built is that of its node
pub block_of : (nodes : List Node) (plans : Plans) (s0 s1 : List Node) (b0 b1 : Blocks) (id : ℕ) (level : List ℕ) (number : ℕ) → level_of nodes id ≡ level → HasPlans plans level id →
    IsBuilt s0 s1 b0 b1 level (node_rows nodes (rows_at plans.lists.items) level id) number → IsBlockOf nodes plans b1 id number
block_of nodes plans s0 s1 b0 b1 id level number at planned h = record {
  planned = subst (λ n. HasPlans plans n id) (sym at) planned;
  within = h.number_in;
  level_is = h.level_is ∙ sym at;
  rows_are = h.rows_are ∙ ap (λ n. node_rows nodes (rows_at plans.lists.items) n id) (sym at);
}

-- what is known of nodes stays where a block was built
pub still_known : {E : Type 0} (nodes : List Node) (plans : Plans) (s1 s2 : List Node) (b1 b2 : Blocks) (known : Known) (level : List ℕ) (rows : List Row) (result : Result ℕ E) →
    AreKnown nodes plans b1 known → IfOk result (λ number. IsBuilt s1 s2 b1 b2 level rows number) → OnOk result (AreKnown nodes plans b2 known)
still_known nodes plans s1 s2 b1 b2 known level rows (Ok number) k h = known_over nodes plans s1 s2 b1 b2 known (built_grows s1 s2 b1 b2 level number rows h) k
still_known nodes plans s1 s2 b1 b2 known level rows (Err e) k h = tt

-- so many runs have these rows, and lead on to blocks that are there
pub record AreTurned (nodes : List Node) (plans : Plans) (s0 s : List Node) (b0 b : Blocks) (numbers : Known) (level : List ℕ) (size : ℕ) (done : List Row) (runs : List Run) : Type 0 where
  pub blocks : BlocksGrow s0 s b0 b
  pub known : AreKnown nodes plans b numbers
  pub count : length runs ≡ size
  pub runs_are : rows_of_runs (map (run_by (rows_of b.blocks.items)) runs) ≡ done
  pub leads : FitRuns b level runs

pub turned_none : (nodes : List Node) (plans : Plans) (s : List Node) (b : Blocks) (known : Known) (level : List ℕ) (runs : List Run) → IsBlocks s b → AreKnown nodes plans b known → runs ≡ [] →
    AreTurned nodes plans s s b b known level 0 [] runs
turned_none nodes plans s b known level runs h k is =
    subst (λ (rs : List Run). AreTurned nodes plans s s b b known level 0 [] rs) (sym is)
    (record { blocks = blocks_same s b h; known = k; count = refl; runs_are = refl; leads = λ n d less. absurd (omega (arith, less)) })

-- the last value of a prefix is within the field
inside_field : (f : ℕ) (r : PrefixRow) (hi : ℕ) → FitsWidth (width f) r.prefix → hi ≡ r.prefix.value + (2 ^ (width f - r.prefix.len) - 1) → hi ≤ 2 ^ width f - 1
inside_field f r hi fits is =
    let step = whole_step_within (width f) r.prefix.len r.prefix.value fits.len fits.small fits.low in
    let p = pow_pos (width f - r.prefix.len) in
    omega (arith, step, p, is)

inside : (level : List ℕ) (r : PrefixRow) (hi : ℕ) → HasField level → FitsWidth (width_of level) r.prefix → hi ≡ r.prefix.value + (2 ^ (width_of level - r.prefix.len) - 1) → hi ≤ top_of level
inside [] r hi has fits is = absurd has
inside (f ∷ level) r hi has fits is = inside_field f r hi fits is

-- one row more
turn_more : (f : ℕ) (tables : ℕ → List Row) (rows : List codes.Row) (i : ℕ) (r : codes.Row) → i < length rows → r ≡ get_or rows i r →
    in_turn f tables (plan_rows.rows_of (take (i + 1) rows)) ≡ in_turn f tables (plan_rows.rows_of (take i rows)) ++ map (in_front (prefix_interval (width f) r.prefix)) (tables r.to.0)
turn_more f tables rows i r less is =
    let one : i + 1 ≡ suc i = omega arith in
    let table : PrefixRow → List Row = λ x. map (in_front (prefix_interval (width f) x.prefix)) (tables x.label) in
    ap (λ n. in_turn f tables (plan_rows.rows_of (take n rows))) one
    ∙ ap (λ (rs : List codes.Row). in_turn f tables (plan_rows.rows_of rs)) (take-suc rows i r less)
    ∙ ap (λ (x : codes.Row). in_turn f tables (plan_rows.rows_of (take i rows ++ x ∷ []))) (sym is)
    ∙ ap (λ (rs : List PrefixRow). in_turn f tables rs) (map-append plan_rows.row_of (take i rows) (r ∷ []))
    ∙ flat_map-append table (plan_rows.rows_of (take i rows)) (plan_rows.row_of r ∷ [])
    ∙ ap (λ (xs : List Row). in_turn f tables (plan_rows.rows_of (take i rows)) ++ xs) (append-nil (table (plan_rows.row_of r)))

-- the width of a level's field
field_width : (level : List ℕ) → HasField level → width_of level ≡ width (field_of level)
field_width [] has = absurd has
field_width (f ∷ level) has = refl

pub turned_more : (nodes : List Node) (plans : Plans) (s0 s1 s2 : List Node) (b0 b1 b2 : Blocks) (k1 k2 : Known) (level below : List ℕ) (i : ℕ) (tables : ℕ → List Row) (rows : List codes.Row) (r : codes.Row) (runs more : List Run) (run : Run) →
    HasField level → below ≡ next_level level → i < length rows → r ≡ get_or rows i r → FitsWidth (width_of level) r.prefix →
    AreTurned nodes plans s0 s1 b0 b1 k1 level i (in_turn (field_of level) tables (plan_rows.rows_of (take i rows))) runs → IsBuilt s1 s2 b1 b2 below (tables r.to.0) run.block → AreKnown nodes plans b2 k2 →
    interval_of run.span ≡ prefix_interval (width_of level) r.prefix → more ≡ runs ++ run ∷ [] →
    AreTurned nodes plans s0 s2 b0 b2 k2 level (i + 1) (in_turn (field_of level) tables (plan_rows.rows_of (take (i + 1) rows))) more
turned_more nodes plans s0 s1 s2 b0 b1 b2 k1 k2 level below i tables rows r runs more run has one less is fits g built known span to =
    let grown = built_grows s1 s2 b1 b2 below run.block (tables r.to.0) built in
    let rows2 : ℕ → List Row = rows_of b2.blocks.items in
    let done = in_turn (field_of level) tables (plan_rows.rows_of (take i rows)) in
    let agree : rows_of_runs (map (run_by rows2) runs) ≡ done = runs_agree (rows_of b1.blocks.items) rows2 runs (λ k d l. built.rows_stay _ (g.leads k d l).older) ∙ g.runs_are in
    record {
      blocks = blocks_then s0 s1 s2 b0 b1 b2 g.blocks grown;
      known = known;
      count = ap length to ∙ length-append runs (run ∷ []) ∙ ap (λ n. n + 1) g.count;
      runs_are = ap (λ rs. rows_of_runs (map (run_by rows2) rs)) to ∙ ap rows_of_runs (map-append (run_by rows2) runs (run ∷ [])) ∙ runs-append (map (run_by rows2) runs) (run_by rows2 run ∷ [])
          ∙ ap (λ (rs : List Row). rs ++ (map (in_front (interval_of run.span)) (rows2 run.block) ++ [])) agree ∙ ap (λ (rs : List Row). done ++ rs) (append-nil (map (in_front (interval_of run.span)) (rows2 run.block)))
          ∙ ap (λ (rs : List Row). done ++ map (in_front (interval_of run.span)) rs) built.rows_are
          ∙ ap (λ s. done ++ map (in_front s) (tables r.to.0)) (span ∙ ap (λ w. prefix_interval w r.prefix) (field_width level has))
          ∙ sym (turn_more (field_of level) tables rows i r less is);
      leads = subst (FitRuns b2 level) (sym to)
          (All-push (FitsRun b2.covers.items (length b2.blocks.items) level) runs run (leads_stay s1 s2 b1 b2 level runs grown g.leads)
          (record { older = built.number_in; level = built.level_is ∙ one; inside = inside level (plan_rows.row_of r) run.span.hi has fits (ap (λ s. s.hi) span) }));
    }

rows_from : (nodes : List Node) (lists : ℕ → List PrefixRow) (level : List ℕ) (id : ℕ) → HasField level → in_turn (field_of level) (node_rows nodes lists (next_level level)) (lists id) ≡ node_rows nodes lists level id
rows_from nodes lists [] id has = absurd has
rows_from nodes lists (f ∷ level) id has = refl

-- the block of all runs is that of the node
pub node_made : (nodes : List Node) (plans : Plans) (s0 s1 s2 : List Node) (b0 b1 b2 : Blocks) (known : Known) (level : List ℕ) (id i number : ℕ) (items : List codes.Row) (runs seen : List Run) → HasField level →
    rows_at plans.lists.items id ≡ plan_rows.rows_of items → length items ≤ i →
    AreTurned nodes plans s0 s1 b0 b1 known level i (in_turn (field_of level) (node_rows nodes (rows_at plans.lists.items) (next_level level)) (plan_rows.rows_of (take i items))) runs → seen ≡ runs →
    IsBuilt s1 s2 b1 b2 level (rows_of_runs (map (run_by (rows_of b1.blocks.items)) seen)) number → IsBuilt s0 s2 b0 b2 level (node_rows nodes (rows_at plans.lists.items) level id) number
node_made nodes plans s0 s1 s2 b0 b1 b2 known level id i number items runs seen has is past g same built =
    let b = blocks_then s0 s1 s2 b0 b1 b2 g.blocks (built_grows s1 s2 b1 b2 level number _ built) in
    let tables = node_rows nodes (rows_at plans.lists.items) (next_level level) in
    record {
      grows = b.grows;
      blocks = b.blocks;
      count = b.count;
      rows_stay = b.rows_stay;
      covers_stay = b.covers_stay;
      number_in = built.number_in;
      level_is = built.level_is;
      rows_are = built.rows_are
          ∙ ap (λ (rs : List Run). rows_of_runs (map (run_by (rows_of b1.blocks.items)) rs)) same
          ∙ g.runs_are
          ∙ ap (λ (rs : List codes.Row). in_turn (field_of level) tables (plan_rows.rows_of rs)) (take_all i items past)
          ∙ ap (λ (rs : List PrefixRow). in_turn (field_of level) tables rs) (sym is)
          ∙ rows_from nodes (rows_at plans.lists.items) level id has;
    }

-- a run for each row
pub some_turned : (rows : List PrefixRow) (items : List codes.Row) (runs : List Run) (i : ℕ) → rows ≡ plan_rows.rows_of items → 0 < length rows → length items ≤ i → length runs ≡ i → 0 < length runs
some_turned rows items runs i is some past count = let n = length-map items plan_rows.row_of in omega (arith, ap (λ (rs : List PrefixRow). length rs) is, n, some, past, count)

-- the field that the code reads is the level's first
pub first_width : (level : List ℕ) (k w d : ℕ) → HasField level → k ≡ slice_index_or level 0 d → w ≡ width k → w ≡ width_of level
first_width [] k w d has at is = absurd has
first_width (f ∷ level) k w d has at is = is ∙ ap width at

pub first_below : (level : List ℕ) (k d : ℕ) → HasField level → k ≡ slice_index_or level 0 d → k < 5
first_below [] k d has at = absurd has
first_below (f ∷ level) k d has at = subst (λ n. n < 5) (sym at) has.0.0

-- what is asked of a row's node
pub record IsBelow (nodes : List Node) (plans : Plans) (level : List ℕ) (r : codes.Row) : Type 0 where
  pub at : level_of nodes r.to.0 ≡ next_level level
  pub have : HaveLists nodes (rows_at plans.lists.items) (next_level level) r.to.0
  pub planned : HasPlans plans (next_level level) r.to.0
  pub fit : FitsWidth (width_of level) r.prefix

pub below_of : (nodes : List Node) (plans : Plans) (level : List ℕ) (id : ℕ) (items : List codes.Row) (i : ℕ) (d : codes.Row) → IsStore nodes → HasField level → level_of nodes id ≡ level →
    HaveLists nodes (rows_at plans.lists.items) level id → HasPlans plans level id → rows_at plans.lists.items id ≡ plan_rows.rows_of items → i < length items → IsBelow nodes plans level (slice_index_or items i d)
below_of nodes plans level id items i d s has at have planned is less =
    let lists = rows_at plans.lists.items in
    let l = lists_at nodes lists level id has have in
    let r = slice_index_or items i d in
    let child = child_older nodes id r.to.0 s (subst HasField (sym at) has) (all_row (λ x. IsChild nodes id x.label) (lists id) items i d is less l.0.children) in
    let fit = all_row (λ x. FitsWidth (width_of (level_of nodes id)) x.prefix) (lists id) items i d is less l.0.right.fits in record {
      at = child.1 ∙ ap next_level at;
      have = all_row (λ x. HaveLists nodes lists (next_level level) x.label) (lists id) items i d is less l.1;
      planned = all_row (λ x. HasPlans plans (next_level level) x.label) (lists id) items i d is less (plans_below plans level id has planned);
      fit = subst (λ k. FitsWidth (width_of k) r.prefix) at fit;
    }

-- The runs of a table, one after another: entries with the interval of the level's first field in front.
use Rattle.std.proofs.Common.{◌≡◌, ◌∷◌, ◌≤◌, ℕ, List, [], ap, get_or, ◌++◌, suc, ◌+◌, ◌<◌, length, refl, arith, sym, ◌∙◌, subst, map, take, append_assoc}
use Rattle.ternary_words.specs.declared.entry.Entry.{Entry}
use Rattle.field_boxes.specs.Headline.Classifier.{Interval}
use Rattle.field_boxes.specs.Fields.{greatest_of}
use Rattle.node_store.specs.Levels.{HasField, next as next_level, top_of}
use Rattle.redundancy_laws.specs.Built.{row_at, span_at}
use Rattle.redundancy_laws.specs.Rows.{in_front, Row}
use Rattle.std.proofs.lemmas.List.Elements.{All-push}
use Rattle.std.specs.Prelude.{All, Option, Some, None, slice_get}
use Rattle.std.proofs.Math.Seq.{take-suc}
use Rattle.std.proofs.lemmas.List.{append-nil, map-append}
use Rattle.std.proofs.lemmas.List.Concat.{flat_map-append}
use Rattle.std.specs.List.{flat_map}
use Rattle.std.proofs.lemmas.Option.{slice_get_within}
use Rattle.field_boxes.specs.Spans.{interval_of}
use Rattle.node_store.specs.Diagram.{Node}
use Rattle.node_store.specs.Store.{Grows}
use Rattle.node_store.proofs.Growth as growth
use Rattle.redundancy_laws.specs.Layers as laws
use Rattle.redundancy_laws.specs.Layers.{rows_of_runs}
use Rattle.redundancy.specs.declared.blocks.Run.{Run}
use Rattle.redundancy.specs.declared.blocks.Blocks.{Blocks}
use Rattle.redundancy.specs.declared.blocks.lists.Item.TheVariants.{Behind}
use Rattle.redundancy.specs.declared.blocks.lists.Lists.{Lists}
use Rattle.redundancy.specs.declared.blocks.lists.ListedRun.{ListedRun}
use Rattle.redundancy.specs.Blocks.{FitsRun, IsBlocks, rows_of, run_by, AreBuilt, BlocksGrow, FitRuns, IsBuilt, StandAt, StandsAt}
use Rattle.redundancy.specs.Lists.{AreGathered, AreLists, IsBefore, IsListed, ListsGrow, interval_of_run, item_rows, list_rows}
use Rattle.redundancy.proofs.BlockRows.{flat_stays, stand}
use Rattle.redundancy.proofs.ListRows.{before_more, fits_more, none_listed, rows_agree}

pub front : (level : List ℕ) (e : Entry) (span : Interval) → HasField level → span_at (get_or level 0 0) e ≡ span → row_at level e ≡ in_front span (row_at (next_level level) e)
front [] e span has is = absurd has
front (f ∷ level) e span has is = ap (λ s. in_front s (row_at level e)) is

pub inside : (level : List ℕ) (hi : ℕ) → HasField level → hi ≤ greatest_of (get_or level 0 0) → hi ≤ top_of level
inside [] hi has h = absurd has
inside (f ∷ level) hi has h = h

pub listed_grows : (blocks : Blocks) (old new : Lists) (rows : List Row) (list : Option ℕ) → IsListed blocks old new rows list → ListsGrow blocks blocks old new
listed_grows blocks old new rows list h = record { lists = h.lists; count = h.count; stay = h.stay }

pub lists_then : (b0 b1 b2 : Blocks) (l0 l1 l2 : Lists) → ListsGrow b0 b1 l0 l1 → ListsGrow b1 b2 l1 l2 → ListsGrow b0 b2 l0 l2
lists_then b0 b1 b2 l0 l1 l2 f g = record {
  lists = g.lists;
  count = omega (arith, f.count, g.count);
  stay = λ other b. g.stay other (before_more (length l0.links.keys) (length l1.links.keys) other f.count b) ∙ f.stay other b;
}

pub built_grows : (s0 s1 : List Node) (b0 b1 : Blocks) (level : List ℕ) (number : ℕ) (rows : List Row) → IsBuilt s0 s1 b0 b1 level rows number → BlocksGrow s0 s1 b0 b1
built_grows s0 s1 b0 b1 level number rows h = record { grows = h.grows; blocks = h.blocks; count = h.count; rows_stay = h.rows_stay; covers_stay = h.covers_stay }

pub blocks_then : (s0 s1 s2 : List Node) (b0 b1 b2 : Blocks) → BlocksGrow s0 s1 b0 b1 → BlocksGrow s1 s2 b1 b2 → BlocksGrow s0 s2 b0 b2
blocks_then s0 s1 s2 b0 b1 b2 f g = record {
  grows = growth.twice s0 s1 s2 f.grows g.grows;
  blocks = g.blocks;
  count = omega (arith, f.count, g.count);
  rows_stay = λ k less. g.rows_stay k (omega (arith, f.count, less)) ∙ f.rows_stay k less;
  covers_stay = λ k less. g.covers_stay k (omega (arith, f.count, less)) ∙ f.covers_stay k less;
}

pub blocks_same : (s : List Node) (b : Blocks) → IsBlocks s b → BlocksGrow s s b b
blocks_same s b h = record { grows = growth.stays s; blocks = h; count = omega arith; rows_stay = λ k less. refl; covers_stay = λ k less. refl }

-- lists over more blocks
pub lists_over : (s0 s1 : List Node) (b0 b1 : Blocks) (lists : Lists) → AreLists b0 lists → BlocksGrow s0 s1 b0 b1 → ListsGrow b0 b1 lists lists
lists_over s0 s1 b0 b1 lists h g = record {
  lists = record {
    links = λ place link e. let f = h.links place link e in (f.0, fits_more (length b0.blocks.items) (length b1.blocks.items) link.item g.count f.1);
    count = h.count;
    known = λ place number e.
        let k = h.known place number e in
        let less = k.0 in
        (omega (arith, less, g.count), g.rows_stay number less ∙ k.1 ∙ sym (stays (Some place) (known_place place number e)));
  };
  count = omega arith;
  stay = stays;
}
  where
    stays : (other : Option ℕ) → IsBefore (length lists.links.keys) other → list_rows (rows_of b1.blocks.items) lists.links.keys other ≡ list_rows (rows_of b0.blocks.items) lists.links.keys other
    stays other b = rows_agree (length b0.blocks.items) (rows_of b0.blocks.items) (rows_of b1.blocks.items) lists.links.keys h.links g.rows_stay other b

    known_place : (place number : ℕ) → slice_get lists.known.items place ≡ Some (Some number) → place < length lists.links.keys
    known_place place number e = let w = slice_get_within lists.known.items place (Some number) e in omega (arith, w, h.count)

pub runs-append : (runs more : List laws.Run) → rows_of_runs (runs ++ more) ≡ rows_of_runs runs ++ rows_of_runs more
runs-append [] more = refl
runs-append (r ∷ runs) more = ap (λ (rows : List Row). map (in_front r.span) r.rows ++ rows) (runs-append runs more) ∙ sym (append_assoc (map (in_front r.span) r.rows) (rows_of_runs runs) (rows_of_runs more))

-- the runs lead to blocks that keep their rows
pub runs_agree : (rows others : ℕ → List Row) (runs : List Run) → All (λ r. others r.block ≡ rows r.block) runs → rows_of_runs (map (run_by others) runs) ≡ rows_of_runs (map (run_by rows) runs)
runs_agree rows others [] h = refl
runs_agree rows others (r ∷ runs) h =
    ap (λ (rs : List Row). map (in_front (interval_of r.span)) rs ++ rows_of_runs (map (run_by others) runs)) (h 0 r (omega arith))
    ∙ ap (λ (rs : List Row). map (in_front (interval_of r.span)) (rows r.block) ++ rs) (runs_agree rows others runs (λ k d less. h (suc k) d (omega (arith, less))))

pub leads_stay : (s0 s1 : List Node) (b0 b1 : Blocks) (level : List ℕ) (runs : List Run) → BlocksGrow s0 s1 b0 b1 → FitRuns b0 level runs → FitRuns b1 level runs
leads_stay s0 s1 b0 b1 level runs g h k d less =
    let l = h k d less in
    let older = l.older in
    record { older = omega (arith, older, g.count); level = ap (λ c. c.level.now) (g.covers_stay _ older) ∙ l.level; inside = l.inside }

pub gathered_none : (s : List Node) (b : Blocks) (lists : Lists) (level : List ℕ) → IsBlocks s b → AreLists b lists → AreGathered s s b b lists lists level [] None []
gathered_none s b lists level blocks h =
    let none = none_listed b lists h in
    record { blocks = blocks_same s b blocks; lists_grow = listed_grows b lists lists [] None none; within = tt; list_is = none.rows_are; runs_are = refl; leads = λ k d less. absurd (omega (arith, less)) }

pub gathered_more : (s0 s1 s2 : List Node) (b0 b1 b2 : Blocks) (l0 l1 l2 l3 : Lists) (level next : List ℕ) (done rows : List Row) (list : Option ℕ) (place : ℕ) (runs more : List Run) (run : Run) (piece : ListedRun) → next ≡ next_level level →
    AreGathered s0 s1 b0 b1 l0 l1 level done list runs → IsBuilt s1 s2 b1 b2 next rows run.block → ListsGrow b1 b2 l1 l2 →
    IsListed b2 l2 l3 (list_rows (rows_of b2.blocks.items) l2.links.keys list ++ item_rows (rows_of b2.blocks.items) (Behind piece)) (Some place) →
    interval_of_run piece ≡ interval_of run.span → piece.block ≡ run.block → run.span.hi ≤ top_of level → more ≡ runs ++ run ∷ [] →
    AreGathered s0 s2 b0 b2 l0 l3 level (done ++ map (in_front (interval_of run.span)) rows) (Some place) more
gathered_more s0 s1 s2 b0 b1 b2 l0 l1 l2 l3 level next done rows list place runs more run piece one g built lists listed span block inside to =
    let grown = built_grows s1 s2 b1 b2 next run.block rows built in
    let rows2 : ℕ → List Row = rows_of b2.blocks.items in
    let agree : rows_of_runs (map (run_by rows2) runs) ≡ done = runs_agree (rows_of b1.blocks.items) rows2 runs (λ k d less. built.rows_stay _ (g.leads k d less).older) ∙ g.runs_are in
    let items : item_rows rows2 (Behind piece) ≡ map (in_front (interval_of run.span)) rows =
    ap (λ i. map (in_front i) (rows2 piece.block)) span ∙ ap (λ n. map (in_front (interval_of run.span)) (rows2 n)) block ∙ ap (map (in_front (interval_of run.span))) built.rows_are in
    record {
      blocks = blocks_then s0 s1 s2 b0 b1 b2 g.blocks grown;
      lists_grow = lists_then b0 b2 b2 l0 l2 l3 (lists_then b0 b1 b2 l0 l1 l2 g.lists_grow lists) (listed_grows b2 l2 l3 _ (Some place) listed);
      within = listed.within;
      list_is = listed.rows_are ∙ ap (λ (rs : List Row). rs ++ item_rows rows2 (Behind piece)) (lists.stay list g.within ∙ g.list_is) ∙ ap (λ (rs : List Row). done ++ rs) items;
      runs_are = ap (λ rs. rows_of_runs (map (run_by rows2) rs)) to ∙ ap rows_of_runs (map-append (run_by rows2) runs (run ∷ [])) ∙ runs-append (map (run_by rows2) runs) (run_by rows2 run ∷ [])
          ∙ ap (λ (rs : List Row). rs ++ (map (in_front (interval_of run.span)) (rows2 run.block) ++ [])) agree ∙ ap (λ (rs : List Row). done ++ rs) (append-nil (map (in_front (interval_of run.span)) (rows2 run.block)))
          ∙ ap (λ (rs : List Row). done ++ map (in_front (interval_of run.span)) rs) built.rows_are;
      leads = subst (FitRuns b2 level) (sym to)
          (All-push (FitsRun b2.covers.items (length b2.blocks.items) level) runs run (leads_stay s1 s2 b1 b2 level runs grown g.leads) (record { older = built.number_in; level = built.level_is ∙ one; inside = inside }));
    }

-- the same of the lists, where the block is kept of the list
pub list_kept : (s0 s1 s2 : List Node) (b0 b1 b2 : Blocks) (l0 l1 l2 : Lists) (level : List ℕ) (done rows : List Row) (list : Option ℕ) (number : ℕ) → ListsGrow b0 b1 l0 l1 → IsBefore (length l1.links.keys) list →
    list_rows (rows_of b1.blocks.items) l1.links.keys list ≡ done → IsBuilt s1 s2 b1 b2 level rows number → rows ≡ done →
    ((blocks : Blocks) → AreLists blocks l1 → IsBefore (length l1.links.keys) list → number < length blocks.blocks.items → rows_of blocks.blocks.items number ≡ list_rows (rows_of blocks.blocks.items) l1.links.keys list → ListsGrow blocks blocks l1 l2) →
    ListsGrow b0 b2 l0 l2
list_kept s0 s1 s2 b0 b1 b2 l0 l1 l2 level done rows list number grown before at built same keep =
    let over = lists_over s1 s2 b1 b2 l1 grown.lists (built_grows s1 s2 b1 b2 level number rows built) in
    lists_then b0 b1 b2 l0 l1 l2 grown (lists_then b1 b2 b2 l1 l1 l2 over (keep b2 over.lists before built.number_in (built.rows_are ∙ same ∙ sym at ∙ sym (over.stay list before))))

-- one list, and then one with more rows
pub listed_then : (blocks : Blocks) (l0 l1 l2 : Lists) (rows more : List Row) (list next : Option ℕ) → IsListed blocks l0 l1 rows list →
    IsListed blocks l1 l2 (list_rows (rows_of blocks.blocks.items) l1.links.keys list ++ more) next → IsListed blocks l0 l2 (rows ++ more) next
listed_then blocks l0 l1 l2 rows more list next f g = record {
  lists = g.lists;
  count = omega (arith, f.count, g.count);
  stay = λ other b. g.stay other (before_more (length l0.links.keys) (length l1.links.keys) other f.count b) ∙ f.stay other b;
  within = g.within;
  rows_are = g.rows_are ∙ ap (λ (rs : List Row). rs ++ more) f.rows_are;
}

-- one more
pub map_next : {X Y : Type 0} (f : X → Y) (xs : List X) (i : ℕ) (x : X) (y : Y) → i < length xs → x ≡ get_or xs i x → f x ≡ y → map f (take (i + 1) xs) ≡ map f (take i xs) ++ y ∷ []
map_next f xs i x y less is e =
    let one : i + 1 ≡ suc i = omega arith in
    ap (λ n. map f (take n xs)) one ∙ ap (map f) (take-suc xs i x less) ∙ map-append f (take i xs) (get_or xs i x ∷ []) ∙ ap (λ z. map f (take i xs) ++ z ∷ []) (ap f (sym is) ∙ e)

-- no entry yet
pub none_built : (s : List Node) (b : Blocks) (level : List ℕ) → IsBlocks s b → AreBuilt s s b b level [] []
none_built s b level h = record { grows = growth.stays s; blocks = h; count = omega arith; rows_stay = λ k less. refl; covers_stay = λ k less. refl; numbers_in = λ k d less. absurd (omega (arith, less)); rows_are = refl }

-- the block of one more entry
pub lasts_step : (s : List Node) (b0 b1 b2 : Blocks) (rows : List Row) (row : Row) (numbers more : List ℕ) (number : ℕ) → AreBuilt s s b0 b1 [] rows numbers → IsBuilt s s b1 b2 [] (row ∷ []) number → more ≡ numbers ++ number ∷ [] →
    AreBuilt s s b0 b2 [] (rows ++ row ∷ []) more
lasts_step s b0 b1 b2 rows row numbers more number h g em = record {
  grows = growth.stays s;
  blocks = g.blocks;
  count = omega (arith, h.count, g.count);
  rows_stay = λ k less. g.rows_stay k (omega (arith, h.count, less)) ∙ h.rows_stay k less;
  covers_stay = λ k less. g.covers_stay k (omega (arith, h.count, less)) ∙ h.covers_stay k less;
  numbers_in = subst (StandAt b2 []) (sym em) (All-push (StandsAt b2 []) numbers number (stand b1 b2 g.count g.covers_stay [] numbers h.numbers_in) (g.number_in, g.level_is));
  rows_are = ap (flat_map (rows_of b2.blocks.items)) em ∙ flat_map-append (rows_of b2.blocks.items) numbers (number ∷ [])
      ∙ ap (λ (rs : List Row). rs ++ (rows_of b2.blocks.items number ++ [])) (flat_stays b1 b2 g.rows_stay [] numbers h.numbers_in ∙ h.rows_are)
      ∙ ap (λ (rs : List Row). rows ++ rs) (append-nil (rows_of b2.blocks.items number) ∙ g.rows_are);
}

-- the block of them all
pub numbers_built : (s0 s1 s2 : List Node) (b0 b1 b2 : Blocks) (level : List ℕ) (rows : List Row) (numbers : List ℕ) (number : ℕ) → AreBuilt s0 s1 b0 b1 level rows numbers →
    IsBuilt s1 s2 b1 b2 level (flat_map (rows_of b1.blocks.items) numbers) number → IsBuilt s0 s2 b0 b2 level rows number
numbers_built s0 s1 s2 b0 b1 b2 level rows numbers number h g = record {
  grows = growth.twice s0 s1 s2 h.grows g.grows;
  blocks = g.blocks;
  count = omega (arith, h.count, g.count);
  rows_stay = λ k less. g.rows_stay k (omega (arith, h.count, less)) ∙ h.rows_stay k less;
  covers_stay = λ k less. g.covers_stay k (omega (arith, h.count, less)) ∙ h.covers_stay k less;
  number_in = g.number_in;
  level_is = g.level_is;
  rows_are = g.rows_are ∙ h.rows_are;
}

-- the same over a store that grew before
pub grown_built : (s0 s1 s2 : List Node) (b0 b1 : Blocks) (level : List ℕ) (rows : List Row) (number : ℕ) → Grows s0 s1 → IsBuilt s1 s2 b0 b1 level rows number → IsBuilt s0 s2 b0 b1 level rows number
grown_built s0 s1 s2 b0 b1 level rows number g h = record {
  grows = growth.twice s0 s1 s2 g h.grows;
  blocks = h.blocks;
  count = h.count;
  rows_stay = h.rows_stay;
  covers_stay = h.covers_stay;
  number_in = h.number_in;
  level_is = h.level_is;
  rows_are = h.rows_are;
}

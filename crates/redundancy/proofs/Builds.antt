-- Blocks that are added: runs that rise and are apart, laid over the empty set.
use Rattle.std.proofs.Common.{◌≡◌, ◌∷◌, ℕ, zero, suc, List, [], ◌<◌, ◌≤◌, ◌+◌, ◌-◌, Bool, true, false, length, refl, ap, arith, sym, ◌∙◌, subst, get_or, take, ◌++◌, ◌⊎◌, inl, inr}
use Rattle.std.specs.Prelude.{◌&&◌, ◌||◌, ◌==◌, not, All, cond, Some, unwrap_or, map, slice_get, Vec}
use Rattle.std.specs.List.{list_any}
use Rattle.std.proofs.lemmas.List.{get_or_default, length-append, get_or_append_left}
use Rattle.std.proofs.lemmas.List.Folds.{list_any-append}
use Rattle.std.proofs.lemmas.List.Elements.{All-head, All-tail, All-map, All-weaker}
use Rattle.field_boxes.specs.Headline.Classifier.{interval_holds}
use Rattle.field_boxes.specs.Headline.Fields.{AreValues}
use Rattle.node_store.specs.Levels.{HasField, next as next_level, top_of, IsLevel}
use Rattle.field_boxes.specs.Spans.{interval_of}
use Rattle.node_store.specs.declared.edge.Edge.{Edge}
use Rattle.node_store.specs.Edges.{child_of}
use Rattle.node_store.specs.Diagram.{Node, answer, edges_of, level_of}
use Rattle.node_store.proofs.Values.{each, values_from}
use Rattle.field_sets.specs.Placed.{PlacedAt, RiseFrom, led, placed_at}
use Rattle.redundancy_laws.specs.Rows.{Row, in_front, matches, last_row}
use Rattle.redundancy_laws.specs.Layers.{AreApart, rows_of_runs}
use Rattle.redundancy_laws.specs.Sifted.{is_in, IsCover, IsUnion}
use Rattle.redundancy_laws.proofs.Apart.{behind-none, none-below}
use Rattle.field_boxes.proofs.Unions.{between}
use Rattle.redundancy_laws.proofs.OneRun.{cover-behind}
use Rattle.redundancy.specs.declared.blocks.Cover.{Cover}
use Rattle.redundancy.specs.declared.blocks.Run.{Run}
use Rattle.redundancy.specs.declared.blocks.Blocks.{Blocks}
use Rattle.redundancy.specs.Blocks.{FitsRun, IsBlocks, RiseApart, cover_at, rows_of, run_by, FitRuns, run_placed, AreBlocks, FitsAt, HasCover, no_cover, rows_by, IsAdded, IsBuilt, StandsAt}
use Rattle.std.specs.Borrow.{Bor}
use Rattle.std.specs.Global.{Global}
use Rattle.std.proofs.lemmas.Bool.{cases_lt}
use Rattle.std.proofs.lemmas.Option.{slice_get_within}
use Rattle.node_store.specs.declared.edge.NodeId.{NodeId}
use Rattle.node_store.specs.Store.{Grows}
use Rattle.node_store.proofs.Growth.{kept_place, level_kept, stays}
use Rattle.node_store.proofs.Canonical.{in_use, is_level}
use Rattle.redundancy_laws.proofs.Covers.{cover-last, cover-two}
use Rattle.redundancy_laws.proofs.Kept.{cover-stays}
use Rattle.redundancy.specs.declared.blocks.Block.{Block}
use Rattle.redundancy.specs.declared.blocks.Block.TheVariants.{Last, Layer, Two}
use Rattle.redundancy.proofs.Numbers.{last_item}
use Rattle.redundancy.proofs.BlockRows.{AllLead, Lead, all_lead, rows_at, rows_stay, same_runs}

-- whatever rows stand behind the runs
pub apart_any : (f g : ℕ → List Row) (least : ℕ) (runs : List Run) → AreApart least (map (run_by f) runs) → AreApart least (map (run_by g) runs)
apart_any f g least [] a = tt
apart_any f g least (r ∷ runs) a = (a.0, a.1, apart_any f g (r.span.hi + 1) runs a.2)

-- a run more, that begins above the one before it
rise_from : (f : ℕ → List Row) (least : ℕ) (runs : List Run) (k : ℕ) (d : Run) → suc k < length runs → AreApart least (map (run_by f) (take (suc k) runs)) →
    (get_or runs k d).span.hi < (get_or runs (suc k) d).span.lo → AreApart least (map (run_by f) (take (suc (suc k)) runs))
rise_from f least [] k d h a less = absurd (omega (arith, h))
rise_from f least (r ∷ []) k d h a less = absurd (omega (arith, h))
rise_from f least (r ∷ q ∷ runs) zero d h a less = (a.0, a.1, (omega (arith, less), q.span.ordered, tt))
rise_from f least (r ∷ q ∷ runs) (suc k) d h a less = (a.0, a.1, rise_from f (r.span.hi + 1) (q ∷ runs) k d (omega (arith, h)) a.2 less)

pub rise_more : (runs : List Run) (k : ℕ) (x y : Run) → 0 < k → k < length runs → RiseApart (take k runs) → (get_or runs (k - 1) y).span.hi < (get_or runs k x).span.lo → RiseApart (take (k + 1) runs)
rise_more runs zero x y some h a less = absurd (omega (arith, some))
rise_more runs (suc k) x y some h a less =
    let before : suc k - 1 ≡ k = omega arith in
    let at : get_or runs (suc k - 1) y ≡ get_or runs k x = ap (λ n. get_or runs n y) before ∙ get_or_default runs k y x (omega (arith, h)) in
    let one : suc (suc k) ≡ suc k + 1 = omega arith in
    subst (λ n. RiseApart (take n runs)) one (rise_from (λ block. []) 0 runs k x h a (omega (arith, less, ap (λ (r : Run). r.span.hi) at)))

-- the runs with the sets of their blocks
rise_at : (covers : List Cover) (n : ℕ) (level : List ℕ) (least : ℕ) (runs : List Run) → AreApart least (map (run_by (λ block. [])) runs) → All (FitsRun covers n level) runs → RiseFrom least (top_of level) (map (run_placed covers) runs)
rise_at covers n level least [] a f = tt
rise_at covers n level least (r ∷ runs) a f = (
  a.0,
  (All-head (FitsRun covers n level) r runs f).inside,
  rise_at covers n level (suc r.span.hi) runs
      (let one : r.span.hi + 1 ≡ suc r.span.hi = omega arith in subst (λ m. AreApart m (map (run_by (λ block. [])) runs)) one a.2) (All-tail (FitsRun covers n level) r runs f),
)

pub placed_rise : (b : Blocks) (level : List ℕ) (runs : List Run) → RiseApart runs → FitRuns b level runs → RiseFrom 0 (top_of level) (map (run_placed b.covers.items) runs)
placed_rise b level runs a f = rise_at b.covers.items (length b.blocks.items) level 0 runs a f

pub placed_stand : (nodes : List Node) (b : Blocks) (level : List ℕ) (runs : List Run) → IsBlocks nodes b → FitRuns b level runs → PlacedAt nodes (next_level level) (map (run_placed b.covers.items) runs)
placed_stand nodes b level runs h f =
    All-map (λ p. level_of nodes p.to.0 ≡ next_level level) (run_placed b.covers.items) runs
    (All-weaker (FitsRun b.covers.items (length b.blocks.items) level) (λ (r : Run). level_of nodes (cover_at b.covers.items r.block).set.0 ≡ next_level level)
    (λ r k. (h.covered r.block k.older).level ∙ k.level) runs f)

module _ (nodes : List Node) (b : Blocks) (level : List ℕ) (edges : List Edge) (v : ℕ) (values : List ℕ) where
  abbrev rows : ℕ → List Row
  rows = rows_of b.blocks.items

  abbrev covered : List Run → Bool
  covered runs = list_any (matches (v ∷ values)) (rows_of_runs (map (run_by rows) runs))

  parted : (r : Run) (runs : List Run) → covered (r ∷ runs) ≡ (list_any (matches (v ∷ values)) (map (in_front (interval_of r.span)) (rows r.block)) || covered runs)
  parted r runs = list_any-append (matches (v ∷ values)) (map (in_front (interval_of r.span)) (rows r.block)) (rows_of_runs (map (run_by rows) runs))

  or_none : (t s u : Bool) → t ≡ u → s ≡ false → (t || s) ≡ u
  or_none false s u e k = k ∙ e
  or_none true s u e k = e

  none_or : (t s : Bool) → t ≡ false → (t || s) ≡ s
  none_or false s e = refl
  none_or true s e = cc

  by_test : (r : Run) (runs : List Run) (t : Bool) → interval_holds v (interval_of r.span) ≡ t → AreApart (r.span.hi + 1) (map (run_by rows) runs) →
      is_in nodes (cover_at b.covers.items r.block).set.0 values ≡ list_any (matches values) (rows r.block) →
      is_in nodes (led (map (run_placed b.covers.items) runs) edges v) values ≡ covered runs →
      is_in nodes (led (map (run_placed b.covers.items) (r ∷ runs)) edges v) values ≡ covered (r ∷ runs)
  by_test r runs true is a here later =
      let e = between v (interval_of r.span) is in
      ap (λ t. is_in nodes (unwrap_or (cond t (Some (cover_at b.covers.items r.block).set.0) (placed_at (map (run_placed b.covers.items) runs) v)) (child_of edges v)) values) is
      ∙ here
      ∙ sym (parted r runs
      ∙ or_none (list_any (matches (v ∷ values)) (map (in_front (interval_of r.span)) (rows r.block))) (covered runs) (list_any (matches values) (rows r.block))
      (cover-behind (interval_of r.span) v values (rows r.block) ∙ ap (λ t. t && list_any (matches values) (rows r.block)) is)
      (none-below (r.span.hi + 1) (map (run_by rows) runs) v values a (omega (arith, e.1))))
  by_test r runs false is a here later =
      ap (λ t. is_in nodes (unwrap_or (cond t (Some (cover_at b.covers.items r.block).set.0) (placed_at (map (run_placed b.covers.items) runs) v)) (child_of edges v)) values) is
      ∙ later
      ∙ sym (parted r runs
      ∙ none_or (list_any (matches (v ∷ values)) (map (in_front (interval_of r.span)) (rows r.block))) (covered runs) (behind-none v values (interval_of r.span) (rows r.block) is))

  led_covers : (least : ℕ) (runs : List Run) → IsBlocks nodes b → FitRuns b level runs → AreApart least (map (run_by rows) runs) → AreValues (next_level level) values → is_in nodes (child_of edges v) values ≡ false →
      is_in nodes (led (map (run_placed b.covers.items) runs) edges v) values ≡ covered runs
  led_covers least [] h f a ok none = none
  led_covers least (r ∷ runs) h f a ok none =
      let k = All-head (FitsRun b.covers.items (length b.blocks.items) level) r runs f in
      by_test r runs (interval_holds v (interval_of r.span)) refl a.2
      ((h.covered r.block k.older).set values (subst (λ n. AreValues n values) (sym k.level) ok))
      (led_covers (r.span.hi + 1) runs h (All-tail (FitsRun b.covers.items (length b.blocks.items) level) r runs f) a.2 ok none)

-- the node that leads to the sets of the runs' blocks, and elsewhere to nothing
pub laid_covers : (old new : List Node) (b : Blocks) (level : List ℕ) (none set : ℕ) (runs : List Run) → HasField level → IsBlocks old b → FitRuns b level runs → RiseApart runs →
    ((values : List ℕ) → AreValues level values → answer old none values ≡ 0) →
    ((v : ℕ) (values : List ℕ) → v ≤ top_of level → answer new set (v ∷ values) ≡ answer old (led (map (run_placed b.covers.items) runs) (edges_of old none) v) values) →
    IsCover new level set (rows_of_runs (map (run_by (rows_of b.blocks.items)) runs))
laid_covers old new b level none set runs five h f a empty answers =
    each (λ values. is_in new set values ≡ list_any (matches values) (rows_of_runs (map (run_by (rows_of b.blocks.items)) runs))) level five
    (λ v values small ok.
    ap (λ n. not (n == 0)) (answers v values small)
    ∙ led_covers old b level (edges_of old none) v values 0 runs h f (apart_any (λ block. []) (rows_of b.blocks.items) 0 runs a) ok
    (ap (λ n. not (n == 0)) (empty (v ∷ values) (values_from level v values five small ok))))

pub cover_stays : (old new : List Node) (cover : Cover) (rows : List Row) → Grows old new → HasCover old cover rows → HasCover new cover rows
cover_stays old new cover rows g h = record {
  within = h.within;
  level = level_kept old new cover.set.0 g (in_use old cover.set.0 cover.level.now h.within h.level) ∙ h.level;
  set = cover-stays old new cover.level.now cover.set.0 rows h.within g h.level h.set;
}

pub blocks_stay : (old new : List Node) (blocks : List Block) (covers : List Cover) → Grows old new → AreBlocks old blocks covers → AreBlocks new blocks covers
blocks_stay old new blocks covers g h = record {
  count = h.count;
  fits = h.fits;
  covered = λ number less. cover_stays old new (cover_at covers number) (rows_of blocks number) g (h.covered number less);
}

some_block : (a b : Block) → Some a ≡ Some b → a ≡ b
some_block a b h = cc

last_block : (xs : List Block) (y : Block) → slice_get (xs ++ y ∷ []) (length xs) ≡ Some y
last_block [] y = refl
last_block (x ∷ xs) y = last_block xs y

module _ (nodes : List Node) (blocks : List Block) (covers : List Cover) (block : Block) (cover : Cover) where
  at_place : (k : ℕ) (b : Block) → slice_get (blocks ++ block ∷ []) k ≡ Some b → ((k < length blocks) × (slice_get blocks k ≡ Some b)) ⊎ ((k ≡ length blocks) × (b ≡ block))
  at_place k b e = elim (cases_lt k (length blocks)) [
    | inl less ↦ inl (less, sym (kept_place blocks (block ∷ []) k less) ∙ e)
    | inr le ↦
        let w = slice_get_within (blocks ++ block ∷ []) k b e in
        let is : k ≡ length blocks = omega (arith, w, le, length-append blocks (block ∷ [])) in
        inr (is, some_block b block (sym e ∙ ap (slice_get (blocks ++ block ∷ [])) is ∙ last_block blocks block))
  ]

  cover_old : (k : ℕ) → k < length covers → cover_at (covers ++ cover ∷ []) k ≡ cover_at covers k
  cover_old k less = get_or_append_left covers (cover ∷ []) no_cover k less

  level_old : (k : ℕ) → k < length covers → (cover_at (covers ++ cover ∷ []) k).level.now ≡ (cover_at covers k).level.now
  level_old k less = ap (λ (c : Cover). c.level.now) (cover_old k less)

  fits_run : (k : ℕ) (field : List ℕ) (r : Run) → k ≤ length covers → FitsRun covers k field r → FitsRun (covers ++ cover ∷ []) k field r
  fits_run k field r within f = record {
    older = f.older;
    level = level_old r.block (omega (arith, within, f.older)) ∙ f.level;
    inside = f.inside;
  }

  fits_old : (k : ℕ) (b : Block) → k < length covers → FitsAt covers k b → FitsAt (covers ++ cover ∷ []) k b
  fits_old k (Last decision) less f = level_old k less ∙ f
  fits_old k (Layer runs) less f =
      let e = level_old k less in (
        subst HasField (sym e) f.0,
        subst (λ n. All (FitsRun (covers ++ cover ∷ []) k n) runs.items) (sym e)
            (All-weaker (FitsRun covers k (cover_at covers k).level.now) (FitsRun (covers ++ cover ∷ []) k (cover_at covers k).level.now)
            (λ r h. fits_run k (cover_at covers k).level.now r (omega (arith, less)) h) runs.items f.1),
        f.2,
      )
  fits_old k (Two first second) less f =
      (f.0, f.1, level_old first (omega (arith, less, f.0)) ∙ f.2 ∙ sym (level_old k less), level_old second (omega (arith, less, f.1)) ∙ f.3 ∙ sym (level_old k less))

  fits_all : AreBlocks nodes blocks covers → FitsAt (covers ++ cover ∷ []) (length blocks) block → (k : ℕ) (b : Block) → slice_get (blocks ++ block ∷ []) k ≡ Some b → FitsAt (covers ++ cover ∷ []) k b
  fits_all h f k b e = elim (at_place k b e) [
    | inl old ↦ fits_old k b (omega (arith, h.count, old.0)) (h.fits k b old.1)
    | inr new ↦ subst (λ (c : Block). FitsAt (covers ++ cover ∷ []) k c) (sym new.1) (subst (λ n. FitsAt (covers ++ cover ∷ []) n block) (sym new.0) f)
  ]

  -- what the new block leads to has the rows that it had
  stay_by : (b : Block) → AllLead blocks → Lead (length blocks) b → rows_by (rows_of (blocks ++ block ∷ [])) (Some b) ≡ rows_by (rows_of blocks) (Some b)
  stay_by (Last decision) lead k = refl
  stay_by (Layer runs) lead k =
      ap rows_of_runs (same_runs (rows_of (blocks ++ block ∷ [])) (rows_of blocks) runs.items
      (All-weaker (λ (r : Run). r.block < length blocks) (λ (r : Run). rows_of (blocks ++ block ∷ []) r.block ≡ rows_of blocks r.block) (λ r less. rows_stay blocks (block ∷ []) r.block lead less) runs.items k))
  stay_by (Two first second) lead k =
      ap (λ rows. rows ++ rows_of (blocks ++ block ∷ []) second) (rows_stay blocks (block ∷ []) first lead k.0)
      ∙ ap (λ rows. rows_of blocks first ++ rows) (rows_stay blocks (block ∷ []) second lead k.1)

  new_rows : AllLead blocks → AllLead (blocks ++ block ∷ []) → rows_of (blocks ++ block ∷ []) (length blocks) ≡ rows_by (rows_of blocks) (Some block)
  new_rows lead all =
      let e = last_block blocks block in
      rows_at (blocks ++ block ∷ []) (length blocks) block all e ∙ stay_by block lead (all (length blocks) block e)

  lead_old : AreBlocks nodes blocks covers → AllLead blocks
  lead_old h = all_lead blocks covers h.fits

  lead_all : AreBlocks nodes blocks covers → FitsAt (covers ++ cover ∷ []) (length blocks) block → AllLead (blocks ++ block ∷ [])
  lead_all h f = all_lead (blocks ++ block ∷ []) (covers ++ cover ∷ []) (fits_all h f)

  add_new : AreBlocks nodes blocks covers → FitsAt (covers ++ cover ∷ []) (length blocks) block → HasCover nodes cover (rows_by (rows_of blocks) (Some block)) →
      AreBlocks nodes (blocks ++ block ∷ []) (covers ++ cover ∷ [])
  add_new h f c = record {
    count = length-append covers (cover ∷ []) ∙ ap (λ n. n + 1) h.count ∙ sym (length-append blocks (block ∷ []));
    fits = fits_all h f;
    covered = λ k less. by_place k less (cases_lt k (length blocks));
  }
    where
      by_place : (k : ℕ) → k < length (blocks ++ block ∷ []) → (k < length blocks) ⊎ (length blocks ≤ k) → HasCover nodes (cover_at (covers ++ cover ∷ []) k) (rows_of (blocks ++ block ∷ []) k)
      by_place k less (inl old) =
          subst (λ (d : Cover). HasCover nodes d (rows_of (blocks ++ block ∷ []) k)) (sym (cover_old k (omega (arith, h.count, old))))
          (subst (HasCover nodes (cover_at covers k)) (sym (rows_stay blocks (block ∷ []) k (lead_old h) old)) (h.covered k old))
      by_place k less (inr past) =
          let is : k ≡ length blocks = omega (arith, less, past, length-append blocks (block ∷ [])) in
          let at : length covers ≡ k = h.count ∙ sym is in
          subst (λ (d : Cover). HasCover nodes d (rows_of (blocks ++ block ∷ []) k)) (sym (last_item no_cover covers cover k at))
          (subst (λ n. HasCover nodes cover (rows_of (blocks ++ block ∷ []) n)) (sym is) (subst (HasCover nodes cover) (sym (new_rows (lead_old h) (lead_all h f))) c))

  here : AreBlocks nodes blocks covers → cover_at (covers ++ cover ∷ []) (length blocks) ≡ cover
  here h = last_item no_cover covers cover (length blocks) h.count

  -- the new block and its cover, of old blocks
  built : (old_nodes : List Node) (old new : Blocks) → Grows old_nodes nodes → old.blocks.items ≡ blocks → old.covers.items ≡ covers → new.blocks.items ≡ blocks ++ block ∷ [] → new.covers.items ≡ covers ++ cover ∷ [] →
      AreBlocks nodes blocks covers → FitsAt (covers ++ cover ∷ []) (length blocks) block → HasCover nodes cover (rows_by (rows_of blocks) (Some block)) →
      IsBuilt old_nodes nodes old new cover.level.now (rows_by (rows_of blocks) (Some block)) (length blocks)
  built old_nodes old new g ob oc nb nc h f c = record {
    grows = g;
    blocks = subst (λ bs. AreBlocks nodes bs new.covers.items) (sym nb) (subst (AreBlocks nodes (blocks ++ block ∷ [])) (sym nc) (add_new h f c));
    count = omega (arith, ap (λ (bs : List Block). length bs) ob, ap (λ (bs : List Block). length bs) nb, length-append blocks (block ∷ []));
    rows_stay = λ k less. ap (λ bs. rows_of bs k) nb ∙ rows_stay blocks (block ∷ []) k (lead_old h) (omega (arith, less, ap (λ (bs : List Block). length bs) ob)) ∙ sym (ap (λ bs. rows_of bs k) ob);
    covers_stay = λ k less. ap (λ cs. cover_at cs k) nc ∙ cover_old k (omega (arith, h.count, less, ap (λ (bs : List Block). length bs) ob)) ∙ sym (ap (λ cs. cover_at cs k) oc);
    number_in = omega (arith, ap (λ (bs : List Block). length bs) nb, length-append blocks (block ∷ []));
    level_is = ap (λ cs. (cover_at cs (length blocks)).level.now) nc ∙ ap (λ (d : Cover). d.level.now) (here h);
    rows_are = ap (λ bs. rows_of bs (length blocks)) nb ∙ new_rows (lead_old h) (lead_all h f);
  }

-- what a call of add comes to
pub added : (s0 s1 : List Node) (old new : Blocks) (block : Block) (cover : Cover) (number : ℕ) → Grows s0 s1 → IsBlocks s0 old →
    (cover_at (old.covers.items ++ cover ∷ []) (length old.blocks.items) ≡ cover → FitsAt (old.covers.items ++ cover ∷ []) (length old.blocks.items) block) →
    HasCover s1 cover (rows_by (rows_of old.blocks.items) (Some block)) → IsAdded old new block cover number →
    IsBuilt s0 s1 old new cover.level.now (rows_by (rows_of old.blocks.items) (Some block)) number
added s0 s1 old new block cover number g h f c a =
    let h1 = blocks_stay s0 s1 old.blocks.items old.covers.items g h in
    subst (IsBuilt s0 s1 old new cover.level.now (rows_by (rows_of old.blocks.items) (Some block))) (sym a.number_is)
    (built s1 old.blocks.items old.covers.items block cover s0 old new g refl refl a.blocks a.covers h1 (f (here s1 old.blocks.items old.covers.items block cover h1)) c)

-- the three kinds
pub last_built : (s : List Node) (old new : Blocks) (set : NodeId) (empty : Bor (List ℕ)) (decision number : ℕ) → IsBlocks s old → empty.now ≡ [] → level_of s set.0 ≡ [] → is_in s set.0 [] ≡ true →
    IsAdded old new (Last decision) (record { level = empty; set = set }) number → IsBuilt s s old new [] (last_row decision ∷ []) number
last_built s old new set empty decision number h none e full a =
    subst (λ level. IsBuilt s s old new level (last_row decision ∷ []) number) none
    (added s s old new (Last decision) (record { level = empty; set = set }) number (stays s) h (λ at. ap (λ (c : Cover). c.level.now) at ∙ none)
    (record { within = subst IsLevel (sym none) tt; level = e ∙ sym none; set = subst (λ level. IsCover s level set.0 (last_row decision ∷ [])) (sym none) (cover-last s set.0 decision full) }) a)

pub two_built : (s0 s1 : List Node) (old new : Blocks) (set : NodeId) (level : Bor (List ℕ)) (first second number : ℕ) → Grows s0 s1 → IsBlocks s0 old → IsLevel level.now → StandsAt old level.now first → StandsAt old level.now second →
    level_of s1 set.0 ≡ level.now → IsUnion s1 level.now (cover_at old.covers.items first).set.0 (cover_at old.covers.items second).set.0 set.0 →
    IsAdded old new (Two first second) (record { level = level; set = set }) number → IsBuilt s0 s1 old new level.now (rows_of old.blocks.items first ++ rows_of old.blocks.items second) number
two_built s0 s1 old new set level first second number g h five f k e u a =
    let cover : Cover = record { level = level; set = set } in
    let h1 = blocks_stay s0 s1 old.blocks.items old.covers.items g h in
    added s0 s1 old new (Two first second) cover number g h
    (λ at. (
      f.0,
      k.0,
      level_old s1 old.blocks.items old.covers.items (Two first second) cover first (omega (arith, f.0, h.count)) ∙ f.1 ∙ sym (ap (λ (c : Cover). c.level.now) at),
      level_old s1 old.blocks.items old.covers.items (Two first second) cover second (omega (arith, k.0, h.count)) ∙ k.1 ∙ sym (ap (λ (c : Cover). c.level.now) at),
    ))
    (record {
      within = five;
      level = e;
      set = cover-two s1 level.now (cover_at old.covers.items first).set.0 (cover_at old.covers.items second).set.0 set.0 (rows_of old.blocks.items first) (rows_of old.blocks.items second)
          (subst (λ n. IsCover s1 n (cover_at old.covers.items first).set.0 (rows_of old.blocks.items first)) f.1 (h1.covered first f.0).set)
          (subst (λ n. IsCover s1 n (cover_at old.covers.items second).set.0 (rows_of old.blocks.items second)) k.1 (h1.covered second k.0).set) u;
    })
    a

pub layer_built : (s0 s1 : List Node) (old new : Blocks) (set : NodeId) (level : Bor (List ℕ)) (number : ℕ) (runs : Vec Run Global) → Grows s0 s1 → IsBlocks s0 old → HasField level.now → FitRuns old level.now runs.items → RiseApart runs.items →
    level_of s1 set.0 ≡ level.now → IsCover s1 level.now set.0 (rows_of_runs (map (run_by (rows_of old.blocks.items)) runs.items)) →
    IsAdded old new (Layer runs) (record { level = level; set = set }) number → IsBuilt s0 s1 old new level.now (rows_of_runs (map (run_by (rows_of old.blocks.items)) runs.items)) number
layer_built s0 s1 old new set level number runs g h five f apart e c a =
    let cover : Cover = record { level = level; set = set } in
    let covers = old.covers.items ++ cover ∷ [] in
    let n = length old.blocks.items in
    added s0 s1 old new (Layer runs) cover number g h
    (λ at. (
      subst HasField (sym (ap (λ (c : Cover). c.level.now) at)) five,
      subst (λ d. All (FitsRun covers n d) runs.items) (sym (ap (λ (c : Cover). c.level.now) at))
          (All-weaker (FitsRun old.covers.items n level.now) (FitsRun covers n level.now)
          (λ r k. fits_run s1 old.blocks.items old.covers.items (Layer runs) cover n level.now r (omega (arith, h.count)) k) runs.items f),
      apart,
    ))
    (record { within = is_level level.now five; level = e; set = c }) a

-- the same of a list whose copy the block holds
pub layer_of : (s0 s1 : List Node) (old new : Blocks) (set : NodeId) (level : Bor (List ℕ)) (number : ℕ) (own : Vec Run Global) (runs : List Run) → own.items ≡ runs → Grows s0 s1 → IsBlocks s0 old → HasField level.now → FitRuns old level.now runs → RiseApart runs →
    level_of s1 set.0 ≡ level.now → IsCover s1 level.now set.0 (rows_of_runs (map (run_by (rows_of old.blocks.items)) runs)) →
    IsAdded old new (Layer own) (record { level = level; set = set }) number → IsBuilt s0 s1 old new level.now (rows_of_runs (map (run_by (rows_of old.blocks.items)) runs)) number
layer_of s0 s1 old new set level number own runs is g h five f apart e c a =
    subst (λ rs. IsBuilt s0 s1 old new level.now (rows_of_runs (map (run_by (rows_of old.blocks.items)) rs)) number) is
    (layer_built s0 s1 old new set level number own g h five (subst (FitRuns old level.now) (sym is) f) (subst RiseApart (sym is) apart) e
    (subst (λ rs. IsCover s1 level.now set.0 (rows_of_runs (map (run_by (rows_of old.blocks.items)) rs))) (sym is) c) a)

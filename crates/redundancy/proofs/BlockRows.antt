-- The rows of blocks by number, as the store grows and in sequence.
use Rattle.std.proofs.Common.{◌≡◌, ◌∷◌, ◌++◌, ℕ, zero, suc, List, [], ◌<◌, length, refl, ap, arith, ◌∙◌, subst, ◌≤◌, ◌+◌, sym, take, drop, append_assoc}
use Rattle.std.proofs.lemmas.List.{append-nil, length-append, map-append, take-append-drop}
use Rattle.std.specs.Prelude.{Option, Some, None, All, slice_get, map, Vec}
use Rattle.std.specs.Global.{Global}
use Rattle.std.proofs.lemmas.Option.{slice_get_within}
use Rattle.std.proofs.lemmas.List.Elements.{All-head, All-tail, All-weaker, All-drop, All-nil, All-push, All-take}
use Rattle.field_boxes.specs.Headline.Classifier.{Interval}
use Rattle.field_boxes.specs.Spans.{interval_of}
use Rattle.node_store.proofs.Growth.{kept_place, twice}
use Rattle.redundancy_laws.specs.Rows.{Row, last_row}
use Rattle.redundancy_laws.specs.Layers as laws
use Rattle.redundancy_laws.specs.Layers.{rows_of_runs}
use Rattle.redundancy.specs.declared.blocks.Block.{Block}
use Rattle.redundancy.specs.declared.blocks.Block.TheVariants.{Last, Layer, Two}
use Rattle.redundancy.specs.declared.blocks.Cover.{Cover}
use Rattle.redundancy.specs.declared.blocks.Run.{Run}
use Rattle.redundancy.specs.Blocks.{FitsAt, FitsRun, cover_at, rows_by, rows_of, rows_within, run_by, AreBlocks, HasCover, IsBlocks, AreBuilt, FitRuns, IsBuilt, StandAt, StandsAt}
use Rattle.node_store.specs.Diagram.{Node}
use Rattle.node_store.specs.Store.{Grows}
use Rattle.redundancy_laws.proofs.Kept.{cover-stays}
use Rattle.redundancy.proofs.Numbers.{number_stays}
use Rattle.std.specs.List.{flat_map}
use Rattle.std.proofs.lemmas.List.Concat.{flat_map-append}
use Rattle.redundancy_laws.proofs.Apart.{rows-append}
use Rattle.redundancy.specs.declared.blocks.Blocks.{Blocks}

-- each block leads to smaller numbers
abbrev pub Lead : ℕ → Block → Type 0
Lead number (Last decision) = Unit {0}
Lead number (Layer runs) = All (λ (r : Run). r.block < number) runs.items
Lead number (Two first second) = (first < number) × (second < number)

abbrev pub AllLead : List Block → Type 0
AllLead blocks = (number : ℕ) (block : Block) → slice_get blocks number ≡ Some block → Lead number block

pub fits_lead : (covers : List Cover) (number : ℕ) (block : Block) → FitsAt covers number block → Lead number block
fits_lead covers number (Last decision) h = tt
fits_lead covers number (Layer runs) h = All-weaker (FitsRun covers number (cover_at covers number).level.now) (λ (r : Run). r.block < number) (λ r f. f.older) runs.items h.1
fits_lead covers number (Two first second) h = (h.0, h.1)

pub all_lead : (blocks : List Block) (covers : List Cover) → ((number : ℕ) (block : Block) → slice_get blocks number ≡ Some block → FitsAt covers number block) → AllLead blocks
all_lead blocks covers fits number block e = fits_lead covers number block (fits number block e)

-- runs with the same rows behind them
with_rows : Interval → List Row → laws.Run
with_rows span rows = record { span = span; rows = rows }

cons_both : {X : Type 0} (x y : X) (xs ys : List X) → x ≡ y → xs ≡ ys → x ∷ xs ≡ y ∷ ys
cons_both x y xs ys h k = cc

same_run : (f g : ℕ → List Row) (r : Run) → f r.block ≡ g r.block → run_by f r ≡ run_by g r
unfolding with_rows
same_run f g r h = ap (with_rows (interval_of r.span)) h

pub same_runs : (f g : ℕ → List Row) (runs : List Run) → All (λ (r : Run). f r.block ≡ g r.block) runs → map (run_by f) runs ≡ map (run_by g) runs
same_runs f g [] h = refl
same_runs f g (r ∷ runs) h =
    cons_both (run_by f r) (run_by g r) (map (run_by f) runs) (map (run_by g) runs)
    (same_run f g r (All-head (λ (q : Run). f q.block ≡ g q.block) r runs h)) (same_runs f g runs (All-tail (λ (q : Run). f q.block ≡ g q.block) r runs h))

-- rows don't depend on how often blocks may lead on, nor on later blocks
module _ (blocks more : List Block) where
  abbrev Same : ℕ → ℕ → ℕ → Type 0
  Same m n number = rows_within m (blocks ++ more) number ≡ rows_within n blocks number

  by_block : (m n number : ℕ) (b : Option Block) → slice_get blocks number ≡ b → AllLead blocks → number < suc m → number < suc n →
      ((k : ℕ) → k < m → k < n → k < length blocks → Same m n k) → number < length blocks → rows_by (rows_within m (blocks ++ more)) b ≡ rows_by (rows_within n blocks) b
  by_block m n number None e lead lm ln h l = refl
  by_block m n number (Some (Last decision)) e lead lm ln h l = refl
  by_block m n number (Some (Layer runs)) e lead lm ln h l =
      ap rows_of_runs (same_runs (rows_within m (blocks ++ more)) (rows_within n blocks) runs.items
      (All-weaker (λ (r : Run). r.block < number) (λ (r : Run). Same m n r.block) (λ r k. h r.block (omega (arith, k, lm)) (omega (arith, k, ln)) (omega (arith, k, l))) runs.items (lead number (Layer runs) e)))
  by_block m n number (Some (Two first second)) e lead lm ln h l =
      let k = lead number (Two first second) e in
      ap (λ rows. rows ++ rows_within m (blocks ++ more) second) (h first (omega (arith, k.0, lm)) (omega (arith, k.0, ln)) (omega (arith, k.0, l)))
      ∙ ap (λ rows. rows_within n blocks first ++ rows) (h second (omega (arith, k.1, lm)) (omega (arith, k.1, ln)) (omega (arith, k.1, l)))

  same : (m n number : ℕ) → AllLead blocks → number < m → number < n → number < length blocks → Same m n number
  same zero n number lead lm ln l = absurd (omega (arith, lm))
  same (suc m) zero number lead lm ln l = absurd (omega (arith, ln))
  same (suc m) (suc n) number lead lm ln l =
      ap (rows_by (rows_within m (blocks ++ more))) (kept_place blocks more number l)
      ∙ by_block m n number (slice_get blocks number) refl lead lm ln (λ k km kn kl. same m n k lead km kn kl) l

  -- later blocks change no rows
  pub rows_stay : (number : ℕ) → AllLead blocks → number < length blocks → rows_of (blocks ++ more) number ≡ rows_of blocks number
  unfolding rows_of
  rows_stay number lead l = same (suc number) (suc number) number lead (omega arith) (omega arith) l

-- the rows of each kind of block
enough : (blocks : List Block) (n number : ℕ) → AllLead blocks → number < n → number < length blocks → rows_within n blocks number ≡ rows_of blocks number
unfolding rows_of
enough blocks n number lead h l = subst (λ bs. rows_within n bs number ≡ rows_within (suc number) blocks number) (append-nil blocks) (same blocks [] n (suc number) number lead h (omega arith) l)

by_place : (blocks : List Block) (number : ℕ) (block : Block) → slice_get blocks number ≡ Some block → rows_of blocks number ≡ rows_by (rows_within number blocks) (Some block)
unfolding rows_of
by_place blocks number block e = ap (rows_by (rows_within number blocks)) e

pub last_rows : (blocks : List Block) (number decision : ℕ) → slice_get blocks number ≡ Some (Last decision) → rows_of blocks number ≡ last_row decision ∷ []
last_rows blocks number decision e = by_place blocks number (Last decision) e

pub two_rows : (blocks : List Block) (number first second : ℕ) → AllLead blocks → slice_get blocks number ≡ Some (Two first second) →
    rows_of blocks number ≡ rows_of blocks first ++ rows_of blocks second
two_rows blocks number first second lead e =
    let k = lead number (Two first second) e in
    let l = slice_get_within blocks number (Two first second) e in
    by_place blocks number (Two first second) e
    ∙ ap (λ rows. rows ++ rows_within number blocks second) (enough blocks number first lead k.0 (omega (arith, k.0, l)))
    ∙ ap (λ rows. rows_of blocks first ++ rows) (enough blocks number second lead k.1 (omega (arith, k.1, l)))

pub layer_rows : (blocks : List Block) (number : ℕ) (runs : Vec Run Global) → AllLead blocks → slice_get blocks number ≡ Some (Layer runs) → rows_of blocks number ≡ rows_of_runs (map (run_by (rows_of blocks)) runs.items)
layer_rows blocks number runs lead e =
    let l = slice_get_within blocks number (Layer runs) e in
    by_place blocks number (Layer runs) e
    ∙ ap rows_of_runs (same_runs (rows_within number blocks) (rows_of blocks) runs.items
    (All-weaker (λ (r : Run). r.block < number) (λ (r : Run). rows_within number blocks r.block ≡ rows_of blocks r.block) (λ r k. enough blocks number r.block lead k (omega (arith, k, l))) runs.items (lead number (Layer runs) e)))

-- the rows of a block by those of the ones that it leads to
pub rows_at : (blocks : List Block) (number : ℕ) (block : Block) → AllLead blocks → slice_get blocks number ≡ Some block → rows_of blocks number ≡ rows_by (rows_of blocks) (Some block)
rows_at blocks number (Last decision) lead e = last_rows blocks number decision e
rows_at blocks number (Layer runs) lead e = layer_rows blocks number runs lead e
rows_at blocks number (Two first second) lead e = two_rows blocks number first second lead e

pub cover_stays : (old new : List Node) (cover : Cover) (rows : List Row) → Grows old new → HasCover old cover rows → HasCover new cover rows
cover_stays old new cover rows g h = record {
  within = h.within;
  level = number_stays old new cover.set.0 cover.level.now h.within g h.level;
  set = cover-stays old new cover.level.now cover.set.0 rows h.within g h.level h.set;
}

pub blocks_stay : (old new : List Node) (blocks : List Block) (covers : List Cover) → Grows old new → AreBlocks old blocks covers → AreBlocks new blocks covers
blocks_stay old new blocks covers g h = record {
  count = h.count;
  fits = h.fits;
  covered = λ number less. cover_stays old new (cover_at covers number) _ g (h.covered number less);
}

pub leads : (nodes : List Node) (blocks : List Block) (covers : List Cover) → AreBlocks nodes blocks covers → AllLead blocks
leads nodes blocks covers h = all_lead blocks covers h.fits

-- one step after another
pub then : (s0 s1 s2 : List Node) (b0 b1 b2 : Blocks) (w v : List ℕ) (m n : ℕ) (rows others : List Row) → IsBuilt s0 s1 b0 b1 w rows m → IsBuilt s1 s2 b1 b2 v others n → IsBuilt s0 s2 b0 b2 v others n
then s0 s1 s2 b0 b1 b2 w v m n rows others f g = record {
  grows = twice s0 s1 s2 f.grows g.grows;
  blocks = g.blocks;
  count = omega (arith, f.count, g.count);
  rows_stay = λ k less. g.rows_stay k (omega (arith, f.count, less)) ∙ f.rows_stay k less;
  covers_stay = λ k less. g.covers_stay k (omega (arith, f.count, less)) ∙ f.covers_stay k less;
  number_in = g.number_in;
  level_is = g.level_is;
  rows_are = g.rows_are;
}

-- the same rows by other words
pub as_rows : (s0 s1 : List Node) (b0 b1 : Blocks) (level : List ℕ) (n : ℕ) (rows others : List Row) → rows ≡ others → IsBuilt s0 s1 b0 b1 level rows n → IsBuilt s0 s1 b0 b1 level others n
as_rows s0 s1 b0 b1 level n rows others e f = subst (λ rs. IsBuilt s0 s1 b0 b1 level rs n) e f

same_flat : (f g : ℕ → List Row) (numbers : List ℕ) → All (λ n. f n ≡ g n) numbers → flat_map f numbers ≡ flat_map g numbers
same_flat f g [] h = refl
same_flat f g (n ∷ numbers) h =
    ap (λ rows. rows ++ flat_map f numbers) (All-head (λ k. f k ≡ g k) n numbers h) ∙ ap (λ rows. g n ++ rows) (same_flat f g numbers (All-tail (λ k. f k ≡ g k) n numbers h))

-- old numbers after blocks were added
module _ (b0 b1 : Blocks) (count : length b0.blocks.items ≤ length b1.blocks.items) (covers_stay : (k : ℕ) → k < length b0.blocks.items → cover_at b1.covers.items k ≡ cover_at b0.covers.items k) where
  stands : (level : List ℕ) (n : ℕ) → StandsAt b0 level n → StandsAt b1 level n
  stands level n h = (omega (arith, count, h.0), ap (λ (c : Cover). c.level.now) (covers_stay n h.0) ∙ h.1)

  pub stand : (level : List ℕ) (numbers : List ℕ) → StandAt b0 level numbers → StandAt b1 level numbers
  stand level numbers h = All-weaker (StandsAt b0 level) (StandsAt b1 level) (λ n k. stands level n k) numbers h

module _ (b0 b1 : Blocks) (rows_stay : (k : ℕ) → k < length b0.blocks.items → rows_of b1.blocks.items k ≡ rows_of b0.blocks.items k) where
  pub flat_stays : (level : List ℕ) (numbers : List ℕ) → StandAt b0 level numbers → flat_map (rows_of b1.blocks.items) numbers ≡ flat_map (rows_of b0.blocks.items) numbers
  flat_stays level numbers h =
      same_flat (rows_of b1.blocks.items) (rows_of b0.blocks.items) numbers
      (All-weaker (StandsAt b0 level) (λ n. rows_of b1.blocks.items n ≡ rows_of b0.blocks.items n) (λ n k. rows_stay n k.0) numbers h)

  runs_stay : (level : List ℕ) (runs : List Run) → FitRuns b0 level runs → rows_of_runs (map (run_by (rows_of b1.blocks.items)) runs) ≡ rows_of_runs (map (run_by (rows_of b0.blocks.items)) runs)
  runs_stay level runs h =
      ap rows_of_runs (same_runs (rows_of b1.blocks.items) (rows_of b0.blocks.items) runs
      (All-weaker (FitsRun b0.covers.items (length b0.blocks.items) level) (λ (r : Run). rows_of b1.blocks.items r.block ≡ rows_of b0.blocks.items r.block) (λ r k. rows_stay r.block k.older) runs h))

-- two halves in sequence
pub halves_built : (s0 s1 s2 s3 : List Node) (b0 b1 b2 b3 : Blocks) (level : List ℕ) (i first second number : ℕ) (numbers xs ys : List ℕ) → xs ≡ take i numbers → ys ≡ drop i numbers → StandAt b0 level numbers →
    IsBuilt s0 s1 b0 b1 level (flat_map (rows_of b0.blocks.items) xs) first → IsBuilt s1 s2 b1 b2 level (flat_map (rows_of b1.blocks.items) ys) second →
    IsBuilt s2 s3 b2 b3 level (rows_of b2.blocks.items first ++ rows_of b2.blocks.items second) number → IsBuilt s0 s3 b0 b3 level (flat_map (rows_of b0.blocks.items) numbers) number
halves_built s0 s1 s2 s3 b0 b1 b2 b3 level i first second number numbers xs ys ex ey h f g k =
    let yk : StandAt b0 level ys = subst (StandAt b0 level) (sym ey) (All-drop (StandsAt b0 level) i numbers h) in
    as_rows s0 s3 b0 b3 level number (rows_of b2.blocks.items first ++ rows_of b2.blocks.items second) (flat_map (rows_of b0.blocks.items) numbers)
    (ap (λ rows. rows ++ rows_of b2.blocks.items second) (g.rows_stay first f.number_in ∙ f.rows_are)
    ∙ ap (λ rows. flat_map (rows_of b0.blocks.items) xs ++ rows) (g.rows_are ∙ flat_stays b0 b1 f.rows_stay level ys yk)
    ∙ sym (flat_map-append (rows_of b0.blocks.items) xs ys)
    ∙ ap (flat_map (rows_of b0.blocks.items)) (ap (λ zs. zs ++ ys) ex ∙ ap (λ zs. take i numbers ++ zs) ey ∙ take-append-drop i numbers))
    (then s0 s2 s3 b0 b2 b3 level level second number (flat_map (rows_of b1.blocks.items) ys) (rows_of b2.blocks.items first ++ rows_of b2.blocks.items second)
    (then s0 s1 s2 b0 b1 b2 level level first second (flat_map (rows_of b0.blocks.items) xs) (flat_map (rows_of b1.blocks.items) ys) f g) k)

-- the blocks of some layers, with runs left
pub record AreLaid (s0 s : List Node) (b0 b : Blocks) (level : List ℕ) (runs rest : List Run) (numbers : List ℕ) : Type 0 where
  pub built : AreBuilt s0 s b0 b level (flat_map (rows_of b.blocks.items) numbers) numbers
  pub fit : FitRuns b0 level rest
  pub rows : flat_map (rows_of b.blocks.items) numbers ++ rows_of_runs (map (run_by (rows_of b0.blocks.items)) rest) ≡ rows_of_runs (map (run_by (rows_of b0.blocks.items)) runs)
  pub some : 0 < length rest + length numbers

rows_split : (f : ℕ → List Row) (runs front others : List Run) → front ++ others ≡ runs → rows_of_runs (map (run_by f) front) ++ rows_of_runs (map (run_by f) others) ≡ rows_of_runs (map (run_by f) runs)
rows_split f runs front others e =
    sym (rows-append (map (run_by f) front) (map (run_by f) others)) ∙ ap rows_of_runs (sym (map-append (run_by f) front others)) ∙ ap (λ (rs : List Run). rows_of_runs (map (run_by f) rs)) e

in_turn : (a f o : List Row) → (a ++ (f ++ [])) ++ o ≡ a ++ (f ++ o)
in_turn a f o = ap (λ rows. (a ++ rows) ++ o) (append-nil f) ∙ append_assoc a f o

-- no runs are laid yet
pub laid_start : (s0 s1 : List Node) (b : Blocks) (level : List ℕ) (runs : List Run) (numbers : List ℕ) → numbers ≡ [] → Grows s0 s1 → IsBlocks s0 b → FitRuns b level runs → 0 < length runs → AreLaid s0 s1 b b level runs runs numbers
laid_start s0 s1 b level runs numbers is g h fit some = subst (AreLaid s0 s1 b b level runs runs) (sym is) (record {
  built = record {
    grows = g;
    blocks = blocks_stay s0 s1 b.blocks.items b.covers.items g h;
    count = omega arith;
    rows_stay = λ k less. refl;
    covers_stay = λ k less. refl;
    numbers_in = All-nil (StandsAt b level);
    rows_are = refl;
  };
  fit = fit;
  rows = refl;
  some = omega (arith, some);
})

-- the front's layer is built
pub laid_step : (s0 s1 s2 : List Node) (b0 b1 b2 : Blocks) (level : List ℕ) (n number : ℕ) (runs rest front others : List Run) (numbers more : List ℕ) → AreLaid s0 s1 b0 b1 level runs rest numbers →
    front ≡ take n rest → others ≡ drop n rest → IsBuilt s1 s2 b1 b2 level (rows_of_runs (map (run_by (rows_of b1.blocks.items)) front)) number → more ≡ numbers ++ number ∷ [] →
    AreLaid s0 s2 b0 b2 level runs others more
laid_step s0 s1 s2 b0 b1 b2 level n number runs rest front others numbers more h ef eo g em = record {
  built = record {
    grows = twice s0 s1 s2 h.built.grows g.grows;
    blocks = g.blocks;
    count = omega (arith, h.built.count, g.count);
    rows_stay = λ k less. g.rows_stay k (omega (arith, h.built.count, less)) ∙ h.built.rows_stay k less;
    covers_stay = λ k less. g.covers_stay k (omega (arith, h.built.count, less)) ∙ h.built.covers_stay k less;
    numbers_in = subst (StandAt b2 level) (sym em) (All-push (StandsAt b2 level) numbers number (stand b1 b2 g.count g.covers_stay level numbers h.built.numbers_in) (g.number_in, g.level_is));
    rows_are = refl;
  };
  fit = subst (FitRuns b0 level) (sym eo) (All-drop (FitsRun b0.covers.items (length b0.blocks.items) level) n rest h.fit);
  rows =
      ap (λ ns. flat_map (rows_of b2.blocks.items) ns ++ rows_of_runs (map (run_by (rows_of b0.blocks.items)) others)) em
      ∙ ap (λ rows. rows ++ rows_of_runs (map (run_by (rows_of b0.blocks.items)) others)) (flat_map-append (rows_of b2.blocks.items) numbers (number ∷ []))
      ∙ ap (λ rows. (rows ++ (rows_of b2.blocks.items number ++ [])) ++ rows_of_runs (map (run_by (rows_of b0.blocks.items)) others)) (flat_stays b1 b2 g.rows_stay level numbers h.built.numbers_in)
      ∙ ap (λ rows. (flat_map (rows_of b1.blocks.items) numbers ++ (rows ++ [])) ++ rows_of_runs (map (run_by (rows_of b0.blocks.items)) others)) (g.rows_are ∙ runs_stay b0 b1 h.built.rows_stay level front fit_front)
      ∙ in_turn (flat_map (rows_of b1.blocks.items) numbers) (rows_of_runs (map (run_by (rows_of b0.blocks.items)) front)) (rows_of_runs (map (run_by (rows_of b0.blocks.items)) others))
      ∙ ap (λ rows. flat_map (rows_of b1.blocks.items) numbers ++ rows) (rows_split (rows_of b0.blocks.items) rest front others (ap (λ rs. rs ++ others) ef ∙ ap (λ rs. take n rest ++ rs) eo ∙ take-append-drop n rest))
      ∙ h.rows;
  some = omega (arith, ap (λ (ns : List ℕ). length ns) em, length-append numbers (number ∷ []));
}
  where
    fit_front : FitRuns b0 level front
    fit_front = subst (FitRuns b0 level) (sym ef) (All-take (FitsRun b0.covers.items (length b0.blocks.items) level) n rest h.fit)

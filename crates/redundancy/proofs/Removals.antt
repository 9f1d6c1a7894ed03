-- What removal worked out, as it is kept and found again, from one table to the next.
use Rattle.std.proofs.Common.{◌≡◌, ℕ, ◌≤◌, List, length, ap, arith, refl, sym, ◌∙◌, subst}
use Rattle.std.proofs.lemmas.Option.{same_Some}
use Rattle.std.specs.Prelude.{nat_eq, Bool, true, false, cond, Option, None, Some, IfSome, IfOk, IsErrAnd, OnOk, Result, Ok, Err}
use Rattle.std.specs.Borrow.{Bor}
use Rattle.std.specs.HashMap.{get}
use Rattle.std.specs.Option.{option_copied}
use Rattle.std.specs.Bool.{Decides}
use Rattle.std.specs.Cmp.Lexicographic.{pointwise, pointwise_decides}
use Rattle.std.proofs.lemmas.Bool.Decides.{Decides-eqb, Decides-and}
use Rattle.node_store.specs.Diagram.{Node}
use Rattle.node_store.specs.Levels.{IsLevel}
use Rattle.node_store.specs.Store.{Grows}
use Rattle.redundancy_laws.specs.declared.context.Context.{Context}
use Rattle.redundancy_laws.specs.declared.sifted.Sifted.{Sifted}
use Rattle.redundancy_laws.specs.Rows.{Row}
use Rattle.redundancy_laws.specs.Sifted.{AreContexts, IsSifted}
use Rattle.redundancy_laws.proofs.Kept.{sifted-stays, pairs-stay}
use Rattle.redundancy.specs.declared.blocks.Cover.{Cover}
use Rattle.redundancy.specs.declared.blocks.Blocks.{Blocks}
use Rattle.redundancy.specs.declared.sifting.BlockContexts.{BlockContexts}
use Rattle.redundancy.specs.declared.sifting.Memo.{Memo}
use Rattle.redundancy.specs.Blocks.{rows_of, cover_at, BlocksGrow, IsBlocks, IsBuilt}
use Rattle.redundancy.specs.Remembered.{same_context, same_asked, IsAnswered, IsMemo}
use Rattle.table_compose.specs.declared.composition.ComposeError.{ComposeError}
use Rattle.table_compose.specs.declared.composition.ComposeError.TheVariants.{Memory, TooMany}
use Rattle.table_compose.specs.declared.diagram_plans.Plans.{Plans}
use Rattle.table_compose.specs.Plans.{ArePlansOf, KeepsPlans}
use Rattle.redundancy.specs.declared.removal.Removal.{Removal}
use Rattle.redundancy.specs.NodeBlocks.{AreKnown}
use Rattle.redundancy.specs.Removal.{IsRemovalOf, UnlessMemory}
use Rattle.redundancy.proofs.BlockRows.{blocks_stay}
use Rattle.redundancy.proofs.Gathering.{built_grows}
use Rattle.redundancy.proofs.NodeBlocks.{known_later, known_learnt}

pair_is : (p q : Context) → p.after.0 ≡ q.after.0 → p.met.0 ≡ q.met.0 → p ≡ q
pair_is p q a m =
    ap (λ (n : ℕ). let r : Context = record { after = record { 0 = n }; met = p.met } in r) a
    ∙ ap (λ (n : ℕ). let r : Context = record { after = q.after; met = record { 0 = n } } in r) m

pairs_decide : (p q : Context) → Decides (same_context p q) (p ≡ q)
pairs_decide p q =
    let d = Decides-and (nat_eq p.after.0 q.after.0) (nat_eq p.met.0 q.met.0) (Decides-eqb p.after.0 q.after.0) (Decides-eqb p.met.0 q.met.0) in
    (λ h. pair_is p q (d.0 h).0 (d.0 h).1, λ e. d.1 (ap (λ (r : Context). r.after.0) e, ap (λ (r : Context). r.met.0) e))

same_is : (p q : BlockContexts) → same_asked p q ≡ true → (p.number ≡ q.number) × (p.contexts.items ≡ q.contexts.items)
same_is p q h =
    let d = (Decides-and (nat_eq p.number q.number) (pointwise same_context p.contexts.items q.contexts.items) (Decides-eqb p.number q.number) (pointwise_decides pairs_decide p.contexts.items q.contexts.items)).0 h in
    (d.0, d.1)

answered_as : (nodes : List Node) (blocks : Blocks) (number other : ℕ) (pairs others : List Context) (s : Sifted) → number ≡ other → pairs ≡ others → IsAnswered nodes blocks number pairs s → IsAnswered nodes blocks other others s
answered_as nodes blocks number other pairs others s n p h = subst (λ m. IsAnswered nodes blocks m others s) n (subst (λ ps. IsAnswered nodes blocks number ps s) p h)

module _ (nodes : List Node) (blocks : Blocks) (old new : BlockContexts → Option Sifted) (asked : BlockContexts) (own : Sifted) where
  abbrev All : (BlockContexts → Option Sifted) → Type 0
  All done = (q : BlockContexts) (s : Sifted) → done q ≡ Some s → IsAnswered nodes blocks q.number q.contexts.items s

  kept_by : (q : BlockContexts) (s : Sifted) (t : Bool) → same_asked asked q ≡ t → new q ≡ cond t (Some own) (old q) → All old → IsAnswered nodes blocks asked.number asked.contexts.items own → new q ≡ Some s →
      IsAnswered nodes blocks q.number q.contexts.items s
  kept_by q s true same at all here h =
      let e = same_is asked q same in
      subst (λ r. IsAnswered nodes blocks q.number q.contexts.items r) (same_Some own s (sym at ∙ h))
      (answered_as nodes blocks asked.number q.number asked.contexts.items q.contexts.items own e.0 e.1 here)
  kept_by q s false same at all here h = all q s (sym at ∙ h)

  pub kept : ((q : BlockContexts) → new q ≡ cond (same_asked asked q) (Some own) (old q)) → All old → IsAnswered nodes blocks asked.number asked.contexts.items own → All new
  kept at all here q s h = kept_by q s (same_asked asked q) refl (at q) all here h

-- what is found was worked out
pub known : (nodes : List Node) (blocks : Blocks) (memo : Memo) (asked : BlockContexts) (found : Option (Bor Sifted)) → option_copied found ≡ get same_asked memo.done asked → IsMemo nodes blocks memo →
    IfSome found (λ s. IsAnswered nodes blocks asked.number asked.contexts.items s.now)
known nodes blocks memo asked None is all = tt
known nodes blocks memo asked (Some s) is all = all asked s.now (sym is)

-- what was worked out stays so where the store grows
pub memo_stays : (old new : List Node) (blocks : Blocks) (done : BlockContexts → Option Sifted) → Grows old new →
    ((q : BlockContexts) (s : Sifted) → done q ≡ Some s → IsAnswered old blocks q.number q.contexts.items s) → (q : BlockContexts) (s : Sifted) → done q ≡ Some s → IsAnswered new blocks q.number q.contexts.items s
memo_stays old new blocks done g all q s e =
    let h = all q s e in record {
      there = h.there;
      within = h.within;
      contexts = pairs-stay old new (cover_at blocks.covers.items q.number).level.now q.contexts.items h.within g h.contexts;
      sifted = sifted-stays old new (cover_at blocks.covers.items q.number).level.now (rows_of blocks.blocks.items q.number) q.contexts.items s h.within g h.contexts h.sifted;
    }

answered_over : (nodes : List Node) (old new : Blocks) (number : ℕ) (pairs : List Context) (s : Sifted) → length old.blocks.items ≤ length new.blocks.items →
    cover_at new.covers.items number ≡ cover_at old.covers.items number → rows_of new.blocks.items number ≡ rows_of old.blocks.items number → IsAnswered nodes old number pairs s → IsAnswered nodes new number pairs s
answered_over nodes old new number pairs s count cover rows h = record {
  there = omega (arith, h.there, count);
  within = subst (λ (c : Cover). IsLevel c.level.now) (sym cover) h.within;
  contexts = subst (λ (c : Cover). AreContexts nodes c.level.now pairs) (sym cover) h.contexts;
  sifted = subst (λ (c : Cover). IsSifted nodes c.level.now (rows_of new.blocks.items number) pairs s) (sym cover)
      (subst (λ (rs : List Row). IsSifted nodes (cover_at old.covers.items number).level.now rs pairs s) (sym rows) h.sifted);
}

-- and where blocks are added
pub memo_over : (s0 s1 : List Node) (old new : Blocks) (done : BlockContexts → Option Sifted) → BlocksGrow s0 s1 old new →
    ((q : BlockContexts) (s : Sifted) → done q ≡ Some s → IsAnswered s0 old q.number q.contexts.items s) → (q : BlockContexts) (s : Sifted) → done q ≡ Some s → IsAnswered s1 new q.number q.contexts.items s
memo_over s0 s1 old new done g all =
    memo_stays s0 s1 new done g.grows
    (λ q s e. let h = all q s e in answered_over s0 old new q.number q.contexts.items s g.count (g.covers_stay q.number h.there) (g.rows_stay q.number h.there) h)

-- it stays true where the store gains nodes
pub removal_later : (old new : List Node) (plans : Plans) (r : Removal) → Grows old new → ArePlansOf old plans → IsRemovalOf old plans r → IsRemovalOf new plans r
removal_later old new plans r g p h = record { blocks = h.blocks; known = known_later old new plans r.blocks r.known g p h.known; memo = h.memo }

-- and where more plans are known
pub removal_learnt : (nodes : List Node) (old new : Plans) (r : Removal) → KeepsPlans old new → IsRemovalOf nodes old r → IsRemovalOf nodes new r
removal_learnt nodes old new r k h = record { blocks = h.blocks; known = known_learnt nodes old new r.blocks r.known k h.known; memo = h.memo }

-- where the block of a node was built
pub removal_built : {E : Type 0} (nodes : List Node) (plans : Plans) (s : List Node) (b : Blocks) (r : Removal) (level : List ℕ) (rows : List Row) (result : Result ℕ E) → IsMemo s b r.memo →
    IfOk result (λ number. IsBuilt s r.sets b r.blocks level rows number) → OnOk result (AreKnown nodes plans r.blocks r.known) → OnOk result (IsRemovalOf nodes plans r)
removal_built nodes plans s b r level rows (Ok number) memo built known = record {
  blocks = built.blocks;
  known = known;
  memo = memo_over s r.sets b r.blocks (λ q. get same_asked r.memo.done q) (built_grows s r.sets b r.blocks level number rows built) memo;
}
removal_built nodes plans s b r level rows (Err e) memo built known = tt

-- and where more was worked out of its blocks
pub removal_sifted : {T E : Type 0} (nodes : List Node) (plans : Plans) (s : List Node) (r : Removal) (result : Result T E) → IsBlocks s r.blocks → AreKnown nodes plans r.blocks r.known →
    OnOk result (Grows s r.sets) → OnOk result (IsMemo r.sets r.blocks r.memo) → OnOk result (IsRemovalOf nodes plans r)
removal_sifted nodes plans s r (Ok x) h known grows memo = record { blocks = blocks_stay s r.sets r.blocks.blocks.items r.blocks.covers.items grows h; known = known; memo = memo }
removal_sifted nodes plans s r (Err e) h known grows memo = tt

pub unless_memory : {T P : Type 0} (r : Result T ComposeError) → P → UnlessMemory r P
unless_memory (Ok x) p = p
unless_memory (Err Memory) p = tt
unless_memory (Err (TooMany needed limit)) p = p

pub memory_refused : {T : Type 0} (P : Type 0) (r : Result T ComposeError) → IsErrAnd r (λ e. e ≡ Memory) → UnlessMemory r P
memory_refused P (Ok x) is = absurd is
memory_refused {T = T} P (Err e) is = subst (λ x. UnlessMemory {A = T} (Err x) P) (sym is) tt

-- What was kept of the first runs of a layer.
use Rattle.std.specs.Prelude.{◌≡◌, ◌++◌, ℕ, suc, ◌<◌, ◌≤◌, true, false, List, [], ◌∷◌, All, length, map, slice_index_or}
use Rattle.smallvec.specs.SmallVec.{SmallVec}
use Rattle.std.specs.List.{list_any}
use Rattle.node_store.specs.Levels.{next as next_level, top_of}
use Rattle.node_store.specs.declared.edge.NodeId.{NodeId}
use Rattle.node_store.specs.Diagram.{Node, edges_of}
use Rattle.field_sets.specs.declared.placed.Placed.{Placed}
use Rattle.field_sets.specs.Placed.{PlacedAt, RiseFrom, led}
use Rattle.redundancy_laws.specs.declared.context.Context.{Context}
use Rattle.redundancy_laws.specs.declared.sifted.Sifted.{Sifted}
use Rattle.redundancy_laws.specs.Rows.{Row}
use Rattle.redundancy_laws.specs.Sifted.{context_at, node_at, IsSoFar}
use Rattle.redundancy.specs.declared.contexts.Stretch.{Stretch}
use Rattle.redundancy.specs.declared.sifting.layer.Change.{Change}
use Rattle.redundancy.specs.declared.sifting.layer.Draft.{Draft}
use Rattle.redundancy.specs.Stretches.{stretches_at}

-- the stretch with what is answered at the place of its pair
abbrev pub placed_by : List NodeId → Stretch → Placed
placed_by after s = record { span = s.span; to = node_at after s.place }

-- the places of the stretches are below the number
abbrev pub HaveRoom : ℕ → List (SmallVec Stretch) → Type 0
HaveRoom count lists = All (λ (own : SmallVec Stretch). All (λ (s : Stretch). s.place < count) own.items) lists

-- what a change says of a context
abbrev pub placed_in : Change → ℕ → List Placed
placed_in change c = slice_index_or (map (λ (own : SmallVec Placed). own.items) change.placed.items) c []

-- what changes say of a context, in their order
abbrev pub placed_for : List Change → ℕ → List Placed
placed_for [] c = []
placed_for (change ∷ changes) c = placed_in change c ++ placed_for changes c

-- where a context leads on with the changes
abbrev pub leads_of : List Node → List Context → List Change → ℕ → ℕ → ℕ
leads_of nodes pairs changes c v = led (placed_for changes c) (edges_of nodes (context_at pairs c).after.0) v

-- the change says of each context that its stretches lead to what is answered at their places
pub record IsChange (lists : List (SmallVec Stretch)) (after : List NodeId) (change : Change) : Type 0 where
  pub count : length change.placed.items ≡ length lists
  pub each : (c : ℕ) → c < length lists → placed_in change c ≡ map (placed_by after) (stretches_at lists c)

-- a run more was taken in: where nothing of it is kept there is no change
pub record IsTakenIn (old : Draft) (lists : List (SmallVec Stretch)) (inner : Sifted) (new : Draft) : Type 0 where
  pub kept : new.kept.items ≡ old.kept.items ++ inner.kept.items
  pub same : list_any (λ b. b) inner.kept.items ≡ false → new.changes.items ≡ old.changes.items
  pub more : list_any (λ b. b) inner.kept.items ≡ true → (change : Change) × (new.changes.items ≡ old.changes.items ++ change ∷ []) × IsChange lists inner.after.items change

-- the spans rise from lo on, apart, and end before the end
abbrev pub RiseUpTo : ℕ → ℕ → List Placed → Type 0
RiseUpTo lo end [] = lo ≤ end
RiseUpTo lo end (p ∷ ps) = (lo ≤ p.span.lo) × RiseUpTo (suc p.span.hi) end ps

-- the changes are of so many contexts, their spans rise and end inside the field, and they lead to the next level
pub record AreChanges (nodes : List Node) (level : List ℕ) (count : ℕ) (changes : List Change) : Type 0 where
  pub room : All (λ (change : Change). length change.placed.items ≡ count) changes
  pub rise : (c : ℕ) → c < count → RiseFrom 0 (top_of level) (placed_for changes c)
  pub children : (c : ℕ) → c < count → PlacedAt nodes (next_level level) (placed_for changes c)

-- what was kept of the rows so far, whose spans end before the next value, where contexts led as in the base
pub record IsDraft (base nodes : List Node) (level : List ℕ) (rows : List Row) (pairs : List Context) (next : ℕ) (draft : Draft) : Type 0 where
  pub so_far : IsSoFar nodes level rows pairs draft.kept.items (leads_of base pairs draft.changes.items)
  pub room : All (λ (change : Change). length change.placed.items ≡ length pairs) draft.changes.items
  pub rise : (c : ℕ) → c < length pairs → RiseUpTo 0 next (placed_for draft.changes.items c)
  pub children : (c : ℕ) → c < length pairs → PlacedAt nodes (next_level level) (placed_for draft.changes.items c)

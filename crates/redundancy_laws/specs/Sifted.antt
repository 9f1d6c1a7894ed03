-- Contexts as pairs of nodes, what is kept of a block for them, and the sets that rows match.
use Rattle.node_store.specs.Levels.{next, top_of}
use Rattle.std.specs.Prelude.{◌≡◌, ℕ, ◌<◌, ◌≤◌, ◌==◌, ◌||◌, not, Bool, true, false, List, [], ◌∷◌, length, slice_index_or}
use Rattle.std.specs.List.{list_any}
use Rattle.field_boxes.specs.Headline.Fields.{AreValues}
use Rattle.field_boxes.specs.Headline.Classifier.{Interval, interval_holds}
use Rattle.node_store.specs.declared.edge.NodeId.{NodeId}
use Rattle.node_store.specs.Edges.{child_of}
use Rattle.node_store.specs.Diagram.{Node, answer, level_of, edges_of}
use Rattle.redundancy_laws.specs.declared.context.Context.{Context}
use Rattle.redundancy_laws.specs.Rows.{Row, matches}
use Rattle.redundancy_laws.specs.declared.sifted.Sifted.{Sifted}
use Rattle.redundancy_laws.specs.Marks.{marked}
use Rattle.redundancy_laws.specs.Contexts.{Contexts, IsRight}

abbrev pub no_node : NodeId
no_node = record { 0 = 0 }

abbrev pub no_context : Context
no_context = record { after = no_node; met = no_node }

abbrev pub node_at : List NodeId → ℕ → NodeId
node_at ids c = slice_index_or ids c no_node

abbrev pub context_at : List Context → ℕ → Context
context_at pairs c = slice_index_or pairs c no_context

-- whether the values are in the set that the node stands for
abbrev pub is_in : List Node → ℕ → List ℕ → Bool
is_in nodes id values = not (answer nodes id values == 0)

-- a context for each pair: what its first node answers, and the set that its second node is
abbrev pub contexts_of : List Node → List Context → Contexts
contexts_of nodes pairs = record {
  count = length pairs;
  after = λ c values. answer nodes (context_at pairs c).after.0 values;
  met = λ c values. is_in nodes (context_at pairs c).met.0 values;
}

-- what the nodes answer, by place
abbrev pub answers_of : List Node → List NodeId → ℕ → List ℕ → ℕ
answers_of nodes ids c values = answer nodes (node_at ids c).0 values

-- the numbers are those of nodes of the level
abbrev pub AreNodes : List Node → List ℕ → List NodeId → Type 0
AreNodes nodes level ids = (c : ℕ) → c < length ids → level_of nodes (node_at ids c).0 ≡ level

abbrev pub AreContexts : List Node → List ℕ → List Context → Type 0
AreContexts nodes level pairs = (c : ℕ) → c < length pairs → (level_of nodes (context_at pairs c).after.0 ≡ level) × (level_of nodes (context_at pairs c).met.0 ≡ level)

-- a flag for each row and an answer for each context, and both are right
pub record IsSifted (nodes : List Node) (level : List ℕ) (rows : List Row) (pairs : List Context) (s : Sifted) : Type 0 where
  pub flags : length s.kept.items ≡ length rows
  pub count : length s.after.items ≡ length pairs
  pub numbers : AreNodes nodes level s.after.items
  pub right : IsRight level (contexts_of nodes pairs) (marked rows s.kept.items) (answers_of nodes s.after.items)

-- where the value leads from the nodes of a pair
abbrev pub context_below : List Node → ℕ → Context → Context
context_below nodes v p = record {
  after = record { 0 = child_of (edges_of nodes p.after.0) v };
  met = record { 0 = child_of (edges_of nodes p.met.0) v };
}

-- the list has the pairs that the values of the interval lead to, and no others
pub record AreBelow (nodes : List Node) (level : List ℕ) (span : Interval) (pairs lower : List Context) (to : ℕ → ℕ → ℕ) : Type 0 where
  pub covered : (c v : ℕ) → c < length pairs → v ≤ top_of level → interval_holds v span ≡ true →
      (to c v < length lower) × (context_at lower (to c v) ≡ context_below nodes v (context_at pairs c))
  pub reached : (d : ℕ) → d < length lower →
      (c : ℕ) × (v : ℕ) × (c < length pairs) × (v ≤ top_of level) × (interval_holds v span ≡ true) × (context_at lower d ≡ context_below nodes v (context_at pairs c))

-- the set of the values of the fields from the level on that some row matches
abbrev pub IsCover : List Node → List ℕ → ℕ → List Row → Type 0
IsCover nodes level set rows = (values : List ℕ) → AreValues level values → is_in nodes set values ≡ list_any (matches values) rows

-- the set of the values of the fields after the level's that some row matches behind this one
abbrev pub IsCoverBehind : List Node → List ℕ → ℕ → ℕ → List Row → Type 0
IsCoverBehind nodes level v set rows = (values : List ℕ) → AreValues (next level) values → is_in nodes set values ≡ list_any (matches (v ∷ values)) rows

-- nothing is in the set
abbrev pub IsEmpty : List Node → List ℕ → ℕ → Type 0
IsEmpty nodes level set = IsCover nodes level set []

-- the node stands for the values for which one of the two nodes does
abbrev pub IsUnion : List Node → List ℕ → ℕ → ℕ → ℕ → Type 0
IsUnion nodes level x y id = (values : List ℕ) → AreValues level values → is_in nodes id values ≡ (is_in nodes x values || is_in nodes y values)

-- the pair behind rows that the set covers
abbrev pub IsBehind : List Node → List ℕ → NodeId → Context → Context → Type 0
IsBehind nodes level cover p q = (q.after ≡ p.after) × IsUnion nodes level p.met.0 cover.0 q.met.0

-- what is answered where each context leads on at each value of the level's field
abbrev pub answers_by : List Node → (ℕ → ℕ → ℕ) → ℕ → List ℕ → ℕ
answers_by nodes leads c [] = 0
answers_by nodes leads c (v ∷ values) = answer nodes (leads c v) values

-- what was kept of these runs of a layer, and where each context leads on with them in front
pub record IsSoFar (nodes : List Node) (level : List ℕ) (rows : List Row) (pairs : List Context) (flags : List Bool) (leads : ℕ → ℕ → ℕ) : Type 0 where
  pub count : length flags ≡ length rows
  pub numbers : (c v : ℕ) → c < length pairs → v ≤ top_of level → level_of nodes (leads c v) ≡ next level
  pub right : IsRight level (contexts_of nodes pairs) (marked rows flags) (answers_by nodes leads)

-- with a run more each context leads, at a value of its interval, to what was found there, and else where it did
pub record LeadOn (level : List ℕ) (span : Interval) (count : ℕ) (to : ℕ → ℕ → ℕ) (found : List NodeId) (before leads : ℕ → ℕ → ℕ) : Type 0 where
  pub inside : (c v : ℕ) → c < count → v ≤ top_of level → interval_holds v span ≡ true → leads c v ≡ (node_at found (to c v)).0
  pub outside : (c v : ℕ) → c < count → v ≤ top_of level → interval_holds v span ≡ false → leads c v ≡ before c v

-- the node leads on as the context does
pub record LeadsAs (nodes : List Node) (level : List ℕ) (leads : ℕ → ℕ → ℕ) (c : ℕ) (id : NodeId) : Type 0 where
  pub number : level_of nodes id.0 ≡ level
  pub answers : (v : ℕ) (values : List ℕ) → v ≤ top_of level → AreValues (next level) values → answer nodes id.0 (v ∷ values) ≡ answer nodes (leads c v) values

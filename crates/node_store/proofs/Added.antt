-- What a store is after its set of nodes was asked to take one.
use Rattle.std.proofs.Common.{◌≡◌, ◌≢◌, ◌∷◌, ◌++◌, ℕ, List, [], ◌<◌, length, refl, ap, sym, ◌∙◌, subst, inl, inr, true≢false}
use Rattle.std.specs.Prelude.{◌⊎◌, suc, zero, Some, slice_get, map, cond, true, false, Bool}
use Rattle.std.specs.List.{list_any}
use Rattle.std.specs.Option.{option_map}
use Rattle.std.proofs.lemmas.Option.{slice_get-map}
use Rattle.node_store.specs.declared.node.Node as code
use Rattle.node_store.specs.Diagram.{Node}
use Rattle.node_store.specs.Nodes.{node_of}
use Rattle.node_store.specs.Store.{IsStore, FitsAt, Grows, IsNumbered}
use Rattle.node_store.proofs.Same.{equal, equal_decides}
use Rattle.node_store.proofs.Growth.{grows, stays, place_of, store_gains}
use Rattle.std.proofs.lemmas.Bool.{or_parts}

abbrev nodes_of : List code.Node → List Node
nodes_of keys = map node_of keys

nodes_push : (keys : List code.Node) (node : code.Node) → nodes_of (keys ++ node ∷ []) ≡ nodes_of keys ++ node_of node ∷ []
nodes_push [] node = refl
nodes_push (k ∷ keys) node = ap (λ ns. node_of k ∷ ns) (nodes_push keys node)

fresh : (keys : List code.Node) (node : code.Node) → list_any (equal node) keys ≡ false → (i : ℕ) → slice_get (nodes_of keys) i ≢ Some (node_of node)
fresh [] node none i h = cc
fresh (k ∷ keys) node none zero h =
    let e : node_of node ≡ node_of k = cc in
    true≢false (sym ((equal_decides node k).1 e) ∙ (or_parts (equal node k) (list_any (equal node) keys) none).0)
fresh (k ∷ keys) node none (suc i) h = fresh keys node (or_parts (equal node k) (list_any (equal node) keys) none).1 i h

-- the set holds a node that is equal to the one asked for
record Holds (keys : List code.Node) (node : code.Node) (id : ℕ) : Type 0 where
  pub key : code.Node
  pub at : slice_get keys id ≡ Some key
  pub same : equal node key ≡ true

found : (keys : List code.Node) (node : code.Node) (id : ℕ) → Holds keys node id → slice_get (nodes_of keys) id ≡ Some (node_of node)
found keys node id h = slice_get-map node_of keys id ∙ ap (option_map node_of) h.at ∙ ap Some (sym ((equal_decides node h.key).0 h.same))

pub record Added (old new : List Node) (node : Node) (id : ℕ) : Type 0 where
  pub store : IsStore new
  pub numbered : IsNumbered old new node id
  pub grown : Grows old new

was_there : (old : List Node) (node : Node) (id : ℕ) → IsStore old → slice_get old id ≡ Some node → Added old old node id
was_there old node id s at = record {
  store = s;
  numbered = record { found = at; old_number = λ place there. (s.once id place node at there, refl); gained = inl refl };
  grown = stays old;
}

is_last : (old : List Node) (node : Node) (id : ℕ) → ((k : ℕ) → slice_get old k ≢ Some node) →
    ((id < length old) × (slice_get old id ≡ Some node)) ⊎ ((id ≡ length old) × (node ≡ node)) → id ≡ length old
is_last old node id new (inl p) = absurd (new id p.1)
is_last old node id new (inr p) = p.0

is_new : (old : List Node) (node : Node) (id : ℕ) → IsStore old → FitsAt old (length old) node → ((k : ℕ) → slice_get old k ≢ Some node) →
    slice_get (old ++ node ∷ []) id ≡ Some node → Added old (old ++ node ∷ []) node id
is_new old node id s fits new at = record {
  store = store_gains old node s fits new;
  numbered = record {
    found = at;
    old_number = λ place there. absurd (new place there);
    gained = inr (is_last old node id new (place_of old node node id at), refl);
  };
  grown = grows old (node ∷ []) s;
}

by_test : (t : Bool) (keys after : List code.Node) (node : code.Node) (id : ℕ) → IsStore (nodes_of keys) → FitsAt (nodes_of keys) (length (nodes_of keys)) (node_of node) →
    list_any (equal node) keys ≡ t → after ≡ cond t keys (keys ++ node ∷ []) → Holds after node id → Added (nodes_of keys) (nodes_of after) (node_of node) id
by_test true keys after node id s fits is e h =
    let at = found after node id h in
    subst (λ ks. slice_get (nodes_of ks) id ≡ Some (node_of node) → Added (nodes_of keys) (nodes_of ks) (node_of node) id) (sym e) (was_there (nodes_of keys) (node_of node) id s) at
by_test false keys after node id s fits is e h =
    let new = ap nodes_of e ∙ nodes_push keys node in
    subst (λ ns. slice_get ns id ≡ Some (node_of node) → Added (nodes_of keys) ns (node_of node) id) (sym new)
    (is_new (nodes_of keys) (node_of node) id s fits (fresh keys node is)) (found after node id h)

pub added : (keys after : List code.Node) (node : code.Node) (id : ℕ) (now : List Node) → nodes_of keys ≡ now → IsStore (nodes_of keys) → FitsAt now (length now) (node_of node) →
    after ≡ cond (list_any (equal node) keys) keys (keys ++ node ∷ []) →
    (key : code.Node) × (slice_get after id ≡ Some key) × (equal node key ≡ true) → Added now (nodes_of after) (node_of node) id
added keys after node id now view s fits e h =
    subst (λ ns. FitsAt ns (length ns) (node_of node) → Added ns (nodes_of after) (node_of node) id) view
    (λ f. by_test (list_any (equal node) keys) keys after node id s f refl e (record { key = h.0; at = h.1; same = h.2 })) fits

-- What walks keep of the pairs that they have been through.
use Rattle.std.specs.Prelude.{◌≡◌, ℕ, Bool, ◌&&◌, nat_eq, List, Option, Some, IsSome}
use Rattle.std.specs.HashMap.{get}
use Rattle.node_store.specs.declared.edge.NodeId.{NodeId}
use Rattle.node_store.specs.Diagram.{Node}
use Rattle.fdd_apply.specs.declared.pair.Pair.{Pair}
use Rattle.fdd_apply.specs.declared.results.Results.{Results}
use Rattle.fdd_apply.specs.Applied.{IsApplied}

-- the pairs are of the same nodes
abbrev pub same_pair : Pair → Pair → Bool
same_pair p q = nat_eq p.left.0 q.left.0 && nat_eq p.right.0 q.right.0

-- what is kept of a pair
abbrev pub kept_at : Results → Pair → Option NodeId
kept_at results pair = get same_pair results.nodes pair

-- each pair is kept with a node that the pair comes to
abbrev pub AreResults : (ℕ → ℕ → ℕ) → List Node → Results → Type 0
AreResults f nodes results = (pair : Pair) (id : NodeId) → kept_at results pair ≡ Some id → IsApplied f nodes pair id

-- what is kept of the pairs at first is kept of those later on
abbrev pub KeepsPairs : Results → Results → Type 0
KeepsPairs old new = (pair : Pair) → IsSome (kept_at old pair) → IsSome (kept_at new pair)

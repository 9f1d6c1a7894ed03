-- Sets of values of a level's fields, and unions of them.
use Rattle.std.specs.Prelude.{ℕ, Bool, not, ◌==◌, nat_eq, min, List, if◌then◌else◌}
use Rattle.node_store.specs.Diagram.{Node, answer}

-- whether the values are in the set of those that the node doesn't answer by 0
abbrev pub is_in : List Node → ℕ → List ℕ → Bool
is_in nodes id values = not (answer nodes id values == 0)

-- what a union answers: the number of two that isn't 0, and the lesser one of two such numbers
abbrev pub united : ℕ → ℕ → ℕ
united left right = if nat_eq left 0 then right else (if nat_eq right 0 then left else min left right)

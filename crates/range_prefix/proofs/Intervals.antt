-- The values of an interval, and how prefixes that are halved are needed.
use Rattle.std.proofs.Common.{◌≡◌, ℕ, ◌+◌, ◌-◌, ◌^◌, ◌<◌, ◌≤◌, [], Bool, true, false, nat_le, ap, ◌∙◌, arith, ◌&&◌}
use Rattle.std.proofs.Math.Bool.{and-false}
use Rattle.std.proofs.lemmas.Bool.{le-leb, lt-leb}
use Rattle.field_boxes.specs.Headline.Classifier.{interval_holds}
use Rattle.range_prefix.specs.Shortest.{has_block, shortest_in}
use Rattle.range_prefix.proofs.Blocks.{has_block-from, nothing_in}

-- the values from lo to hi
abbrev pub inside : ℕ → ℕ → ℕ → Bool
inside lo hi v = interval_holds v (record { lo = lo; hi = hi })

pub below_all : (lo hi v : ℕ) → v < lo → inside lo hi v ≡ false
below_all lo hi v h = ap (λ t. t && nat_le v hi) (lt-leb lo v h)

pub above_all : (lo hi v : ℕ) → hi < v → inside lo hi v ≡ false
above_all lo hi v h = ap (λ t. nat_le lo v && t) (lt-leb v hi h) ∙ and-false (nat_le lo v)

pub inside-from : (lo hi v : ℕ) → lo ≤ v → v ≤ hi → inside lo hi v ≡ true
inside-from lo hi v h k = ap (λ t. t && nat_le v hi) (le-leb lo v h) ∙ le-leb v hi k

pub missed-below : (width lo hi n v : ℕ) → v + (2 ^ n - 1) < lo → shortest_in width (inside lo hi) n v ≡ []
missed-below width lo hi n v h = nothing_in width (inside lo hi) n v (λ k small. below_all lo hi (v + k) (omega arith))

pub missed-above : (width lo hi n v : ℕ) → hi < v → shortest_in width (inside lo hi) n v ≡ []
missed-above width lo hi n v h = nothing_in width (inside lo hi) n v (λ k small. above_all lo hi (v + k) (omega arith))

pub has-whole : (lo hi n v : ℕ) → lo ≤ v → v + (2 ^ n - 1) ≤ hi → has_block (inside lo hi) n v ≡ true
has-whole lo hi n v h j = has_block-from (inside lo hi) n v (λ k small. inside-from lo hi (v + k) (omega arith) (omega arith))

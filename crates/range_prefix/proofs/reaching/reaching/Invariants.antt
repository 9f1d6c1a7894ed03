use Rattle.std.proofs.Common.{◌≡◌, ◌≤◌, ℕ, length}
use Rattle.range_prefix.specs.Spans.{AreApart, union_of}
use Rattle.range_prefix.proofs.reaching.reaching.Given as goal

abbrev pub invariant-loop-left : goal.invariant-loop-left
invariant-loop-left l = record {
  apart : AreApart 0 l.left;
  same : (v : ℕ) → l.value ≤ v → union_of l.left v ≡ union_of l.spans v;
}

abbrev pub decreases-loop-left : goal.decreases-loop-left
decreases-loop-left l = length l.left

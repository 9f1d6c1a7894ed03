use Rattle.std.proofs.Common.{◌≢◌, ◌<◌, ◌≤◌, ℕ, get_or}
use Rattle.field_boxes.specs.declared.rule.Rule.{Rule}
use Rattle.box_query.proofs.asked.needed.Given as goal

abbrev pub invariant-loop-place : goal.invariant-loop-place
invariant-loop-place l = record {
  within : l.count ≤ l.place;
  others : (k : ℕ) (d : Rule) → l.count ≤ k → k < l.place → (get_or l.rules k d).decision ≢ l.wanted;
}

use Rattle.std.proofs.Common.{◌≡◌, ◌<◌, ◌≤◌, ◌+◌, ℕ, false}
use Rattle.rule_audit.specs.Labels.{is_open}
use Rattle.rule_audit.proofs.label_diagram.Labels.has_open.Given as goal

abbrev pub invariant-loop-place : goal.invariant-loop-place
invariant-loop-place l = (k : ℕ) → l.from ≤ k → k < l.from + l.place → is_open l.self.left_open.now k ≡ false

use Rattle.std.proofs.Common.{◌≡◌, ◌<◌, ℕ, length, None, slice_index_or, unwrap_or}
use Rattle.rule_audit.specs.declared.state.RuleState.TheVariants.{Never}
use Rattle.rule_audit.proofs.auditing.filled.Given as goal

abbrev pub invariant-loop-place : goal.invariant-loop-place
invariant-loop-place l = record {
  count : length l.states.items ≡ l.place;
  each : (k : ℕ) → k < l.place → slice_index_or l.states.items k Never ≡ unwrap_or (slice_index_or l.known k None) (slice_index_or l.found k Never);
}

use Rattle.std.proofs.Common.{◌-◌}
use Rattle.prefix_min.proofs.Walking.{IsWalking}
use Rattle.prefix_min.proofs.plan.Plan.+write.Given as goal

abbrev pub decreases-write : goal.decreases-write
decreases-write l = l.to - l.from

abbrev pub invariant-loop-until : goal.invariant-loop-until
invariant-loop-until l = IsWalking l.self.choices.now l.self.also.now l.self.width l.inherited l.from l.to l.until l.initial.rows.items l.rows.items

abbrev pub decreases-loop-until : goal.decreases-loop-until
decreases-loop-until l = l.until - l.from

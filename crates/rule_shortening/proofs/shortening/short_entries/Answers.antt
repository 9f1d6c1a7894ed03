use Rattle.std.proofs.Common.{length}
use Rattle.rule_shortening.proofs.Fronts.{shorter_for}
use Rattle.rule_shortening.proofs.shortening.short_entries.Goals as goal

pub trim_for-requires : goal.trim_for-requires
trim_for-requires c =
    shorter_for (length c.args.names.now) c.args.rules.now c.in-Some.entries.items c.in_ok-entries-2.entries.items (rw c.in-Some.is at c.in_ok-entries.ensures) (rw c.count.ensures at c.in_ok-entries-2.ensures)

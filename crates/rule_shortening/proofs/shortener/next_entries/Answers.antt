use Rattle.std.proofs.Common.{length}
use Rattle.rule_shortening.proofs.Fronts.{shorter_for}
use Rattle.rule_shortening.proofs.shortener.next_entries.Goals as goal

pub returns : goal.returns
returns c =
    shorter_for (length c.args.names.now) c.args.rules.now c.in_ok-list.list.items c.in-Some-2.seen.items c.in_ok-list.ensures
    (rw c.as_slice-2.ensures.value at (rw c.count.ensures at (rw c.in-Some-2.is at c.in_ok-seen.ensures)))

use Rattle.std.proofs.Common.{◌≡◌, length}
use Rattle.rule_audit.specs.Marks.{AreRight}
use Rattle.rule_audit.proofs.search.marks.mark_all.Given as goal

abbrev pub invariant-loop-number : goal.invariant-loop-number
invariant-loop-number l = record {
  count : length l.marks.items ≡ l.number;
  right : AreRight l.store l.nothing l.marks.items;
}

use Rattle.slot_patch.specs.Naming.{AreNumbersOf, ComeFrom, Grow}
use Rattle.slot_patch.proofs.names.Names.numbers.Given as goal

abbrev pub invariant-loop-number : goal.invariant-loop-number
invariant-loop-number l = record {
  grow : Grow l.initial.self l.self;
  from : ComeFrom l.initial.self l.names l.self;
  numbers : AreNumbersOf l.number l.names l.self l.numbers.items;
}

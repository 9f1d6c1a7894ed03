use Rattle.std.proofs.Common.{arith}
use Rattle.rule_shortening.proofs.Fronts.{taken_in}
use Rattle.rule_shortening.proofs.draft.Draft.take_in.Goals as goal

pub returns : goal.returns
returns c = record {
  within = omega (arith, c.requires.place);
  entries = taken_in c.args.names.now c.args.rules.now c.args.place c.args.self.now.first c.args.self.now.entries.items c.in_ok-table.table.items c.in_ok-self.field-0.items (omega (arith, c.if-place-self.false)) c.requires.draft.entries
      (rw c.as_slice.ensures.value at c.in_ok-table.ensures) c.in_ok-self.ensures;
}

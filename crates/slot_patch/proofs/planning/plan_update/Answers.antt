use Rattle.std.proofs.Common.{arith, sym}
use Rattle.slot_patch.proofs.planning.plan_update.Goals as goal

pub plan_in_place-requires : goal.plan_in_place-requires
plan_in_place-requires c = record {
  few = c.requires;
  slots = c.in_ok-standing.ensures.slots;
  entries = c.in_ok-standing.ensures.entries;
  room = omega (arith, c.if-needed-held.false, c.len-needed.ensures);
  layout = c.in_ok-compact.ensures.layout;
}

pub plan_beside-requires-clause-standing : goal.plan_beside-requires-clause-standing
plan_beside-requires-clause-standing c = (sym c.in_ok-standing.ensures.slots, sym c.in_ok-standing.ensures.entries)

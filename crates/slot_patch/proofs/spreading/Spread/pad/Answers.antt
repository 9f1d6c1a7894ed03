use Rattle.std.proofs.Common.{length, ap, refl, arith, None}
use Rattle.slot_patch.specs.declared.spreading.Spread.{Spread}
use Rattle.slot_patch.proofs.Builders.{length-more}
use Rattle.slot_patch.proofs.Merges.{spread-empty}
use Rattle.slot_patch.proofs.spreading.Spread.pad.Goals as goal

pub loop-preserved : goal.loop-preserved
loop-preserved c =
    let l = c.loop in
    let more = ap length c.in_ok-push.ensures.items in
    let one = length-more l.self.next.items None in
    let reached = l.invariant.reached in
    let now : Spread = record { next = c.push.new.self; slots = l.self.slots } in
    record {
      reached = omega (arith, more, one, reached);
      spread = λ old new h. spread-empty old new l.self now (l.invariant.spread old new h) c.in_ok-push.ensures.items refl;
    }

use Rattle.std.proofs.Common.{sym}
use Rattle.slot_patch.proofs.Joints.{put-joint}
use Rattle.slot_patch.proofs.joining.put.Goals as goal

pub returns-then-last-write-clause-patch : goal.returns-then-last-write-clause-patch
returns-then-last-write-clause-patch c = λ old new rest h.
    put-joint old new c.args.writes.now.items c.push-then-last-write.new.self.items c.pop.new.self.items c.in-Some.last c.args.write rest (sym c.if-last-write.true)
    c.in-Some.ensures.items c.in_ok-push-2.ensures.items h

use Rattle.std.proofs.Common.{length, arith}
use Rattle.std.proofs.lemmas.List.{length-set, get_or-set_same, get_or-set_other}
use Rattle.tcam_sim.proofs.Columns.{made-set, number_at_written, number_at_kept, slot_with-same}
use Rattle.tcam_sim.proofs.bank.Bank.put.Goals as goal

pub returns-clause-slots : goal.returns-clause-slots
returns-clause-slots c =
    let old = c.args.self.now in
    let k = c.args.slot in
    let n = length old.decisions.items in
    let h = c.requires.within in
    made-set _ _ _ n k _ (length-set old.decisions.items k c.args.decision) h
    (slot_with-same _ _ _ _ _ _ _ _ (get_or-set_same old.vacant.items k c.args.vacant 0 (omega (arith, h, old.vacant_long)))
    (number_at_written c.set.new.self old.masks n k c.args.mask old.masks_long h c.set.ensures.high c.set.ensures.low)
    (number_at_written c.set-2.new.self old.values n k c.args.value old.values_long h c.set-2.ensures.high c.set-2.ensures.low)
    (get_or-set_same old.decisions.items k c.args.decision 0 h))
    (λ j apart. slot_with-same _ _ _ _ _ _ _ _ (get_or-set_other old.vacant.items k j c.args.vacant 0 apart)
    (number_at_kept c.set.new.self old.masks k c.args.mask j apart c.set.ensures.high c.set.ensures.low)
    (number_at_kept c.set-2.new.self old.values k c.args.value j apart c.set-2.ensures.high c.set-2.ensures.low)
    (get_or-set_other old.decisions.items k j c.args.decision 0 apart))

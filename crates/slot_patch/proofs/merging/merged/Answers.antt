use Rattle.std.proofs.Common.{◌≡◌, ◌<◌, ◌+◌, ℕ, suc, List, drop, get_or, length, arith, add-one}
use Rattle.ternary_words.specs.declared.entry.Entry.{Entry}
use Rattle.slot_patch.specs.Merging.{IsMerged}
use Rattle.slot_patch.specs.Sharing.{AreShared}
use Rattle.slot_patch.specs.declared.pair.Pair.{Pair}
use Rattle.slot_patch.proofs.Merges.{merged-all, next-shared}
use Rattle.slot_patch.proofs.Trimming.{places-within}
use Rattle.slot_patch.proofs.merging.merged.Goals as goal

abbrev none : Pair
none = record { old = 0; new = 0 }

-- the next pair stands in both tables
inside : (old new : List Entry) (i j k : ℕ) (pairs : List Pair) → k < length pairs → AreShared old new i j (drop k pairs) →
    ((get_or pairs k none).old < length old) × ((get_or pairs k none).new < length new)
inside old new i j k pairs small h =
    let p = get_or pairs k none in places-within old new p.old p.new (next-shared old new i j k pairs none small h).0.word

pub loop-pair-preserved : goal.loop-pair-preserved
loop-pair-preserved c =
    let l = c.loop-pair in
    let old = c.args.old.now in
    let new = c.args.new.now in
    let p = get_or c.args.pairs.now l.pair-index none in
    let next = next-shared old new l.at.old l.at.new l.pair-index c.args.pairs.now none c.loop-pair-test.true l.invariant.shared in
    record {
      shared = rw (add-one p.old, add-one p.new, add-one l.pair-index) next.1;
      merged = rw (add-one p.old, add-one p.new, add-one l.pair-index) (c.in_ok-put_pair.ensures old new l.pair-index next.0.word l.invariant.merged);
    }

pub put_pair-requires : goal.put_pair-requires
put_pair-requires c =
    let l = c.loop-pair in
    let next = next-shared c.args.old.now c.args.new.now l.at.old l.at.new l.pair-index c.args.pairs.now none c.loop-pair-test.true l.invariant.shared in
    record { old = next.0.old_from; new = next.0.new_from }

pub overflow_add-at : goal.overflow_add-at
overflow_add-at c =
    let l = c.loop-pair in
    omega (arith, (inside c.args.old.now c.args.new.now l.at.old l.at.new l.pair-index c.args.pairs.now c.loop-pair-test.true l.invariant.shared).0)

pub overflow_add-at-in-loop-pair : goal.overflow_add-at-in-loop-pair
overflow_add-at-in-loop-pair c =
    let l = c.loop-pair in
    omega (arith, (inside c.args.old.now c.args.new.now l.at.old l.at.new l.pair-index c.args.pairs.now c.loop-pair-test.true l.invariant.shared).1)

pub returns-clause-layout : goal.returns-clause-layout
returns-clause-layout c =
    let l = c.loop-pair in
    let old = c.args.old.now in
    let new = c.args.new.now in
    let m = c.in_ok-fill_gap.ensures old new l.pair-index (omega arith) (omega arith) l.invariant.merged in
    merged-all old new l.pair-index c.fill_gap.new.layout m

pub returns-clause-count : goal.returns-clause-count
returns-clause-count c =
    let l = c.loop-pair in
    let count = (c.in_ok-fill_gap.ensures c.args.old.now c.args.new.now l.pair-index (omega arith) (omega arith) l.invariant.merged).count in
    omega (arith, count, c.loop-pair-test.false, l.auto.pair-index-end)

use Rattle.std.proofs.Common.{◌≡◌, ◌<◌, ◌+◌, ◌++◌, length, refl, sym, ap, ◌∙◌, append-nil, arith, add-one}
use Rattle.slot_patch.specs.InPlace.{additions}
use Rattle.slot_patch.proofs.Held.{count-next, count_before, found-in}
use Rattle.slot_patch.proofs.Places.{next-addition}
use Rattle.slot_patch.proofs.draft.add_all.Goals as goal

pub loop-slot-init : goal.loop-slot-init
loop-slot-init c = record { few = omega arith; added = λ old stand long. (refl, sym (append-nil c.args.writes.now.items)) }

pub loop-slot-preserved : goal.loop-slot-preserved
loop-slot-preserved c =
    let l = c.loop-slot in
    let new = c.args.new.now in
    let first = c.args.writes.now.items in
    let k = l.slot in
    record {
      few = omega (arith, l.invariant.few, c.count-passed.ensures.most);
      added = λ old stand long.
          let h = l.invariant.added old stand long in
          let small : k < length old = omega (arith, c.loop-slot-test.true, long) in
          let is = c.held_by-before.ensures ∙ found-in old c.args.slots.now c.args.entries.now k l.passed small stand h.0 in (
            ap (λ n. l.passed + n) (c.count-passed.ensures.count) ∙ count-next old k l.passed c.held_by-before.result small h.0 is ∙ ap (λ n. count_before n old) (sym (add-one k)),
            next-addition first l.writes.items c.add.new.writes.items old new k c.held_by-before.result c.index-new-slot.result c.in_ok-add.ensures h.1 (omega (arith, small, long)) is c.index-new-slot.is
                ∙ ap (λ n. first ++ additions old new n) (sym (add-one k)),
          );
    }

pub returns : goal.returns
returns c = λ old stand long.
    let l = c.loop-slot in
    let all : l.slot ≡ length old = omega (arith, c.loop-slot-test.false, l.auto.slot-end, long) in
    (l.invariant.added old stand long).1 ∙ ap (λ n. c.args.writes.now.items ++ additions old c.args.new.now n) all

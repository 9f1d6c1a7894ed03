use Rattle.std.proofs.Common.{◌≡◌, ◌+◌, ◌∙◌, arith, subst, suc}
use Rattle.bit_merge.specs.Slots.{AreDone}
use Rattle.bit_merge.proofs.SlotSteps.{lead-both}
use Rattle.bit_merge.proofs.Held.{done-fewer}
use Rattle.bit_merge.proofs.merging.merge_words.Goals as goal

pub loop-taken-preserved : goal.loop-taken-preserved
loop-taken-preserved c =
    let l = c.loop-taken in
    let e = c.in_ok-finish.ensures in
    let next : suc l.taken ≡ l.taken + 1 = omega arith in record {
      leads = lead-both c.args.places.now l.places c.finish.new.places l.invariant.leads e.leads;
      done = subst (AreDone c.finish.new.places) next e.done;
      count = e.count ∙ l.invariant.count;
    }

pub returns-clause-done : goal.returns-clause-done
returns-clause-done c =
    let l = c.loop-taken in
    done-fewer l.places l.taken _ (omega (arith, l.invariant.count, c.count-taken-end.ensures, c.loop-taken-test.false)) l.invariant.done

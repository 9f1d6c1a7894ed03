use Rattle.std.proofs.Common.{◌≡◌, false, length, rules, subst, sym}
use Rattle.std.specs.Prelude.{is_some}
use Rattle.ternary_words.specs.Limits.{AreNumbered}
use Rattle.bank_update.specs.Machine.{stage}
use Rattle.bank_update.specs.Standing.{Standing, entries_in}
use Rattle.bank_update.proofs.NextWrites.{no-stage}
use Rattle.slot_patch.specs.Patching.{IsPatchTo, IsUnplanned, plan_of}
use Rattle.slot_patch.proofs.Begins.{refused}
use Rattle.slot_patch.proofs.patcher.begin_patch.Goals as goal

pub patch_to-requires : goal.patch_to-requires
patch_to-requires g c = subst (λ (s : Standing). AreNumbered (length s.names) (entries_in s.slots)) (sym c.settled.ensures) c.stage.ensures.sound.numbered

pub begin_by-requires-clause-plan : goal.begin_by-requires-clause-plan
begin_by-requires-clause-plan g c =
    (subst (λ (s : Standing). IsPatchTo s c.args.table.now (plan_of c.in-Ok.patch)) c.settled.ensures c.in-Ok.ensures.patch).good

pub begin_by-requires-clause-suits : goal.begin_by-requires-clause-suits
begin_by-requires-clause-suits g c =
    (subst (λ (s : Standing). IsPatchTo s c.args.table.now (plan_of c.in-Ok.patch)) c.settled.ensures c.in-Ok.ensures.patch).slots

pub returns-in-Ok-clause-ok : goal.returns-in-Ok-clause-ok
returns-in-Ok-clause-ok g c =
    let s = c.args.patcher.now.state in
    let none : is_some (stage s) ≡ false = search rules in
    record {
      idle = no-stage s none;
      plan = plan_of c.in-Ok.patch;
      patch = subst (λ (x : Standing). IsPatchTo x c.args.table.now (plan_of c.in-Ok.patch)) c.settled.ensures c.in-Ok.ensures.patch;
      state = c.begin_by.ensures.state;
      count = c.begin_by.ensures.total;
    }

pub returns-in-Err-clause-err : goal.returns-in-Err-clause-err
returns-in-Err-clause-err g c =
    let s = c.args.patcher.now.state in
    let none : is_some (stage s) ≡ false = search rules in
    refused s c.args.table.now c.in-Err.refusal (no-stage s none)
    (subst (λ (x : Standing). IsUnplanned x c.args.table.now c.in-Err.refusal) c.settled.ensures c.in-Err.ensures.refused)

use Rattle.std.proofs.Common.{◌≡◌, ◌∙◌, [], Err, IsErrAnd, Ok, Result, inl, inr, subst, sym}
use Rattle.partition_check.specs.CertificateText.{lines_of}
use Rattle.agreement_check.specs.declared.reader.Refusal.{Refusal}
use Rattle.agreement_check.specs.declared.reader.Refusal.TheVariants as refusals
use Rattle.agreement_check.specs.declared.stream.Stop.{Stop}
use Rattle.agreement_check.specs.declared.stream.Stop.TheVariants as stops
use Rattle.agreement_check.specs.declared.wrong.Wrong.{Wrong}
use Rattle.agreement_check.specs.Standing.{IfWrong}
use Rattle.agreement_check.specs.Stops.{stop_of}
use Rattle.agreement_check.specs.Verdict.{FindsWrong, IsUnended, started}
use Rattle.agreement_check.proofs.whole.check_text.Goals as goal

-- what is wrong is what the refusal says
refused_as : (refusal : Refusal) (P : Wrong → Type 0) (w : Wrong) → stop_of refusal ≡ stops.Wrong w → IfWrong refusal P → P w
refused_as (refusals.Wrong v) P w e h = let same : v ≡ w = cc in subst P same h
refused_as refusals.Memory P w e h = absurd (cc e)

told : {T : Type 0} (r : Result T Stop) (refusal : Refusal) (P : Wrong → Type 0) → IsErrAnd r (λ e. e ≡ stop_of refusal) → IfWrong refusal P → (w : Wrong) → r ≡ Err (stops.Wrong w) → P w
told (Ok x) refusal P h holds w e = absurd h
told (Err s) refusal P h holds w e = let same : s ≡ stops.Wrong w = cc in refused_as refusal P w (sym h ∙ same) holds

pub returns-clause-valid : goal.returns-clause-valid
returns-clause-valid c =
    c.in_ok-valid.ensures.verdict c.args.list.now c.args.table.now c.args.text.now (c.in_ok-take.ensures.after c.args.list.now c.args.table.now [] c.new-reader.ensures.after)

pub returns-clause-is_true : goal.returns-clause-is_true
returns-clause-is_true c =
    c.valid_proofs_are_true.ensures c.args.list.now c.args.table.now c.args.text.now c.in_ok-valid.valid
    (c.in_ok-valid.ensures.verdict c.args.list.now c.args.table.now c.args.text.now (c.in_ok-take.ensures.after c.args.list.now c.args.table.now [] c.new-reader.ensures.after))

pub returns-in_err-take-clause-wrong : goal.returns-in_err-take-clause-wrong
returns-in_err-take-clause-wrong c = λ w e.
    let list = c.args.list.now in
    let table = c.args.table.now in
    inl (told c.from_residual.result _ (FindsWrong list table started (lines_of c.args.text.now).whole) c.from_residual.ensures.1 (c.in_err-take.ensures.after list table [] c.new-reader.ensures.after) w e)

pub returns-in_err-valid-clause-wrong : goal.returns-in_err-valid-clause-wrong
returns-in_err-valid-clause-wrong c = λ w e.
    let list = c.args.list.now in
    let table = c.args.table.now in
    inr (told c.from_residual-in_err-valid.result _ (IsUnended list table c.args.text.now) c.from_residual-in_err-valid.ensures.1
    (c.in_err-valid.ensures.verdict list table c.args.text.now (c.in_ok-take.ensures.after list table [] c.new-reader.ensures.after)) w e)

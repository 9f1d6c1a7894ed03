use Rattle.std.proofs.Common.{inl}
use Rattle.std.proofs.lemmas.Result.{IfErr-weaker}
use Rattle.partition_check.specs.Agreement.{HaveNames}
use Rattle.partition_check.specs.Verdict.{IsWrong}
use Rattle.partition_check.specs.declared.row.Wrong.{Wrong}
use Rattle.partition_check.proofs.NamedReasons.{text-named}
use Rattle.partition_check.proofs.WholeTexts.{handed, whole-well, whole-valid, whole-wrong, whole-agree}
use Rattle.partition_check.proofs.whole.check_whole.Goals as goal

pub end-requires-clause-well : goal.end-requires-clause-well
end-requires-clause-well c = whole-well c.args.checker c.args.text.now _ c.in_ok-start.ensures.takes

pub returns-in_err-start-clause-named : goal.returns-in_err-start-clause-named
returns-in_err-start-clause-named c = handed c.from_residual.result _ (λ (w : Wrong). HaveNames c.args.checker.list c.args.checker.table w.why) c.from_residual.ensures.1
    (text-named c.args.checker c.args.text.now _ (inl c.in_err-start.ensures.err))

pub returns-clause-valid : goal.returns-clause-valid
returns-clause-valid c = whole-valid c.args.checker c.args.text.now _ c.in_ok-start.ensures.takes c.in_ok-start.start c.in_ok-start.ensures.start.1 c.end.result c.end.ensures.ok

pub returns-clause-agree : goal.returns-clause-agree
returns-clause-agree c = whole-agree c.args.checker c.args.text.now _ c.in_ok-start.ensures.takes c.in_ok-start.start c.in_ok-start.ensures.start.1 c.end.result c.end.ensures.agree

pub returns-clause-wrong : goal.returns-clause-wrong
returns-clause-wrong c = whole-wrong c.args.checker c.args.text.now _ c.in_ok-start.ensures.takes c.in_ok-start.start c.in_ok-start.ensures.start.1 c.end.result c.end.ensures.err

pub returns-clause-named : goal.returns-clause-named
returns-clause-named c = IfErr-weaker c.end.result (λ (w : Wrong). IsWrong c.args.checker c.args.text.now w) (λ (w : Wrong). HaveNames c.args.checker.list c.args.checker.table w.why)
    (λ w. text-named c.args.checker c.args.text.now w) (returns-clause-wrong c)

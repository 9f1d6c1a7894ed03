use Rattle.std.proofs.Common.{arith}
use Rattle.agreement_check.proofs.Lines.{behind-all}
use Rattle.agreement_check.proofs.LongWords.{kept-long, no-long}
use Rattle.agreement_check.proofs.reader.take_word.Goals as goal

pub returns-then-kept-ge-KEPT-clause-behind : goal.returns-then-kept-ge-KEPT-clause-behind
returns-then-kept-ge-KEPT-clause-behind c = λ words word k is.
    let claims = c.args.claims.now in
    let kept = c.args.kept.now in
    behind-all claims words word (λ more. no-long claims word (kept-long word kept k (omega (arith, c.if-kept-ge-KEPT.true))) words more)

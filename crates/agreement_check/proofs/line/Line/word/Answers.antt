use Rattle.std.proofs.Common.{◌∷◌, ◌++◌, []}
use Rattle.agreement_check.proofs.Lines.{moved-on}
use Rattle.agreement_check.proofs.line.Line.word.Goals as goal

pub returns-clause-behind : goal.returns-clause-behind
returns-clause-behind c = λ words is.
    moved-on c.args.claims.now c.in_ok-self.field-0 c.in_ok-self.field-0 c.behind.new.self (words ++ c.args.word.now ∷ []) (c.in_ok-self.ensures.behind words is)

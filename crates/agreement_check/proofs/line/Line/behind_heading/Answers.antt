use Rattle.std.proofs.Common.{◌∙◌, sym}
use Rattle.agreement_check.proofs.FirstLine.{heading-more}
use Rattle.agreement_check.proofs.Lines.{heading-none}
use Rattle.agreement_check.proofs.line.Line.behind_heading.Goals as goal

pub returns-in_default-clause-behind : goal.returns-in_default-clause-behind
returns-in_default-clause-behind c = λ claims words is.
    heading-none claims c.args.place c.args.self.now.numbers.items words c.args.word.now is.0 is.1 (sym c.first_word.ensures ∙ c.in_default.is)

pub returns-clause-behind : goal.returns-clause-behind
returns-clause-behind c = λ claims words is.
    (is.0, heading-more c.args.place c.args.self.now.numbers.items c.put.new.numbers.items words c.args.word.now c.in-Some.number is.1 (sym c.first_word.ensures ∙ c.in-Some.is) c.in_ok-put.ensures)

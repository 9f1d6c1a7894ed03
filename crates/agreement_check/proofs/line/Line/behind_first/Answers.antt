use Rattle.std.proofs.Common.{[], List, ℕ, subst, sym, ◌∙◌}
use Rattle.agreement_check.specs.Standing.{IsHeadingFront}
use Rattle.agreement_check.specs.declared.line.At.TheVariants as at
use Rattle.agreement_check.proofs.FirstLine.{heading-start}
use Rattle.agreement_check.proofs.Lines.{behind-start, ended-in, fresh-in, no-form-ended}
use Rattle.agreement_check.proofs.line.Line.behind_first.Goals as goal

pub returns-in-Heading-clause-behind : goal.returns-in-Heading-clause-behind
returns-in-Heading-clause-behind c =
    let claims = c.args.claims.now in
    let old = record c.args.self.now { numbers = c.clear.new.self } in
    behind-start claims (at.Heading 0) old c.args.word.now c.behind_heading.result c.behind_heading.new.self (c.behind_heading.ensures.behind claims)
    (fresh-in claims (sym c.due.ensures ∙ c.in-Heading.is), subst (λ (ns : List ℕ). IsHeadingFront 0 ns []) (sym c.clear.ensures.items) heading-start)

pub returns-in-Pair-clause-behind : goal.returns-in-Pair-clause-behind
returns-in-Pair-clause-behind c =
    c.behind_kind.ensures.behind c.args.claims.now (record c.args.self.now { numbers = c.clear.new.self }) (sym c.due.ensures ∙ c.in-Pair.is) c.clear.ensures.items

pub returns-in-Nothing-clause-behind : goal.returns-in-Nothing-clause-behind
returns-in-Nothing-clause-behind c = λ more. no-form-ended c.args.claims.now _ (ended-in c.args.claims.now (sym c.due.ensures ∙ c.in-Nothing.is))

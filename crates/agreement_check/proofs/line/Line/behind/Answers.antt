use Rattle.std.proofs.Common.{◌∷◌, ◌++◌, List, ℕ, subst, sym}
use Rattle.agreement_check.specs.declared.line.At.{At}
use Rattle.agreement_check.specs.Standing.{IsAt, IsBehind}
use Rattle.agreement_check.proofs.Lines.{NoForm, behind-all, start-behind}
use Rattle.agreement_check.proofs.line.Line.behind.Goals as goal

pub returns-in-Start-clause-behind : goal.returns-in-Start-clause-behind
returns-in-Start-clause-behind c =
    let claims = c.args.claims.now in
    let old = c.args.self.now in
    let word = c.args.word.now in
    let result = c.behind_first.result in
    let new = c.behind_first.new.self in
    subst (λ (a : At). IsBehind claims a old word result new) (sym c.in-Start.is) (start-behind claims old word result new c.behind_first.ensures.behind)

pub returns-in-Nothing-clause-behind : goal.returns-in-Nothing-clause-behind
returns-in-Nothing-clause-behind c = λ words h.
    let claims = c.args.claims.now in
    let none : (more : List (List ℕ)) → NoForm claims (words ++ more) = subst (λ (a : At). IsAt claims a c.args.self.now words) c.in-Nothing.is h in
    behind-all claims words c.args.word.now (λ more. none (c.args.word.now ∷ more))

use Rattle.std.proofs.Common.{◌≡◌, ◌∙◌, Some, None, subst, sym}
use Rattle.agreement_check.specs.declared.step.Terms.{Terms}
use Rattle.agreement_check.specs.Standing.{claim_due_in, own_sides, terms_in}
use Rattle.agreement_check.specs.Steps.{step_of}
use Rattle.std.proofs.Common.{refl}
use Rattle.agreement_check.proofs.Lines.{behind-all, cover-more, front-more, front-none, no-cover, no-step, not-due}
use Rattle.agreement_check.proofs.line.Line.behind_cover.Goals as goal

pub returns-in_default-clause-behind : goal.returns-in_default-clause-behind
returns-in_default-clause-behind c = λ words is.
    let claims = c.args.claims.now in
    let line = c.args.self.now in
    let word = c.args.word.now in
    let none : step_of (terms_in claims) word ≡ None = subst (λ (t : Terms). step_of t word ≡ None) c.terms.ensures (sym c.step_of.ensures ∙ c.in_default.is) in
    behind-all claims words word
    (λ more. front-none claims (claim_due_in claims) line.numbers.items line.cover words word more is.0 refl is.1 (λ claim covered are. λ all e. no-step (terms_in claims) covered word more all none e))

pub returns-then-not-is_due-clause-behind : goal.returns-then-not-is_due-clause-behind
returns-then-not-is_due-clause-behind c = λ words is.
    let claims = c.args.claims.now in
    let line = c.args.self.now in
    let word = c.args.word.now in
    let none = not-due c.is_due.result line.cover.due c.is_due.ensures c.if-not-is_due.true in
    behind-all claims words word
    (λ more. front-none claims (claim_due_in claims) line.numbers.items line.cover words word more is.0 refl is.1
    (λ claim covered are. λ all e. no-cover (terms_in claims) (own_sides claims) claim line.cover covered word more all none are e))

pub returns-clause-behind : goal.returns-clause-behind
returns-clause-behind c = λ words is.
    let claims = c.args.claims.now in
    let line = c.args.self.now in
    let word = c.args.word.now in
    let step = c.in-Some.step in
    let some : step_of (terms_in claims) word ≡ Some step = subst (λ (t : Terms). step_of t word ≡ Some step) c.terms.ensures (sym c.step_of.ensures ∙ c.in-Some.is) in (
      is.0,
      front-more claims (claim_due_in claims) line.numbers.items line.cover c.take.new.self words word is.1
          (λ claim covered are. cover-more (terms_in claims) (own_sides claims) claim line.cover c.take.new.self covered word step some (λ x steps st. c.in_ok-take.ensures.stands x steps st) are),
    )

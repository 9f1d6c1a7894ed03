use Rattle.std.proofs.Common.{◌≡◌, ◌∷◌, ◌++◌, ◌∙◌, ◌+◌, List, ℕ, [], Some, None, ap, subst, sym}
use Rattle.agreement_check.specs.Standing.{IsPairFront, rule_count}
use Rattle.agreement_check.specs.Steps.{place_in}
use Rattle.agreement_check.proofs.Lines.{behind-all, no-rule_number, rule-number}
use Rattle.agreement_check.proofs.line.Line.behind_rule_number.Goals as goal

pub returns-in_default-clause-behind : goal.returns-in_default-clause-behind
returns-in_default-clause-behind c = λ words is.
    let claims = c.args.claims.now in
    let word = c.args.word.now in
    let front : IsPairFront (rule_count claims + 1) [] words = subst (λ (ns : List ℕ). IsPairFront (rule_count claims + 1) ns words) c.requires.none is.1 in
    let none : place_in (rule_count claims + 1) word ≡ None = subst (λ n. place_in (n + 1) word ≡ None) c.rule_count.ensures (sym c.place_in.ensures ∙ c.in_default.is) in
    behind-all claims words word (λ more. no-rule_number claims words word more is.0 front none)

pub returns-clause-behind : goal.returns-clause-behind
returns-clause-behind c = λ words is.
    let claims = c.args.claims.now in
    let word = c.args.word.now in
    let rule = c.in-Some.rule in
    let front : IsPairFront (rule_count claims + 1) [] words = subst (λ (ns : List ℕ). IsPairFront (rule_count claims + 1) ns words) c.requires.none is.1 in
    let some : place_in (rule_count claims + 1) word ≡ Some rule = subst (λ n. place_in (n + 1) word ≡ Some rule) c.rule_count.ensures (sym c.place_in.ensures ∙ c.in-Some.is) in
    let items = c.in_ok-push.ensures.items ∙ ap (λ (ns : List ℕ). ns ++ rule ∷ []) c.requires.none in
    (is.0, subst (λ (ns : List ℕ). IsPairFront (rule_count claims + 1) ns (words ++ word ∷ [])) (sym items) (rule-number (rule_count claims + 1) rule words word front some))

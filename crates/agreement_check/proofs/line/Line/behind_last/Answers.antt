use Rattle.std.proofs.Common.{◌∷◌, ◌++◌, ◌∙◌, List, ℕ, [], ap, subst, sym}
use Rattle.agreement_check.specs.Standing.{IsLastFront}
use Rattle.agreement_check.proofs.Lines.{behind-all, last-number, no-last_number, no-last_words, no-numbers, some-numbers}
use Rattle.agreement_check.proofs.line.Line.behind_last.Goals as goal

pub returns-then-not-is_empty-clause-behind : goal.returns-then-not-is_empty-clause-behind
returns-then-not-is_empty-clause-behind c = λ claims words is.
    let numbers = c.args.self.now.numbers in
    behind-all claims words c.args.word.now
    (λ more. no-last_words claims numbers.items words c.args.word.now more is.0 (some-numbers numbers.items _ numbers.ok.0 (sym c.is_empty.ensures ∙ c.if-not-is_empty.true)) is.1)

pub returns-in_default-clause-behind : goal.returns-in_default-clause-behind
returns-in_default-clause-behind c = λ claims words is.
    let numbers = c.args.self.now.numbers in
    let none = no-numbers numbers.items _ numbers.ok.0 (sym c.is_empty.ensures ∙ c.if-not-is_empty.false) in
    let front : IsLastFront [] words = subst (λ (ns : List ℕ). IsLastFront ns words) none is.1 in
    behind-all claims words c.args.word.now (λ more. no-last_number claims words c.args.word.now more is.0 front (sym c.plain_number.ensures.value ∙ c.in_default.is))

pub returns-clause-behind : goal.returns-clause-behind
returns-clause-behind c = λ claims words is.
    let numbers = c.args.self.now.numbers in
    let none = no-numbers numbers.items _ numbers.ok.0 (sym c.is_empty.ensures ∙ c.if-not-is_empty.false) in
    let front : IsLastFront [] words = subst (λ (ns : List ℕ). IsLastFront ns words) none is.1 in (
      is.0,
      subst (λ (ns : List ℕ). IsLastFront ns (words ++ c.args.word.now ∷ [])) (sym (c.in_ok-push.ensures.items ∙ ap (λ (ns : List ℕ). ns ++ c.in-Some.number ∷ []) none))
          (last-number c.in-Some.number words c.args.word.now front (sym c.plain_number.ensures.value ∙ c.in-Some.is)),
    )

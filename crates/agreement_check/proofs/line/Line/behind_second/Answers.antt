use Rattle.std.proofs.Common.{◌≡◌, ◌∷◌, ◌++◌, ◌∙◌, ◌+◌, List, ℕ, [], Some, None, ap, subst, sym}
use Rattle.agreement_check.specs.declared.claims.Due.{Due}
use Rattle.agreement_check.specs.declared.claims.Due.TheVariants as due
use Rattle.agreement_check.specs.Claims.{pair_claim}
use Rattle.agreement_check.specs.Covers.{Claim}
use Rattle.agreement_check.specs.Covering.{StandsFor}
use Rattle.agreement_check.specs.Standing.{IsCoverFront, IsPairFront, entry_count, own_sides, rule_count, terms_in}
use Rattle.agreement_check.specs.Steps.{place_in}
use Rattle.agreement_check.proofs.Lines.{begun-pair, behind-all, cover-begun, entry-number, no-entry_number}
use Rattle.agreement_check.proofs.line.Line.behind_second.Goals as goal

pub returns-in_default-clause-behind : goal.returns-in_default-clause-behind
returns-in_default-clause-behind c = λ words is.
    let claims = c.args.claims.now in
    let word = c.args.word.now in
    let rest = c.requires.one.0 in
    let front : IsPairFront (rule_count claims + 1) (c.args.rule ∷ rest) words = subst (λ (ns : List ℕ). IsPairFront (rule_count claims + 1) ns words) c.requires.one.1 is.1 in
    let none : place_in (entry_count claims + 1) word ≡ None = subst (λ n. place_in (n + 1) word ≡ None) c.entry_count.ensures (sym c.place_in.ensures ∙ c.in_default.is) in
    behind-all claims words word (λ more. no-entry_number claims c.args.rule rest words word more is.0 front none)

pub returns-clause-behind : goal.returns-clause-behind
returns-clause-behind c = λ words is.
    let claims = c.args.claims.now in
    let s = own_sides claims in
    let word = c.args.word.now in
    let rule = c.args.rule in
    let entry = c.in-Some.entry in
    let rest = c.requires.one.0 in
    let cover = c.begin.new.self in
    let front : IsPairFront (rule_count claims + 1) (rule ∷ rest) words = subst (λ (ns : List ℕ). IsPairFront (rule_count claims + 1) ns words) c.requires.one.1 is.1 in
    let some : place_in (entry_count claims + 1) word ≡ Some entry = subst (λ n. place_in (n + 1) word ≡ Some entry) c.entry_count.ensures (sym c.place_in.ensures ∙ c.in-Some.is) in
    let stands : StandsFor s (pair_claim s (record { rule = rule; entry = entry })) [] cover = subst (λ (x : Claim). StandsFor s x [] cover) c.pair_task-task.ensures (c.in_ok-begin.ensures.stands s) in
    let begun = begun-pair claims is.0 in
    let items = c.in_ok-push.ensures.items ∙ ap (λ (ns : List ℕ). ns ++ entry ∷ []) c.requires.one.1 in (
      begun.0,
      subst (λ (k : Due). IsCoverFront claims k c.push.new.self.items cover (words ++ word ∷ [])) (sym begun.1)
          (subst (λ (ns : List ℕ). IsCoverFront claims due.Pair ns cover (words ++ word ∷ [])) (sym items)
          (entry-number claims rule entry cover rest words word front some (cover-begun (terms_in claims) s (pair_claim s (record { rule = rule; entry = entry })) cover stands))),
    )

use Rattle.std.proofs.Common.{arith, subst, sym, Contains}
use Rattle.std.proofs.lemmas.Result.{IfOk-weaker}
use Rattle.agreement_check.specs.Joins.{IsOf}
use Rattle.agreement_check.specs.Standing.{own_sides, taken_in}
use Rattle.agreement_check.proofs.Searching.{first-of, missing-entry, missing-rule}
use Rattle.agreement_check.proofs.join.first_missing.Goals as goal

pub returns : goal.returns
returns c =
    let s = own_sides c.args.claims.now in
    let t = taken_in c.args.claims.now in
    IfOk-weaker c.missing_among.result _ _
    (λ found first. first-of s t (IsOf c.deref-2.result.now c.deref-3.result.now) (λ _. Unit {0}) found first (λ p is m. (
      subst (λ xs. Contains xs p.rule) (sym c.deref-2.ensures.value) (c.in_ok-rules.ensures p.rule (omega (arith, missing-rule s t p m, c.requires.few_rules, c.rule_count.ensures))),
      subst (λ xs. Contains xs p.entry) (sym c.deref-3.ensures.value) (c.in_ok-entries.ensures p.entry (omega (arith, missing-entry s t p m, c.requires.few_entries, c.entry_count.ensures))),
    ))) c.missing_among.ensures

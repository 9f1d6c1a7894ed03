use Rattle.std.proofs.Common.{◌≡◌, ◌∙◌, ◌+◌, refl, rules, subst, sym}
use Rattle.agreement_check.specs.declared.line.At.TheVariants as at
use Rattle.agreement_check.specs.declared.reader.Refusal.{Refusal}
use Rattle.agreement_check.specs.declared.wrong.Why.TheVariants.{EndsEarly}
use Rattle.agreement_check.specs.Standing.{IfWrong, reading_in}
use Rattle.agreement_check.specs.Verdict.{IsUnended, lines_taken}
use Rattle.agreement_check.proofs.Lines.{no-numbers}
use Rattle.agreement_check.proofs.Reading.{ends-early, ends-valid}
use Rattle.agreement_check.proofs.reader.Reader.end.Goals as goal

pub returns-in-Some-clause-verdict : goal.returns-in-Some-clause-verdict
returns-in-Some-clause-verdict c = λ list table text h.
    let word = c.args.self.now.word in
    let start : c.args.self.now.line.at ≡ at.Start = search rules in
    ends-valid h c.in-Some.valid start (no-numbers word.items _ word.ok.0 (sym c.is_empty.ensures ∙ c.if-not-is_empty.false)) c.in-Some.ensures.0 c.in-Some.ensures.1 c.in-Some.ensures.2

pub returns-in-None-clause-verdict : goal.returns-in-None-clause-verdict
returns-in-None-clause-verdict c = λ list table text h.
    let word = c.args.self.now.word in
    let start : c.args.self.now.line.at ≡ at.Start = search rules in
    subst (λ (e : Refusal). IfWrong e (IsUnended list table text)) (sym c.wrong-in-None.ensures)
    (ends-early h (record { line = lines_taken (reading_in c.args.self.now.claims) + 1; why = EndsEarly }) refl refl start (no-numbers word.items _ word.ok.0 (sym c.is_empty.ensures ∙ c.if-not-is_empty.false)) c.in-None.ensures)

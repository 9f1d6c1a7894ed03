use Rattle.std.proofs.Common.{◌∷◌, ◌++◌, ◌∙◌, [], Option, refl, subst}
use Rattle.agreement_check.specs.declared.wrong.Why.{Why}
use Rattle.agreement_check.specs.Standing.{Judges}
use Rattle.agreement_check.proofs.Reading.{after-line, line-wrong}
use Rattle.agreement_check.proofs.Words.{never-none}
use Rattle.agreement_check.proofs.reader.Reader.end_line.Goals as goal

pub returns-in-Some-clause-after : goal.returns-in-Some-clause-after
returns-in-Some-clause-after c = λ list table text h.
    let words = h.words ++ h.word ∷ [] in
    let stands = c.in_ok-take_word.ensures.behind h.words h.word (c.deref.ensures.value ∙ h.kept) h.stands in
    line-wrong h (record { line = c.line-line.result; why = c.in-Some.why }) c.line-line.ensures
    (subst (λ (o : Option Why). Judges c.args.self.now.claims words o c.take.new.self) c.in-Some.is (c.in_ok-why.ensures.judged words (never-none h.words h.word) stands))

pub returns-clause-after : goal.returns-clause-after
returns-clause-after c = λ list table text h.
    let words = h.words ++ h.word ∷ [] in
    let stands = c.in_ok-take_word.ensures.behind h.words h.word (c.deref.ensures.value ∙ h.kept) h.stands in
    after-line h _ (subst (λ (o : Option Why). Judges c.args.self.now.claims words o c.take.new.self) c.in_default.is (c.in_ok-why.ensures.judged words (never-none h.words h.word) stands)) c.in_ok-why.ensures.sides.0
    c.in_ok-why.ensures.sides.1 c.clear.ensures.items refl

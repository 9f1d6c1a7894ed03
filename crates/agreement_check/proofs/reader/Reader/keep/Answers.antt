use Rattle.std.proofs.Common.{◌∙◌, arith, ne_eqb, refl}
use Rattle.agreement_check.proofs.Reading.{after-byte}
use Rattle.agreement_check.proofs.Words.{kept-full, kept-more}
use Rattle.agreement_check.proofs.reader.Reader.keep.Goals as goal

pub returns-in_ok-push-clause-after : goal.returns-in_ok-push-clause-after
returns-in_ok-push-clause-after c = λ list table text h.
    let word = c.args.self.now.word in
    after-byte h c.args.byte _ (ne_eqb c.args.byte 10 c.requires.line) (ne_eqb c.args.byte 32 c.requires.word) refl refl
    (λ w k. c.in_ok-push.ensures.items ∙ kept-more w word.items c.args.byte k (omega (arith, c.if-len-lt-KEPT.true, c.len.ensures, word.ok.0)))

pub returns-else-len-lt-KEPT-clause-after : goal.returns-else-len-lt-KEPT-clause-after
returns-else-len-lt-KEPT-clause-after c = λ list table text h.
    let word = c.args.self.now.word in
    after-byte h c.args.byte _ (ne_eqb c.args.byte 10 c.requires.line) (ne_eqb c.args.byte 32 c.requires.word) refl refl
    (λ w k. kept-full w word.items c.args.byte k (omega (arith, c.if-len-lt-KEPT.false, c.len.ensures, word.ok.0)))

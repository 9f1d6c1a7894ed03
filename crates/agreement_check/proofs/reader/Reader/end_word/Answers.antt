use Rattle.std.proofs.Common.{◌∙◌, refl}
use Rattle.agreement_check.proofs.Reading.{after-space}
use Rattle.agreement_check.proofs.reader.Reader.end_word.Goals as goal

pub returns-clause-after : goal.returns-clause-after
returns-clause-after c = λ list table text h.
    after-space h _ refl c.clear.ensures.items (c.in_ok-take_word.ensures.behind h.words h.word (c.deref.ensures.value ∙ h.kept) h.stands)

use Rattle.table_steps.specs.Free.{words_of}
use Rattle.table_steps.specs.Answering.{AnswerBehind}
use Rattle.table_steps.proofs.Behind.{behind-part}
use Rattle.table_steps.proofs.Outcomes.{if_ok}
use Rattle.table_steps.proofs.parts.Parts.answering.Goals as goal

pub returns-in-Some-clause-answer : goal.returns-in-Some-clause-answer
returns-in-Some-clause-answer c =
    let hidden = words_of c.args.before.now in
    let table = c.args.table.now in
    let part = c.in-Some.part.now in
    let w = c.args.word.now in
    if_ok c.answering.result (λ some. AnswerBehind hidden some.entries.items part.list.entries.items w) (λ some. AnswerBehind hidden some.entries.items table w)
    (λ some. behind-part hidden some.entries.items part.list.entries.items table part.word w c.in-Some.ensures.holds (c.in-Some.ensures.among table (c.in_ok-number.ensures c.requires)))
    (rw (← c.deref.ensures.value) c.answering.ensures)

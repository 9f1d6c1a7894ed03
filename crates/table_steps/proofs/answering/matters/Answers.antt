use Rattle.std.proofs.lemmas.Bool.{OnTrue_at, OnFalse_from}
use Rattle.table_steps.specs.Answering.{IsApart}
use Rattle.table_steps.specs.Free.{words_of}
use Rattle.table_steps.proofs.Behind.{apart-met, apart-held, if_held}
use Rattle.table_steps.proofs.answering.matters.Goals as goal
use Rattle.std.proofs.Common.{not}

pub returns-then-not-meets : goal.returns-then-not-meets
returns-then-not-meets c = apart-met (words_of c.args.before.now) c.args.entry.now.word c.args.word.now c.if-not-meets.ensures.apart

pub returns : goal.returns
returns c =
    OnFalse_from (not c.is_held.result) (IsApart (words_of c.args.before.now) c.args.entry.now.word c.args.word.now)
    (λ no. apart-held (words_of c.args.before.now) c.args.entry.now.word c.args.word.now (OnTrue_at (if_held c.is_held.result no) c.is_held.ensures))

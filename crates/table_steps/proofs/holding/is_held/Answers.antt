use Rattle.std.proofs.Common.{arith}
use Rattle.std.proofs.lemmas.Bool.{OnTrue_at, OnTrue_from}
use Rattle.word_cover.specs.Covers.{Covers}
use Rattle.table_steps.specs.Free.{words_of}
use Rattle.table_steps.proofs.Behind.{covers-at}
use Rattle.table_steps.proofs.holding.is_held.Goals as goal

pub returns : goal.returns
returns c =
    let entries = c.args.entries.now in
    let w = c.args.word.now in
    OnTrue_from c.inside.result (Covers (words_of entries) w)
    (λ yes. covers-at entries c.in-Some.place c.index-entries-place.result w (omega (arith, c.if-place-entries.false)) (OnTrue_at yes c.inside.ensures.covers))

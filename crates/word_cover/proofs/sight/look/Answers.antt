use Rattle.word_cover.proofs.Parts.{covered-by}
use Rattle.word_cover.proofs.sight.look.Goals as goal

pub returns-then-inside : goal.returns-then-inside
returns-then-inside c =
    covered-by c.args.words.now c.args.word.now c.index-words-place.result c.loop-place.place c.loop-place-test.true c.index-words-place.is c.if-inside.ensures.covers

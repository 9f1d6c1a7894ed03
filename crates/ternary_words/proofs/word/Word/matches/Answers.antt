use Rattle.std.proofs.Common.{ap, ◌∙◌}
use Rattle.ternary_words.specs.Headline.Word.{agrees}
use Rattle.ternary_words.specs.Views.{word_of}
use Rattle.ternary_words.proofs.Matching.{agrees-mask}
use Rattle.ternary_words.proofs.word.Word.matches.Goals as goal

pub returns : goal.returns
returns c =
    let w = c.args.self.now in
    agrees-mask 104 w.mask w.value c.key.result w.narrow ∙ ap (agrees (word_of w)) c.key.ensures.bits

use Rattle.std.proofs.Common.{ap, option_map}
use Rattle.ternary_words.specs.Views.{word_of}
use Rattle.table_text.proofs.SpelledLines.{decided-ok, decided-not}
use Rattle.table_text.proofs.entry.with_decision.Goals as goal

pub returns-in-Some-decision : goal.returns-in-Some-decision
returns-in-Some-decision c =
    decided-ok c.args.ended (word_of c.args.word) (option_map (λ text. text.now) c.args.text) c.in-Some.text.now c.in-Some-decision.decision.now (ap (option_map (λ text. text.now)) c.in-Some.is) c.if-ended.true
    c.in-Some-decision.ensures.some.0 c.in-Some-decision.ensures.some.1

pub returns-in-None : goal.returns-in-None
returns-in-None c =
    decided-not c.args.ended (word_of c.args.word) (option_map (λ text. text.now) c.args.text) c.in-Some.text.now (ap (option_map (λ text. text.now)) c.in-Some.is) c.if-ended.true c.in-None.ensures.none

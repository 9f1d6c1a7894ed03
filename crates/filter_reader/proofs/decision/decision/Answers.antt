use Rattle.std.proofs.lemmas.Str.{IsUtf8-from_ascii}
use Rattle.filter_reader.proofs.decision.decision.Goals as goal

pub unreachable-requires : goal.unreachable-requires
unreachable-requires c = c.in-Err.ensures.cases.0 (IsUtf8-from_ascii c.args.token.now c.if-not-decision_word.ensures.ascii)

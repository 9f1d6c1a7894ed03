-- What is wrong with a line of a session, in words.
use Rattle.std.specs.Prelude.{ℕ, List, codes}
use Rattle.edit_session.specs.declared.reason.SessionReason.{SessionReason}
use Rattle.edit_session.specs.declared.reason.SessionReason.TheVariants.{Command, Arguments, Rule}

abbrev pub reason_text : SessionReason → List ℕ
reason_text Command = codes "unknown command"
reason_text Arguments = codes "arguments"
reason_text Rule = codes "rule"

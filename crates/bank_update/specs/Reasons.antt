-- What is wrong with a line of a script, in words.
use Rattle.std.specs.Prelude.{ℕ, List, codes}
use Rattle.bank_update.specs.declared.reason.ScriptReason.{ScriptReason}
use Rattle.bank_update.specs.declared.reason.ScriptReason.TheVariants.{Command, Arguments}

abbrev pub reason_text : ScriptReason → List ℕ
reason_text Command = codes "unknown command"
reason_text Arguments = codes "arguments"

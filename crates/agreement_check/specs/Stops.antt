-- What a refusal of the reader ends the check with.
use Rattle.std.specs.Prelude.{ℕ}
use Rattle.agreement_check.specs.declared.reader.Refusal.{Refusal}
use Rattle.agreement_check.specs.declared.reader.Refusal.TheVariants as refusals
use Rattle.agreement_check.specs.declared.stream.Stop.{Stop}
use Rattle.agreement_check.specs.declared.stream.Stop.TheVariants as stops
use Rattle.agreement_check.specs.declared.wrong.Why.{Why}

abbrev pub stop_of : Refusal → Stop
stop_of (refusals.Wrong wrong) = stops.Wrong wrong
stop_of refusals.Memory = stops.Memory

-- a refusal of the line with this number
abbrev pub refused : ℕ → Why → Refusal
refused line why = refusals.Wrong (record { line = line; why = why })

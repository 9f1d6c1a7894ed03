use Rattle.std.proofs.Common.{arith, refl}
use Rattle.razor_base.proofs.Writing.{puts-next, puts-next_cut, puts-each}
use Rattle.command_words.specs.declared.option.Taken.{Taken}
use Rattle.command_words.specs.declared.option.OptionName.TheVariants.{Limit}
use Rattle.command_words.specs.declared.option.Need.TheVariants.{Maybe}
use Rattle.command_words.specs.Usage.{option_usage}
use Rattle.command_words.proofs.usage.put_options.Goals as goal

abbrev none_taken : Taken
none_taken = record { option = Limit; need = Maybe }

pub returns-in_err-put_option : goal.returns-in_err-put_option
returns-in_err-put_option g c = puts-next_cut option_usage _ c.loop-taken.taken-index _ none_taken (omega arith) refl c.from_residual.ensures.0 c.loop-taken.invariant c.in_err-put_option.ensures

pub loop-taken-preserved : goal.loop-taken-preserved
loop-taken-preserved g c = puts-next option_usage _ c.loop-taken.taken-index _ none_taken (omega arith) refl c.loop-taken.invariant c.in_ok-put_option.ensures

pub returns : goal.returns
returns g c = puts-each option_usage _ c.loop-taken.taken-index (omega arith) c.loop-taken.invariant

use Rattle.std.proofs.Common.{take, flat_map}
use Rattle.razor_base.proofs.Writing.{HasPut}
use Rattle.command_words.specs.Usage.{option_usage}
use Rattle.command_words.proofs.usage.put_options.Given as goal

abbrev pub invariant-loop-taken : goal.invariant-loop-taken
invariant-loop-taken g l = HasPut g.K.Sink.written g.K.Sink.faults l.initial.out l.out l.initial.pending l.pending (flat_map option_usage (take l.taken-index l.options))

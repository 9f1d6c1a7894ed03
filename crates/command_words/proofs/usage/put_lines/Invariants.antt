use Rattle.std.proofs.Common.{take, flat_map}
use Rattle.razor_base.proofs.Writing.{HasPut}
use Rattle.command_words.specs.Usage.{usage_line}
use Rattle.command_words.specs.Forms.{form_seen}
use Rattle.command_words.proofs.usage.put_lines.Given as goal

abbrev pub invariant-loop-form : goal.invariant-loop-form
invariant-loop-form g l = HasPut g.K.Sink.written g.K.Sink.faults l.initial.out l.out l.initial.pending l.pending (flat_map (λ form. usage_line (form_seen form)) (take l.form-index l.forms))

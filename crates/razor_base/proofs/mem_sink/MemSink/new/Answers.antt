use Rattle.std.proofs.Common.{sym, ◌∙◌}
use Rattle.razor_base.proofs.Writing.{none_taken}
use Rattle.razor_base.proofs.mem_sink.MemSink.new.Goals as goal

pub invariant_of-result-clause-told : goal.invariant_of-result-clause-told
invariant_of-result-clause-told c = none_taken c.new-2.result.writes c.new-2.ensures ∙ sym c.in_ok-with_capacity.ensures.items

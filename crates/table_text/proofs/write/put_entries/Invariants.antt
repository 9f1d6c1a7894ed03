use Rattle.std.proofs.Common.{take}
use Rattle.std.specs.List.{flat_map}
use Rattle.razor_base.proofs.Writing.{HasPut}
use Rattle.table_text.specs.Headline.TableText.{entry_line}
use Rattle.ternary_words.specs.Views.{entry_of}
use Rattle.table_text.proofs.write.put_entries.Given as goal

abbrev pub invariant-loop-entry : goal.invariant-loop-entry
invariant-loop-entry g l = HasPut g.K.Sink.written g.K.Sink.faults l.initial.out l.out l.initial.pending l.pending (flat_map (λ e. entry_line (entry_of l.table.names e)) (take l.entry-index l.entry-items))

use Rattle.std.proofs.Common.{◌∷◌, take, flat_map}
use Rattle.field_boxes.specs.Spans.{interval_of}
use Rattle.razor_base.proofs.Writing.{HasPut}
use Rattle.filter_reader.specs.ListText.{range_text}
use Rattle.filter_reader.proofs.port_text.put_more_ranges.Given as goal

abbrev pub invariant-loop-span : goal.invariant-loop-span
invariant-loop-span g l = HasPut g.K.Sink.written g.K.Sink.faults l.initial.out l.out l.initial.pending l.pending (flat_map (λ s. 44 ∷ range_text (interval_of s)) (take l.span-index l.spans))

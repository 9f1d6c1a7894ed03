use Rattle.std.proofs.Common.{◌∷◌, arith}
use Rattle.field_boxes.specs.Spans.{interval_of}
use Rattle.razor_base.proofs.Writing.{puts-next, puts-next_cut}
use Rattle.filter_reader.specs.ListText.{range_text}
use Rattle.filter_reader.proofs.port_text.put_more_ranges.Goals as goal

pub returns-in_err-put_range : goal.returns-in_err-put_range
returns-in_err-put_range g c =
    puts-next_cut (λ s. 44 ∷ range_text (interval_of s)) _ c.loop-span.span-index _ _ (omega arith) c.span-item.is c.from_residual.ensures.0 c.loop-span.invariant c.in_err-put_range.ensures

pub loop-span-preserved : goal.loop-span-preserved
loop-span-preserved g c =
    puts-next (λ s. 44 ∷ range_text (interval_of s)) _ c.loop-span.span-index _ _ (omega arith) c.span-item.is c.loop-span.invariant c.in_ok-put_range.ensures

use Rattle.std.proofs.Common.{◌≡◌, ◌∷◌, ◌++◌, ◌≤◌, List, ◌∙◌, sym, ap, arith, length, get_or, drop, flat_map}
use Rattle.std.proofs.lemmas.List.{take_rest}
use Rattle.field_boxes.specs.declared.span.Span.{Span}
use Rattle.field_boxes.specs.Headline.Classifier.{Interval}
use Rattle.field_boxes.specs.Spans.{interval_of, intervals_of}
use Rattle.razor_base.proofs.Writing.{puts-is, puts-more, puts-stop, puts-then}
use Rattle.filter_reader.specs.ListText.{ports_text, range_text}
use Rattle.filter_reader.proofs.PortColumns.{more_text, ports_text-first}
use Rattle.filter_reader.proofs.port_text.put_ports.Goals as goal

column : (spans : List Span) (first : Span) (ports : List Interval) → 1 ≤ length spans → first ≡ get_or spans 0 first → intervals_of spans ≡ ports →
    9 ∷ range_text (interval_of first) ++ flat_map more_text (drop 1 spans) ≡ 9 ∷ ports_text ports
column spans first ports some is same =
    ap (λ s. 9 ∷ range_text (interval_of s) ++ flat_map more_text (drop 1 spans)) is ∙ ap (λ t. 9 ∷ t) (sym (ports_text-first spans first some) ∙ ap ports_text same)

pub returns-in_err-put_range-in-len1-up : goal.returns-in_err-put_range-in-len1-up
returns-in_err-put_range-in-len1-up g c =
    let whole = column c.spans.result.now c.first-item.result c.args.ports.now (omega arith) c.first-item.is c.spans.ensures.spans in
    puts-is (puts-stop c.from_residual.ensures.0 (puts-more (flat_map more_text (drop 1 c.spans.result.now)) c.in_err-put_range-in-len1-up.ensures)) whole

pub returns-in_ok-put_range-in-len1-up : goal.returns-in_ok-put_range-in-len1-up
returns-in_ok-put_range-in-len1-up g c =
    let whole = column c.spans.result.now c.first-item.result c.args.ports.now (omega arith) c.first-item.is c.spans.ensures.spans in
    puts-is (puts-then c.in_ok-put_range-in-len1-up.ensures c.put_more_ranges.ensures)
    (ap (λ spans. 9 ∷ range_text (interval_of c.first-item.result) ++ flat_map more_text spans) (take_rest c.spans.result.now 1) ∙ whole)

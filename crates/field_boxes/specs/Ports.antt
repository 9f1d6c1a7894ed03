-- Sets of ports: a port column of a filter, as the union of its ranges.
use Rattle.std.specs.Prelude.{◌≤◌, Bool, ◌&&◌, nat_le, List, length}
use Rattle.std.specs.List.{list_all}
use Rattle.razor_limits.specs.declared.limits.TheConstants.{GREATEST_PORT, MOST_RANGES}
use Rattle.field_boxes.specs.declared.span.Span.{Span}
use Rattle.field_boxes.specs.Headline.Classifier.{Interval}
use Rattle.field_boxes.specs.Unions.{RiseApart}

-- one to sixteen intervals of ports, between which ports are missing
pub record ArePorts (set : List Interval) : Type 0 where
  pub some : 1 ≤ length set
  pub few : length set ≤ MOST_RANGES
  pub rise : RiseApart 0 GREATEST_PORT set

-- whether there are one to sixteen spans, and none reaches past the greatest port
abbrev pub are_port_spans : List Span → Bool
are_port_spans spans = nat_le 1 (length spans) && nat_le (length spans) MOST_RANGES && list_all (λ s. nat_le s.hi GREATEST_PORT) spans

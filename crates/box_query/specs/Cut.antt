-- Rules cut to a box.
use Rattle.std.specs.Prelude.{ℕ, Bool, false, ◌&&◌, nat_le, List, [], ◌∷◌, ◌++◌, Option, Some, None, IsTrue}
use Rattle.std.specs.List.{list_all}
use Rattle.razor_limits.specs.declared.limits.TheConstants.{GREATEST_PORT}
use Rattle.field_boxes.specs.declared.span.Span.{Span}
use Rattle.field_boxes.specs.declared.rule.Rule as code
use Rattle.field_boxes.specs.Headline.Classifier.{Interval, union_holds, matches}
use Rattle.field_boxes.specs.Headline.Fields.{stated}
use Rattle.field_boxes.specs.Rules.{rule_of}
use Rattle.field_boxes.specs.Spans.{interval_of}

-- whether both intervals have the value
abbrev pub both_hold : ℕ → Interval → Interval → Bool
both_hold v i j = union_holds v (i ∷ []) && union_holds v (j ∷ [])

-- a span, or none, as a set of values
abbrev pub span_set : Option Span → List Interval
span_set None = []
span_set (Some s) = interval_of s ∷ []

-- a set of ports, or none
abbrev pub port_set : Option (List Interval) → List Interval
port_set None = []
port_set (Some ports) = ports

-- no span reaches past the greatest port
abbrev pub AreLow : List Span → Type 0
AreLow spans = IsTrue (list_all (λ s. nat_le s.hi GREATEST_PORT) spans)

-- whether there is a rule, and it matches the header
abbrev pub matches_some : List ℕ → Option code.Rule → Bool
matches_some header None = false
matches_some header (Some r) = matches stated header (rule_of r)

-- the rules, with one more behind them if there is one
abbrev pub with_some : List code.Rule → Option code.Rule → List code.Rule
with_some rules None = rules
with_some rules (Some r) = rules ++ r ∷ []

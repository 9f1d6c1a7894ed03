-- A rule line: its columns from left to right, and its reasons in the order in which they are tried.
use Rattle.std.specs.Prelude.{ℕ, ◌==◌, Bool, not, List, [], ◌∷◌, Option, Result, Ok, Err, if◌then◌else◌}
use Rattle.std.specs.List.{list_all}
use Rattle.std.specs.Char.{is_ascii}
use Rattle.razor_limits.specs.declared.limits.TheConstants.{MOST_RULES}
use Rattle.field_boxes.specs.Headline.Classifier.{Interval}
use Rattle.filter_reader.specs.declared.reason.Reason.{Reason}
use Rattle.filter_reader.specs.declared.reason.Reason.TheVariants.{TooManyRules, NotAscii}
use Rattle.text_lines.specs.Headline.Fallible.{◌>>=◌}
use Rattle.filter_reader.specs.Headline.Tokens.{tokens}
use Rattle.filter_reader.specs.Headline.Columns.{source_column, destination_column, port_column, protocol_column, flags_column, decision_column, end_of_line}

-- what a rule line spells: a set of values for each field, a decision word or none, and whether it is flagged
pub record SpelledRule : Type 0 where
  pub sets : List (List Interval)
  pub word : Option (List ℕ)
  pub flagged : Bool

-- the rule that the tokens spell
unfoldable pub rule_of_tokens : List (List ℕ) → Result SpelledRule Reason
rule_of_tokens line = do
  source ← source_column line
  destination ← destination_column source.1
  source_ports ← port_column destination.1
  destination_ports ← port_column source_ports.1
  protocol ← protocol_column destination_ports.1
  flags ← flags_column protocol.1
  decision ← decision_column flags.1
  end ← end_of_line decision.1
  Ok (record {
    sets = (source.0 ∷ []) ∷ (destination.0 ∷ []) ∷ source_ports.0 ∷ destination_ports.0 ∷ (protocol.0 ∷ []) ∷ [];
    word = decision.0;
    flagged = flags.0;
  })

-- a line that isn't skipped, with so many rules before it: what it spells, or the first reason why it is bad
unfoldable pub rule_line : ℕ → List ℕ → Result SpelledRule Reason
rule_line before line =
    if before == MOST_RULES then Err TooManyRules
    else (if not (list_all is_ascii line) then Err NotAscii
    else rule_of_tokens (tokens line))

-- What the code gives of a rule line.
use Rattle.std.specs.Prelude.{[], ◌∷◌, IsTrue, slice_index_or, option_copied, IfSome, Result, Ok, Err}
use Rattle.field_boxes.specs.Names.{is_decision_word}
use Rattle.field_boxes.specs.Ports.{ArePorts}
use Rattle.field_boxes.specs.Spans.{interval_of}
use Rattle.filter_reader.specs.declared.line.LineRule.{LineRule}
use Rattle.filter_reader.specs.declared.reason.Reason.{Reason}
use Rattle.field_boxes.specs.Prefixes.{IsPrefix}
use Rattle.field_boxes.specs.Protocols.{IsProtocol}
use Rattle.filter_reader.specs.Headline.RuleLine.{SpelledRule}

-- the rule, without where its word lies
abbrev pub spelled_rule : LineRule → SpelledRule
spelled_rule r = record {
  sets = (interval_of r.source ∷ []) ∷ (interval_of r.destination ∷ []) ∷ slice_index_or r.ports 0 [] ∷ slice_index_or r.ports 1 [] ∷ (interval_of r.protocol ∷ []) ∷ [];
  word = option_copied r.word;
  flagged = r.flagged;
}

-- the rule or the reason
abbrev pub spelled_line : Result LineRule Reason → Result SpelledRule Reason
spelled_line (Ok rule) = Ok (spelled_rule rule)
spelled_line (Err reason) = Err reason

-- the sets of the rule are those of a filter rule, and its word is a decision word
pub record IsLineRule (rule : LineRule) : Type 0 where
  pub source : IsPrefix 32 rule.source
  pub destination : IsPrefix 32 rule.destination
  pub source_ports : ArePorts (slice_index_or rule.ports 0 [])
  pub destination_ports : ArePorts (slice_index_or rule.ports 1 [])
  pub protocol : IsProtocol rule.protocol
  pub word : IfSome rule.word (λ word. IsTrue (is_decision_word word.now))

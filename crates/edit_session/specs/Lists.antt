-- Rule lists that are edited, and what the edits answer and do.
use Rattle.std.specs.Prelude.{ℕ, ◌+◌, ◌-◌, ◌==◌, Bool, ◌&&◌, nat_le, List, length, insert, remove, Result, Ok, Err, if◌then◌else◌}
use Rattle.razor_limits.specs.declared.limits.TheConstants.{MOST_RULES}
use Rattle.field_boxes.specs.declared.rule.Rule as code
use Rattle.field_boxes.specs.Headline.Classifier.{Rule}
use Rattle.field_boxes.specs.Names.{with_name}
use Rattle.field_boxes.specs.Rules.{sets_of}
use Rattle.field_boxes.specs.Prefixes.{IsPrefix}
use Rattle.field_boxes.specs.Protocols.{IsProtocol}
use Rattle.edit_session.specs.declared.refusal.NoPlace.{NoPlace}
use Rattle.edit_session.specs.declared.refusal.PlaceRefusal.{PlaceRefusal}
use Rattle.edit_session.specs.declared.refusal.PlaceRefusal.TheVariants as places

-- rules, each with the name of its decision; and all names that were ever given, in the order in which they were first seen
pub record Listed : Type 0 where
  pub rules : List (Rule (List ℕ))
  pub names : List (List ℕ)

-- the address spans of the rule are prefixes, and its protocol is one value or the whole field
pub record IsEditable (rule : code.Rule) : Type 0 where
  pub source : IsPrefix 32 rule.source
  pub destination : IsPrefix 32 rule.destination
  pub protocol : IsProtocol rule.protocol

-- the rule of the code, with this name for its decision
abbrev pub rule_named : List ℕ → code.Rule → Rule (List ℕ)
rule_named name rule = record { sets = sets_of rule; decision = name }

-- Add a rule.

-- the list with a rule that gets this number, counted from 1; a new name goes behind the others
abbrev pub with_rule : Listed → ℕ → Rule (List ℕ) → Listed
with_rule list place rule = record { rules = insert list.rules (place - 1) rule; names = with_name list.names rule.decision }

-- the list with this name behind the others, if it is new
abbrev pub with_name_alone : Listed → List ℕ → Listed
with_name_alone list name = record { rules = list.rules; names = with_name list.names name }

-- whether a number is one of 1 to the greatest
abbrev pub is_within : ℕ → ℕ → Bool
is_within number greatest = nat_le 1 number && nat_le number greatest

-- the number of rules with one more, or why none is added
abbrev pub add_answer : Listed → ℕ → Result ℕ PlaceRefusal
add_answer list place =
    if is_within place (length list.rules + 1) then (if length list.rules == MOST_RULES then Err places.Full else Ok (length list.rules + 1))
    else Err (places.NoPlace (length list.rules))

-- the list after a rule was to be added, which had this answer
abbrev pub added_by : Result ℕ PlaceRefusal → Listed → ℕ → Rule (List ℕ) → Listed
added_by (Ok count) list place rule = with_rule list place rule
added_by (Err refusal) list place rule = list

-- the list after a rule was to be added
abbrev pub added : Listed → ℕ → Rule (List ℕ) → Listed
added list place rule = added_by (add_answer list place) list place rule

-- Take a rule out.

-- the list without the rule of this number; all names stay
abbrev pub without_rule : Listed → ℕ → Listed
without_rule list place = record { rules = remove list.rules (place - 1); names = list.names }

-- the number of rules that are left, or how many there are and none has this number
abbrev pub take_out_answer : Listed → ℕ → Result ℕ NoPlace
take_out_answer list place = if is_within place (length list.rules) then Ok (length list.rules - 1) else Err (record { count = length list.rules })

-- the list after the rule of this number was taken out, if there is one
abbrev pub taken_out : Listed → ℕ → Listed
taken_out list place = if is_within place (length list.rules) then without_rule list place else list

-- The commands of the code as events.
use Rattle.std.specs.Prelude.{◌≡◌, ℕ, List, map, Result, Ok, Err, IsTrue}
use Rattle.std.specs.String.{string_bytes}
use Rattle.field_boxes.specs.declared.rule.Rule.{Rule}
use Rattle.field_boxes.specs.Names.{is_decision_word}
use Rattle.field_boxes.specs.Rules.{sets_of}
use Rattle.field_boxes.specs.FilterRules.{IsFilterRule}
use Rattle.edit_session.specs.SessionText.{SessionEvent, Add, TakeOut, Commit, Step, Abort, Look, Stage}
use Rattle.edit_session.specs.declared.session.SessionCommand.{SessionCommand}
use Rattle.edit_session.specs.declared.session.SessionCommand.TheVariants as commands
use Rattle.edit_session.specs.declared.reason.SessionReason.{SessionReason}

-- a command of the code as an event
abbrev pub event_of : SessionCommand → SessionEvent
event_of (commands.Add place rule name) = Add place (record { sets = sets_of rule; decision = string_bytes name })
event_of (commands.TakeOut place) = TakeOut place
event_of commands.Commit = Commit
event_of commands.Step = Step
event_of commands.Abort = Abort
event_of (commands.Look header) = Look header.values
event_of commands.Stage = Stage

-- commands as events
abbrev pub events_of : List SessionCommand → List SessionEvent
events_of cs = map event_of cs

-- a rule that a filter list can spell, which has no decision yet, and a decision word for it
pub record IsRuleToAdd (rule : Rule) (name : List ℕ) : Type 0 where
  pub spelled : IsFilterRule rule
  pub undecided : rule.decision ≡ 0
  pub word : IsTrue (is_decision_word name)

-- the rule that the command adds, if any, is such a rule
abbrev pub IsCommand : SessionCommand → Type 0
IsCommand (commands.Add place rule name) = IsRuleToAdd rule (string_bytes name)
IsCommand (commands.TakeOut place) = Unit {0}
IsCommand commands.Commit = Unit {0}
IsCommand commands.Step = Unit {0}
IsCommand commands.Abort = Unit {0}
IsCommand (commands.Look header) = Unit {0}
IsCommand commands.Stage = Unit {0}

-- the command of a line, seen as its event
abbrev pub event_seen : Result SessionCommand SessionReason → Result SessionEvent SessionReason
event_seen (Ok c) = Ok (event_of c)
event_seen (Err reason) = Err reason

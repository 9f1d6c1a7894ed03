-- Lists as the code keeps them.
use Rattle.std.specs.Prelude.{◌≡◌, ◌≤◌, ℕ, List, length, insert, All}
use Rattle.razor_limits.specs.declared.limits.TheConstants.{MOST_RULES}
use Rattle.field_boxes.specs.declared.rule.Rule.{Rule}
use Rattle.field_boxes.specs.NamedRules.{IsNumberedBy, named_rules}
use Rattle.field_boxes.specs.Rules.{sets_of}
use Rattle.field_boxes.specs.FilterRules.{IsFilterRule}
use Rattle.edit_session.specs.Lists.{Listed}
use Rattle.edit_session.specs.declared.listing.Listing.TheInside.{Inside}

-- a list as the code keeps it
abbrev pub listed : Inside → Listed
listed l = record { rules = named_rules l.names l.rules; names = l.names }

-- there are at most so many rules, each is a filter rule, and its decision is the number of a name
pub record IsListing (l : Inside) : Type 0 where
  pub few : length l.rules ≤ MOST_RULES
  pub spelled : All IsFilterRule l.rules
  pub numbered : All (IsNumberedBy l.names) l.rules

-- there is one rule more, at this place: it has the sets of the rule, this decision, and can be spelled
pub record IsPut (old new : List Rule) (index : ℕ) (rule : Rule) (decision : ℕ) : Type 0 where
  pub put : Rule
  pub items : new ≡ insert old index put
  pub sets : sets_of put ≡ sets_of rule
  pub decides : put.decision ≡ decision
  pub spelled : IsFilterRule put

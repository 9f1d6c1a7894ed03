-- Labels of headers: the place of the first rule that matches, if it is open, and how the next one that matches decides.
use Rattle.std.specs.Prelude.{ℕ, suc, ◌+◌, ◌-◌, ◌*◌, ◌/◌, ◌%◌, nat_eq, nat_lt, Bool, false, List, [], ◌∷◌, Option, Some, None, slice_index_or, if◌then◌else◌, ◌≡◌, ◌<◌, option_map, unwrap_or, slice_get}
use Rattle.std.specs.List.{AllByRecursion}
use Rattle.field_boxes.specs.declared.rule.Rule as code
use Rattle.field_boxes.specs.Headline.Classifier.{matches}
use Rattle.field_boxes.specs.Headline.Fields.{stated}
use Rattle.field_boxes.specs.Rules.{rule_of}
use Rattle.fdd_build.specs.Rules.{decided}
use Rattle.rule_audit.specs.declared.label.Label.{Label}
use Rattle.rule_audit.specs.declared.label.Next.{Next}
use Rattle.rule_audit.specs.declared.label.Next.TheVariants.{Nothing, Alike, Otherwise}

-- how the next decision is, 0 for none, beside the one before it
abbrev pub next_of : ℕ → ℕ → Next
next_of decision next = if nat_eq next 0 then Nothing else (if nat_eq decision next then Alike else Otherwise)

-- the three ways as numbers
abbrev pub code_of : Next → ℕ
code_of Nothing = 0
code_of Alike = 1
code_of Otherwise = 2

abbrev pub next_at : ℕ → Next
next_at code = if nat_eq code 0 then Nothing else (if nat_eq code 1 then Alike else Otherwise)

-- the number of a label: three numbers for each rule, from the first one on
abbrev pub number_of : ℕ → Label → ℕ
number_of first label = first + 3 * label.place + code_of label.next

-- the label with a number: none below the first one, where decisions are, and 0 where no rule matches
abbrev pub label_at : ℕ → ℕ → Option Label
label_at first n = if nat_lt n first then None else Some (record { place = (n - first) / 3; next = next_at ((n - first) % 3) })

-- whether the rule at the place is open
abbrev pub is_open : List Bool → ℕ → Bool
is_open left_open place = slice_index_or left_open place false

-- the number of the label of a rule at a place, or what it decides where it isn't open
abbrev pub own_number : ℕ → Bool → ℕ → code.Rule → ℕ → ℕ
own_number first opens place rule next = if opens then number_of first (record { place = place; next = next_of rule.decision next }) else rule.decision

-- the number in the leaf of these values, where the places of the rules begin here
abbrev pub labelled : ℕ → List Bool → ℕ → List code.Rule → List ℕ → ℕ
labelled first left_open from [] values = 0
labelled first left_open from (rule ∷ rules) values =
    if matches stated values (rule_of rule) then own_number first (is_open left_open from) from rule (decided stated rules values)
    else labelled first left_open (suc from) rules values

-- what a number with this label, or none, decides
abbrev pub decision_of : List code.Rule → ℕ → Option Label → ℕ
decision_of rules n None = n
decision_of rules n (Some label) = unwrap_or (option_map (λ (r : code.Rule). r.decision) (slice_get rules label.place)) 0

-- the label's number once this decision comes behind it: where nothing was known to come next, it does
abbrev pub with_next : ℕ → ℕ → ℕ → Option code.Rule → Next → ℕ → ℕ
with_next first upper place None next below = upper
with_next first upper place (Some rule) Nothing below = number_of first (record { place = place; next = next_of rule.decision below })
with_next first upper place (Some rule) Alike below = upper
with_next first upper place (Some rule) Otherwise below = upper

-- the upper number, with what comes next if it is a label
abbrev pub with_below : ℕ → List code.Rule → ℕ → Option Label → ℕ → ℕ
with_below first rules upper None below = upper
with_below first rules upper (Some label) below = with_next first upper label.place (slice_get rules label.place) label.next below

-- where one of the numbers is 0 the other one, else the upper one with what comes next
unfoldable pub joined : ℕ → List code.Rule → ℕ → ℕ → ℕ
joined first rules upper lower =
    if nat_eq upper 0 then lower
    else (if nat_eq lower 0 then upper else with_below first rules upper (label_at first upper) (decision_of rules lower (label_at first lower)))

-- the rules stand in the list from this place on
abbrev pub StandAt : List code.Rule → ℕ → List code.Rule → Type 0
StandAt all from [] = Unit {0}
StandAt all from (rule ∷ rules) = (slice_get all from ≡ Some rule) × StandAt all (suc from) rules

-- each decides something
abbrev pub AllDecide : List code.Rule → Type 0
AllDecide rules = AllByRecursion (λ (rule : code.Rule). 0 < rule.decision) rules

-- each decision is below the first label
abbrev pub AllBelow : ℕ → List code.Rule → Type 0
AllBelow first rules = AllByRecursion (λ (rule : code.Rule). rule.decision < first) rules

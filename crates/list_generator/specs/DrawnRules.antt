-- Rules that are drawn: each takes six draws, for its five sets and its decision.
use Rattle.std.specs.Prelude.{ℕ, zero, suc, List, [], ◌∷◌, map}
use Rattle.field_boxes.specs.Headline.Classifier.{Interval, Rule}
use Rattle.field_boxes.specs.Headline.FilterList.{FilterList}
use Rattle.list_generator.specs.Draws.{drawn, state_after}
use Rattle.list_generator.specs.DrawnSets.{addresses, decision, destination_ports, protocols, source_ports}

-- source address, destination address, source port, destination port and protocol
abbrev pub drawn_sets : ℕ → List (List Interval)
drawn_sets x = map (λ i. i ∷ []) (addresses (drawn 1 x) ∷ addresses (drawn 2 x) ∷ source_ports (drawn 3 x) ∷ destination_ports (drawn 4 x) ∷ protocols (drawn 5 x) ∷ [])

-- the rule that is drawn from this state on
abbrev pub drawn_rule : ℕ → Rule (List ℕ)
drawn_rule x = record { sets = drawn_sets x; decision = decision (drawn 6 x) }

-- so many rules, from this state on
abbrev pub drawn_rules : ℕ → ℕ → List (Rule (List ℕ))
drawn_rules zero x = []
drawn_rules (suc rules) x = drawn_rule x ∷ drawn_rules rules (state_after 6 x)

-- the list of so many rules that a seed gives
abbrev pub generated : ℕ → ℕ → FilterList
generated seed rules = record { rules = drawn_rules rules seed; flagged = 0 }

-- A list of which no rule is left to draw.
use Rattle.std.proofs.Common.{◌≡◌, List, ℕ, zero, suc, ◌+◌, ◌%◌, Bool, true, false, ap, refl, subst, sym, ◌∙◌, append-nil}
use Rattle.std.specs.Prelude.{codes, nat_eq, if◌then◌else◌}
use Rattle.std.specs.Str.{bytes_eq}
use Rattle.std.proofs.lemmas.Bool.{or_left}
use Rattle.field_boxes.specs.NamedRules.{named_rules}
use Rattle.field_boxes.specs.declared.rule.Rule.{Rule}
use Rattle.field_boxes.specs.Names.{is_decision_word}
use Rattle.field_boxes.specs.Headline.FilterList.{FilterList}
use Rattle.filter_reader.specs.Headline.FilterList.{own_name}
use Rattle.filter_reader.specs.OwnNames.{HaveNames}
use Rattle.field_boxes.specs.declared.rule_list.RuleList.{RuleList}
use Rattle.list_generator.specs.Draws.{drawn, state_after}
use Rattle.list_generator.specs.DrawnSets.{decision}
use Rattle.list_generator.specs.DrawnHeaders.{state_behind}
use Rattle.list_generator.specs.DrawnRules.{drawn_rules}
use Rattle.list_generator.specs.Generated.{IsGenerated}
use Rattle.list_generator.proofs.SoFar.{IsSoFar}

word_by : (s t : Bool) → is_decision_word (if s then codes "accept" else (if t then codes "deny" else codes "log")) ≡ true
word_by true t = refl
word_by false true = refl
word_by false false = refl

word_of : (y : ℕ) → is_decision_word (decision y) ≡ true
unfolding decision
word_of y = word_by (nat_eq (y % 3) 0) (nat_eq (y % 3) 1)

-- each rule that is drawn has a decision word
pub have_names : (k rules x : ℕ) → HaveNames k (drawn_rules rules x)
have_names k zero x = tt
have_names k (suc rules) x =
    let y = drawn 6 x in
    (or_left (is_decision_word (decision y)) (bytes_eq (decision y) (own_name k)) (word_of y), have_names (k + 1) rules (state_after 6 x))

-- the list is the one that the seed gives
pub finished : (seed count left state : ℕ) (list : RuleList) → left ≡ 0 → list.flagged ≡ 0 → IsSoFar seed count left state list.names list.rules.items → IsGenerated seed count list
finished seed count left state list none clean so =
    let is = subst (λ n. IsSoFar seed count n state list.names list.rules.items) none so in
    let whole : named_rules list.names list.rules.items ≡ drawn_rules count seed = sym (append-nil (named_rules list.names list.rules.items)) ∙ is.whole in
    record {
      spelled = ap (λ rules. let l : FilterList = record { rules = rules; flagged = list.flagged } in l) whole ∙ ap (λ flagged. let l : FilterList = record { rules = drawn_rules count seed; flagged = flagged } in l) clean;
      names = is.seen;
      named = subst (HaveNames 1) (sym whole) (have_names 1 count seed);
    }

-- and the state is the one behind its rules
pub turned : (seed count left state : ℕ) (names : List (List ℕ)) (rules : List Rule) → left ≡ 0 → IsSoFar seed count left state names rules → state ≡ state_behind count seed
turned seed count left state names rules none so = subst (λ n. state_behind n state ≡ state_behind count seed) none so.turned

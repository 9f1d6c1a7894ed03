-- The rules that were drawn so far, and one more.
use Rattle.std.proofs.Common.{◌≡◌, ◌∷◌, ◌++◌, ℕ, suc, ◌+◌, ◌≤◌, List, [], ap, subst, sym, ◌∙◌, arith, append_assoc, fold, length, Some}
use Rattle.std.specs.Prelude.{All, Option}
use Rattle.std.proofs.lemmas.List.{length-append, map-append}
use Rattle.std.proofs.lemmas.List.Elements.{All-push, All-weaker, recursion_from_All}
use Rattle.field_boxes.specs.declared.rule.Rule as code
use Rattle.field_boxes.specs.Headline.Classifier.{Rule}
use Rattle.field_boxes.specs.NamedRules.{IsNumberedBy, named_rule, named_rules}
use Rattle.field_boxes.specs.Headline.Names.{text_of}
use Rattle.field_boxes.specs.Names.{name_at, with_name}
use Rattle.field_boxes.specs.Rules.{sets_of}
use Rattle.field_boxes.specs.FilterRules.{IsFilterRule}
use Rattle.filter_reader.specs.FirstSeen.{first_seen}
use Rattle.list_generator.specs.Draws.{state_after}
use Rattle.list_generator.specs.DrawnHeaders.{state_behind}
use Rattle.list_generator.specs.DrawnRules.{drawn_rule, drawn_rules}
use Rattle.list_generator.specs.Growing.{AddsDrawn, IsDrawn}
use Rattle.filter_reader.proofs.SoFar.{same_rules, with_name-longer}

-- the names after those of more rules were seen
abbrev pub seen_after : List (List ℕ) → List (Rule (List ℕ)) → List (List ℕ)
seen_after names rules = fold (λ ns rule. with_name ns rule.decision) names rules

-- the rules so far, with those that are left to draw behind them, are all
pub record IsSoFar (seed count left state : ℕ) (names : List (List ℕ)) (rules : List code.Rule) : Type 0 where
  pub whole : named_rules names rules ++ drawn_rules left state ≡ drawn_rules count seed
  pub seen : seen_after names (drawn_rules left state) ≡ first_seen (drawn_rules count seed)
  pub few : length names ≤ length rules
  pub counted : length rules + left ≡ count
  pub turned : state_behind left state ≡ state_behind count seed
  pub spelled : All IsFilterRule rules
  pub numbered : All (IsNumberedBy names) rules

named_as : (new : List (List ℕ)) (r : code.Rule) (rule : Rule (List ℕ)) → sets_of r ≡ rule.sets → name_at new r.decision ≡ Some rule.decision → named_rule new r ≡ rule
named_as new r rule sets at =
    ap (λ (o : Option (List ℕ)). let x : Rule (List ℕ) = record { sets = sets_of r; decision = text_of o } in x) at
    ∙ ap (λ s. let x : Rule (List ℕ) = record { sets = s; decision = rule.decision } in x) sets

-- the rules with one that is drawn
rules_with : (state after : ℕ) (old new : List (List ℕ)) (rules : List code.Rule) (r : code.Rule) → All (IsNumberedBy old) rules → IsDrawn state old after new r →
    named_rules new (rules ++ r ∷ []) ≡ named_rules old rules ++ drawn_rule state ∷ []
rules_with state after old new rules r numbered is =
    map-append (named_rule new) rules (r ∷ [])
    ∙ ap (λ rs. rs ++ named_rule new r ∷ []) (same_rules old new is.kept rules (recursion_from_All (IsNumberedBy old) rules numbered))
    ∙ ap (λ x. named_rules old rules ++ x ∷ []) (named_as new r (drawn_rule state) is.sets is.number)

-- one more of those that are left is drawn
step : (seed count left state after : ℕ) (old new : List (List ℕ)) (rules : List code.Rule) (r : code.Rule) → IsSoFar seed count (suc left) state old rules → IsDrawn state old after new r →
    IsSoFar seed count left after new (rules ++ r ∷ [])
step seed count left state after old new rules r so is =
    let rest = drawn_rules left (state_after 6 state) in
    let grown = with_name-longer old (drawn_rule state).decision in
    let same : length new ≡ length (with_name old (drawn_rule state).decision) = ap length is.seen in
    let less = so.few in
    let total = so.counted in
    let size : length (rules ++ r ∷ []) ≡ length rules + 1 = length-append rules (r ∷ []) in
    record {
      whole = ap (λ s. named_rules new (rules ++ r ∷ []) ++ drawn_rules left s) is.turned ∙ ap (λ rs. rs ++ rest) (rules_with state after old new rules r so.numbered is) ∙ append_assoc (named_rules old rules) (drawn_rule state ∷ []) rest ∙ so.whole;
      seen = ap (λ s. seen_after new (drawn_rules left s)) is.turned ∙ ap (λ ns. seen_after ns rest) is.seen ∙ so.seen;
      few = let more = grown.1 in omega (arith, more, same, less, size);
      counted = omega (arith, total, size);
      turned = ap (state_behind left) is.turned ∙ so.turned;
      spelled = All-push IsFilterRule rules r so.spelled is.spelled;
      numbered = All-push (IsNumberedBy new) rules r (All-weaker (IsNumberedBy old) (IsNumberedBy new) (λ x h. (h.0, let below = h.1 in let more = grown.0 in omega (arith, below, more, same))) rules so.numbered) is.within;
    }

-- the same, where what is left is told by a count
pub added : (seed count left next state after : ℕ) (old new : List (List ℕ)) (rules with_name-longer : List code.Rule) → left ≡ suc next → IsSoFar seed count left state old rules → AddsDrawn state old rules after new with_name-longer →
    IsSoFar seed count next after new with_name-longer
added seed count left next state after old new rules with_name-longer e so (r, is, same) =
    subst (λ rs. IsSoFar seed count next after new rs) (sym same) (step seed count next state after old new rules r (subst (λ n. IsSoFar seed count n state old rules) e so) is)

-- What the diagrams of the parts around a rule say of its state.
use Rattle.std.proofs.Common.{◌≡◌, ◌∷◌, ◌++◌, ◌+◌, ◌<◌, ◌∙◌, ℕ, zero, suc, List, [], Bool, true, false, cond, length, get_or, append_assoc, ap, refl, sym, subst, arith, nat_eq, Option, Some, None, IfSome, ne_eqb, append-nil, length-append}
use Rattle.std.proofs.lemmas.List.Elements.{All-cons, All-nil, All-push}
use Rattle.field_boxes.specs.declared.rule.Rule as code
use Rattle.field_boxes.specs.Headline.Classifier.{matches}
use Rattle.field_boxes.specs.Headline.Fields.{stated, IsHeader}
use Rattle.field_boxes.specs.Rules.{rule_of}
use Rattle.node_store.specs.declared.edge.NodeId.{NodeId}
use Rattle.node_store.specs.Diagram.{Node, answer, level_of}
use Rattle.fdd_build.specs.Rules.{decided}
use Rattle.fdd_build.proofs.Decided.{decided_head}
use Rattle.rule_audit.specs.declared.search.around.Around.{Around}
use Rattle.rule_audit.specs.declared.label.Next.{Next}
use Rattle.rule_audit.specs.declared.state.RuleState.{RuleState}
use Rattle.rule_audit.specs.Search.{StandAtLevel, first_answer, shown_around, AreTold, IsTold, StandBetween}
use Rattle.rule_audit.specs.Labels.{AllDecide, next_of}
use Rattle.rule_audit.specs.Meeting.{IsStateSoFar, next_behind}
use Rattle.rule_audit.specs.Parts.{Shows, over}
use Rattle.rule_audit.proofs.FirstAnswers.{first_push}
use Rattle.rule_audit.proofs.Joining.{decide_parts, number_parts}
use Rattle.rule_audit.proofs.SoFar.{shown_alike}

module _ (header : List ℕ) where
  abbrev number : List code.Rule → ℕ
  number rules = decided stated rules header

  abbrev meets : code.Rule → Bool
  meets rule = matches stated header (rule_of rule)

  -- what is next behind a rule, where these stand before it and those behind it
  abbrev next_by : Bool → Bool → code.Rule → List code.Rule → Option Next
  next_by none m rule back = cond none (cond m (Some (next_of rule.decision (number back))) None) None

  later_by : (m : Bool) (d n : ℕ) (o p : Option Next) → 0 < d → o ≡ cond (nat_eq n 0) p None → cond m None o ≡ cond (nat_eq (cond m d n) 0) p None
  later_by true d n o p some e = ap (λ t. cond t p None) (sym (ne_eqb d 0 (λ z. omega (arith, some, z))))
  later_by false d n o p some e = e

  next_at : (front back : List code.Rule) (rule : code.Rule) → AllDecide front → next_behind (front ++ rule ∷ back) (length front) header ≡ next_by (nat_eq (number front) 0) (meets rule) rule back
  next_at [] back rule decide = refl
  next_at (first ∷ front) back rule decide =
      later_by (meets first) first.decision (number front) (next_behind (front ++ rule ∷ back) (length front) header) (next_by true (meets rule) rule back) decide.0 (next_at front back rule decide.1)
      ∙ sym (ap (λ n. next_by (nat_eq n 0) (meets rule) rule back) (decided_head stated header first front (meets first) refl))

  -- the same, by what the rule's own diagram answers
  here_by : (m : Bool) (d b : ℕ) → 0 < d → cond (nat_eq (cond m d 0) 0) None (Some (next_of (cond m d 0) b)) ≡ cond m (Some (next_of d b)) None
  here_by true d b some = ap (λ t. cond t None (Some (next_of d b))) (ne_eqb d 0 (λ z. omega (arith, some, z)))
  here_by false d b some = refl

-- what the numbers of three diagrams show
abbrev shown_of_numbers : ℕ → ℕ → ℕ → Option Next
shown_of_numbers before here behind = cond (nat_eq before 0) (cond (nat_eq here 0) None (Some (next_of here behind))) None

module _ (nodes : List Node) (all : List code.Rule) (decide : AllDecide all) where
  -- the diagrams around a rule show how the next one decides
  shows_next : (rule : code.Rule) (place : ℕ) (around : Around) (at : StandBetween nodes all (rule ∷ []) place around) (h : List ℕ) → IsHeader h → shown_around nodes around h ≡ next_behind all place h
  shows_next rule place around at h ok =
      let front = at.front in
      let back = at.back in
      let every = subst AllDecide at.is decide in
      let decide_each = decide_parts front (rule ∷ back) every in
      let number = decided stated front h in
      let meets = matches stated h (rule_of rule) in
      ap (λ n. shown_of_numbers n (answer nodes around.here.0 h) (first_answer nodes around.behind.items h)) (at.decided_before h ok)
      ∙ ap (λ n. shown_of_numbers (decided stated front h) n (first_answer nodes around.behind.items h)) (at.here.answers h ok)
      ∙ ap (λ n. shown_of_numbers (decided stated front h) (decided stated (rule ∷ []) h) n) (at.decided_behind h ok)
      ∙ ap (λ n. shown_of_numbers number n (decided stated back h)) (decided_head stated h rule [] meets refl)
      ∙ ap (λ o. cond (nat_eq number 0) o None) (here_by h meets rule.decision (decided stated back h) decide_each.1.0)
      ∙ sym (next_at h front back rule decide_each.0)
      ∙ ap (λ (rs : List code.Rule). next_behind rs (length front) h) (sym at.is)
      ∙ ap (λ k. next_behind all k h) at.count

  told_by : (shown next : List ℕ → Option Next) → ((h : List ℕ) → IsHeader h → shown h ≡ next h) → (told : Option RuleState) →
      IfSome told (λ (state : RuleState). IsStateSoFar IsHeader shown state) → IfSome told (λ (state : RuleState). IsStateSoFar IsHeader next state)
  told_by shown next same None h = h
  told_by shown next same (Some state) h = shown_alike IsHeader shown next same state h

  -- so the state that they tell is the rule's
  pub told : (rules : List code.Rule) (place : ℕ) (around : Around) → length rules ≡ 1 → StandBetween nodes all rules place around → (state : Option RuleState) →
      IfSome state (λ (s : RuleState). IsStateSoFar IsHeader (shown_around nodes around) s) → IsTold all place state
  told (rule ∷ []) place around one at state h = told_by (shown_around nodes around) (next_behind all place) (shows_next rule place around at) state h
  told rules place around one at state h = absurd (omega arith)

  -- the first half of the rules
  pub first_half : (rules upper lower : List code.Rule) (place : ℕ) (around inner : Around) (first second : NodeId) → rules ≡ upper ++ lower → StandBetween nodes all rules place around →
      Shows nodes upper first → Shows nodes lower second → inner.here ≡ first → inner.before.items ≡ around.before.items → inner.behind.items ≡ second ∷ around.behind.items →
      StandBetween nodes all upper place inner
  first_half rules upper lower place around inner first second is at up low here before behind =
      let shape = at.is ∙ ap (λ (rs : List code.Rule). at.front ++ (rs ++ at.back)) is ∙ ap (λ (rs : List code.Rule). at.front ++ rs) (append_assoc upper lower at.back) in
      let every = (decide_parts upper (lower ++ at.back) (decide_parts at.front (upper ++ (lower ++ at.back)) (subst AllDecide shape decide)).1).1 in
      record {
        front = at.front;
        back = lower ++ at.back;
        is = shape;
        count = at.count;
        here = subst (Shows nodes upper) (sym here) up;
        before = subst (StandAtLevel nodes stated) (sym before) at.before;
        behind = subst (StandAtLevel nodes stated) (sym behind) (All-cons (λ (i : NodeId). level_of nodes i.0 ≡ stated) second around.behind.items low.level at.behind);
        decided_before = λ h ok. ap (λ (ids : List NodeId). first_answer nodes ids h) before ∙ at.decided_before h ok;
        decided_behind = λ h ok.
            ap (λ (ids : List NodeId). first_answer nodes ids h) behind
            ∙ ap (λ n. over n (first_answer nodes around.behind.items h)) (low.answers h ok)
            ∙ ap (λ n. over (decided stated lower h) n) (at.decided_behind h ok)
            ∙ sym (number_parts h lower at.back (decide_parts lower at.back every).0);
      }

  -- and the second half
  pub second_half : (rules upper lower : List code.Rule) (place later : ℕ) (around inner : Around) (first second : NodeId) → rules ≡ upper ++ lower → later ≡ place + length upper →
      StandBetween nodes all rules place around → Shows nodes upper first → Shows nodes lower second → inner.here ≡ second → inner.before.items ≡ around.before.items ++ first ∷ [] →
      inner.behind.items ≡ around.behind.items → StandBetween nodes all lower later inner
  second_half rules upper lower place later around inner first second is place_is at up low here before behind =
      let shape =
      at.is
      ∙ ap (λ (rs : List code.Rule). at.front ++ (rs ++ at.back)) is
      ∙ ap (λ (rs : List code.Rule). at.front ++ rs) (append_assoc upper lower at.back)
      ∙ sym (append_assoc at.front upper (lower ++ at.back)) in
      record {
        front = at.front ++ upper;
        back = at.back;
        is = shape;
        count = let n = length-append at.front upper in let m = at.count in omega (arith, n, m, place_is);
        here = subst (Shows nodes lower) (sym here) low;
        before = subst (StandAtLevel nodes stated) (sym before) (All-push (λ (i : NodeId). level_of nodes i.0 ≡ stated) around.before.items first at.before up.level);
        behind = subst (StandAtLevel nodes stated) (sym behind) at.behind;
        decided_before = λ h ok.
            ap (λ (ids : List NodeId). first_answer nodes ids h) before
            ∙ first_push nodes around.before.items first h
            ∙ ap (λ n. over n (answer nodes first.0 h)) (at.decided_before h ok)
            ∙ ap (λ n. over (decided stated at.front h) n) (up.answers h ok)
            ∙ sym (number_parts h at.front upper (decide_parts at.front (rules ++ at.back) (subst AllDecide at.is decide)).0);
        decided_behind = λ h ok. ap (λ (ids : List NodeId). first_answer nodes ids h) behind ∙ at.decided_behind h ok;
      }

  -- at first no rules stand before or behind
  pub whole : (around : Around) → Shows nodes all around.here → around.before.items ≡ [] → around.behind.items ≡ [] → StandBetween nodes all all 0 around
  whole around here before behind = record {
    front = [];
    back = [];
    is = sym (append-nil all);
    count = refl;
    here = here;
    before = subst (StandAtLevel nodes stated) (sym before) (All-nil (λ (i : NodeId). level_of nodes i.0 ≡ stated));
    behind = subst (StandAtLevel nodes stated) (sym behind) (All-nil (λ (i : NodeId). level_of nodes i.0 ≡ stated));
    decided_before = λ h ok. ap (λ (ids : List NodeId). first_answer nodes ids h) before;
    decided_behind = λ h ok. ap (λ (ids : List NodeId). first_answer nodes ids h) behind;
  }

pushed_by : (P : ℕ → Option RuleState → Type 0) (states : List (Option RuleState)) (state : Option RuleState) → ((k : ℕ) (d : Option RuleState) → k < length states → P k (get_or states k d)) →
    P (length states) state → (k : ℕ) (d : Option RuleState) → k < length (states ++ state ∷ []) → P k (get_or (states ++ state ∷ []) k d)
pushed_by P [] state old here zero d less = here
pushed_by P [] state old here (suc k) d less = absurd (omega (arith, less))
pushed_by P (s ∷ states) state old here zero d less = old 0 d (omega arith)
pushed_by P (s ∷ states) state old here (suc k) d less =
    pushed_by (λ n o. P (suc n) o) states state (λ j e small. old (suc j) e (omega (arith, small))) here k d (omega (arith, less))

-- one state more is told
pub told_more : (all : List code.Rule) (states : List (Option RuleState)) (state : Option RuleState) → AreTold all states → IsTold all (length states) state → AreTold all (states ++ state ∷ [])
told_more all states state old here = pushed_by (IsTold all) states state old here

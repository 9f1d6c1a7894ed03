-- Two sides compared by common numbers.
use Rattle.std.proofs.Common.{◌≡◌, ℕ, ◌≤◌, List, ap, sym, subst, ◌∙◌, length, Some, None}
use Rattle.std.specs.Prelude.{Option, MatchOption, ◌↔◌}
use Rattle.std.proofs.lemmas.List.Elements.{recursion_from_All, All-weaker}
use Rattle.field_boxes.specs.declared.rule.Rule as code
use Rattle.field_boxes.specs.Headline.Fields.{stated, AreValues, IsHeader}
use Rattle.field_boxes.specs.NamedRules.{IsNumberedBy}
use Rattle.field_boxes.specs.Names.{name_at, AreNames}
use Rattle.field_boxes.specs.declared.rule_list.RuleList.{RuleList}
use Rattle.field_boxes.specs.Lists.{name_decided}
use Rattle.node_store.specs.Diagram.{Node, answer}
use Rattle.fdd_build.specs.Rules.{decided}
use Rattle.fdd_build.proofs.Decided.{named}
use Rattle.field_boxes.specs.Alike.{AreAlike, IsFirstDifference}
use Rattle.list_equiv.specs.declared.verdict.Verdict.{Verdict}
use Rattle.list_equiv.specs.declared.verdict.Verdict.TheVariants.{Equal, Differ}
use Rattle.list_equiv.specs.Names.{AreWithin, name_of, common_number}
use Rattle.list_equiv.specs.Verdict.{IsNumberOf, IsVerdict}
use Rattle.list_equiv.proofs.Common.{common, own-number}
use Rattle.list_equiv.proofs.Decided.{within}

-- two functions are alike, or first differ, where two others do
pub by_others : {X A B : Type 0} (values : X → List ℕ) (f g : List ℕ → A) (h k : List ℕ → B) (o : Option X) →
    ((header : List ℕ) → IsHeader header → (f header ≡ g header) ↔ (h header ≡ k header)) →
    MatchOption o (AreAlike f g) (λ x. IsFirstDifference f g (values x)) → MatchOption o (AreAlike h k) (λ x. IsFirstDifference h k (values x))
by_others values f g h k None tell alike = λ header is. (tell header is).0 (alike header is)
by_others values f g h k (Some x) tell first = record {
  in_fields = first.in_fields;
  differ = λ e. first.differ ((tell (values x) first.in_fields).1 e);
  least = λ others is before. (tell others is).0 (first.least others is before);
}

-- the node answers the common number of what the rules decide
abbrev pub AnswersCommon : List Node → ℕ → List (List ℕ) → List (List ℕ) → List code.Rule → Type 0
AnswersCommon nodes id names others rules = (header : List ℕ) → IsHeader header → answer nodes id header ≡ common_number names others (decided stated rules header)

-- so does that of rules that decide it, in an order which is the stated one
pub in_order : (order : List ℕ) (nodes : List Node) (id : ℕ) (names others : List (List ℕ)) (rules made seen : List code.Rule) → order ≡ stated → seen ≡ made →
    ((values : List ℕ) → AreValues order values → answer nodes id values ≡ decided order seen values) →
    ((header : List ℕ) → IsHeader header → decided stated made header ≡ common_number names others (decided stated rules header)) → AnswersCommon nodes id names others rules
in_order order nodes id names others rules made seen is same h decides = λ header ok.
    h header (subst (λ o. AreValues o header) (sym is) ok) ∙ ap (λ o. decided o seen header) is ∙ ap (λ rs. decided stated rs header) same ∙ decides header ok

-- two diagrams of common numbers answer alike exactly where the rules decide one name
pub tell_apart : (nodes : List Node) (a b : ℕ) (names others : List (List ℕ)) (left right : List code.Rule) → AreNames names → AreNames others →
    AreWithin names left → AreWithin others right → AnswersCommon nodes a names others left → AnswersCommon nodes b others others right → (header : List ℕ) → IsHeader header →
    (answer nodes a header ≡ answer nodes b header) ↔ (name_of names left header ≡ name_of others right header)
tell_apart nodes a b names others left right n o l r am ar header is =
    let first = am header is in
    let second = ar header is ∙ own-number others o (decided stated right header) (within others right header r) in
    let same = common names others n o (decided stated left header) (decided stated right header) (within names left header l) (within others right header r) in
    ((λ e. same.0 (sym first ∙ e ∙ second)), λ e. first ∙ same.1 e ∙ sym second)

-- what the rules decide on a header has the number that they decide
pub number_of_name : (names : List (List ℕ)) (rules : List code.Rule) (header : List ℕ) (n : ℕ) → AreWithin names rules → n ≡ decided stated rules header → IsNumberOf names (name_of names rules header) n
number_of_name names rules header n h e = record {
  within = subst (λ k. k ≤ length names) (sym e) (within names rules header h);
  is = ap (name_at names) e;
}

-- a verdict on two that give the same names
pub verdict_as : (names others : List (List ℕ)) (f g h k : List ℕ → Option (List ℕ)) (verdict : Verdict) → ((header : List ℕ) → IsHeader header → f header ≡ h header) →
    ((header : List ℕ) → IsHeader header → g header ≡ k header) → IsVerdict names others f g verdict → IsVerdict names others h k verdict
verdict_as names others f g h k Equal p q v = λ header is. sym (p header is) ∙ v header is ∙ q header is
verdict_as names others f g h k (Differ header first second) p q v = record {
  least = record {
    in_fields = v.least.in_fields;
    differ = λ e. v.least.differ (p header.values v.least.in_fields ∙ e ∙ sym (q header.values v.least.in_fields));
    least = λ values is before. sym (p values is) ∙ v.least.least values is before ∙ q values is;
  };
  left_number = record { within = v.left_number.within; is = v.left_number.is ∙ p header.values v.least.in_fields };
  right_number = record { within = v.right_number.within; is = v.right_number.is ∙ q header.values v.least.in_fields };
}

-- the rules of a list give its names
pub list_names : (list : RuleList) (rules : List code.Rule) → rules ≡ list.rules.items → (header : List ℕ) → name_of list.names rules header ≡ name_decided list header
list_names list rules same header =
    ap (λ rs. name_of list.names rs header) same
    ∙ sym (named stated list.names list.rules.items header (recursion_from_All (IsNumberedBy list.names) list.rules.items list.numbered))

pub list_within : (list : RuleList) (rules : List code.Rule) → rules ≡ list.rules.items → AreWithin list.names rules
list_within list rules same =
    subst (AreWithin list.names) (sym same)
    (All-weaker (IsNumberedBy list.names) (λ (r : code.Rule). r.decision ≤ length list.names) (λ r h. h.1) list.rules.items list.numbered)

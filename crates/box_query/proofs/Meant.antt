-- What the two answers of a query's diagram mean.
use Rattle.std.proofs.Common.{◌≡◌, ◌∷◌, ℕ, ◌≤◌, List, [], Bool, true, false, cond, refl, ap, sym, ◌∙◌, arith, length, inl, inr, subst, rules, ◌⊎◌, ◌&&◌, nat_eq}
use Rattle.std.proofs.lemmas.Bool.{and_parts, and_from}
use Rattle.std.proofs.lemmas.Bool.Decides.{Decides-eqb}
use Rattle.std.proofs.lemmas.List.Elements.{recursion_from_All}
use Rattle.field_boxes.specs.declared.span.Span.{Span}
use Rattle.field_boxes.specs.Boxes.{box_of, box_holds, LiesIn}
use Rattle.field_boxes.specs.Headline.Classifier.{Interval, union_holds, source}
use Rattle.field_boxes.specs.Headline.Fields.{stated, IsHeader}
use Rattle.field_boxes.specs.NamedRules.{IsNumberedBy}
use Rattle.field_boxes.specs.Names.{name_at, AreNames}
use Rattle.field_boxes.specs.Spans.{interval_of, intervals_of}
use Rattle.field_boxes.specs.declared.rule_list.RuleList.{RuleList}
use Rattle.field_boxes.specs.Lists.{filter_list}
use Rattle.node_store.specs.Diagram.{Node, level_of, answer}
use Rattle.node_store.specs.Store.{IsStore}
use Rattle.node_store.proofs.Values.{count}
use Rattle.fdd_build.specs.Rules.{decided}
use Rattle.fdd_build.proofs.Decided.{named, within}
use Rattle.box_query.specs.Asked.{label}
use Rattle.box_query.specs.Boxes.{AreBoxesOf}
use Rattle.box_query.specs.NodeBoxes.{node_boxes}
use Rattle.box_query.proofs.Alone.{IsRight, right-exact}
use Rattle.box_query.proofs.Shared.{interval-true, true-interval}
use Rattle.box_query.proofs.NodeBoxes.{IsFit, has-boxes}
use Rattle.node_store.proofs.Stated.{all_fields}

-- lists of five
record Five {X : Type 0} (xs : List X) : Type 0 where
  a : X
  b : X
  c : X
  d : X
  e : X
  is : xs ≡ a ∷ b ∷ c ∷ d ∷ e ∷ []

five-of : {X : Type 0} (xs : List X) → length xs ≡ 5 → Five xs
five-of (a ∷ b ∷ c ∷ d ∷ e ∷ []) h = record { a = a; b = b; c = c; d = d; e = e; is = refl }
five-of xs h = absurd (omega arith)

-- one field of a box, and the fields after it
field-to : (v : ℕ) (i : Interval) (t : Bool) (P : Type 0) → (t ≡ true → P) → (union_holds v (i ∷ []) && t) ≡ true → (i.lo ≤ v) × (v ≤ i.hi) × P
field-to v i t P rest h = let both = and_parts (union_holds v (i ∷ [])) t h in let at = interval-true v i both.0 in (at.0, at.1, rest both.1)

field-from : (v : ℕ) (i : Interval) (t : Bool) (P : Type 0) → (P → t ≡ true) → (i.lo ≤ v) × (v ≤ i.hi) × P → (union_holds v (i ∷ []) && t) ≡ true
field-from v i t P rest h = and_from (union_holds v (i ∷ [])) t (true-interval v i h.0 h.1) (rest h.2)

-- whether the box of these spans has these values
abbrev box_has : List Span → List ℕ → Bool
box_has [] values = true
box_has (s ∷ spans) [] = true
box_has (s ∷ spans) (v ∷ values) = union_holds v (interval_of s ∷ []) && box_has spans values

has-holds : (spans : List Span) (values : List ℕ) → length values ≡ length spans → box_has spans values ≡ true → LiesIn (intervals_of spans) values
has-holds [] [] e h = tt
has-holds (s ∷ spans) (v ∷ values) e h = field-to v (interval_of s) (box_has spans values) (LiesIn (intervals_of spans) values) (has-holds spans values (omega (arith, e))) h
has-holds spans values e h = absurd (omega arith)

holds-has : (spans : List Span) (values : List ℕ) → LiesIn (intervals_of spans) values → box_has spans values ≡ true
holds-has [] values h = refl
holds-has (s ∷ spans) [] h = absurd h
holds-has (s ∷ spans) (v ∷ values) h = field-from v (interval_of s) (box_has spans values) (LiesIn (intervals_of spans) values) (holds-has spans values) h

-- a header lies in the box of five spans where the test says so
test-has : (spans : List Span) (header : List ℕ) → Five spans → Five header → box_holds (box_of spans) header ≡ box_has spans header
test-has spans header s h =
    ap (λ (ss : List Span). box_holds (box_of ss) header) s.is ∙ ap (λ values. box_holds (box_of (s.a ∷ s.b ∷ s.c ∷ s.d ∷ s.e ∷ [])) values) h.is
    ∙ sym (ap (λ (ss : List Span). box_has ss header) s.is ∙ ap (λ values. box_has (s.a ∷ s.b ∷ s.c ∷ s.d ∷ s.e ∷ []) values) h.is)

pub box-holds : (spans : List Span) (header : List ℕ) → length spans ≡ 5 → IsHeader header → (box_holds (box_of spans) header ≡ true) → LiesIn (intervals_of spans) header
box-holds spans header five is h =
    let n : length header ≡ 5 = count stated header is in
    has-holds spans header (omega (arith, n, five)) (sym (test-has spans header (five-of spans five) (five-of header n)) ∙ h)

pub holds-box : (spans : List Span) (header : List ℕ) → length spans ≡ 5 → IsHeader header → LiesIn (intervals_of spans) header → box_holds (box_of spans) header ≡ true
holds-box spans header five is h = test-has spans header (five-of spans five) (five-of header (count stated header is)) ∙ holds-has spans header h

-- The two answers.

abbrev two_of : Bool → ℕ → ℕ → ℕ
two_of box w d = cond box (label w d) 2

abbrev one_or_two : Bool → ℕ
one_or_two t = cond t 1 2

label-two : (t : Bool) → (one_or_two t ≡ 1) ⊎ (one_or_two t ≡ 2)
label-two true = inl refl
label-two false = inr refl

two-answers : (box : Bool) (w d : ℕ) → (two_of box w d ≡ 1) ⊎ (two_of box w d ≡ 2)
two-answers true w d = label-two (nat_eq d w)
two-answers false w d = inr refl

label-one : (d w : ℕ) (t : Bool) → nat_eq d w ≡ t → one_or_two t ≡ 1 → d ≡ w
label-one d w true e h = (Decides-eqb d w).0 e
label-one d w false e h = absurd (omega (arith, h))

one-answer : (box : Bool) (w d : ℕ) → two_of box w d ≡ 1 → (box ≡ true) × (d ≡ w)
one-answer true w d h = (refl, label-one d w (nat_eq d w) refl h)
one-answer false w d h = absurd (omega (arith, h))

answer-one : (box : Bool) (w d : ℕ) → box ≡ true → d ≡ w → two_of box w d ≡ 1
answer-one box w d b e = ap (λ t. cond t (label w d) 2) b ∙ ap one_or_two ((Decides-eqb d w).1 e)

-- the diagram answers 1 where the box holds the header and the list decides the number, and 2 elsewhere
abbrev pub Tells : List Node → ℕ → RuleList → List Span → ℕ → Type 0
Tells nodes id list spans w = (header : List ℕ) → IsHeader header → answer nodes id header ≡ two_of (box_holds (box_of spans) header) w (decided stated list.rules.items header)

name-is : (list : RuleList) (header : List ℕ) → source stated header (filter_list list).rules ≡ name_at list.names (decided stated list.rules.items header)
name-is list header = named stated list.names list.rules.items header (recursion_from_All (IsNumberedBy list.names) list.rules.items list.numbered)

number-is : (list : RuleList) (header : List ℕ) (w : ℕ) → AreNames list.names → w ≤ length list.names → source stated header (filter_list list).rules ≡ name_at list.names w →
    decided stated list.rules.items header ≡ w
number-is list header w names few e =
    names.distinct (decided stated list.rules.items header) w (within stated list.names list.rules.items header (recursion_from_All (IsNumberedBy list.names) list.rules.items list.numbered)) few
    (sym (name-is list header) ∙ e)

fits : (nodes : List Node) (id : ℕ) (list : RuleList) (spans : List Span) (w : ℕ) → level_of nodes id ≡ stated → Tells nodes id list spans w → IsFit nodes stated id
fits nodes id list spans w at tells = record {
  at = at;
  two = λ header is. subst (λ n. (n ≡ 1) ⊎ (n ≡ 2)) (sym (tells header is)) (two-answers (box_holds (box_of spans) header) w (decided stated list.rules.items header));
}

-- the boxes of such a diagram are those of the list, the box and the name
pub boxes-of : (nodes : List Node) (id : ℕ) (list : RuleList) (spans : List Span) (w : ℕ) → IsStore nodes → level_of nodes id ≡ stated → length spans ≡ 5 → AreNames list.names → w ≤ length list.names →
    Tells nodes id list spans w → AreBoxesOf (filter_list list).rules (intervals_of spans) (name_at list.names w) (node_boxes nodes stated id)
boxes-of nodes id list spans w s at five names few tells =
    let has = has-boxes nodes stated s all_fields id (fits nodes id list spans w at tells) in
    let right : IsRight (λ header. LiesIn (intervals_of spans) header × (source stated header (filter_list list).rules ≡ name_at list.names w)) stated (node_boxes nodes stated id) = λ header is. (
      λ held.
          let one = one-answer (box_holds (box_of spans) header) w (decided stated list.rules.items header) (sym (tells header is) ∙ (has.right header is).0 held) in
          (box-holds spans header five is one.0, name-is list header ∙ ap (name_at list.names) one.1),
      λ meant.
          (has.right header is).1 (tells header is ∙ answer-one (box_holds (box_of spans) header) w (decided stated list.rules.items header) (holds-box spans header five is meant.0)
          (number-is list header w names few meant.1)),
    ) in
    record {
      grouped = has.grouped;
      exact = right-exact (λ header. LiesIn (intervals_of spans) header × (source stated header (filter_list list).rules ≡ name_at list.names w)) stated (node_boxes nodes stated id) right;
    }

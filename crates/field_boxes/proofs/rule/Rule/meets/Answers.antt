use Rattle.std.proofs.Common.{below_more, ◌≡◌, ℕ, [], arith, sym, refl}
use Rattle.std.specs.Prelude.{slice_index_or, IsTrue, IsFalse}
use Rattle.std.proofs.lemmas.List.{get_or_default}
use Rattle.field_boxes.specs.declared.span.Span.{Span}
use Rattle.field_boxes.specs.Fields.{greatest_of}
use Rattle.field_boxes.specs.Headline.Classifier.{union_holds}
use Rattle.field_boxes.specs.Spans.{intervals_of}
use Rattle.field_boxes.specs.SpanLists.{filling}
use Rattle.field_boxes.specs.Unions.{RiseApart}
use Rattle.field_boxes.specs.Boxes.{EachValue, SomeValue}
use Rattle.field_boxes.specs.Rules.{sets_of, rule_of}
use Rattle.field_boxes.proofs.Covered.{given_set, moved, some_held, none_held}
use Rattle.field_boxes.proofs.rule.Rule.meets.Goals as goal
use Rattle.field_boxes.proofs.rule.Rule.meets.Goals.{After-greatest}

set_is : (c : After-greatest) → intervals_of (slice_index_or c.sets-sets.result c.loop-field.field c.index-sets-field.result).now ≡ slice_index_or (sets_of c.args.self.now) c.loop-field.field []
set_is c = given_set (λ s. intervals_of s.now) c.sets-sets.result (sets_of c.args.self.now) c.loop-field.field c.index-sets-field.result c.sets-sets.ensures.sets c.loop-field-test.true

pub has_any-requires : goal.has_any-requires
has_any-requires c =
    let k = c.loop-field.field in
    moved (λ g s is. RiseApart 0 g is) (greatest_of k) c.greatest.result filling filling (slice_index_or (sets_of c.args.self.now) k []) _
    (sym c.greatest.ensures) refl (sym (set_is c)) (c.sets-sets.ensures.inside k c.loop-field-test.true)

pub returns-then-not-has_any-clause-no : goal.returns-then-not-has_any-clause-no
returns-then-not-has_any-clause-no c =
    let k = c.loop-field.field in
    let at = (goal.at.returns-then-not-has_any-clause-no c).After-greatest in
    none_held c.args.spans.now c.told-spans (rule_of c.args.self.now) k c.loop-field-test.true
    (moved (λ g s is. EachValue g s (λ v. IsFalse (union_holds v is))) c.greatest.result (greatest_of k) _ (slice_index_or c.args.spans.now k filling) _ (slice_index_or (sets_of c.args.self.now) k [])
    c.greatest.ensures (get_or_default c.args.spans.now k c.index-spans-field.result filling (omega (arith, c.told-spans, c.loop-field-test.true))) (set_is at) c.if-not-has_any.ensures.no)

pub loop-field-preserved : goal.loop-field-preserved
loop-field-preserved c = λ k d below.
    let field = c.loop-field.field in
    let at = (goal.at.loop-field-preserved c).After-greatest in
    let holds : ℕ → Type 0 = λ j. (e : Span) → SomeValue (greatest_of j) (slice_index_or c.args.spans.now j e) (λ v. IsTrue (union_holds v (slice_index_or (sets_of c.args.self.now) j []))) in
    below_more holds field (λ j low e. c.loop-field.invariant j e low)
    (λ e. moved (λ g s is. SomeValue g s (λ v. IsTrue (union_holds v is))) c.greatest.result (greatest_of field) _ (slice_index_or c.args.spans.now field e) _ (slice_index_or (sets_of c.args.self.now) field [])
    c.greatest.ensures (get_or_default c.args.spans.now field c.index-spans-field.result e (omega (arith, c.told-spans, c.loop-field-test.true))) (set_is at) c.if-not-has_any.ensures.yes)
    k below d

pub returns-clause-yes : goal.returns-clause-yes
returns-clause-yes c = some_held c.args.spans.now c.told-spans (rule_of c.args.self.now) (λ k low. c.loop-field.invariant k filling (omega (arith, c.loop-field-test.false)))

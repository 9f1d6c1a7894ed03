use Rattle.std.proofs.Common.{◌≡◌, [], arith, sym, refl}
use Rattle.std.specs.Prelude.{slice_index_or, IsTrue, IsFalse}
use Rattle.std.proofs.lemmas.List.{get_or_default}
use Rattle.field_boxes.specs.Headline.Fields.{stated}
use Rattle.field_boxes.specs.Fields.{greatest_of}
use Rattle.field_boxes.specs.Headline.Classifier.{matches, union_holds}
use Rattle.field_boxes.specs.Spans.{intervals_of}
use Rattle.field_boxes.specs.SpanLists.{filling}
use Rattle.field_boxes.specs.Unions.{RiseApart}
use Rattle.field_boxes.specs.Boxes.{SomeValue}
use Rattle.field_boxes.specs.Rules.{sets_of, rule_of}
use Rattle.field_boxes.proofs.Covered.{given_set, moved, no_header, all_held, some_missing}
use Rattle.field_boxes.proofs.rule.Rule.covers.Goals as goal
use Rattle.field_boxes.proofs.rule.Rule.covers.Goals.{After-greatest}

set_is : (c : After-greatest) → intervals_of (slice_index_or c.sets-sets.result c.loop-field.field c.index-sets-field.result).now ≡ slice_index_or (sets_of c.args.self.now) c.loop-field.field []
set_is c = given_set (λ s. intervals_of s.now) c.sets-sets.result (sets_of c.args.self.now) c.loop-field.field c.index-sets-field.result c.sets-sets.ensures.sets c.loop-field-test.true

pub returns-then-begins_past_a_field-clause-yes : goal.returns-then-begins_past_a_field-clause-yes
returns-then-begins_past_a_field-clause-yes c =
    let past = c.if-begins_past_a_field.ensures.yes in
    no_header c.args.spans.now c.told-spans (rule_of c.args.self.now) (λ h. IsTrue (matches stated h (rule_of c.args.self.now))) past.0 past.1 (past.2 filling)

pub has_all-requires-clause-rise : goal.has_all-requires-clause-rise
has_all-requires-clause-rise c =
    let k = c.loop-field.field in
    moved (λ g s is. RiseApart 0 g is) (greatest_of k) c.greatest.result filling filling (slice_index_or (sets_of c.args.self.now) k []) _
    (sym c.greatest.ensures) refl (sym (set_is c)) (c.sets-sets.ensures.inside k c.loop-field-test.true)

pub returns-then-not-has_all-clause-no : goal.returns-then-not-has_all-clause-no
returns-then-not-has_all-clause-no c =
    let k = c.loop-field.field in
    let at = (goal.at.returns-then-not-has_all-clause-no c).After-greatest in
    some_missing c.args.spans.now c.told-spans (rule_of c.args.self.now) k c.loop-field-test.true
    (moved (λ g s is. SomeValue g s (λ v. IsFalse (union_holds v is))) c.greatest.result (greatest_of k) _ (slice_index_or c.args.spans.now k filling) _ (slice_index_or (sets_of c.args.self.now) k [])
    c.greatest.ensures (get_or_default c.args.spans.now k c.index-spans-field.result filling (omega (arith, c.told-spans, c.loop-field-test.true))) (set_is at) c.if-not-has_all.ensures.no)
    (λ j low. c.if-begins_past_a_field.ensures.no j filling low)

pub returns-clause-yes : goal.returns-clause-yes
returns-clause-yes c = all_held c.args.spans.now c.told-spans (rule_of c.args.self.now) (λ k low. c.loop-field.invariant k filling (omega (arith, c.loop-field-test.false)))

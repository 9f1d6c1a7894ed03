use Rattle.std.proofs.Common.{◌≤◌, List, [], arith, length, subst}
use Rattle.std.specs.Prelude.{slice_index_or}
use Rattle.std.proofs.lemmas.List.{get_or_default}
use Rattle.field_boxes.specs.Headline.Classifier.{Interval}
use Rattle.field_boxes.specs.Fields.{greatest_of}
use Rattle.field_boxes.specs.Unions.{RiseApart}
use Rattle.field_boxes.specs.Rules.{sets_of}
use Rattle.field_boxes.proofs.FieldByField.{five}
use Rattle.field_boxes.proofs.rule.Rule.sets.Goals as goal

pub returns-clause-inside : goal.returns-clause-inside
returns-clause-inside c =
    let rule = c.args.self.now in
    five (λ k. RiseApart 0 (greatest_of k) (slice_index_or (sets_of rule) k []))
    (c.alone.ensures.rise 4294967295 c.alone.ensures.small)
    (c.alone-2.ensures.rise 4294967295 c.alone-2.ensures.small)
    (subst (RiseApart 0 65535) (get_or_default rule.ports 0 c.index-self-0.result [] (omega arith)) c.spans.ensures.ports.rise)
    (subst (RiseApart 0 65535) (get_or_default rule.ports 1 c.index-self-1.result [] (omega arith)) c.spans-2.ensures.ports.rise)
    (c.alone-3.ensures.rise 255 rule.inside)

pub returns-clause-few : goal.returns-clause-few
returns-clause-few c =
    let rule = c.args.self.now in
    let few : List Interval → Type 0 = λ set. length set ≤ 16 in
    five (λ k. length (slice_index_or (sets_of rule) k []) ≤ 16)
    (omega arith)
    (omega arith)
    (subst few (get_or_default rule.ports 0 c.index-self-0.result [] (omega arith)) c.spans.ensures.ports.few)
    (subst few (get_or_default rule.ports 1 c.index-self-1.result [] (omega arith)) c.spans-2.ensures.ports.few)
    (omega arith)

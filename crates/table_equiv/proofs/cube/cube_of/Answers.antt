use Rattle.std.proofs.Common.{List, length, rules, subst, sym, ◌≡◌}
use Rattle.field_boxes.specs.Boxes.{LiesIn}
use Rattle.field_boxes.specs.Headline.Classifier.{Interval}
use Rattle.partition_check.proofs.BoxHeaders.{inside}
use Rattle.word_cover.specs.Cubes.{cube_of}
use Rattle.word_cover.proofs.Members.{masked-word}
use Rattle.agreement_check.proofs.Members.{has-box}
use Rattle.table_equiv.proofs.Bits.{in-cube}
use Rattle.table_equiv.proofs.cube.cube_of.Goals as goal

pub invariant_of-result : goal.invariant_of-result
invariant_of-result c =
    let w = c.args.word in
    let five : length c.box_of.result ≡ 5 = search rules in
    record {
      held = λ header at. (inside c.box_of.result header five c.box_of.ensures.inside
          (subst (λ (box : List Interval). LiesIn box header) (sym c.box_of.ensures.is) (has-box (cube_of w) header (masked-word w) at.is (in-cube w header at)))).1;
    }

use Rattle.std.proofs.lemmas.Option.{MatchOption-at_none, MatchOption-at_some}
use Rattle.field_boxes.specs.declared.header.Header.{Header}
use Rattle.field_boxes.specs.Alike.{AreAlike, IsFirstDifference}
use Rattle.list_equiv.specs.Names.{name_of}
use Rattle.list_equiv.proofs.Compared.{number_of_name}
use Rattle.list_equiv.proofs.verdict.compare.Goals as goal

pub returns-in-None : goal.returns-in-None
returns-in-None c =
    let f = name_of c.args.left_names.now c.args.left.now in
    let g = name_of c.args.right_names.now c.args.right.now in
    MatchOption-at_none (AreAlike f g) (λ (h : Header). IsFirstDifference f g h.values) c.in-None.is c.in_ok-first_apart.ensures

pub returns-in-Some : goal.returns-in-Some
returns-in-Some c =
    let f = name_of c.args.left_names.now c.args.left.now in
    let g = name_of c.args.right_names.now c.args.right.now in
    let header = c.in-Some.header in record {
      least = MatchOption-at_some (AreAlike f g) (λ (h : Header). IsFirstDifference f g h.values) header c.in-Some.is c.in_ok-first_apart.ensures;
      left_number = number_of_name c.args.left_names.now c.args.left.now header.values c.decision.result c.requires.left c.decision.ensures;
      right_number = number_of_name c.args.right_names.now c.args.right.now header.values c.decision-in-Some.result c.requires.right c.decision-in-Some.ensures;
    }

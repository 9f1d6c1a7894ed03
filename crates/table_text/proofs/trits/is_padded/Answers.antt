use Rattle.std.proofs.Common.{◌≤◌, ◌-◌, length, length-drop, drop, ap, ◌∙◌, arith, ◌==◌, take_all}
use Rattle.std.specs.List.{list_all}
use Rattle.table_text.proofs.trits.is_padded.Goals as goal

pub returns : goal.returns
returns c =
    let text = c.args.text.now in
    let whole : length (drop 104 text) ≤ length text - 104 = omega (arith, length-drop 104 text) in
    c.are_stars.ensures ∙ ap (list_all (λ b. b == 42)) (take_all (length text - 104) (drop 104 text) whole)

use Rattle.std.proofs.Common.{rules, ◌≡◌, ◌∙◌, arith, length, sym, true}
use Rattle.std.specs.Prelude.{is_none}
use Rattle.edit_session.specs.Ordered.{in_order}
use Rattle.edit_session.proofs.Ordering.{made-in-order, made-within, unnumbered}
use Rattle.edit_session.proofs.ordered.Ordered.number.Goals as goal
use Rattle.edit_session.proofs.ordered.Ordered.number.Goals.{in-Some-1, in-None-1}

pub invariant_of-self-then-is_none-2 : goal.invariant_of-self-then-is_none-2
invariant_of-self-then-is_none-2 c =
    let long : c.len.result ≡ length c.self.inside.kept.items = omega (arith, c.len.ensures, c.self.inside.kept.ok.0) in
    made-within c.self.inside.kept.items c.len.result c.numbers.result c.ok.result c.ok.ensures.value c.numbers.ensures long

pub returns-then-is_none : goal.returns-then-is_none
returns-then-is_none c =
    let kept = c.self.inside.kept.items in
    let none : is_none c.self.inside.places ≡ true = search rules in
    let long : c.len.result ≡ length c.self.inside.kept.items = omega (arith, c.len.ensures, c.self.inside.kept.ok.0) in
    let same : in_order kept c.ok.result ≡ c.args.self.now =
    made-in-order kept c.len.result c.numbers.result c.ok.result c.ok.ensures.value c.numbers.ensures long ∙ sym (unnumbered kept c.self.inside.places none) ∙ c.self.view_is in
    elim c.match-self-ok.branch [
      | in-Some-1 w ↦ w.self-is ∙ same
      | in-None-1 w ↦ w.self-is ∙ same
    ]

use Rattle.std.proofs.Common.{◌∙◌, ap, sym, subst, ◌≤◌}
use Rattle.std.specs.Prelude.{not, ◌==◌, ◌||◌}
use Rattle.node_store.specs.Diagram.{answer}
use Rattle.field_sets.specs.Unions.{is_in}
use Rattle.field_sets.proofs.United.{in_either, at_most_one}
use Rattle.field_sets.proofs.sets.Sets.union.Goals as goal

pub returns-clause-union : goal.returns-clause-union
returns-clause-union c = λ values h.
    let old = c.self.inside.store in
    ap (λ n. not (n == 0)) (c.in_ok-id.ensures.answers values h)
    ∙ in_either (answer old c.args.left.0 values) (answer old c.args.right.0 values)
    ∙ ap (λ ns. is_in ns c.args.left.0 values || is_in ns c.args.right.0 values) c.self.view_is

pub returns-clause-small : goal.returns-clause-small
returns-clause-small c = λ values h left right.
    let old = c.self.inside.store in
    subst (λ n. n ≤ 1) (sym (c.in_ok-id.ensures.answers values h))
    (at_most_one (answer old c.args.left.0 values) (answer old c.args.right.0 values)
    (subst (λ ns. answer ns c.args.left.0 values ≤ 1) (sym c.self.view_is) left) (subst (λ ns. answer ns c.args.right.0 values ≤ 1) (sym c.self.view_is) right))

use Rattle.std.proofs.Common.{◌∙◌, ◌++◌, ◌∷◌, [], ap, sym, get_or}
use Rattle.field_order.proofs.Without.{more_kept, more_left}
use Rattle.field_order.proofs.front.without.Goals as goal
use Rattle.field_order.proofs.front.without.Goals.{then-other-field+in_ok-push, else-other-field}

pub loop-other-preserved : goal.loop-other-preserved
loop-other-preserved c =
    let l = c.loop-other in
    let level = c.args.level.now in
    let f = c.args.field in
    elim c.if-other-field.branch [
      | then-other-field+in_ok-push w ↦
          ap (λ v. v.items) w.fields-is ∙ w.in_ok-push.ensures.ok ∙ ap (λ xs. xs ++ get_or level l.other-index 0 ∷ []) l.invariant
          ∙ sym (more_kept f level l.other-index 0 c.loop-other-test.true w.if-other-field.true)
      | else-other-field w ↦ ap (λ v. v.items) w.fields-is ∙ l.invariant ∙ sym (more_left f level l.other-index 0 c.loop-other-test.true w.if-other-field.false)
    ]

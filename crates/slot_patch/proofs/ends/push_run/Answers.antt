use Rattle.std.proofs.Common.{◌∙◌, ◌+◌, ◌++◌, ◌∷◌, ℕ, List, [], ap, refl, sym, add-one}
use Rattle.std.proofs.lemmas.List.{append_assoc}
use Rattle.slot_patch.specs.Sharing.{run}
use Rattle.slot_patch.specs.declared.pair.Pair.{Pair}
use Rattle.slot_patch.proofs.Trimming.{run-end}
use Rattle.slot_patch.proofs.ends.push_run.Goals as goal

pub loop-done-preserved : goal.loop-done-preserved
loop-done-preserved c =
    let before = c.args.pairs.now.items in
    let i = c.args.first.old in
    let j = c.args.first.new in
    let d = c.loop-done.done in
    let p : Pair = record { old = i + d; new = j + d } in
    c.in_ok-push.ensures.items ∙ ap (λ (ps : List Pair). ps ++ p ∷ []) c.loop-done.invariant ∙ append_assoc before (run i j d) (p ∷ [])
    ∙ ap (λ (ps : List Pair). before ++ ps) (sym (run-end i j d p refl refl)) ∙ ap (λ (n : ℕ). before ++ run i j n) (sym (add-one d))

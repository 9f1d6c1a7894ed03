use Rattle.std.proofs.Common.{length, ◌∙◌, ap}
use Rattle.std.proofs.lemmas.List.{length-replicate}
use Rattle.tcam_sim.proofs.Columns.{made-replicate, slot_with_vacant}
use Rattle.tcam_sim.proofs.bank.Bank.new.Goals as goal

pub returns-clause-empty : goal.returns-clause-empty
returns-clause-empty c =
    let decisions = c.in_ok-vec.ensures.items_if_clones_equal (λ y e. e) in
    let vacant = c.in_ok-vec-2.ensures.items_if_clones_equal (λ y e. e) in
    made-replicate _ _ c.args.slots _ (ap length decisions ∙ length-replicate c.args.slots 0)
    (λ j h. slot_with_vacant c.in_ok-vec-2.field-0.items c.args.slots j _ _ _ vacant h)

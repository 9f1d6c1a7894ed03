use Rattle.std.proofs.Common.{◌≡◌, Some, subst, OnOk}
use Rattle.bit_merge.specs.Slots.{Slots, LeadTo, at}
use Rattle.bit_merge.proofs.merging.finish.Goals as goal
use Rattle.bit_merge.proofs.Held.{done-first, done-taken, put-back}

pub take-requires-clause-first : goal.take-requires-clause-first
take-requires-clause-first c = done-first c.args.places.now c.args.taken c.requires.done

pub settle-requires-clause-done : goal.settle-requires-clause-done
settle-requires-clause-done c = done-taken c.args.places.now c.take.new.self c.args.taken c.requires.within c.in_ok-word.ensures.taken c.requires.done

pub returns-in-Some-clause-leads : goal.returns-in-Some-clause-leads
returns-in-Some-clause-leads c =
    let here : Some c.in-Some.word ≡ at c.args.places.now c.args.taken = cc (c.in-Some.is, c.in_ok-word.ensures.word) in
    subst (λ (s : Slots). OnOk c.settle.result (LeadTo s c.settle.new.places))
    (put-back c.args.places.now c.take.new.self c.args.taken c.in-Some.word c.in_ok-word.ensures.taken here) c.settle.ensures.leads

pub returns-in-None-clause-done : goal.returns-in-None-clause-done
returns-in-None-clause-done c = done-taken c.args.places.now c.take.new.self c.args.taken c.requires.within c.in_ok-word.ensures.taken c.requires.done

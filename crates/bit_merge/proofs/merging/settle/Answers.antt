use Rattle.std.proofs.Common.{set, subst, sym, Some}
use Rattle.std.proofs.lemmas.Result.{on_ok_weaker}
use Rattle.bit_merge.specs.Slots.{IsJoined}
use Rattle.bit_merge.proofs.Held.{IsHeld, held-start, held-next, joining-fewer, stands-nowhere, settled-done, settled-leads}
use Rattle.bit_merge.proofs.merging.settle.Goals as goal

pub loop-join-init : goal.loop-join-init
loop-join-init c = held-start c.args.places.now c.args.taken c.args.word c.requires.within c.requires.empty c.requires.done

pub loop-join-preserved : goal.loop-join-preserved
loop-join-preserved c =
    let l = c.loop-join in
    let start = set c.args.places.now c.args.taken (Some c.args.word) in
    let new = c.join_next.new.places in
    let made = subst (IsJoined l.places new l.hand) c.in-Some.is c.in_ok-join.ensures in
    subst (λ k. IsHeld start c.args.taken new k c.in-Some.join) (sym c.lesser-place.ensures)
    (held-next start c.args.taken l.places new l.place l.hand c.in-Some.join c.in-Some.partner l.invariant made)

pub loop-join-smaller : goal.loop-join-smaller
loop-join-smaller c =
    let l = c.loop-join in
    let made = subst (IsJoined l.places c.join_next.new.places l.hand) c.in-Some.is c.in_ok-join.ensures in
    joining-fewer l.places c.join_next.new.places l.hand c.in-Some.join c.in-Some.partner made

pub put-requires-clause-front : goal.put-requires-clause-front
put-requires-clause-front c =
    let l = c.loop-join in
    let none = subst (IsJoined l.places c.join_next.new.places l.hand) c.in_default.is c.in_ok-join.ensures in
    λ k b h is. absurd (stands-nowhere l.places c.join_next.new.places l.hand none.0 none.1 k b h is)

pub returns-clause-done : goal.returns-clause-done
returns-clause-done c =
    let l = c.loop-join in
    let start = set c.args.places.now c.args.taken (Some c.args.word) in
    let none = subst (IsJoined l.places c.join_next.new.places l.hand) c.in_default.is c.in_ok-join.ensures in
    on_ok_weaker c.put.result (λ e. settled-done start c.args.taken l.places c.join_next.new.places c.put.new.self l.place l.hand l.invariant none.0 none.1 e) c.put.ensures

pub returns-clause-leads : goal.returns-clause-leads
returns-clause-leads c =
    let l = c.loop-join in
    let start = set c.args.places.now c.args.taken (Some c.args.word) in
    let none = subst (IsJoined l.places c.join_next.new.places l.hand) c.in_default.is c.in_ok-join.ensures in
    on_ok_weaker c.put.result (λ e. settled-leads start c.args.taken l.places c.join_next.new.places c.put.new.self l.place l.hand l.invariant none.1 e) c.put.ensures

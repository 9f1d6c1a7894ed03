use Rattle.std.proofs.Common.{◌≡◌, ◌≤◌, ◌∙◌, ◌+◌, ◌++◌, List, Some, length, map, drop, slice_get, ap, sym, subst, arith, length-append}
use Rattle.std.proofs.lemmas.List.{length-drop, length-map}
use Rattle.ternary_words.specs.declared.entry.Entry.{Entry}
use Rattle.slot_patch.specs.Least.{least_slots, same_word}
use Rattle.slot_patch.specs.Sharing.{AreShared, moved_on, run}
use Rattle.slot_patch.specs.declared.pair.Pair.{Pair}
use Rattle.slot_patch.proofs.Trimming.{least-dropped, length-run, moved-shared, of-rests, pair-within, run-shared}
use Rattle.slot_patch.proofs.sharing.shared_before_end.Goals as goal
use Rattle.slot_patch.proofs.sharing.shared_before_end.Goals.{In_ok-behind, In_ok-push_moved}

made : (c : In_ok-push_moved) → c.push_moved.new.pairs.items ≡ run 0 0 c.common_front-front.result ++ map (moved_on c.common_front-front.result) c.in_ok-behind.behind.items
made c =
    let front = c.common_front-front.result in
    c.in_ok-push_moved.ensures ∙ ap (λ (ps : List Pair). ps ++ map (moved_on front) c.deref.result.now) (c.in_ok-push_run.ensures ∙ ap (λ (ps : List Pair). ps ++ run 0 0 front) c.in_ok-pairs.ensures.items)
    ∙ ap (λ (ps : List Pair). run 0 0 front ++ map (moved_on front) ps) c.deref.ensures.value

behind_shared : (c : In_ok-behind) → AreShared (drop c.common_front-front.result c.args.old.now) (drop c.common_front-front.result c.args.new.now) 0 0 c.in_ok-behind.behind.items
behind_shared c =
    of-rests (λ (old new : List Entry). AreShared old new 0 0 c.in_ok-behind.behind.items) c.common_front-front.result c.args.old.now c.args.new.now c.in_ok-behind.ensures.shared

pub push_moved-requires : goal.push_moved-requires
push_moved-requires c = λ k p at.
    let old = c.args.old.now in
    let new = c.args.new.now in
    let front = c.common_front-front.result in
    let olds = length-drop front old in
    let news = length-drop front new in
    let inside = pair-within (drop front old) (drop front new) 0 0 k c.in_ok-behind.behind.items p (behind_shared (goal.at.push_moved-requires c).In_ok-behind)
    (subst (λ (ps : List Pair). slice_get ps k ≡ Some p) c.deref.ensures.value at) in
    (omega (arith, inside.0, olds), omega (arith, inside.1, news))

pub returns-clause-shared : goal.returns-clause-shared
returns-clause-shared c =
    let old = c.args.old.now in
    let new = c.args.new.now in
    let front = c.common_front-front.result in
    let pairs = c.in_ok-behind.behind.items in
    let behind = moved-shared old new front 0 0 pairs c.common_front-front.ensures.old c.common_front-front.ensures.new (behind_shared (goal.at.returns-clause-shared c).In_ok-behind) in
    subst (λ (ps : List Pair). AreShared old new 0 0 ps) (sym (made (goal.at.returns-clause-shared c).In_ok-push_moved))
    (run-shared old new 0 0 front (front + 0) (front + 0) (map (moved_on front) pairs) (omega arith) (omega arith) c.common_front-front.ensures.shared behind)

pub returns-clause-most : goal.returns-clause-most
returns-clause-most c =
    let old = c.args.old.now in
    let new = c.args.new.now in
    let front = c.common_front-front.result in
    let pairs = c.in_ok-behind.behind.items in
    let f = c.common_front-front.ensures.old in
    let g = c.common_front-front.ensures.new in
    let most = of-rests (λ (old new : List Entry). length old + length new ≤ least_slots same_word old new + length pairs) front old new c.in_ok-behind.ensures.most in
    let least = least-dropped same_word front old new f g in
    let olds = length-drop front old in
    let news = length-drop front new in
    let long = ap (λ (ps : List Pair). length ps) (made (goal.at.returns-clause-most c).In_ok-push_moved) ∙ length-append (run 0 0 front) (map (moved_on front) pairs) in
    let row = length-run 0 0 front in
    let moved = length-map pairs (moved_on front) in
    omega (arith, least, most, f, g, olds, news, long, row, moved)

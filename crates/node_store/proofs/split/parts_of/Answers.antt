use Rattle.std.proofs.Common.{◌≡◌, ◌∷◌, ◌++◌, ◌+◌, ◌<◌, List, [], length, append_assoc, arith, ap, sym, ◌∙◌, subst}
use Rattle.std.specs.Prelude.{◌⊎◌}
use Rattle.std.proofs.lemmas.List.{append-nil}
use Rattle.node_store.specs.declared.edge.Edge.{Edge}
use Rattle.node_store.specs.declared.split.Part.{Part}
use Rattle.node_store.specs.Diagram.{level_of}
use Rattle.node_store.specs.Parts.{IsFirst, past}
use Rattle.node_store.proofs.Splitting.{Follows, shorter, split, all_left, all_right}
use Rattle.node_store.proofs.split.parts_of.Goals as goal

shrinks : (left right left' right' : List Edge) (p : Part) → left' ≡ past p.hi left → right' ≡ past p.hi right → IsFirst left right p →
    length left' + length right' < length left + length right
shrinks left right left' right' p l r h = let fewer = shorter left right p h in omega (arith, ap length l, ap length r, fewer)

moved : (all_left all_right left right left' right' : List Edge) (parts more rest : List Part) (p : Part) →
    left' ≡ past p.hi left → right' ≡ past p.hi right → IsFirst left right p → more ≡ parts ++ p ∷ [] →
    ((rest : List Part) → Follows left right rest → Follows all_left all_right (parts ++ rest)) → Follows left' right' rest → Follows all_left all_right (more ++ rest)
moved all_left all_right left right left' right' parts more rest p l r h m before follows =
    subst (λ ps. Follows all_left all_right ps) (sym (ap (λ ps. ps ++ rest) m ∙ append_assoc parts (p ∷ []) rest))
    (before (p ∷ rest) (h, subst (λ es. Follows es (past p.hi right) rest) l (subst (λ ds. Follows left' ds rest) r follows)))

pub loop-part-smaller : goal.loop-part-smaller
loop-part-smaller c =
    shrinks c.loop-part.left.now c.loop-part.right.now c.past-left.result.now c.past-right.result.now c.in-Some.part c.past-left.ensures c.past-right.ensures c.in-Some.ensures

pub loop-part-preserved : goal.loop-part-preserved
loop-part-preserved c = λ rest follows.
    moved c.args.left.now c.args.right.now c.loop-part.left.now c.loop-part.right.now c.past-left.result.now c.past-right.result.now
    c.loop-part.parts.items c.push.new.self.items rest c.in-Some.part c.past-left.ensures c.past-right.ensures c.in-Some.ensures c.in_ok-push.ensures.items
    c.loop-part.invariant follows

whole : (all_left all_right left right : List Edge) (parts : List Part) →
    ((rest : List Part) → Follows left right rest → Follows all_left all_right (parts ++ rest)) → (left ≡ []) ⊎ (right ≡ []) → Follows all_left all_right parts
whole all_left all_right left right parts before none = subst (λ ps. Follows all_left all_right ps) (append-nil parts) (before [] none)

pub returns-clause-split : goal.returns-clause-split
returns-clause-split c = λ greatest.
    split greatest c.args.left.now c.args.right.now c.loop-part.parts.items
    (whole c.args.left.now c.args.right.now c.loop-part.left.now c.loop-part.right.now c.loop-part.parts.items c.loop-part.invariant c.in_default.ensures)

pub returns-clause-left : goal.returns-clause-left
returns-clause-left c = λ nodes level.
    all_left (λ n. level_of nodes n ≡ level) c.loop-part.parts.items c.args.left.now c.args.right.now
    (whole c.args.left.now c.args.right.now c.loop-part.left.now c.loop-part.right.now c.loop-part.parts.items c.loop-part.invariant c.in_default.ensures)

pub returns-clause-right : goal.returns-clause-right
returns-clause-right c = λ nodes level.
    all_right (λ n. level_of nodes n ≡ level) c.loop-part.parts.items c.args.left.now c.args.right.now
    (whole c.args.left.now c.args.right.now c.loop-part.left.now c.loop-part.right.now c.loop-part.parts.items c.loop-part.invariant c.in_default.ensures)

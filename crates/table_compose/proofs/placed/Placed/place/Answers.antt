use Rattle.std.proofs.Common.{◌≡◌, ◌∷◌, ◌++◌, [], List, length, arith, ap, sym, subst, ◌∙◌, set}
use Rattle.std.specs.Prelude.{Some, slice_get}
use Rattle.std.proofs.lemmas.Option.{slice_get-get_or}
use Rattle.node_store.specs.declared.edge.NodeId.{NodeId}
use Rattle.node_store.proofs.Growth.{last_place}
use Rattle.table_compose.specs.Labels.{ArePlaced}
use Rattle.table_compose.proofs.Places.{placed_again, placed_last, nowhere, are_placed}
use Rattle.table_compose.proofs.placed.Placed.place.Goals as goal

pub returns-then-stands-clause-nodes : goal.returns-then-stands-clause-nodes
returns-then-stands-clause-nodes c =
    let known = c.index-known.result.now in
    placed_again c.args.self.now.nodes.items known c.args.node (ap (λ (ns : List NodeId). slice_get ns known) (sym c.as_slice.ensures.value) ∙ c.if-stands.ensures.here)

pub returns-clause-nodes : goal.returns-clause-nodes
returns-clause-nodes c =
    let nodes = c.args.self.now.nodes.items in
    let places = c.args.self.now.places.items in
    let known = c.index-known.result.now in
    let new = nowhere places nodes c.args.node known c.requires.placed (slice_get-get_or places c.args.node.0 known c.requires.room ∙ ap Some (sym c.index-known.ensures))
    (λ h. c.if-stands.ensures.elsewhere (ap (λ (ns : List NodeId). slice_get ns known) c.as_slice.ensures.value ∙ h)) in
    c.in_ok-push.ensures.items ∙ placed_last nodes c.args.node new

pub returns-clause-at : goal.returns-clause-at
returns-clause-at c =
    let nodes = c.args.self.now.nodes in
    let n : c.len-place.result ≡ length nodes.items = omega (arith, c.len-place.ensures, nodes.ok) in
    ap (λ (ns : List NodeId). slice_get ns c.len-place.result) c.in_ok-push.ensures.items ∙ ap (λ k. slice_get (nodes.items ++ c.args.node ∷ []) k) n ∙ last_place nodes.items c.args.node

pub returns-clause-placed : goal.returns-clause-placed
returns-clause-placed c =
    let nodes = c.args.self.now.nodes in
    let places = c.args.self.now.places.items in
    let known = c.index-known.result.now in
    let new = nowhere places nodes.items c.args.node known c.requires.placed (slice_get-get_or places c.args.node.0 known c.requires.room ∙ ap Some (sym c.index-known.ensures))
    (λ h. c.if-stands.ensures.elsewhere (ap (λ (ns : List NodeId). slice_get ns known) c.as_slice.ensures.value ∙ h)) in
    let n : c.len-place.result ≡ length nodes.items = omega (arith, c.len-place.ensures, nodes.ok) in
    subst (λ k. ArePlaced (set places c.args.node.0 k) c.push.new.self.items) (sym n)
    (subst (λ (ns : List NodeId). ArePlaced (set places c.args.node.0 (length nodes.items)) ns) (sym c.in_ok-push.ensures.items)
    (are_placed places nodes.items c.args.node c.requires.placed c.requires.room new))

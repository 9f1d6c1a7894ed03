use Rattle.std.proofs.Common.{ap, ◌++◌, ◌∷◌, [], None, List, Option, ℕ, ◌∙◌}
use Rattle.redundancy.proofs.ListRows.{with_added, with_known}
use Rattle.redundancy.proofs.blocks.lists.Lists.with.Goals as goal

pub returns-in_ok-push : goal.returns-in_ok-push
returns-in_ok-push c = λ blocks lists before item.
    with_added blocks c.args.self.now _ (record { before = c.args.before; item = c.args.item }) c.in_ok-place.place lists before item c.in_ok-place.ensures.found (c.in_ok-place.ensures.added c.if-added.true)
    (c.in_ok-push.ensures.items ∙ ap (λ (ks : List (Option ℕ)). ks ++ None ∷ []) c.in_ok-place.ensures.others)

pub returns-else-added : goal.returns-else-added
returns-else-added c = λ blocks lists before item.
    with_known blocks c.args.self.now _ (record { before = c.args.before; item = c.args.item }) c.in_ok-place.place lists before item c.in_ok-place.ensures.found (c.in_ok-place.ensures.known c.if-added.false)
    c.in_ok-place.ensures.others

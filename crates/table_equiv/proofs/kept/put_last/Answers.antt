use Rattle.std.proofs.Common.{◌≡◌, ℕ, List, ◌≤◌, ◌<◌, length, ◌∙◌, subst}
use Rattle.std.specs.Prelude.{slice_index}
use Rattle.table_equiv.specs.Firsts.{decided_at}
use Rattle.table_equiv.proofs.Firsts.{pushed-alike}
use Rattle.table_equiv.proofs.kept.put_last.Goals as goal

pub returns : goal.returns
returns g c = λ q has.
    let d = decided_at g.T.Item.decided c.args.items.now in
    let from = c.deciding_from-from.result in
    let alike : (k : ℕ) → from ≤ k → k < length c.args.kept.now.items → d (slice_index c.args.kept.now.items k) ≡ d c.args.place =
    λ k behind within.
    subst (λ (xs : List ℕ). (k : ℕ) → from ≤ k → k < length xs → d (slice_index xs k) ≡ c.decision_at-decision.result) c.as_slice.ensures.value c.deciding_from-from.ensures.alike k behind within
    ∙ c.decision_at-decision.ensures in
    pushed-alike d q c.args.kept.now.items c.truncate.new.self.items c.push.new.self.items from c.args.place c.truncate.ensures.items c.in_ok-push.ensures.items alike has

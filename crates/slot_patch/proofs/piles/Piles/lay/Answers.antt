use Rattle.std.proofs.Common.{◌≡◌, ◌≤◌, ◌<◌, ◌∙◌, ◌∷◌, ◌++◌, ℕ, List, [], Option, length, slice_index, ap, sym, subst, arith, suc}
use Rattle.slot_patch.specs.Piles.{AreLowered, IsTaken, laid}
use Rattle.slot_patch.specs.declared.piles.Piles.{Piles}
use Rattle.slot_patch.proofs.Chains.{laid-step}
use Rattle.slot_patch.proofs.Counts.{IsNoLess, laid-lowered, laid-taken}
use Rattle.slot_patch.proofs.piles.Piles.lay.Goals as goal

no_less : (xs ys : List ℕ) (k x : ℕ) → ys ≡ xs → (k < length ys → x ≤ slice_index ys k) → IsNoLess xs k x
no_less xs ys k x is above = subst (λ (zs : List ℕ). k < length zs → x ≤ slice_index zs k) is above

pub returns-clause-lowered : goal.returns-clause-lowered
returns-clause-lowered c =
    let xs = c.args.self.now.places.items in
    let k = c.pile_for-pile.result in
    let x = c.args.place in
    subst (λ (ys : List ℕ). AreLowered xs ys) (sym c.in_ok-lay_at.ensures) (laid-lowered xs k x (no_less xs c.deref.result.now k x c.deref.ensures.value c.pile_for-pile.ensures.above))

pub returns-clause-taken : goal.returns-clause-taken
returns-clause-taken c =
    let xs = c.args.self.now.places.items in
    let k = c.pile_for-pile.result in
    let x = c.args.place in
    let within : k ≤ length xs = subst (λ (ys : List ℕ). k ≤ length ys) c.deref.ensures.value c.pile_for-pile.ensures.within in
    subst (λ (ys : List ℕ). IsTaken x xs ys) (sym c.in_ok-lay_at.ensures) (laid-taken xs k x within (no_less xs c.deref.result.now k x c.deref.ensures.value c.pile_for-pile.ensures.above))

pub returns-clause-laid : goal.returns-clause-laid
returns-clause-laid c = λ old new limit h less word is.
    let before = c.args.self.now in
    let xs = before.places.items in
    let k = c.pile_for-pile.result in
    let now : Piles = record { places = c.lay_at.new.items; tops = c.lay_at-2.new.items; links = c.push.new.self } in
    let within : k ≤ length xs = subst (λ (ys : List ℕ). k ≤ length ys) c.deref.ensures.value c.pile_for-pile.ensures.within in
    let below : (m : ℕ) → suc m ≡ k → slice_index xs m < c.args.place =
    subst (λ (ys : List ℕ). (m : ℕ) → suc m ≡ k → slice_index ys m < c.args.place) c.deref.ensures.value c.pile_for-pile.ensures.below in
    let links = c.in_ok-push.ensures.items ∙ ap (λ (b : Option ℕ). before.links.items ++ record { pair = c.args.pair; behind = b } ∷ []) c.top_before-behind.ensures in
    let link : c.len-link.result ≡ length before.links.items = omega (arith, c.len-link.ensures) in
    let tops = c.in_ok-lay_at-2.ensures ∙ ap (λ (n : ℕ). laid before.tops.items k n) link in
    laid-step old new before now c.args.pair limit c.args.place k h less word is within below links c.in_ok-lay_at.ensures tops

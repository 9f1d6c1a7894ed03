use Rattle.std.proofs.Common.{rules, ◌≡◌, ◌∙◌, ap}
use Rattle.edit_session.specs.Lists.{Listed}
use Rattle.edit_session.proofs.Listings.{settled-listing}
use Rattle.edit_session.proofs.listing.Listing.settle.Goals as goal

pub invariant_of-self : goal.invariant_of-self
invariant_of-self c =
    settled-listing (record { rules = c.of.result; names = c.self.inside.names }) c.args.self.now c.args.rules.items c.of.ensures (ap (λ (l : Listed). l.names) c.self.view_is)
    c.requires.numbered c.requires.spelled c.requires.few

pub invariant_of-result : goal.invariant_of-result
invariant_of-result c =
    let items : c.in_ok-copy.copy.items ≡ c.args.rules.items = search rules in
    settled-listing (record { rules = c.of-2.result; names = c.in_ok-names.names }) c.args.self.now c.args.rules.items (c.of-2.ensures ∙ items) (c.in_ok-names.ensures ∙ ap (λ (l : Listed). l.names) c.self.view_is)
    c.requires.numbered c.requires.spelled c.requires.few

use Rattle.std.proofs.Common.{rules, ◌≡◌, ◌-◌, true, refl}
use Rattle.edit_session.specs.Lists.{is_within}
use Rattle.edit_session.proofs.Listings.{removed-list, removed-listing}
use Rattle.edit_session.proofs.listing.Listing.take_out.Goals as goal

pub invariant_of-self : goal.invariant_of-self
invariant_of-self c =
    removed-listing (record { rules = c.remove.new.self; names = c.self.inside.names }) c.self.inside (c.args.place - 1) c.remove.ensures refl c.self.invariant

pub returns-clause-state : goal.returns-clause-state
returns-clause-state c =
    let within : is_within c.args.place c.count-count.result ≡ true = search rules in
    removed-list (record { rules = c.remove.new.self; names = c.self.inside.names }) c.self.inside c.args.self.now c.args.place c.count-count.result c.self.view_is c.remove.ensures refl c.count-count.ensures.count within

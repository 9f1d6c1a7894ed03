use Rattle.std.proofs.Common.{◌≤◌, arith, length, refl}
use Rattle.edit_session.proofs.Listings.{same-listing}
use Rattle.edit_session.proofs.listing.Listing.of.Goals as goal

pub invariant_of-result : goal.invariant_of-result
invariant_of-result c =
    let few : length c.args.list.rules.items ≤ 65536 = omega (arith, c.args.list.few, c.args.list.rules.ok.0) in
    same-listing (record { rules = c.of.result; names = c.args.list.names }) (record { rules = c.args.list.rules.items; names = c.args.list.names }) c.of.ensures refl
    (record { few = few; spelled = c.args.list.spelled; numbered = c.args.list.numbered })

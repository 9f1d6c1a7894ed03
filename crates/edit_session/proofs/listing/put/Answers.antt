use Rattle.std.proofs.Common.{refl}
use Rattle.edit_session.proofs.Listings.{is-put}
use Rattle.edit_session.proofs.listing.put.Goals as goal

pub returns-clause-ok : goal.returns-clause-ok
returns-clause-ok c =
    is-put c.args.rules.now c.insert.new.self c.args.index c.args.decision c.args.rule.now _ c.in_ok-insert.ensures.ok refl refl c.requires.same refl refl c.requires.spelled

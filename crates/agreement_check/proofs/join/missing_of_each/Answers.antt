use Rattle.agreement_check.specs.Standing.{own_sides, taken_in}
use Rattle.agreement_check.proofs.Searching.{all-entries, entry-turn, no-entry-yet}
use Rattle.agreement_check.proofs.join.missing_of_each.Goals as goal

pub loop-entry-init : goal.loop-entry-init
loop-entry-init c = no-entry-yet (own_sides c.args.claims.now) (taken_in c.args.claims.now) c.args.rules.now c.args.entries.now

pub loop-entry-preserved : goal.loop-entry-preserved
loop-entry-preserved c =
    entry-turn (own_sides c.args.claims.now) (taken_in c.args.claims.now) c.args.rules.now c.args.entries.now c.loop-entry.entry-index _ c.loop-entry.found c.missing_of.result c.earlier-found.result
    c.loop-entry-test.true c.loop-entry.invariant c.missing_of.ensures c.earlier-found.ensures.one c.earlier-found.ensures.other c.earlier-found.ensures.either

pub returns : goal.returns
returns c =
    all-entries (own_sides c.args.claims.now) (taken_in c.args.claims.now) c.args.rules.now c.args.entries.now c.loop-entry.entry-index c.loop-entry.found c.loop-entry-test.false c.loop-entry.invariant

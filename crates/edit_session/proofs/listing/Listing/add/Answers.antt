use Rattle.std.proofs.Common.{ℕ, List, ap, refl, subst, sym, ◌∙◌}
use Rattle.edit_session.specs.Kept.{listed}
use Rattle.edit_session.proofs.Edits.{IsInterned}
use Rattle.edit_session.proofs.Listings.{added-list, added-listing, list-stays, name-stays, named-listing, place-inside, same-listing}
use Rattle.edit_session.proofs.Places.{fits}
use Rattle.edit_session.proofs.listing.Listing.add.Goals as goal

pub invariant_of-self : goal.invariant_of-self
invariant_of-self c = same-listing (record { rules = c.self.inside.rules; names = c.intern.new.self }) c.self.inside refl c.in_err-decision.ensures.err c.self.invariant

pub returns-in_err-decision-clause-refused : goal.returns-in_err-decision-clause-refused
returns-in_err-decision-clause-refused c =
    list-stays c.args.self.now _ c.args.place c.in_ok-count.count c.args.name.now c.from_residual-in_err-decision.result c.from_residual-in_err-decision.ensures.1 (sym c.in_ok-count.ensures)
    (ap (λ (names : List (List ℕ)). listed (record { rules = c.self.inside.rules; names = names })) c.in_err-decision.ensures.err ∙ c.self.view_is)

pub overflow_sub-index : goal.overflow_sub-index
overflow_sub-index c = (fits c.args.self.now c.args.place c.in_ok-count.count (sym c.in_ok-count.ensures)).low

pub put-requires-clause-place : goal.put-requires-clause-place
put-requires-clause-place c = place-inside c.self.inside c.args.self.now c.args.place c.in_ok-count.count c.self.view_is (sym c.in_ok-count.ensures)

pub invariant_of-self-in_err-put : goal.invariant_of-self-in_err-put
invariant_of-self-in_err-put c =
    named-listing (record { rules = c.put.new.rules; names = c.intern.new.self }) c.self.inside c.args.name.now c.in_err-put.ensures.err c.in_ok-decision.ensures.names c.self.invariant

pub returns-in_err-put-clause-refused : goal.returns-in_err-put-clause-refused
returns-in_err-put-clause-refused c =
    let interned : IsInterned c.self.inside.names c.intern.new.self c.args.name.now c.in_ok-decision.decision =
    record { names = c.in_ok-decision.ensures.names; number = c.in_ok-decision.ensures.number; within = c.in_ok-decision.ensures.within; kept = c.in_ok-decision.ensures.kept } in
    name-stays (record { rules = c.put.new.rules; names = c.intern.new.self }) c.self.inside c.args.self.now c.args.place c.in_ok-count.count c.args.name.now c.in_ok-decision.decision
    c.from_residual-in_err-put.result c.from_residual-in_err-put.ensures.1 c.self.view_is c.in_err-put.ensures.err interned c.self.invariant (sym c.in_ok-count.ensures)

pub invariant_of-self-2 : goal.invariant_of-self-2
invariant_of-self-2 c =
    let put = c.in_ok-put.ensures.ok in
    let interned : IsInterned c.self.inside.names c.intern.new.self c.args.name.now c.in_ok-decision.decision =
    record { names = c.in_ok-decision.ensures.names; number = c.in_ok-decision.ensures.number; within = c.in_ok-decision.ensures.within; kept = c.in_ok-decision.ensures.kept } in
    added-listing (record { rules = c.put.new.rules; names = c.intern.new.self }) c.self.inside c.args.self.now c.args.place c.in_ok-count.count c.args.name.now c.args.rule.now put.put
    c.self.view_is put.items (subst (IsInterned c.self.inside.names c.intern.new.self c.args.name.now) (sym put.decides) interned) put.spelled (sym c.in_ok-count.ensures) c.self.invariant

pub returns-clause-added : goal.returns-clause-added
returns-clause-added c =
    let put = c.in_ok-put.ensures.ok in
    let interned : IsInterned c.self.inside.names c.intern.new.self c.args.name.now c.in_ok-decision.decision =
    record { names = c.in_ok-decision.ensures.names; number = c.in_ok-decision.ensures.number; within = c.in_ok-decision.ensures.within; kept = c.in_ok-decision.ensures.kept } in
    added-list (record { rules = c.put.new.rules; names = c.intern.new.self }) c.self.inside c.args.self.now c.args.place c.args.name.now c.args.rule.now put.put
    c.self.view_is put.items (subst (IsInterned c.self.inside.names c.intern.new.self c.args.name.now) (sym put.decides) interned) put.sets c.self.invariant

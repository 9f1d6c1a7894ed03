use Rattle.std.proofs.Common.{arith}
use Rattle.agreement_check.specs.Views.{sides_in}
use Rattle.agreement_proof.specs.Texts.{reaching}
use Rattle.agreement_proof.proofs.Listing.{pair-left, pairs-more}
use Rattle.agreement_proof.proofs.Outcomes.{ok-map}
use Rattle.agreement_proof.proofs.pairs.put_if_open.Goals as goal

pub returns : goal.returns
returns c = λ first h.
    ok-map c.one_more.result _ _ (λ more e.
    pairs-more (sides_in c.args.sides.now) (reaching c.args.reaches.now.entries.items c.args.reaches.now.rules.items) c.args.pair.now first c.args.text.now.items c.put_pair_at.new.text.items c.args.before more h
    c.in_ok-put_pair_at.ensures c.requires.within e.0 e.1) c.one_more.ensures

pub returns-then-not-is_open_pair : goal.returns-then-not-is_open_pair
returns-then-not-is_open_pair c = λ first h.
    pair-left (sides_in c.args.sides.now) (reaching c.args.reaches.now.entries.items c.args.reaches.now.rules.items) c.args.pair.now first c.args.text.now.items c.args.before h
    c.if-not-is_open_pair.ensures.no

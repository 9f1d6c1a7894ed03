use Rattle.std.proofs.Common.{◌≡◌, Some}
use Rattle.bit_merge.specs.Slots.{at}
use Rattle.bit_merge.proofs.Leasts.{partner-first, partner-at}
use Rattle.bit_merge.proofs.merging.join_next.Goals as goal

pub take-requires-clause-first : goal.take-requires-clause-first
take-requires-clause-first c = partner-first c.args.places.now c.args.word.now c.in-Some.place c.in-Some.ensures

pub joined-requires : goal.joined-requires
joined-requires c =
    let here : at c.args.places.now c.in-Some.place ≡ Some c.in-Some-2.partner = cc (c.in_ok-partner.ensures.word, c.in-Some-2.is) in
    partner-at c.args.places.now c.args.word.now c.in-Some.place c.in-Some-2.partner c.in-Some.ensures here

pub returns : goal.returns
returns c =
    let here : at c.args.places.now c.in-Some.place ≡ Some c.in-Some-2.partner = cc (c.in_ok-partner.ensures.word, c.in-Some-2.is) in record {
      partner = c.in-Some-2.partner;
      here = here;
      can = partner-at c.args.places.now c.args.word.now c.in-Some.place c.in-Some-2.partner c.in-Some.ensures here;
      first = c.in-Some.ensures.1;
      join = c.joined.ensures;
      taken = c.in_ok-partner.ensures.taken;
    }

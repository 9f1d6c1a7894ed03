use Rattle.std.proofs.Common.{sym}
use Rattle.range_prefix.specs.Spans.{union_of}
use Rattle.range_prefix.proofs.Enclosed.{encloses, first_inside, last_inside}
use Rattle.range_prefix.proofs.Halving.{whole_field}
use Rattle.range_prefix.proofs.enclosing.enclosing.Goals as goal

pub returns-in_default-2-clause-cover : goal.returns-in_default-2-clause-cover
returns-in_default-2-clause-cover c = whole_field c.args.width (union_of c.args.spans.now)

pub longest_of_both-requires-clause-lo : goal.longest_of_both-requires-clause-lo
longest_of_both-requires-clause-lo c = first_inside c.args.width c.args.spans.now c.in-Some-Some.first.now (sym c.in-Some-Some.ensures.value) c.requires.apart

pub longest_of_both-requires-clause-hi : goal.longest_of_both-requires-clause-hi
longest_of_both-requires-clause-hi c = last_inside c.args.width c.args.spans.now c.in-Some-Some.last.now (sym c.in-Some-Some.ensures'.value) c.requires.apart

pub returns-clause-cover : goal.returns-clause-cover
returns-clause-cover c =
    let p = c.longest_of_both.ensures in
    encloses c.args.width _ c.args.spans.now c.in-Some-Some.first.now c.in-Some-Some.last.now c.longest_of_both.result p.fits (sym c.in-Some-Some.ensures.value) (sym c.in-Some-Some.ensures'.value) c.requires.apart p.lo p.hi

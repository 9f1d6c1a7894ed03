use Rattle.std.specs.Prelude.{bit_xor}
use Rattle.bit_merge.proofs.WordBits.{join-is, join-fits, join-masked}
use Rattle.bit_merge.proofs.joining.joined.Goals as goal

pub invariant_of-result : goal.invariant_of-result
invariant_of-result c =
    let a = c.args.first.now in
    let b = c.args.second.now in record {
      narrow = join-fits 104 a.mask a.value b.mask b.value a.narrow b.narrow a.masked b.masked c.requires;
      masked = join-masked a.value (bit_xor a.mask (bit_xor a.value b.value));
    }

pub returns : goal.returns
returns c =
    let a = c.args.first.now in
    let b = c.args.second.now in
    join-is 104 a.mask a.value b.mask b.value a.narrow b.narrow a.masked b.masked c.requires

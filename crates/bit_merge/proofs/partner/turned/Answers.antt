use Rattle.bit_merge.proofs.WordBits.{xor_within}
use Rattle.bit_merge.proofs.partner.turned.Goals as goal

pub invariant_of-result-clause-masked : goal.invariant_of-result-clause-masked
invariant_of-result-clause-masked c = let w = c.args.word.now in xor_within w.value c.args.one w.mask w.masked c.requires

use Rattle.ternary_words.proofs.PrefixMasks.{mask_fits, mask_shifts}
use Rattle.ternary_words.proofs.masks.mask.Goals as goal

pub overflow_cast-result-2 : goal.overflow_cast-result-2
overflow_cast-result-2 c = mask_fits c.args.width c.args.prefix.now c.requires

pub returns : goal.returns
returns c = mask_shifts c.args.width c.args.prefix.now c.requires

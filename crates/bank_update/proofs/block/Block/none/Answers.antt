use Rattle.std.proofs.Common.{List, [], Option, ap, arith}
use Rattle.ternary_words.specs.declared.entry.Entry.{Entry}
use Rattle.bank_update.specs.Standing.{Standing}
use Rattle.bank_update.proofs.Blocks.{alone-empty}
use Rattle.bank_update.proofs.block.Block.none.Goals as goal

pub returns : goal.returns
returns c = ap (λ (s : List (Option Entry)). let t : Standing = record { slots = s; names = [] } in t) (alone-empty c.args.slots 0 (omega arith))

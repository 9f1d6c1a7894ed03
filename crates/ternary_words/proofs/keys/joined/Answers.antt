use Rattle.ternary_words.proofs.Joined.{or_joined}
use Rattle.ternary_words.proofs.keys.joined.Goals as goal

pub returns : goal.returns
returns c = rw c.from.ensures (or_joined c.args.high c.args.width c.args.low c.requires.room c.requires.width c.requires.small)

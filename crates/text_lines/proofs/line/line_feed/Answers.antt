use Rattle.std.specs.Prelude.{nat_eq}
use Rattle.text_lines.proofs.Found.{found-position}
use Rattle.text_lines.proofs.line.line_feed.Goals as goal

pub returns : goal.returns
returns c = found-position (λ b. nat_eq b 10) c.args.text.now c.find_byte.result c.find_byte.ensures

use Rattle.std.proofs.Common.{refl}
use Rattle.std.specs.Bool.{OnTrue}
use Rattle.field_boxes.specs.Alike.{IsTight}
use Rattle.ternary_words.specs.Entries.{answer}
use Rattle.rule_shortening.proofs.trimming.trim.Goals as goal

pub returns-then-branch : goal.returns-then-branch
returns-then-branch c =
    let seen : OnTrue c.in_ok-is_tight.field-0 (IsTight answer c.as_slice.result.now) = c.in_ok-is_tight.ensures in
    record {
      part = c.parts.ensures.whole c.args.entries.items;
      alike = λ values is. refl;
      tight = rw c.as_slice.ensures.value at (rw c.if-branch.true at seen);
    }

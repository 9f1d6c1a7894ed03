use Rattle.std.proofs.Common.{List, ap, subst, ◌++◌, ◌∙◌}
use Rattle.std.specs.Bool.{OnTrue}
use Rattle.field_boxes.specs.Alike.{AreAlike, IsTight}
use Rattle.ternary_words.specs.declared.entry.Entry.{Entry}
use Rattle.ternary_words.specs.Entries.{IsPart, answer}
use Rattle.rule_shortening.proofs.trimming.trimmed_by_covers.Goals as goal

pub returns-then-branch : goal.returns-then-branch
returns-then-branch c =
    let all = c.in_ok-extend_from_slice.ensures.items ∙ ap (λ es. es ++ c.args.entries.now) c.new-kept.ensures.items in
    let kept = c.tight.new.table.items in
    let seen : OnTrue c.in_ok-is_tight.field-0 (IsTight answer c.as_slice.result.now) = c.in_ok-is_tight.ensures in
    record {
      part = subst (λ (es : List Entry). IsPart kept es) all c.tight.ensures.part;
      alike = subst (λ (es : List Entry). AreAlike (answer kept) (answer es)) all c.tight.ensures.alike;
      tight = rw c.as_slice.ensures.value at (rw c.if-branch.true at seen);
    }

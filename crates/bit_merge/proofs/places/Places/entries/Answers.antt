use Rattle.std.proofs.Common.{◌∷◌, ◌++◌, [], ap, ◌∙◌}
use Rattle.bit_merge.specs.Slots.{numbered_entries}
use Rattle.bit_merge.proofs.Numbered.{numbered-more}
use Rattle.bit_merge.proofs.places.Places.entries.Goals as goal

pub loop-word-preserved : goal.loop-word-preserved
loop-word-preserved c =
    let l = c.loop-word in
    c.in_ok-push_entry.ensures ∙ ap (λ es. es ++ numbered_entries c.args.decision (c.word-item.result ∷ [])) l.invariant
    ∙ numbered-more c.args.decision c.deref-word-items.result.now l.word-index c.word-item.result c.loop-word-test.true c.word-item.is

use Rattle.std.proofs.Common.{◌++◌, ap, sym, ◌∙◌, subst}
use Rattle.std.specs.List.{list_any}
use Rattle.std.proofs.lemmas.Bool.{true≢false}
use Rattle.redundancy.specs.Drafts.{IsChange}
use Rattle.redundancy.proofs.sifting.layer.take_in.Goals as goal

pub returns-in_ok-push : goal.returns-in_ok-push
returns-in_ok-push c =
    let some = sym c.is_some_kept.ensures ∙ c.if-is_some_kept.true in
    record {
      kept = c.in_ok-extend_from_slice.ensures.items ∙ ap (λ ks. c.args.draft.now.kept.items ++ ks) c.as_slice.ensures.value;
      same = λ none. absurd (true≢false (sym some ∙ ap (list_any (λ b. b)) c.as_slice-2.ensures.value ∙ none));
      more = λ any. (
        c.in_ok-change.change,
        c.in_ok-push.ensures.items,
        subst (λ ids. IsChange c.args.stretches.now ids c.in_ok-change.change) c.as_slice-then-is_some_kept.ensures.value c.in_ok-change.ensures,
      );
    }

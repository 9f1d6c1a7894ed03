use Rattle.std.proofs.Common.{◌∙◌, ◌+◌, ap, length}
use Rattle.std.proofs.lemmas.List.{length_push}
use Rattle.agreement_check.specs.Standing.{list_in}
use Rattle.agreement_check.proofs.Searching.{words-push}
use Rattle.agreement_check.proofs.join.rule_words.Goals as goal

pub loop-place-preserved : goal.loop-place-preserved
loop-place-preserved c =
    let before = c.loop-place.words.items in
    let i = c.loop-place.invariant in (
      words-push (list_in c.args.claims.now).rules.items before c.push.new.self.items c.rule_word.result c.loop-place.place i.0 i.1 c.rule_word.ensures c.in_ok-push.ensures.items,
      ap length c.in_ok-push.ensures.items ∙ length_push before c.rule_word.result ∙ ap (λ n. n + 1) i.1,
    )

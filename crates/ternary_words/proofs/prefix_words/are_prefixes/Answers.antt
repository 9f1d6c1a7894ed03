use Rattle.std.proofs.Common.{arith, refl, sym, subst, ◌∙◌}
use Rattle.std.proofs.lemmas.Bool.{true≢false}
use Rattle.ternary_words.specs.declared.entry.Entry.{Entry}
use Rattle.ternary_words.specs.Prefixes.{IsPrefixInEach}
use Rattle.ternary_words.specs.Views.{word_of}
use Rattle.ternary_words.proofs.Listed.{up_to_next}
use Rattle.ternary_words.proofs.prefix_words.are_prefixes.Goals as goal

pub loop-entry-preserved : goal.loop-entry-preserved
loop-entry-preserved c =
    up_to_next (λ e. IsPrefixInEach (word_of e.word)) c.args.entries.now c.loop-entry.entry-index c.entry-item.result c.loop-entry-test.true c.entry-item.is c.loop-entry.invariant (c.is_prefix.ensures.0 c.if-not-is_prefix.false)

pub returns-then-not-is_prefix : goal.returns-then-not-is_prefix
returns-then-not-is_prefix c = (
  λ yes. absurd (true≢false (sym yes)),
  λ all. sym c.if-not-is_prefix.true ∙ c.is_prefix.ensures.1 (subst (λ (e : Entry). IsPrefixInEach (word_of e.word)) (sym c.entry-item.is) (all c.loop-entry.entry-index c.entry-item.result c.loop-entry-test.true)),
)

pub returns : goal.returns
returns c = (λ yes k d less. c.loop-entry.invariant k d (let end = c.loop-entry-test.false in omega (arith, end, less)), λ all. refl)

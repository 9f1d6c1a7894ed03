use Rattle.std.proofs.Common.{◌≡◌, ℕ, List, ap, arith, length, map, refl, subst, sym, ◌∙◌}
use Rattle.field_boxes.specs.NamedRules.{named_rules}
use Rattle.ternary_words.specs.Limits.{AreNumbered}
use Rattle.ternary_words.specs.Headline.Table.{Entry, answer}
use Rattle.ternary_words.specs.Views.{entry_of}
use Rattle.rule_expansion.proofs.expanding.expand.Goals as goal

pub invariant_of-result : goal.invariant_of-result
invariant_of-result c =
    let all = c.decided_words_are_entries.ensures c.args.names.now c.args.rules.now c.in_ok-entries.entries.items c.in_ok-entries.ensures c.requires.numbered in
    let same : c.in_ok-names.names ≡ c.args.names.now = c.in_ok-names.ensures in
    record {
      counted = omega (arith, c.entry_count-needed.ensures, c.args.limit.few);
      few = omega (arith, all.many, c.entry_count-needed.ensures, c.args.limit.few, c.in_ok-entries.entries.ok.0);
      numbered = subst (λ (names : List (List ℕ)). AreNumbered (length names) c.in_ok-entries.entries.items) (sym same) all.numbered;
    }

pub returns-clause-table : goal.returns-clause-table
returns-clause-table c =
    let rules = named_rules c.args.names.now c.args.rules.now in
    let all = c.decided_words_are_entries.ensures c.args.names.now c.args.rules.now c.in_ok-entries.entries.items c.in_ok-entries.ensures c.requires.numbered in
    let same : c.in_ok-names.names ≡ c.args.names.now = c.in_ok-names.ensures in
    let entries = ap (λ (names : List (List ℕ)). map (entry_of names) c.in_ok-entries.entries.items) same ∙ all.named in
    record {
      slot = refl;
      composed = c.entry_count-needed.ensures ∙ all.counted;
      entries = entries;
      answers = λ header is. ap (λ (es : List Entry). answer es header) entries ∙ c.expansion_answers.ensures rules header is;
    }

-- The table of entries that stand for rules.
use Rattle.std.proofs.Common.{◌≡◌, ◌≤◌, ◌∙◌, ℕ, List, length, map, ap, arith, refl, sym}
use Rattle.std.proofs.lemmas.List.{length-map}
use Rattle.field_boxes.specs.declared.rule.Rule as code
use Rattle.field_boxes.specs.Alike.{AreAlike, source_of}
use Rattle.field_boxes.specs.Headline.Classifier.{Rule, source}
use Rattle.field_boxes.specs.Headline.Fields.{IsHeader, stated}
use Rattle.field_boxes.specs.Names.{AreDistinct, name_at}
use Rattle.field_boxes.specs.NamedRules.{named_rules}
use Rattle.ternary_words.specs.declared.entry.Entry.{Entry}
use Rattle.ternary_words.specs.Headline.Table as tables
use Rattle.ternary_words.specs.Views.{entry_of}
use Rattle.rule_compilation.proofs.Prefixed.{named_prefixes}
use Rattle.rule_compilation.proofs.Removed.{answer_named, tight_named}
use Rattle.rule_expansion.specs.Entries.{AreEntriesOf}
use Rattle.rule_expansion.specs.Expansion.{expanded_count, expansion}
use Rattle.rule_shortening.specs.Drafts.{AreShortFor}
use Rattle.rule_shortening.specs.Shortened.{IsShortTable}

abbrev ExpansionAnswers : Type 0
ExpansionAnswers = (rules : List (Rule (List ℕ))) (values : List ℕ) → IsHeader values → tables.answer (expansion rules) values ≡ source stated values rules

module _ (names : List (List ℕ)) (rules : List code.Rule) (entries : List Entry) (short : AreShortFor (length names) rules entries) (are : AreEntriesOf names rules short.for_rules.all) where
  answers_named : ExpansionAnswers → AreAlike (tables.answer (map (entry_of names) entries)) (source_of (named_rules names rules))
  answers_named law values is =
      answer_named names entries values
      ∙ ap (name_at names) (short.for_rules.alike values is)
      ∙ sym (answer_named names short.for_rules.all values)
      ∙ ap (λ es. tables.answer es values) are.named
      ∙ law (named_rules names rules) values is

  within_count : length entries ≤ expanded_count (named_rules names rules)
  within_count = omega (arith, short.for_rules.fewer, are.many, are.counted)

  pub short_table : (width counted : ℕ) → counted ≡ length entries → AreDistinct names → ExpansionAnswers →
      IsShortTable (named_rules names rules) (length entries) width (record { slot = width; composed = counted; entries = map (entry_of names) entries })
  short_table width counted is distinct law =
      let same : length (map (entry_of names) entries) ≡ length entries = length-map entries (entry_of names) in
      let count = within_count in
      record {
        slot = refl;
        composed = is ∙ sym same;
        few = omega (arith, same);
        within = omega (arith, same, count);
        answers = answers_named law;
        prefixes = named_prefixes names entries short.for_rules.prefixes;
        tight = tight_named names entries distinct short.for_rules.numbered short.tight;
      }

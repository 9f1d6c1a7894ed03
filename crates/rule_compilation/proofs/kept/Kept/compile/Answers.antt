use Rattle.std.proofs.Common.{◌≡◌, ◌≤◌, ℕ, List, ap, arith, length, map, refl, subst, sym, ◌∙◌}
use Rattle.std.proofs.lemmas.List.{length-map}
use Rattle.ternary_words.specs.Limits.{AreNumbered}
use Rattle.ternary_words.specs.Headline.Table.{answer}
use Rattle.ternary_words.specs.Views.{entry_of}
use Rattle.field_boxes.specs.NamedRules.{named_rules}
use Rattle.field_boxes.specs.Alike.{IsTight}
use Rattle.rule_compilation.specs.Pass.{AreComposedOf}
use Rattle.rule_compilation.proofs.Prefixed.{named_prefixes}
use Rattle.rule_compilation.proofs.Removed.{tight_named}
use Rattle.rule_compilation.proofs.kept.Kept.compile.Goals as goal

pub invariant_of-result : goal.invariant_of-result
invariant_of-result c =
    let tight = c.in_ok-composed.ensures.table in
    let entries = c.in_ok-composed.field-0.entries in
    let same : c.in_ok-names.names ≡ c.args.names.now = c.in_ok-names.ensures in
    record {
      counted = omega (arith, c.in_ok-composed.ensures.within, c.args.limit.few);
      few = omega (arith, tight.few, entries.ok.0, c.in_ok-composed.ensures.within, c.args.limit.few);
      numbered = subst (λ (ns : List (List ℕ)). AreNumbered (length ns) entries.items) (sym same) tight.numbered;
    }

pub returns-clause-table : goal.returns-clause-table
returns-clause-table c =
    let names = c.args.names.now in
    let rules = named_rules names c.args.rules.now in
    let tight = c.in_ok-composed.ensures.table in
    let kept = c.in_ok-composed.field-0.entries.items in
    let composed = c.in_ok-composed.field-0.composed in
    let same : c.in_ok-names.names ≡ names = c.in_ok-names.ensures in
    let few : length (map (entry_of names) kept) ≤ composed = omega (arith, tight.few, length-map kept (entry_of names)) in
    record {
      slot = refl;
      composed = tight.least;
      few = subst (λ (ns : List (List ℕ)). length (map (entry_of ns) kept) ≤ composed) (sym same) few;
      answers = λ header is. ap (λ (ns : List (List ℕ)). answer (map (entry_of ns) kept) header) same ∙ tight.answers header is;
      prefixes = named_prefixes c.in_ok-names.names kept tight.prefixes;
      pass = record { names = c.in_ok-names.names; table = tight.all; kept = kept; composed = subst (λ (ns : List (List ℕ)). AreComposedOf c.args.order.now ns rules tight.all) (sym same) tight.made; many = tight.many; pass = tight.pass; named = refl };
      tight = subst (λ (ns : List (List ℕ)). IsTight answer (map (entry_of ns) kept)) (sym same) (tight_named names kept c.are_names.ensures.distinct tight.numbered tight.tight);
    }

-- Entries of rules in front of those of later rules.
use Rattle.std.proofs.Common.{◌≡◌, ◌∷◌, ◌++◌, ◌∙◌, ℕ, ◌≤◌, ◌-◌, ◌+◌, List, [], cond, length, map, take, drop, ap, arith, refl, subst, sym}
use Rattle.std.proofs.lemmas.Grind.{flat_map-append}
use Rattle.std.proofs.lemmas.List.{drop-drop, drop_all, length-append, map-append, take-append-drop}
use Rattle.std.proofs.lemmas.List.Elements.{All-append}
use Rattle.field_boxes.specs.declared.rule.Rule as code
use Rattle.field_boxes.specs.Alike.{AreAlike}
use Rattle.field_boxes.specs.Headline.Classifier.{Rule}
use Rattle.field_boxes.specs.Rules.{rule_of}
use Rattle.ternary_words.specs.declared.entry.Entry.{Entry}
use Rattle.ternary_words.specs.Entries.{IsPart, answer, entry_matches, ArePrefixes}
use Rattle.ternary_words.specs.Limits.{AreNumbered}
use Rattle.ternary_words.specs.Prefixes.{IsPrefixInEach}
use Rattle.ternary_words.specs.Views.{word_of}
use Rattle.rule_expansion.specs.Entries.{AreEntriesOf, decided_of}
use Rattle.rule_expansion.specs.Expansion.{decided_words, rule_words}
use Rattle.rule_shortening.specs.Drafts.{AreAsShort, AreFor, AreShortFor, IsDraftOf}
use Rattle.rule_shortening.specs.Trimmed.{AreTrimmed}
use Rattle.rule_shortening.specs.declared.draft.Draft.{Draft}

-- the same entries in front of entries that answer alike
answer_front : (own a b : List Entry) → AreAlike (answer a) (answer b) → AreAlike (answer (own ++ a)) (answer (own ++ b))
answer_front [] a b h values is = h values is
answer_front (e ∷ own) a b h values is = ap (λ n. cond (entry_matches values e) e.decision n) (answer_front own a b h values is)

words_append : (rules later : List code.Rule) → decided_words (map rule_of (rules ++ later)) ≡ decided_words (map rule_of rules) ++ decided_words (map rule_of later)
words_append rules later =
    ap decided_words (map-append rule_of rules later) ∙ flat_map-append (λ (rule : Rule ℕ). map (λ word. (word, rule.decision)) (rule_words rule)) (map rule_of rules) (map rule_of later)

pub front_for : (names : List (List ℕ)) (rules later : List code.Rule) (own behind new : List Entry) → map decided_of own ≡ decided_words (map rule_of rules) → AreEntriesOf names rules own → ArePrefixes own →
    AreFor (length names) later behind → new ≡ own ++ behind → AreFor (length names) (rules ++ later) new
front_for names rules later own behind new spelled are prefixes h is = subst (AreFor (length names) (rules ++ later)) (sym is) (record {
  all = own ++ h.all;
  spelled = map-append decided_of own h.all ∙ ap (λ ws. ws ++ map decided_of h.all) spelled ∙ ap (λ ws. decided_words (map rule_of rules) ++ ws) h.spelled ∙ sym (words_append rules later);
  alike = answer_front own behind h.all h.alike;
  fewer = omega (arith, length-append own behind, length-append own h.all, h.fewer);
  prefixes = All-append (λ (e : Entry). IsPrefixInEach (word_of e.word)) own behind prefixes h.prefixes;
  numbered = All-append (λ (e : Entry). e.decision ≤ length names) own behind are.numbered h.numbered;
})

-- entries that are as short stand for the same rules
pub shorter_for : (count : ℕ) (rules : List code.Rule) (old new : List Entry) → AreFor count rules old → AreAsShort count old new → AreFor count rules new
shorter_for count rules old new h s = record {
  all = h.all;
  spelled = h.spelled;
  alike = λ values is. s.alike values is ∙ h.alike values is;
  fewer = omega (arith, s.fewer, h.fewer);
  prefixes = s.prefixes h.prefixes;
  numbered = s.numbered h.numbered;
}

-- no entries stand for no rules
pub none_for : (count : ℕ) → AreFor count [] []
none_for count = record {
  all = [];
  spelled = refl;
  alike = λ values is. refl;
  fewer = omega arith;
  prefixes = λ k d less. absurd (omega (arith, less));
  numbered = λ k d less. absurd (omega (arith, less));
}

-- rules from one place on are those up to another, in front of those from there on
pub rules_parted : {A : Type 0} (rules : List A) (place first : ℕ) → place ≤ first → take (first - place) (drop place rules) ++ drop first rules ≡ drop place rules
rules_parted rules place first le =
    let there : place + (first - place) ≡ first = omega (arith, le) in
    ap (λ rs. take (first - place) (drop place rules) ++ rs) (sym (drop-drop (first - place) place rules ∙ ap (λ n. drop n rules) there)) ∙ take-append-drop (first - place) (drop place rules)

-- the rules from a place on, of which those up to another are taken in front of those from there on
pub taken_in : (names : List (List ℕ)) (rules : List code.Rule) (place first : ℕ) (behind new kept : List Entry) → place ≤ first → AreFor (length names) (drop first rules) behind →
    ((later : List code.Rule) → AreFor (length names) later behind → AreFor (length names) (take (first - place) (drop place rules) ++ later) new) → AreAsShort (length names) new kept →
    AreFor (length names) (drop place rules) kept
taken_in names rules place first behind new kept le h front short =
    shorter_for (length names) (drop place rules) new kept (subst (λ (rs : List code.Rule). AreFor (length names) rs new) (rules_parted rules place first le) (front (drop first rules) h)) short

-- a draft that stands for no rule
pub begins : (count : ℕ) (rules : List code.Rule) (draft : Draft) → draft.first ≡ length rules → draft.entries.items ≡ [] → IsDraftOf count rules draft
begins count rules draft first empty = record {
  within = omega (arith, first);
  entries = rw (empty, drop_all draft.first rules (omega (arith, first))) (none_for count);
}

-- what a part of entries keeps of them
pub record PartsKeep : Type 0 where
  pub numbered : (count : ℕ) (some all : List Entry) → IsPart some all → AreNumbered count all → AreNumbered count some
  pub prefixes : (some all : List Entry) → IsPart some all → ArePrefixes all → ArePrefixes some
  pub fewer : (some all : List Entry) → IsPart some all → length some ≤ length all

-- entries that stand for rules, without the redundant ones
pub trimmed_for : PartsKeep → (count : ℕ) (rules : List code.Rule) (old kept : List Entry) → AreFor count rules old → AreTrimmed old kept → AreShortFor count rules kept
trimmed_for law count rules old kept h trimmed =
    let fewer = law.fewer kept old trimmed.part in
    record {
      for_rules = record {
        all = h.all;
        spelled = h.spelled;
        alike = λ values is. trimmed.alike values is ∙ h.alike values is;
        fewer = omega (arith, fewer, h.fewer);
        prefixes = law.prefixes kept old trimmed.part h.prefixes;
        numbered = law.numbered count kept old trimmed.part h.numbered;
      };
      tight = trimmed.tight;
    }

-- Why what a valid proof shows is true.
use Rattle.std.proofs.Common.{◌≡◌, ℕ, ◌+◌, ◌-◌, ◌<◌, List, Bool, true, false, Option, Some, None, Contains, length, slice_get, slice_index, ap, refl, sym, subst, ◌∙◌, arith, inl, inr, cond, le_refl, ltb-false, nat_lt, MatchOption}
use Rattle.std.specs.List.{position_or_len}
use Rattle.std.specs.Option.{option_map_or}
use Rattle.std.specs.Str.{bytes_eq}
use Rattle.std.proofs.lemmas.Bool.{cases_lt, false≢true}
use Rattle.std.proofs.lemmas.Option.{same_Some, slice_get_past}
use Rattle.std.proofs.lemmas.Slice.Eq.{bytes_eq-Decides}
use Rattle.field_boxes.specs.declared.rule.Rule.{Rule}
use Rattle.field_boxes.specs.declared.rule_list.RuleList.{RuleList}
use Rattle.field_boxes.specs.Boxes.{LiesIn}
use Rattle.field_boxes.specs.Headline.Fields.{IsHeader}
use Rattle.field_boxes.specs.Lists.{name_decided}
use Rattle.field_boxes.specs.Names.{name_at}
use Rattle.ternary_words.specs.declared.entry.Entry.{Entry}
use Rattle.ternary_words.specs.Word.{key_of}
use Rattle.partition_check.specs.Agreement.{AgreeOn, name_answered}
use Rattle.partition_check.specs.Claims.{entry_matches, numbered, place_of, rule_matches}
use Rattle.partition_check.proofs.Soundness.{FirstAnswers, list_decides, table_answers}
use Rattle.agreement_check.specs.declared.pair.Pair.{Pair}
use Rattle.agreement_check.specs.declared.step.Step.{Step}
use Rattle.agreement_check.specs.Covers.{Sides, IsCover, entries_named, entry_word, rule_word, rules_named}
use Rattle.agreement_check.specs.Claims.{DecideAlike, IsOpenPair, Taken, entry_claim, entry_decides, pair_claim, rule_claim, rule_decides}
use Rattle.word_cover.specs.Cubes.{Cube, all_headers, cube_of}
use Rattle.agreement_check.specs.Cubes.{MeetsRule, box}
use Rattle.agreement_check.specs.RuleWords.{word_of_rule}
use Rattle.agreement_check.proofs.First.{first-passes, none-before, passes_at, up_to_length}
use Rattle.word_cover.proofs.Members.{has-all, has-both, has-meet, masked-all, masked-meet, masked-word, word-has}
use Rattle.agreement_check.proofs.Members.{has-box}
use Rattle.agreement_check.proofs.Rules.{IsIn, listed-in}
use Rattle.agreement_check.proofs.Naming.{HasEntry, HasRule, cover-names}

-- a header below the bound
pub record IsBelow (s : Sides) (h : List ℕ) : Type 0 where
  pub is : IsHeader h
  pub before : key_of h < s.bound

abbrev pub first_rule : Sides → List ℕ → ℕ
first_rule s h = position_or_len (rule_matches h) s.list.rules.items

abbrev pub first_entry : Sides → List ℕ → ℕ
first_entry s h = position_or_len (entry_matches h) s.table.entries.items

-- The words of the first rule and of the first entry have the header.

rule_at : (list : RuleList) (k : ℕ) (o : Option Rule) (h : List ℕ) → slice_get list.rules.items k ≡ o → IsHeader h → option_map_or (rule_matches h) o true ≡ true → IsIn (option_map_or word_of_rule o all_headers) h
rule_at list k None h at is t = record { has = has-all h; masked = masked-all }
rule_at list k (Some r) h at is t = listed-in list k r h at is t

pub rule_has : (s : Sides) (k : ℕ) (h : List ℕ) → IsHeader h → passes_at (rule_matches h) s.list.rules.items k ≡ true → IsIn (rule_word s.list.rules.items k) h
rule_has s k h is t = rule_at s.list k (slice_get s.list.rules.items k) h refl is t

entry_at : (o : Option Entry) (h : List ℕ) → IsHeader h → option_map_or (entry_matches h) o true ≡ true → IsIn (option_map_or (λ (e : Entry). cube_of e.word) o all_headers) h
entry_at None h is t = record { has = has-all h; masked = masked-all }
entry_at (Some e) h is t = record { has = word-has h e.word is t; masked = masked-word e.word }

pub entry_has : (s : Sides) (k : ℕ) (h : List ℕ) → IsHeader h → passes_at (entry_matches h) s.table.entries.items k ≡ true → IsIn (entry_word s.table.entries.items k) h
entry_has s k h is t = entry_at (slice_get s.table.entries.items k) h is t

first_rule_has : (s : Sides) (h : List ℕ) → passes_at (rule_matches h) s.list.rules.items (first_rule s h) ≡ true
first_rule_has s h = first-passes (rule_matches h) s.list.rules.items

first_entry_has : (s : Sides) (h : List ℕ) → passes_at (entry_matches h) s.table.entries.items (first_entry s h) ≡ true
first_entry_has s h = first-passes (entry_matches h) s.table.entries.items

-- What has the header stands no earlier than the first.

rule_from : (s : Sides) (h : List ℕ) (n : ℕ) → HasRule s h n → first_rule s h < n
rule_from s h n r = elim (cases_lt r.place (first_rule s h)) [
  | inl less ↦ absurd (none-before (rule_matches h) s.list.rules.items r.place less r.has)
  | inr more ↦ omega (arith, r.before, more)
]

entry_from : (s : Sides) (h : List ℕ) (n : ℕ) → HasEntry s h n → first_entry s h < n
entry_from s h n e = elim (cases_lt e.place (first_entry s h)) [
  | inl less ↦ absurd (none-before (entry_matches h) s.table.entries.items e.place less e.has)
  | inr more ↦ omega (arith, e.before, more)
]

no_rule : (s : Sides) (h : List ℕ) (k : ℕ) → k < first_rule s h → passes_at (rule_matches h) s.list.rules.items k ≡ true → ⊥
no_rule s h k less t = none-before (rule_matches h) s.list.rules.items k less t

no_entry : (s : Sides) (h : List ℕ) (k : ℕ) → k < first_entry s h → passes_at (entry_matches h) s.table.entries.items k ≡ true → ⊥
no_entry s h k less t = none-before (entry_matches h) s.table.entries.items k less t

-- What the covers say: how far the first rule may stand where an entry is the first, and the other way round.

open_rule : (s : Sides) (h : List ℕ) → passes_at (rule_matches h) s.list.rules.items (length s.list.rules.items) ≡ true
open_rule s h = ap (λ o. option_map_or (rule_matches h) o true) (slice_get_past s.list.rules.items (length s.list.rules.items) (le_refl (length s.list.rules.items)))

pub entry-limits : (s : Sides) (j : ℕ) (steps : List Step) → IsCover s (entry_claim s j) steps → (h : List ℕ) → IsBelow s h → first_entry s h ≡ j → first_rule s h < rules_named steps
entry-limits s j steps cover h b first =
    let e = entry_has s j h b.is (subst (λ k. passes_at (entry_matches h) s.table.entries.items k ≡ true) first (first_entry_has s h)) in
    elim (cover-names s (entry_claim s j) steps h (record { is = b.is; before = b.before; of = open_rule s h }) e.masked e.has cover) [
      | inl rule ↦ rule_from s h (rules_named steps) rule.named
      | inr entry ↦ absurd (no_entry s h entry.named.place (omega (arith, entry.may, first)) entry.named.has)
    ]

pub rule-limits : (s : Sides) (i : ℕ) (steps : List Step) → IsCover s (rule_claim s i) steps → (h : List ℕ) → IsBelow s h → first_rule s h ≡ i → first_entry s h < entries_named steps
rule-limits s i steps cover h b first =
    let t = subst (λ k. passes_at (rule_matches h) s.list.rules.items k ≡ true) first (first_rule_has s h) in
    let r = rule_has s i h b.is t in
    elim (cover-names s (rule_claim s i) steps h (record { is = b.is; before = b.before; of = t }) r.masked r.has cover) [
      | inl rule ↦ absurd (no_rule s h rule.named.place (omega (arith, rule.may, first)) rule.named.has)
      | inr entry ↦ entry_from s h (entries_named steps) entry.named
    ]

pub never-first : (s : Sides) (p : Pair) (steps : List Step) → IsCover s (pair_claim s p) steps → (h : List ℕ) → IsBelow s h → first_rule s h ≡ p.rule → first_entry s h ≡ p.entry → ⊥
never-first s p steps cover h b rule entry =
    let t = subst (λ k. passes_at (rule_matches h) s.list.rules.items k ≡ true) rule (first_rule_has s h) in
    let r = rule_has s p.rule h b.is t in
    let e = entry_has s p.entry h b.is (subst (λ k. passes_at (entry_matches h) s.table.entries.items k ≡ true) entry (first_entry_has s h)) in
    let w = rule_word s.list.rules.items p.rule in
    let x = entry_word s.table.entries.items p.entry in
    elim (cover-names s (pair_claim s p) steps h (record { is = b.is; before = b.before; of = t }) (masked-meet w x r.masked e.masked) (has-meet w x h r.masked e.masked r.has e.has) cover) [
      | inl named ↦ no_rule s h named.named.place (omega (arith, named.may, rule)) named.named.has
      | inr named ↦ no_entry s h named.named.place (omega (arith, named.may, entry)) named.named.has
    ]

-- Names.

-- the number, from 1, of the item at a place: none behind the last
abbrev number : {A : Type 0} → List A → ℕ → Bool → Option ℕ
number xs k within = cond within (Some (k + 1)) None

number_place : {A : Type 0} (xs : List A) (k : ℕ) (t : Bool) → cond t (Some k) None ≡ place_of (number xs k t)
number_place xs k true = ap (λ n. Some n) (let e : k ≡ k + 1 - 1 = omega arith in e)
number_place xs k false = refl

number_decides : {A : Type 0} (f : A → ℕ) (xs : List A) (k : ℕ) (t : Bool) → nat_lt k (length xs) ≡ t → option_map_or f (numbered xs (number xs k t)) 0 ≡ option_map_or f (slice_get xs k) 0
number_decides f xs k true e = ap (λ n. option_map_or f (slice_get xs n) 0) (let e : k + 1 - 1 ≡ k = omega arith in e)
number_decides f xs k false e = ap (λ o. option_map_or f o 0) (sym (slice_get_past xs k (ltb-false k (length xs) e)))

pub rule-name : (s : Sides) (h : List ℕ) → name_decided s.list h ≡ name_at s.list.names (rule_decides s.list.rules.items (first_rule s h))
rule-name s h =
    let rules = s.list.rules.items in
    let k = first_rule s h in
    let t = nat_lt k (length rules) in
    list_decides s.list h (number rules k t) (number_place rules k t) ∙ ap (name_at s.list.names) (number_decides (λ (r : Rule). r.decision) rules k t refl)

pub entry-name : FirstAnswers → (s : Sides) (h : List ℕ) → name_answered s.table h ≡ name_at s.table.names (entry_decides s.table.entries.items (first_entry s h))
entry-name law s h =
    let entries = s.table.entries.items in
    let k = first_entry s h in
    let t = nat_lt k (length entries) in
    table_answers law s.table h (number entries k t) (number_place entries k t) ∙ ap (name_at s.table.names) (number_decides (λ (e : Entry). e.decision) entries k t refl)

abbrev pub first_pair : Sides → List ℕ → Pair
first_pair s h = record { rule = first_rule s h; entry = first_entry s h }

-- they agree on a header exactly where its first rule and its first entry decide alike
pub agree-alike : FirstAnswers → (s : Sides) (h : List ℕ) → AgreeOn s.list s.table h → DecideAlike s (first_pair s h)
agree-alike law s h agree = sym (rule-name s h) ∙ agree ∙ entry-name law s h

pub alike-agree : FirstAnswers → (s : Sides) (h : List ℕ) → DecideAlike s (first_pair s h) → AgreeOn s.list s.table h
alike-agree law s h alike = rule-name s h ∙ alike ∙ sym (entry-name law s h)

-- names that aren't other names are the same
same_bytes : (x y : List ℕ) (t : Bool) → bytes_eq x y ≡ t → ((Some x ≡ Some y → ⊥) → ⊥) → x ≡ y
same_bytes x y true e f = (bytes_eq-Decides x y).0 e
same_bytes x y false e f = absurd (f (λ same. false≢true (sym e ∙ (bytes_eq-Decides x y).1 (same_Some x y same))))

pub same-names : (a b : Option (List ℕ)) → ((a ≡ b → ⊥) → ⊥) → a ≡ b
same-names None None f = refl
same-names None (Some y) f = absurd (f (λ e. cc e))
same-names (Some x) None f = absurd (f (λ e. cc e))
same-names (Some x) (Some y) f = ap (λ n. Some n) (same_bytes x y (bytes_eq x y) refl f)

-- The claims that were taken hold of each header below the bound.

pub record AreProved (s : Sides) (t : Taken) : Type 0 where
  pub entries : (j : ℕ) → j < length t.entries → (h : List ℕ) → IsBelow s h → first_entry s h ≡ j → first_rule s h < slice_index t.entries j
  pub rules : (i : ℕ) → i < length t.rules → (h : List ℕ) → IsBelow s h → first_rule s h ≡ i → first_entry s h < slice_index t.rules i
  pub pairs : (p : Pair) → Contains t.pairs p → (h : List ℕ) → IsBelow s h → first_rule s h ≡ p.rule → first_entry s h ≡ p.entry → ⊥

meets_at : (o : Option Rule) (cube : Cube) (h : List ℕ) → option_map_or (rule_matches h) o true ≡ true → LiesIn (box cube) h → MatchOption o (Unit {0}) (λ r. MeetsRule r cube)
meets_at None cube h t lies = tt
meets_at (Some r) cube h t lies = (h, lies, t)

-- the first rule and the first entry of a header on which they don't agree are an open pair
open_pair : FirstAnswers → (s : Sides) (t : Taken) (h : List ℕ) → AreProved s t → length s.table.entries.items < length t.entries → length s.list.rules.items < length t.rules → IsBelow s h →
    (DecideAlike s (first_pair s h) → ⊥) → IsOpenPair s t (first_pair s h)
open_pair law s t h proved entries rules b differ =
    let i = first_rule s h in
    let j = first_entry s h in
    let r = rule_has s i h b.is (first_rule_has s h) in
    let e = entry_has s j h b.is (first_entry_has s h) in
    record {
      rule_reached = proved.entries j (omega (arith, entries, up_to_length (entry_matches h) s.table.entries.items)) h b refl;
      entry_reached = proved.rules i (omega (arith, rules, up_to_length (rule_matches h) s.list.rules.items)) h b refl;
      apart = differ;
      words = has-both (rule_word s.list.rules.items i) (entry_word s.table.entries.items j) h r.has e.has;
      boxes = meets_at (slice_get s.list.rules.items i) (entry_word s.table.entries.items j) h (first_rule_has s h) (has-box (entry_word s.table.entries.items j) h e.masked b.is e.has);
    }

-- so where each open pair has a line they agree below the bound
pub agree-below : FirstAnswers → (s : Sides) (t : Taken) → AreProved s t → length s.table.entries.items < length t.entries → length s.list.rules.items < length t.rules →
    ((p : Pair) → IsOpenPair s t p → Contains t.pairs p) → (h : List ℕ) → IsBelow s h → AgreeOn s.list s.table h
agree-below law s t proved entries rules each h b =
    alike-agree law s h (same-names _ _ (λ differ.
    proved.pairs (first_pair s h) (each (first_pair s h) (open_pair law s t h proved entries rules b differ)) h b refl refl))

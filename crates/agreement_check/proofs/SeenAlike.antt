-- What is said of a proof depends on what list and table are, and not on how they are kept.
use Rattle.std.proofs.Common.{◌≡◌, ◌<◌, ◌≤◌, ◌+◌, ◌-◌, ◌^◌, ℕ, suc, List, [], ◌∷◌, Bool, true, false, Option, Some, None, MatchOption, length, map, slice_get, ap, refl, sym, subst, ◌∙◌, inl, inr, arith}
use Rattle.std.specs.Prelude.{IsFalse, IsTrue, is_some, option_and_then, option_map, take, unwrap_or}
use Rattle.std.specs.Option.{option_map_or}
use Rattle.std.proofs.lemmas.List.{length-map}
use Rattle.std.proofs.lemmas.Nat.{and_le_r}
use Rattle.std.proofs.lemmas.Option.{slice_get-map}
use Rattle.field_boxes.proofs.SameSets.{matches_by_sets}
use Rattle.field_boxes.specs.Headline.Bits.{bits}
use Rattle.field_boxes.specs.Headline.Classifier.{Interval, Rule, source}
use Rattle.field_boxes.specs.Headline.Fields.{stated}
use Rattle.field_boxes.specs.Headline.FilterList.{FilterList}
use Rattle.field_boxes.specs.Lists.{filter_list}
use Rattle.field_boxes.specs.NamedRules.{named_rule}
use Rattle.field_boxes.specs.Names.{name_at}
use Rattle.field_boxes.specs.Rules.{rule_of, sets_of}
use Rattle.field_boxes.specs.declared.rule.Rule as code
use Rattle.field_boxes.specs.declared.rule_list.RuleList.{RuleList}
use Rattle.ternary_words.proofs.Parted.{same_bits}
use Rattle.ternary_words.proofs.TritBits.{mask-bits, value-bits}
use Rattle.ternary_words.specs.Headline.Table as tables
use Rattle.ternary_words.specs.Headline.Table.{answer}
use Rattle.ternary_words.specs.Views.{entry_of, table_of, word_of}
use Rattle.ternary_words.specs.Prefixes.{masks_of}
use Rattle.ternary_words.specs.Word.{key_of, mask_bit, value_bit}
use Rattle.ternary_words.specs.declared.entry.Entry.{Entry}
use Rattle.ternary_words.specs.declared.table.Table.{Table}
use Rattle.ternary_words.specs.declared.word.Word.{Word}
use Rattle.partition_check.proofs.SeenAlike.{entry_named, rule_named}
use Rattle.partition_check.specs.Agreement.{AgreeOn}
use Rattle.partition_check.specs.CertificateText.{lines_of}
use Rattle.partition_check.specs.Claims.{entry_decision, place_of, rule_decision, rule_matches}
use Rattle.agreement_check.specs.declared.pair.Pair.{Pair}
use Rattle.agreement_check.specs.declared.step.Step.{Step}
use Rattle.agreement_check.specs.declared.step.Step.TheVariants.{InRule, InEntry, Missed, Late, Halved}
use Rattle.agreement_check.specs.declared.wrong.Counts.{Counts}
use Rattle.agreement_check.specs.declared.wrong.Wrong.{Wrong}
use Rattle.agreement_check.specs.Claims.{EachHasLine, IsOpenPair, Taken, entry_claim, entry_decides, pair_claim, rule_claim, rule_decides, sides_of}
use Rattle.agreement_check.specs.Covers.{AreCovered, Claim, IsCover, LiesInRuleAt, MeetsRuleAt, MissesRuleAt, Shows, Sides, entry_word, rule_word}
use Rattle.word_cover.specs.Cubes.{Cube, HasBitsOf, Meet, all_headers, cube_of, meet_of, one_half, zero_half}
use Rattle.agreement_check.specs.Cubes.{LiesInRule, MeetsRule, MissesRule}
use Rattle.agreement_check.specs.RuleWords.{prefixes_of, word_of_rule}
use Rattle.agreement_check.specs.Streams.{ReadsTooMuch, ReadsWrong}
use Rattle.agreement_check.specs.Texts.{Heading, Line, entry_line, heading_of, last_line, line_of, pair_line, rule_line, words_of}
use Rattle.agreement_check.specs.Verdict.{FindsWrong, IsDue, Reading, TakesAll, TakesClaim, TakesHeading, TakesNext, TakesWords, counts_in, counts_of, line_in, started}
use Rattle.agreement_check.proofs.OneVerdict.{all_apart}

-- Words that match the same headers trit by trit are the same.

value_small : (w : Word) → w.value < 2 ^ 104
value_small w = let le = and_le_r w.value w.mask in let e = w.masked in let small = w.narrow in omega (arith, le, e, small)

masks_alike : (a b : Word) → word_of a ≡ word_of b → a.mask ≡ b.mask
masks_alike a b h = same_bits 104 a.mask b.mask a.narrow b.narrow (sym (mask-bits 104 a.mask a.value) ∙ ap (map mask_bit) h ∙ mask-bits 104 b.mask b.value)

values_alike : (a b : Word) → word_of a ≡ word_of b → a.value ≡ b.value
values_alike a b h =
    same_bits 104 a.value b.value (value_small a) (value_small b)
    (sym (value-bits 104 a.mask a.value a.masked) ∙ ap (map value_bit) h ∙ value-bits 104 b.mask b.value b.masked)

cubes_alike : (a b : Word) → word_of a ≡ word_of b → cube_of a ≡ cube_of b
cubes_alike a b h = ap (λ m. record { value = a.value; mask = m }) (masks_alike a b h) ∙ ap (λ v. record { value = v; mask = b.mask }) (values_alike a b h)

-- Two lists and two tables that say the same, compared as far.

record SameSides (s t : Sides) : Type 0 where
  rules : map sets_of s.list.rules.items ≡ map sets_of t.list.rules.items
  entries : map (λ (e : Entry). cube_of e.word) s.table.entries.items ≡ map (λ (e : Entry). cube_of e.word) t.table.entries.items
  decided : (k : ℕ) → name_at s.list.names (rule_decides s.list.rules.items k) ≡ name_at t.list.names (rule_decides t.list.rules.items k)
  answered : (k : ℕ) → name_at s.table.names (entry_decides s.table.entries.items k) ≡ name_at t.table.names (entry_decides t.table.entries.items k)
  bound : s.bound ≡ t.bound

turned : (s t : Sides) → SameSides s t → SameSides t s
turned s t e = record { rules = sym e.rules; entries = sym e.entries; decided = λ k. sym (e.decided k); answered = λ k. sym (e.answered k); bound = sym e.bound }

rule_count : (s t : Sides) → SameSides s t → length s.list.rules.items ≡ length t.list.rules.items
rule_count s t e = sym (length-map s.list.rules.items sets_of) ∙ ap length e.rules ∙ length-map t.list.rules.items sets_of

entry_count : (s t : Sides) → SameSides s t → length s.table.entries.items ≡ length t.table.entries.items
entry_count s t e =
    sym (length-map s.table.entries.items (λ (x : Entry). cube_of x.word)) ∙ ap length e.entries ∙ length-map t.table.entries.items (λ (x : Entry). cube_of x.word)

-- what stands at a place
rule_at : (s t : Sides) → SameSides s t → (k : ℕ) → option_map sets_of (slice_get s.list.rules.items k) ≡ option_map sets_of (slice_get t.list.rules.items k)
rule_at s t e k =
    sym (slice_get-map sets_of s.list.rules.items k) ∙ ap (λ (xs : List (List (List Interval))). slice_get xs k) e.rules ∙ slice_get-map sets_of t.list.rules.items k

entry_at : (s t : Sides) → SameSides s t → (k : ℕ) →
    option_map (λ (x : Entry). cube_of x.word) (slice_get s.table.entries.items k) ≡ option_map (λ (x : Entry). cube_of x.word) (slice_get t.table.entries.items k)
entry_at s t e k =
    sym (slice_get-map (λ (x : Entry). cube_of x.word) s.table.entries.items k) ∙ ap (λ (xs : List Cube). slice_get xs k) e.entries
    ∙ slice_get-map (λ (x : Entry). cube_of x.word) t.table.entries.items k

-- the word of a rule with these sets
abbrev word_by : List (List Interval) → Cube
word_by sets =
    let prefixes = prefixes_of stated sets in
    record { value = key_of (map (λ p. p.value) prefixes); mask = key_of (masks_of stated prefixes) }

word_same : (a b : Option code.Rule) → option_map sets_of a ≡ option_map sets_of b → option_map_or word_of_rule a all_headers ≡ option_map_or word_of_rule b all_headers
word_same None None e = refl
word_same None (Some q) e = absurd cc
word_same (Some r) None e = absurd cc
word_same (Some r) (Some q) e = ap (λ (o : Option (List (List Interval))). option_map_or word_by o all_headers) e

cube_same : (a b : Option Entry) → option_map (λ (x : Entry). cube_of x.word) a ≡ option_map (λ (x : Entry). cube_of x.word) b →
    option_map_or (λ (x : Entry). cube_of x.word) a all_headers ≡ option_map_or (λ (x : Entry). cube_of x.word) b all_headers
cube_same None None e = refl
cube_same None (Some q) e = absurd cc
cube_same (Some r) None e = absurd cc
cube_same (Some r) (Some q) e = ap (λ (o : Option Cube). unwrap_or o all_headers) e

rule_words : (s t : Sides) → SameSides s t → (k : ℕ) → rule_word s.list.rules.items k ≡ rule_word t.list.rules.items k
rule_words s t e k = word_same (slice_get s.list.rules.items k) (slice_get t.list.rules.items k) (rule_at s t e k)

entry_words : (s t : Sides) → SameSides s t → (k : ℕ) → entry_word s.table.entries.items k ≡ entry_word t.table.entries.items k
entry_words s t e k = cube_same (slice_get s.table.entries.items k) (slice_get t.table.entries.items k) (entry_at s t e k)

sets_same : (r q : code.Rule) → option_map sets_of (Some r) ≡ option_map sets_of (Some q) → sets_of r ≡ sets_of q
sets_same r q e = ap (λ (o : Option (List (List Interval))). unwrap_or o []) e

rule_holds : (r q : code.Rule) → sets_of r ≡ sets_of q → (header : List ℕ) → rule_matches header r ≡ rule_matches header q
rule_holds r q e header = matches_by_sets stated header (rule_of r) (rule_of q) e

lies_too : (a b : Option code.Rule) (cube : Cube) → option_map sets_of a ≡ option_map sets_of b → MatchOption a (Unit {0}) (λ r. LiesInRule r cube) → MatchOption b (Unit {0}) (λ r. LiesInRule r cube)
lies_too None None cube e h = tt
lies_too None (Some q) cube e h = absurd cc
lies_too (Some r) None cube e h = absurd cc
lies_too (Some r) (Some q) cube e h = λ header lies. subst (λ (b : Bool). IsTrue b) (rule_holds r q (sets_same r q e) header) (h header lies)

misses_too : (a b : Option code.Rule) (cube : Cube) → option_map sets_of a ≡ option_map sets_of b → MatchOption a ⊥ (λ r. MissesRule r cube) → MatchOption b ⊥ (λ r. MissesRule r cube)
misses_too None b cube e h = absurd h
misses_too (Some r) None cube e h = absurd cc
misses_too (Some r) (Some q) cube e h = λ header lies. subst (λ (b : Bool). IsFalse b) (rule_holds r q (sets_same r q e) header) (h header lies)

meets_too : (a b : Option code.Rule) (cube : Cube) → option_map sets_of a ≡ option_map sets_of b → MatchOption a (Unit {0}) (λ r. MeetsRule r cube) → MatchOption b (Unit {0}) (λ r. MeetsRule r cube)
meets_too None None cube e h = tt
meets_too None (Some q) cube e h = absurd cc
meets_too (Some r) None cube e h = absurd cc
meets_too (Some r) (Some q) cube e h = (h.0, h.1, subst (λ (b : Bool). IsTrue b) (rule_holds r q (sets_same r q e) h.0) h.2)

-- Covers.

shows_too : (s t : Sides) (c : Claim) (cube : Cube) (step : Step) → SameSides s t → Shows s c cube step → Shows t c cube step
shows_too s t c cube (InRule k) e h = (h.0, lies_too (slice_get s.list.rules.items k) (slice_get t.list.rules.items k) cube (rule_at s t e k) h.1)
shows_too s t c cube (InEntry k) e h = (h.0, subst (HasBitsOf cube) (entry_words s t e k) h.1)
shows_too s t c cube Missed e h = misses_too (slice_get s.list.rules.items c.of) (slice_get t.list.rules.items c.of) cube (rule_at s t e c.of) h
shows_too s t c cube Late e h = subst (λ (b : ℕ). b ≤ cube.value) e.bound h
shows_too s t c cube (Halved bit) e h = absurd h

covered_too : (s t : Sides) (c : Claim) (cubes : List Cube) (steps : List Step) → SameSides s t → AreCovered s c cubes steps → AreCovered t c cubes steps
covered_too s t c [] [] e h = tt
covered_too s t c [] (step ∷ steps) e h = absurd h
covered_too s t c (cube ∷ cubes) [] e h = absurd h
covered_too s t c (cube ∷ cubes) (Halved bit ∷ steps) e h = (h.0, covered_too s t c (zero_half cube bit ∷ one_half cube bit ∷ cubes) steps e h.1)
covered_too s t c (cube ∷ cubes) (InRule k ∷ steps) e h = (shows_too s t c cube (InRule k) e h.0, covered_too s t c cubes steps e h.1)
covered_too s t c (cube ∷ cubes) (InEntry k ∷ steps) e h = (shows_too s t c cube (InEntry k) e h.0, covered_too s t c cubes steps e h.1)
covered_too s t c (cube ∷ cubes) (Missed ∷ steps) e h = (shows_too s t c cube Missed e h.0, covered_too s t c cubes steps e h.1)
covered_too s t c (cube ∷ cubes) (Late ∷ steps) e h = (shows_too s t c cube Late e h.0, covered_too s t c cubes steps e h.1)

cover_too : (s t : Sides) (c d : Claim) (steps : List Step) → SameSides s t → c ≡ d → IsCover s c steps → IsCover t d steps
cover_too s t c d steps e same h = subst (λ (x : Claim). IsCover t x steps) same (covered_too s t c (c.cube ∷ []) steps e h)

-- Claims.

entry_claims : (s t : Sides) → SameSides s t → (j : ℕ) → entry_claim s j ≡ entry_claim t j
entry_claims s t e j =
    ap (λ (w : Cube). record { cube = w; of = length s.list.rules.items; rules = length s.list.rules.items + 1; entries = j }) (entry_words s t e j)
    ∙ ap (λ (n : ℕ). record { cube = entry_word t.table.entries.items j; of = n; rules = n + 1; entries = j }) (rule_count s t e)

rule_claims : (s t : Sides) → SameSides s t → (i : ℕ) → rule_claim s i ≡ rule_claim t i
rule_claims s t e i =
    ap (λ (w : Cube). record { cube = w; of = i; rules = i; entries = length s.table.entries.items + 1 }) (rule_words s t e i)
    ∙ ap (λ (n : ℕ). record { cube = rule_word t.list.rules.items i; of = i; rules = i; entries = n + 1 }) (entry_count s t e)

pair_claims : (s t : Sides) → SameSides s t → (p : Pair) → pair_claim s p ≡ pair_claim t p
pair_claims s t e p =
    ap (λ (w : Cube). record { cube = meet_of w (entry_word s.table.entries.items p.entry); of = p.rule; rules = p.rule; entries = p.entry }) (rule_words s t e p.rule)
    ∙ ap (λ (w : Cube). record { cube = meet_of (rule_word t.list.rules.items p.rule) w; of = p.rule; rules = p.rule; entries = p.entry }) (entry_words s t e p.entry)

open_too : (s t : Sides) (taken : Taken) (p : Pair) → SameSides s t → IsOpenPair s taken p → IsOpenPair t taken p
open_too s t taken p e h = record {
  rule_reached = h.rule_reached;
  entry_reached = h.entry_reached;
  apart = λ alike. h.apart (e.decided p.rule ∙ alike ∙ sym (e.answered p.entry));
  words = subst (λ (w : Cube). Meet w (entry_word t.table.entries.items p.entry)) (rule_words s t e p.rule)
      (subst (Meet (rule_word s.list.rules.items p.rule)) (entry_words s t e p.entry) h.words);
  boxes = subst (MeetsRuleAt t.list.rules.items p.rule) (entry_words s t e p.entry)
      (meets_too (slice_get s.list.rules.items p.rule) (slice_get t.list.rules.items p.rule) (entry_word s.table.entries.items p.entry) (rule_at s t e p.rule) h.boxes);
}

each_too : (s t : Sides) (taken : Taken) → SameSides s t → EachHasLine s taken → EachHasLine t taken
each_too s t taken e h = λ p is. h p (open_too t s taken p (turned s t e) is)

claim_too : (s t : Sides) (taken : Taken) (line : Line) (after : Reading) → SameSides s t → TakesClaim s taken line after → TakesClaim t taken line after
claim_too s t taken (entry_line steps) after e h = (cover_too s t _ _ steps e (entry_claims s t e (length taken.entries)) h.0, h.1)
claim_too s t taken (rule_line steps) after e h = (cover_too s t _ _ steps e (rule_claims s t e (length taken.rules)) h.0, h.1)
claim_too s t taken (pair_line p steps) after e h = (h.0, cover_too s t _ _ steps e (pair_claims s t e p) h.1, h.2)
claim_too s t taken (last_line k) after e h = (each_too s t taken e h.0, h.1, h.2)

-- Lines.

due_too : (s t : Sides) (taken : Taken) (line : Line) → SameSides s t → IsDue s taken line → IsDue t taken line
due_too s t taken (entry_line steps) e h = λ done. h (subst (λ (n : ℕ). n < length taken.entries) (sym (entry_count s t e)) done)
due_too s t taken (rule_line steps) e h = (
  subst (λ (n : ℕ). n < length taken.entries) (entry_count s t e) h.0,
  λ done. h.1 (subst (λ (n : ℕ). n < length taken.rules) (sym (rule_count s t e)) done),
)
due_too s t taken (pair_line p steps) e h = (subst (λ (n : ℕ). n < length taken.entries) (entry_count s t e) h.0, subst (λ (n : ℕ). n < length taken.rules) (rule_count s t e) h.1)
due_too s t taken (last_line k) e h = (subst (λ (n : ℕ). n < length taken.entries) (entry_count s t e) h.0, subst (λ (n : ℕ). n < length taken.rules) (rule_count s t e) h.1)

next_too : (s t : Sides) (taken : Taken) (line : Option Line) (after : Reading) → SameSides s t → TakesNext s taken line after → TakesNext t taken line after
next_too s t taken None after e h = absurd h
next_too s t taken (Some line) after e h = (due_too s t taken line e h.0, claim_too s t taken line after e h.1)

module _ (a b : RuleList) (s t : Table) (rules : filter_list a ≡ filter_list b) (entries : table_of s ≡ table_of t) where
  sets_seen : (names : List (List ℕ)) (rs : List code.Rule) → map (λ (r : Rule (List ℕ)). r.sets) (map (named_rule names) rs) ≡ map sets_of rs
  sets_seen names [] = refl
  sets_seen names (r ∷ rs) = ap (λ (sets : List (List (List Interval))). sets_of r ∷ sets) (sets_seen names rs)

  head_same : {X : Type 0} (x y : X) (xs ys : List X) → x ∷ xs ≡ y ∷ ys → x ≡ y
  head_same x y xs ys e = cc

  tail_same : {X : Type 0} (x y : X) (xs ys : List X) → x ∷ xs ≡ y ∷ ys → xs ≡ ys
  tail_same x y xs ys e = cc

  words_seen : (m n : List (List ℕ)) (es fs : List Entry) → map (entry_of m) es ≡ map (entry_of n) fs → map (λ (x : Entry). cube_of x.word) es ≡ map (λ (x : Entry). cube_of x.word) fs
  words_seen m n [] [] e = refl
  words_seen m n [] (f ∷ fs) e = absurd cc
  words_seen m n (x ∷ es) [] e = absurd cc
  words_seen m n (x ∷ es) (f ∷ fs) e =
      let head = head_same (entry_of m x) (entry_of n f) (map (entry_of m) es) (map (entry_of n) fs) e in
      let tail = tail_same (entry_of m x) (entry_of n f) (map (entry_of m) es) (map (entry_of n) fs) e in
      ap (λ (c : Cube). c ∷ map (λ (x : Entry). cube_of x.word) es) (cubes_alike x.word f.word (ap (λ (y : tables.Entry). y.word) head))
      ∙ ap (λ (cs : List Cube). cube_of f.word ∷ cs) (words_seen m n es fs tail)

  -- what stands at a place, which is counted from 0
  from_zero : (k : ℕ) → k ≡ suc k - 1
  from_zero k = omega arith

  rule_decided : (names : List (List ℕ)) (rs : List code.Rule) (k : ℕ) → name_at names (rule_decides rs k) ≡ name_at names (rule_decision rs (Some (suc k)))
  rule_decided names rs k = ap (λ (n : ℕ). name_at names (option_map_or (λ (r : code.Rule). r.decision) (slice_get rs n) 0)) (from_zero k)

  entry_answered : (names : List (List ℕ)) (es : List Entry) (k : ℕ) → name_at names (entry_decides es k) ≡ name_at names (entry_decision es (Some (suc k)))
  entry_answered names es k = ap (λ (n : ℕ). name_at names (option_map_or (λ (x : Entry). x.decision) (slice_get es n) 0)) (from_zero k)

  same_sides : (taken : Taken) → SameSides (sides_of a s taken) (sides_of b t taken)
  same_sides taken = record {
    rules = sym (sets_seen a.names a.rules.items) ∙ ap (λ (f : FilterList). map (λ (r : Rule (List ℕ)). r.sets) f.rules) rules ∙ sets_seen b.names b.rules.items;
    entries = words_seen s.names t.names s.entries.items t.entries.items (ap (λ (x : tables.Table). x.entries) entries);
    decided = λ k. rule_decided a.names a.rules.items k ∙ rule_named a.names a.rules.items a.numbered (Some (suc k))
        ∙ ap (λ (f : FilterList). option_map (λ (r : Rule (List ℕ)). r.decision) (option_and_then (slice_get f.rules) (place_of (Some (suc k))))) rules
        ∙ sym (rule_decided b.names b.rules.items k ∙ rule_named b.names b.rules.items b.numbered (Some (suc k)));
    answered = λ k. entry_answered s.names s.entries.items k ∙ entry_named s.names s.entries.items (Some (suc k))
        ∙ ap (λ (x : tables.Table). option_and_then (λ (y : tables.Entry). y.decision) (option_and_then (slice_get x.entries) (place_of (Some (suc k))))) entries
        ∙ sym (entry_answered t.names t.entries.items k ∙ entry_named t.names t.entries.items (Some (suc k)));
    bound = refl;
  }

  counts_too : counts_of a s ≡ counts_of b t
  counts_too =
      let e = same_sides (record { before = None; entries = []; rules = []; pairs = [] }) in
      ap (λ (n : ℕ). record { rules = n; entries = length s.entries.items }) (rule_count _ _ e)
      ∙ ap (λ (n : ℕ). record { rules = length b.rules.items; entries = n }) (entry_count _ _ e)

  agree_back : (header : List ℕ) → AgreeOn b t header → AgreeOn a s header
  agree_back header h =
      ap (λ (f : FilterList). source stated header f.rules) rules ∙ h ∙ sym (ap (λ (x : tables.Table). answer x.entries header) entries)

  heading_too : (o : Option Heading) (after : Reading) → TakesHeading a s o after → TakesHeading b t o after
  heading_too None after h = absurd h
  heading_too (Some heading) after h = (h.0 ∙ counts_too, (λ alike. h.1 (alike.0, alike.1, agree_back alike.0 alike.2)), h.2)

  line_same : (taken : Taken) (words : List (List ℕ)) → line_in a s taken words ≡ line_in b t taken words
  line_same taken words =
      ap (λ (c : Counts). line_of c.rules c.entries (is_some taken.before) words) counts_too

  words_too : (taken : Option Taken) (ended : Bool) (words : List (List ℕ)) (after : Reading) → TakesWords a s taken ended words after → TakesWords b t taken ended words after
  words_too None ended words after h = heading_too (heading_of words) after h
  words_too (Some taken) false words after h =
      subst (λ (o : Option Line). TakesNext (sides_of b t taken) taken o after) (line_same taken words)
      (next_too (sides_of a s taken) (sides_of b t taken) taken (line_in a s taken words) after (same_sides taken) h)
  words_too (Some taken) true words after h = absurd h

  lines_too : (lines : List (List ℕ)) (r after : Reading) → TakesAll a s r lines after → TakesAll b t r lines after
  lines_too [] r after h = h
  lines_too (line ∷ lines) r after h = (h.0, words_too r.taken r.ended (words_of line) h.0 h.1, lines_too lines h.0 after h.2)

  -- a proof that goes on after the limit, with no wrong line before it, isn't wrong
  pub right-or-wrong : (limit : ℕ) (text : List ℕ) (w : Wrong) → ReadsTooMuch a s limit text → ReadsWrong b t limit text w → ⊥
  right-or-wrong limit text w right (inl found) =
      all_apart b t (lines_of (take limit text)).whole started right.right.0 w (lines_too (lines_of (take limit text)).whole started right.right.0 right.right.1) found
  right-or-wrong limit text w right (inr ended) = let longer = right.longer in let within = ended.0 in omega (arith, longer, within)

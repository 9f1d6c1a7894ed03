-- The claims, line by line.
use Rattle.std.proofs.Common.{◌≡◌, ◌≢◌, ◌⊎◌, ◌↔◌, IsTrue, ◌∷◌, ◌++◌, ◌∙◌, ℕ, zero, suc, ◌+◌, ◌-◌, ◌<◌, ◌≤◌, List, [], Bool, true, false, Some, None, IfSome, Contains, length, min, nat_le, slice_index_or, ap, refl, sym, subst, arith, inl, inr, if◌then◌else◌}
use Rattle.std.specs.Bool.{OnFalse, OnTrue}
use Rattle.std.specs.List.{AllPairs}
use Rattle.std.proofs.lemmas.Bool.{cases_lt, leb-false, leb-true, true≢false}
use Rattle.std.proofs.lemmas.Bool.Decides.{eqb_tells}
use Rattle.std.proofs.lemmas.List.{append-nil, length_push, nil_from_length}
use Rattle.std.proofs.lemmas.List.Quantifiers.{all_pairs_push}
use Rattle.std.proofs.lemmas.Option.{same_Some, slice_get-get_or}
use Rattle.field_boxes.specs.declared.header.Header.{Header}
use Rattle.field_boxes.specs.declared.rule_list.RuleList.{RuleList}
use Rattle.ternary_words.specs.declared.table.Table.{Table}
use Rattle.ternary_words.specs.declared.word.Word.{Word}
use Rattle.partition_check.specs.Agreement.{AgreeOn}
use Rattle.agreement_check.specs.declared.claims.Claims.{Claims}
use Rattle.agreement_check.specs.declared.claims.Due.{Due}
use Rattle.agreement_check.specs.declared.claims.Due.TheVariants as due
use Rattle.agreement_check.specs.declared.claims.Stage.{Stage}
use Rattle.agreement_check.specs.declared.claims.Stage.TheVariants as stage
use Rattle.agreement_check.specs.declared.cover.Cover.{Cover}
use Rattle.agreement_check.specs.declared.pair.Pair.{Pair}
use Rattle.agreement_check.specs.declared.step.Step.{Step}
use Rattle.agreement_check.specs.declared.step.Step.TheVariants.{InRule, InEntry, Missed, Late, Halved}
use Rattle.agreement_check.specs.declared.valid.Difference.{Difference}
use Rattle.agreement_check.specs.declared.wrong.Why.{Why}
use Rattle.agreement_check.specs.declared.wrong.Why.TheVariants as whys
use Rattle.agreement_check.specs.Claims.{ComesNext, EachHasLine, IsFirstMissing, Taken, begun, bound_of, entry_claim, pair_claim, rule_claim}
use Rattle.agreement_check.specs.Covering.{GoesOn, StandsFor, cubes_left}
use Rattle.agreement_check.specs.Covers.{Sides, Claim, AreCovered, IsCover, entries_named, rules_named}
use Rattle.word_cover.specs.Cubes.{Cube, one_half, zero_half}
use Rattle.agreement_check.specs.Joins.{IsFirstOf}
use Rattle.agreement_check.specs.Pairs.{comes_before}
use Rattle.agreement_check.specs.Standing.{IsDifferenceOf, IsSound, JudgesClaim, claim_due_in, due_by, due_in, entry_count, header_of, list_in, own_sides, reading_by, reading_in, rule_count, table_in, taken_in}
use Rattle.agreement_check.specs.Texts.{Heading, entry_line, last_line, pair_line, rule_line}
use Rattle.agreement_check.specs.Verdict.{TakesHeading, all_of, counts_in, counts_of, with_claims}
use Rattle.agreement_check.specs.Views.{sides_in}
use Rattle.agreement_check.proofs.Ordered.{follows}

-- A cover of which all steps were taken.

in_yes : (b : Bool) (P : Type 0) → b ≡ true → OnTrue b P → P
in_yes true P e h = h
in_yes false P e h = absurd (cc e)

in_no : (b : Bool) (P : Type 0) → b ≡ false → OnFalse b P → P
in_no true P e h = absurd (cc e)
in_no false P e h = h

pub going : (s : Sides) (c : Claim) (steps : List Step) (cover : Cover) → StandsFor s c steps cover → cover.holds ≡ true → GoesOn s c steps cover
going s c steps cover st held = in_yes cover.holds (GoesOn s c steps cover) held st.holds

pub whole-covers : (s : Sides) (c : Claim) (steps : List Step) (cover : Cover) → StandsFor s c steps cover → cover.due ≡ 0 → cover.holds ≡ true → IsCover s c steps
whole-covers s c steps cover st none held =
    let g = going s c steps cover st held in
    let left : cover.left.items ≡ [] = nil_from_length cover.left.items (sym g.each_due ∙ none) in
    subst (IsCover s c) (append-nil steps) (g.enough [] (subst (λ (words : List Word). AreCovered s c (cubes_left words) []) (sym left) tt))

pub broken-covers : (s : Sides) (c : Claim) (steps : List Step) (cover : Cover) → StandsFor s c steps cover → cover.holds ≡ false → IsCover s c steps → ⊥
broken-covers s c steps cover st fell is =
    in_no cover.holds ((more : List Step) → IsCover s c (steps ++ more) → ⊥) fell st.fails [] (subst (IsCover s c) (sym (append-nil steps)) is)

-- a cover names only what it may
record Names (c : Claim) (steps : List Step) : Type 0 where
  rules : rules_named steps ≤ c.rules
  entries : entries_named steps ≤ c.entries

names-few : (s : Sides) (c : Claim) (cubes : List Cube) (steps : List Step) → AreCovered s c cubes steps → Names c steps
names-few s c [] [] h = record { rules = omega arith; entries = omega arith }
names-few s c [] (step ∷ steps) h = absurd h
names-few s c (cube ∷ cubes) [] h = absurd h
names-few s c (cube ∷ cubes) (Halved bit ∷ steps) h = (let n = names-few s c (zero_half cube bit ∷ one_half cube bit ∷ cubes) steps h.1 in record { rules = n.rules; entries = n.entries })
names-few s c (cube ∷ cubes) (InRule k ∷ steps) h = (let n = names-few s c cubes steps h.1 in record { rules = omega (arith, n.rules, h.0.0); entries = n.entries })
names-few s c (cube ∷ cubes) (InEntry k ∷ steps) h = (let n = names-few s c cubes steps h.1 in record { rules = n.rules; entries = omega (arith, n.entries, h.0.0) })
names-few s c (cube ∷ cubes) (Missed ∷ steps) h = (let n = names-few s c cubes steps h.1 in record { rules = n.rules; entries = n.entries })
names-few s c (cube ∷ cubes) (Late ∷ steps) h = (let n = names-few s c cubes steps h.1 in record { rules = n.rules; entries = n.entries })

capped : (a b m n : ℕ) → a ≡ min b m → b ≤ n → n ≤ m → a ≡ b
capped a b m n e f g = omega (arith, e, f, g)

pub rules-are : (s : Sides) (c : Claim) (steps : List Step) (cover : Cover) → StandsFor s c steps cover → cover.due ≡ 0 → cover.holds ≡ true → c.rules ≤ 4294967295 → cover.rules ≡ rules_named steps
rules-are s c steps cover st none held few =
    capped cover.rules (rules_named steps) 4294967295 c.rules (going s c steps cover st held).rules (names-few s c (c.cube ∷ []) steps (whole-covers s c steps cover st none held)).rules few

pub entries-are : (s : Sides) (c : Claim) (steps : List Step) (cover : Cover) → StandsFor s c steps cover → cover.due ≡ 0 → cover.holds ≡ true → c.entries ≤ 4294967295 → cover.entries ≡ entries_named steps
entries-are s c steps cover st none held few =
    capped cover.entries (entries_named steps) 4294967295 c.entries (going s c steps cover st held).entries (names-few s c (c.cube ∷ []) steps (whole-covers s c steps cover st none held)).entries few

pub not-due : (b : Bool) (n : ℕ) → (IsTrue b ↔ (0 < n)) → b ≡ false → n ≡ 0
not-due b zero iff e = refl
not-due b (suc n) iff e = absurd (true≢false (sym (iff.1 (omega arith)) ∙ e))

-- Which line is due.

record IsBegun (st : Stage) (kind due_now : Due) : Type 0 where
  begun : st ≡ stage.Begun
  same : kind ≡ due_now

entry_due : (st : Stage) (kind : Due) → due_by st kind ≡ due.Entry → IsBegun st kind due.Entry
entry_due stage.Fresh kind e = absurd (cc e)
entry_due stage.Begun kind e = record { begun = refl; same = e }
entry_due stage.Ended kind e = absurd (cc e)

rule_due : (st : Stage) (kind : Due) → due_by st kind ≡ due.Rule → IsBegun st kind due.Rule
rule_due stage.Fresh kind e = absurd (cc e)
rule_due stage.Begun kind e = record { begun = refl; same = e }
rule_due stage.Ended kind e = absurd (cc e)

pair_due : (st : Stage) (kind : Due) → due_by st kind ≡ due.Pair → IsBegun st kind due.Pair
pair_due stage.Fresh kind e = absurd (cc e)
pair_due stage.Begun kind e = record { begun = refl; same = e }
pair_due stage.Ended kind e = absurd (cc e)

-- by the two tests, of how many entries and rules had a line
abbrev kind_by : Bool → Bool → Due
kind_by entries rules = if entries then due.Entry else (if rules then due.Rule else due.Pair)

entry_by : (a b : ℕ) (t r : Bool) → nat_le a b ≡ t → kind_by t r ≡ due.Entry → a ≤ b
entry_by a b true r e d = leb-true a b e
entry_by a b false true e d = absurd (cc d)
entry_by a b false false e d = absurd (cc d)

record IsRuleBy (a b k n : ℕ) : Type 0 where
  entries : b < a
  rules : k ≤ n

rule_by : (a b k n : ℕ) (t r : Bool) → nat_le a b ≡ t → nat_le k n ≡ r → kind_by t r ≡ due.Rule → IsRuleBy a b k n
rule_by a b k n true r e f d = absurd (cc d)
rule_by a b k n false true e f d = record { entries = leb-false a b e; rules = leb-true k n f }
rule_by a b k n false false e f d = absurd (cc d)

record IsPairBy (a b k n : ℕ) : Type 0 where
  entries : b < a
  rules : n < k

pair_by : (a b k n : ℕ) (t r : Bool) → nat_le a b ≡ t → nat_le k n ≡ r → kind_by t r ≡ due.Pair → IsPairBy a b k n
pair_by a b k n true r e f d = absurd (cc d)
pair_by a b k n false true e f d = absurd (cc d)
pair_by a b k n false false e f d = record { entries = leb-false a b e; rules = leb-false k n f }

-- the line of an entry is due, of a rule, or of a pair or the last one
pub record EntryIsDue (c : Claims) : Type 0 where
  pub begun : c.stage ≡ stage.Begun
  pub kind : claim_due_in c ≡ due.Entry
  pub few : length c.entries.items ≤ entry_count c

pub record RuleIsDue (c : Claims) : Type 0 where
  pub begun : c.stage ≡ stage.Begun
  pub kind : claim_due_in c ≡ due.Rule
  pub entries : entry_count c < length c.entries.items
  pub few : length c.rules.items ≤ rule_count c

pub record PairIsDue (c : Claims) : Type 0 where
  pub begun : c.stage ≡ stage.Begun
  pub kind : claim_due_in c ≡ due.Pair
  pub entries : entry_count c < length c.entries.items
  pub rules : rule_count c < length c.rules.items

pub entry-due : (c : Claims) → due_in c ≡ due.Entry → EntryIsDue c
entry-due c e =
    let d = entry_due c.stage (claim_due_in c) e in
    record { begun = d.begun; kind = d.same; few = entry_by (length c.entries.items) (entry_count c) _ (nat_le (length c.rules.items) (rule_count c)) refl d.same }

pub rule-due : (c : Claims) → due_in c ≡ due.Rule → RuleIsDue c
rule-due c e =
    let d = rule_due c.stage (claim_due_in c) e in
    let f = rule_by (length c.entries.items) (entry_count c) (length c.rules.items) (rule_count c) _ _ refl refl d.same in
    record { begun = d.begun; kind = d.same; entries = f.entries; few = f.rules }

pub pair-due : (c : Claims) → due_in c ≡ due.Pair → PairIsDue c
pair-due c e =
    let d = pair_due c.stage (claim_due_in c) e in
    let f = pair_by (length c.entries.items) (entry_count c) (length c.rules.items) (rule_count c) _ _ refl refl d.same in
    record { begun = d.begun; kind = d.same; entries = f.entries; rules = f.rules }

-- What is taken.

same_taken : (t u : Taken) → t.before ≡ u.before → t.entries ≡ u.entries → t.rules ≡ u.rules → t.pairs ≡ u.pairs → t ≡ u
same_taken t u b e r p =
    ap (λ x. record { before = x; entries = t.entries; rules = t.rules; pairs = t.pairs }) b
    ∙ ap (λ x. record { before = u.before; entries = x; rules = t.rules; pairs = t.pairs }) e
    ∙ ap (λ x. record { before = u.before; entries = u.entries; rules = x; pairs = t.pairs }) r
    ∙ ap (λ x. record { before = u.before; entries = u.entries; rules = u.rules; pairs = x }) p

reads_begun : (c : Claims) (t : Taken) → c.stage ≡ stage.Begun → taken_in c ≡ t → reading_in c ≡ with_claims t
reads_begun c t e f = ap (λ st. reading_by st (taken_in c)) e ∙ ap with_claims f

-- the line of an entry is taken, or wrong
pub entry-taken : (old new : Claims) (steps : List Step) (cover : Cover) → old.stage ≡ stage.Begun → new.stage ≡ old.stage → new.difference ≡ old.difference → new.rules.items ≡ old.rules.items →
    new.pairs.items ≡ old.pairs.items → new.entries.items ≡ old.entries.items ++ cover.rules ∷ [] → rule_count old < 4294967295 →
    StandsFor (own_sides old) (entry_claim (own_sides old) (length old.entries.items)) steps cover → cover.due ≡ 0 → cover.holds ≡ true → JudgesClaim old (entry_line steps) None new
entry-taken old new steps cover begun st d r p e few stands none held =
    let s = own_sides old in
    let claim = entry_claim s (length old.entries.items) in
    let named = rules-are s claim steps cover stands none held (omega (arith, few)) in (
      whole-covers s claim steps cover stands none held,
      reads_begun new (record (taken_in old) { entries = old.entries.items ++ rules_named steps ∷ [] }) (st ∙ begun)
          (same_taken _ _ (ap header_of d) (e ∙ ap (λ n. old.entries.items ++ n ∷ []) named) r p),
    )

pub entry-fails : (old new : Claims) (steps : List Step) (cover : Cover) → StandsFor (own_sides old) (entry_claim (own_sides old) (length old.entries.items)) steps cover → cover.holds ≡ false →
    JudgesClaim old (entry_line steps) (Some whys.EntryCover) new
entry-fails old new steps cover stands fell = (refl, broken-covers (own_sides old) (entry_claim (own_sides old) (length old.entries.items)) steps cover stands fell)

-- that of a rule
pub rule-taken : (old new : Claims) (steps : List Step) (cover : Cover) → old.stage ≡ stage.Begun → new.stage ≡ old.stage → new.difference ≡ old.difference → new.entries.items ≡ old.entries.items →
    new.pairs.items ≡ old.pairs.items → new.rules.items ≡ old.rules.items ++ cover.entries ∷ [] → entry_count old < 4294967295 →
    StandsFor (own_sides old) (rule_claim (own_sides old) (length old.rules.items)) steps cover → cover.due ≡ 0 → cover.holds ≡ true → JudgesClaim old (rule_line steps) None new
rule-taken old new steps cover begun st d e p r few stands none held =
    let s = own_sides old in
    let claim = rule_claim s (length old.rules.items) in
    let named = entries-are s claim steps cover stands none held (omega (arith, few)) in (
      whole-covers s claim steps cover stands none held,
      reads_begun new (record (taken_in old) { rules = old.rules.items ++ entries_named steps ∷ [] }) (st ∙ begun)
          (same_taken _ _ (ap header_of d) e (r ∙ ap (λ n. old.rules.items ++ n ∷ []) named) p),
    )

pub rule-fails : (old new : Claims) (steps : List Step) (cover : Cover) → StandsFor (own_sides old) (rule_claim (own_sides old) (length old.rules.items)) steps cover → cover.holds ≡ false →
    JudgesClaim old (rule_line steps) (Some whys.RuleCover) new
rule-fails old new steps cover stands fell = (refl, broken-covers (own_sides old) (rule_claim (own_sides old) (length old.rules.items)) steps cover stands fell)

-- that of a pair
pub pair-taken : (old new : Claims) (p : Pair) (steps : List Step) (cover : Cover) → old.stage ≡ stage.Begun → new.stage ≡ old.stage → new.difference ≡ old.difference → new.entries.items ≡ old.entries.items →
    new.rules.items ≡ old.rules.items → new.pairs.items ≡ old.pairs.items ++ p ∷ [] → ComesNext old.pairs.items p → StandsFor (own_sides old) (pair_claim (own_sides old) p) steps cover →
    cover.due ≡ 0 → cover.holds ≡ true → JudgesClaim old (pair_line p steps) None new
pair-taken old new p steps cover begun st d e r pairs next stands none held = (
  next,
  whole-covers (own_sides old) (pair_claim (own_sides old) p) steps cover stands none held,
  reads_begun new (record (taken_in old) { pairs = old.pairs.items ++ p ∷ [] }) (st ∙ begun) (same_taken _ _ (ap header_of d) e r pairs),
)

pub pair-fails : (old new : Claims) (p : Pair) (steps : List Step) (cover : Cover) → ComesNext old.pairs.items p → StandsFor (own_sides old) (pair_claim (own_sides old) p) steps cover → cover.holds ≡ false →
    JudgesClaim old (pair_line p steps) (Some whys.PairCover) new
pair-fails old new p steps cover next stands fell = inr (refl, next, broken-covers (own_sides old) (pair_claim (own_sides old) p) steps cover stands fell)

-- The last line.

same_pair : (p q : Pair) → p.rule ≡ q.rule → p.entry ≡ q.entry → p ≡ q
same_pair p q a b = ap (λ n. record { rule = n; entry = p.entry }) a ∙ ap (λ n. record { rule = q.rule; entry = n }) b

only_else : (q : Pair) (pairs : List Pair) (p : Pair) → (Contains pairs p → ⊥) → (q ≡ p → ⊥) → Contains (q ∷ pairs) p → ⊥
only_else q pairs p none other (zero, less, is) = other is
only_else q pairs p none other (suc k, less, is) = none (k, omega (arith, less), is)

has_or : (pairs : List Pair) (p : Pair) → Contains pairs p ⊎ (Contains pairs p → ⊥)
has_or [] p = inr (λ h. omega (arith, h.1))
has_or (q ∷ pairs) p = elim (has_or pairs p) [
  | inl h ↦ inl (suc h.0, omega (arith, h.1), h.2)
  | inr none ↦ elim (eqb_tells q.rule p.rule) [
    | inr other ↦ inr (only_else q pairs p none (λ e. other.1 (ap (λ (x : Pair). x.rule) e)))
    | inl rule ↦ elim (eqb_tells q.entry p.entry) [
      | inr other ↦ inr (only_else q pairs p none (λ e. other.1 (ap (λ (x : Pair). x.entry) e)))
      | inl entry ↦ inl (0, omega arith, same_pair q p rule.1 entry.1)
    ]
  ]
]

pub each-has-line : (s : Sides) (t : Taken) → IsFirstOf s t (λ _. Unit {0}) None → EachHasLine s t
each-has-line s t f p is = elim (has_or t.pairs p) [ inl h ↦ h | inr none ↦ absurd (f.first p tt (record { open_pair = is; without = none })) ]

first_missing : (s : Sides) (t : Taken) (p : Pair) → IsFirstOf s t (λ _. Unit {0}) (Some p) → IsFirstMissing s t p
first_missing s t p f = record { missing = f.missing; first = λ q m before. true≢false (sym before ∙ f.first q tt m) }

pub pair-missing : (old new : Claims) (k : ℕ) (p : Pair) (why : Why) → IsFirstOf (own_sides old) (taken_in old) (λ _. Unit {0}) (Some p) → why ≡ whys.PairMissing (p.rule + 1) (p.entry + 1) →
    JudgesClaim old (last_line k) (Some why) new
pair-missing old new k p why f e = inl (p, e, first_missing (own_sides old) (taken_in old) p f)

pub pairs-differ : (old new : Claims) (k : ℕ) (why : Why) → IsFirstOf (own_sides old) (taken_in old) (λ _. Unit {0}) None → why ≡ whys.PairsDiffer k (length old.pairs.items) → k ≢ length old.pairs.items →
    JudgesClaim old (last_line k) (Some why) new
pairs-differ old new k why f e other = inr (e, each-has-line (own_sides old) (taken_in old) f, other)

pub last-taken : (old new : Claims) (k : ℕ) → IsFirstOf (own_sides old) (taken_in old) (λ _. Unit {0}) None → k ≡ length old.pairs.items → new.stage ≡ stage.Ended → taken_in new ≡ taken_in old →
    JudgesClaim old (last_line k) None new
last-taken old new k f e st t = (each-has-line (own_sides old) (taken_in old) f, e, ap (λ x. reading_by x (taken_in new)) st ∙ ap all_of t)

-- What stays sound.

-- pairs that rise, and one behind them
pub rising-push : (pairs : List Pair) (p : Pair) → AllPairs (λ q r. comes_before q r ≡ true) pairs → ComesNext pairs p → AllPairs (λ q r. comes_before q r ≡ true) (pairs ++ p ∷ [])
rising-push pairs p rise next = all_pairs_push (λ q r. comes_before q r ≡ true) pairs p rise (λ k d less.
    let last = slice_index_or pairs (length pairs - 1) d in
    let before : comes_before last p ≡ true = next last (slice_get-get_or pairs (length pairs - 1) d (omega (arith, less))) in
    elim (cases_lt k (length pairs - 1)) [
      | inl low ↦ follows (slice_index_or pairs k d) last p (rise k (length pairs - 1) d low (omega (arith, less))) before
      | inr high ↦ (let e : length pairs - 1 ≡ k = omega (arith, less, high) in subst (λ n. comes_before (slice_index_or pairs n d) p ≡ true) e before)
    ])

sound_with : (old new : Claims) → IsSound old → new.sides ≡ old.sides → new.difference ≡ old.difference → (new.stage ≡ stage.Fresh → ⊥) → length new.entries.items ≤ entry_count new + 1 →
    length new.rules.items ≤ rule_count new + 1 → AllPairs (λ p q. comes_before p q ≡ true) new.pairs.items → IsSound new
sound_with old new sound s d fresh entries rules rising = record {
  bound = ap (λ (x : Sides). x.bound) (ap sides_in s) ∙ sound.bound ∙ ap (λ x. bound_of (header_of x)) (sym d);
  fresh = λ e. absurd (fresh e);
  few_entries = entries;
  few_rules = rules;
  rising = rising;
  names =
      subst (λ x. IfSome x (IsDifferenceOf (list_in new) (table_in new))) (sym d)
      (subst (λ (x : Sides). IfSome old.difference (IsDifferenceOf x.list x.table)) (sym (ap sides_in s)) sound.names);
}

not_fresh : (st : Stage) → st ≡ stage.Begun → st ≡ stage.Fresh → ⊥
not_fresh stage.Fresh e f = absurd (cc e)
not_fresh stage.Begun e f = absurd (cc f)
not_fresh stage.Ended e f = absurd (cc e)

same_counts : (old new : Claims) → new.sides ≡ old.sides → (entry_count new ≡ entry_count old) × (rule_count new ≡ rule_count old)
same_counts old new s = (ap (λ (x : Sides). length x.table.entries.items) (ap sides_in s), ap (λ (x : Sides). length x.list.rules.items) (ap sides_in s))

pub entry-sound : (old new : Claims) (n : ℕ) → IsSound old → EntryIsDue old → new.sides ≡ old.sides → new.difference ≡ old.difference → new.stage ≡ old.stage → new.entries.items ≡ old.entries.items ++ n ∷ [] →
    new.rules.items ≡ old.rules.items → new.pairs.items ≡ old.pairs.items → IsSound new
entry-sound old new n sound is s d st e r p =
    let counts = same_counts old new s in
    sound_with old new sound s d (not_fresh new.stage (st ∙ is.begun)) (omega (arith, ap length e, length_push old.entries.items n, is.few, counts.0))
    (omega (arith, ap length r, sound.few_rules, counts.1)) (subst (AllPairs (λ p q. comes_before p q ≡ true)) (sym p) sound.rising)

pub rule-sound : (old new : Claims) (n : ℕ) → IsSound old → RuleIsDue old → new.sides ≡ old.sides → new.difference ≡ old.difference → new.stage ≡ old.stage → new.entries.items ≡ old.entries.items →
    new.rules.items ≡ old.rules.items ++ n ∷ [] → new.pairs.items ≡ old.pairs.items → IsSound new
rule-sound old new n sound is s d st e r p =
    let counts = same_counts old new s in
    sound_with old new sound s d (not_fresh new.stage (st ∙ is.begun)) (omega (arith, ap length e, sound.few_entries, counts.0))
    (omega (arith, ap length r, length_push old.rules.items n, is.few, counts.1)) (subst (AllPairs (λ p q. comes_before p q ≡ true)) (sym p) sound.rising)

pub pair-sound : (old new : Claims) (pair : Pair) → IsSound old → PairIsDue old → new.sides ≡ old.sides → new.difference ≡ old.difference → new.stage ≡ old.stage → new.entries.items ≡ old.entries.items →
    new.rules.items ≡ old.rules.items → new.pairs.items ≡ old.pairs.items ++ pair ∷ [] → ComesNext old.pairs.items pair → IsSound new
pair-sound old new pair sound is s d st e r p next =
    let counts = same_counts old new s in
    sound_with old new sound s d (not_fresh new.stage (st ∙ is.begun)) (omega (arith, ap length e, sound.few_entries, counts.0)) (omega (arith, ap length r, sound.few_rules, counts.1))
    (subst (AllPairs (λ p q. comes_before p q ≡ true)) (sym p) (rising-push old.pairs.items pair sound.rising next))

-- lists and tables are short
pub few-rules : (list : RuleList) → length list.rules.items ≤ 65536
few-rules list = (let few = list.few in let ok = list.rules.ok.0 in omega arith)

pub few-entries : (table : Table) → length table.entries.items ≤ 262144
few-entries table = (let few = table.few in let ok = table.entries.ok.0 in omega arith)

-- The first line, which states a header.

pub difference-taken : (c : Claims) (h : Heading) (d : Difference) (header : Header) (values : List ℕ) → IsSound c → c.stage ≡ stage.Fresh → h.before ≡ Some values →
    counts_in h ≡ counts_of (list_in c) (table_in c) → (AgreeOn (list_in c) (table_in c) header.values → ⊥) → header.values ≡ values → d.header ≡ header →
    TakesHeading (list_in c) (table_in c) (Some h) (with_claims (record { before = Some d.header.values; entries = c.entries.items; rules = c.rules.items; pairs = c.pairs.items }))
difference-taken c h d header values sound fresh is counts differ same has =
    let none = sound.fresh fresh in (
      counts,
      λ alike. differ (subst (AgreeOn (list_in c) (table_in c)) (sym (same ∙ same_Some values alike.0 (sym is ∙ alike.1))) alike.2),
      ap with_claims
          (same_taken _ _ (ap (λ (x : Header). Some x.values) has ∙ ap (λ (x : List ℕ). Some x) same ∙ sym is) (ap (λ (t : Taken). t.entries) none) (ap (λ (t : Taken). t.rules) none) (ap (λ (t : Taken). t.pairs) none)),
    )

-- The pair of two numbers.

pub pair-of : (ns : List ℕ) (d e i j : ℕ) → ns ≡ i ∷ j ∷ [] → (let p : Pair = record { rule = slice_index_or ns 0 d; entry = slice_index_or ns 1 e } in p) ≡ record { rule = i; entry = j }
pair-of ns d e i j is = same_pair (record { rule = slice_index_or ns 0 d; entry = slice_index_or ns 1 e }) (record { rule = i; entry = j }) (ap (λ xs. slice_index_or xs 0 d) is) (ap (λ xs. slice_index_or xs 1 e) is)

pub pair-cover-fails : (old new : Claims) (q p : Pair) (steps : List Step) (cover : Cover) → q ≡ p → ComesNext old.pairs.items q → StandsFor (own_sides old) (pair_claim (own_sides old) p) steps cover → cover.holds ≡ false →
    JudgesClaim old (pair_line p steps) (Some whys.PairCover) new
pair-cover-fails old new q p steps cover e next stands fell = pair-fails old new p steps cover (subst (ComesNext old.pairs.items) e next) stands fell

pub pair-pushed : (old new : Claims) (q p : Pair) (steps : List Step) (cover : Cover) → q ≡ p → old.stage ≡ stage.Begun → new.stage ≡ old.stage → new.difference ≡ old.difference →
    new.entries.items ≡ old.entries.items → new.rules.items ≡ old.rules.items → new.pairs.items ≡ old.pairs.items ++ q ∷ [] → ComesNext old.pairs.items q →
    StandsFor (own_sides old) (pair_claim (own_sides old) p) steps cover → cover.due ≡ 0 → cover.holds ≡ true → JudgesClaim old (pair_line p steps) None new
pair-pushed old new q p steps cover e begun st d en r pairs next stands none held =
    pair-taken old new p steps cover begun st d en r (pairs ∙ ap (λ x. old.pairs.items ++ x ∷ []) e) (subst (ComesNext old.pairs.items) e next) stands none held

-- What the lines that were taken show, and what a valid text shows.
use Rattle.std.proofs.Common.{◌≡◌, ◌∷◌, ◌++◌, ℕ, zero, suc, ◌^◌, ◌<◌, List, [], Bool, true, false, Option, Some, None, IfSome, Contains, length, slice_index, refl, sym, subst, arith, inl, inr}
use Rattle.std.proofs.lemmas.Bool.{cases_lt}
use Rattle.std.proofs.lemmas.List.{length-append}
use Rattle.std.proofs.lemmas.List.Elements.{Contains-append_cases}
use Rattle.field_boxes.specs.declared.rule_list.RuleList.{RuleList}
use Rattle.field_boxes.specs.Fields.{ComesBefore}
use Rattle.field_boxes.specs.Headline.Fields.{IsHeader}
use Rattle.ternary_words.specs.declared.table.Table.{Table}
use Rattle.ternary_words.specs.Word.{key_of}
use Rattle.partition_check.specs.Agreement.{AgreeOn}
use Rattle.partition_check.specs.CertificateText.{lines_of}
use Rattle.partition_check.proofs.Soundness.{FirstAnswers}
use Rattle.agreement_check.specs.declared.pair.Pair.{Pair}
use Rattle.agreement_check.specs.declared.valid.Shown.{Shown}
use Rattle.agreement_check.specs.declared.valid.Shown.TheVariants.{Equal, Differ}
use Rattle.agreement_check.specs.declared.valid.Valid.{Valid}
use Rattle.agreement_check.specs.Answers.{IsTrueOf}
use Rattle.agreement_check.specs.Claims.{EachHasLine, Taken, begun, sides_of}
use Rattle.agreement_check.specs.Covers.{entries_named, rules_named}
use Rattle.agreement_check.specs.Standing.{StatesHeader}
use Rattle.agreement_check.specs.Texts.{Heading, Line, entry_line, heading_of, last_line, pair_line, rule_line, words_of}
use Rattle.agreement_check.specs.Verdict.{EntriesAreDone, IsShown, IsValid, Reading, RulesAreDone, TakesAll, TakesHeading, TakesNext, TakesWords, all_of, line_in, started, with_claims}
use Rattle.agreement_check.proofs.Headings.{states-header}
use Rattle.word_cover.proofs.Members.{key-small}
use Rattle.agreement_check.proofs.Sound.{AreProved, IsBelow, agree-below, entry-limits, first_entry, first_rule, never-first, rule-limits}

-- One number more.

pub index-front : (xs : List ℕ) (y k : ℕ) → k < length xs → slice_index (xs ++ y ∷ []) k ≡ slice_index xs k
index-front [] y k h = absurd (omega (arith, h))
index-front (x ∷ xs) y zero h = refl
index-front (x ∷ xs) y (suc k) h = index-front xs y k (omega (arith, h))

pub index-last : (xs : List ℕ) (y : ℕ) → slice_index (xs ++ y ∷ []) (length xs) ≡ y
index-last [] y = refl
index-last (x ∷ xs) y = index-last xs y

-- what holds of each number, and of one more
each-push : (P : ℕ → ℕ → Type 0) (xs : List ℕ) (y : ℕ) → ((k : ℕ) → k < length xs → P k (slice_index xs k)) → P (length xs) y → (k : ℕ) → k < length (xs ++ y ∷ []) → P k (slice_index (xs ++ y ∷ []) k)
each-push P xs y each here k h = elim (cases_lt k (length xs)) [
  | inl less ↦ subst (P k) (sym (index-front xs y k less)) (each k less)
  | inr more ↦
      let e : length xs ≡ k = omega (arith, h, more, length-append xs (y ∷ [])) in
      subst (λ n. P n (slice_index (xs ++ y ∷ []) n)) e (subst (P (length xs)) (sym (index-last xs y)) here)
]

only : {X : Type 0} (x y : X) → Contains (x ∷ []) y → x ≡ y
only x y (zero, less, is) = is
only x y (suc k, less, is) = absurd (omega (arith, less))

-- What was taken.

pub record IsTrueTaken (list : RuleList) (table : Table) (t : Taken) : Type 0 where
  pub stated : IfSome t.before IsHeader
  pub differ : (header : List ℕ) → t.before ≡ Some header → AgreeOn list table header → ⊥
  pub proved : AreProved (sides_of list table t) t

pub record IsWhole (list : RuleList) (table : Table) (t : Taken) : Type 0 where
  pub is_true : IsTrueTaken list table t
  pub entries : EntriesAreDone (sides_of list table t) t
  pub rules : RulesAreDone (sides_of list table t) t
  pub each : EachHasLine (sides_of list table t) t

abbrev KeptBy : RuleList → Table → Option Taken → Bool → Type 0
KeptBy list table None ended = Unit {0}
KeptBy list table (Some t) false = IsTrueTaken list table t
KeptBy list table (Some t) true = IsWhole list table t

abbrev Kept : RuleList → Table → Reading → Type 0
Kept list table r = KeptBy list table r.taken r.ended

as_kept : (list : RuleList) (table : Table) (r s : Reading) → r ≡ s → Kept list table s → Kept list table r
as_kept list table r s e k = subst (λ (x : Reading). Kept list table x) (sym e) k

none_proved : (list : RuleList) (table : Table) (before : Option (List ℕ)) → AreProved (sides_of list table (begun before)) (begun before)
none_proved list table before = record {
  entries = λ j less h b e. absurd (omega (arith, less));
  rules = λ i less h b e. absurd (omega (arith, less));
  pairs = λ p has h b e f. absurd (omega (arith, has.1));
}

heading_kept : (list : RuleList) (table : Table) (o : Option Heading) (after : Reading) → StatesHeader o → TakesHeading list table o after → Kept list table after
heading_kept list table None after states t = absurd t
heading_kept list table (Some h) after states t = as_kept list table after (with_claims (begun h.before)) t.2 (record {
  stated = states;
  differ = λ header e agree. t.1 (header, e, agree);
  proved = none_proved list table h.before;
})

line_kept : (list : RuleList) (table : Table) (t : Taken) (o : Option Line) (after : Reading) → IsTrueTaken list table t → TakesNext (sides_of list table t) t o after → Kept list table after
line_kept list table t None after k n = absurd n
line_kept list table t (Some (entry_line steps)) after k n =
    let s = sides_of list table t in
    as_kept list table after (with_claims (record t { entries = t.entries ++ rules_named steps ∷ [] })) n.1.1 (record {
      stated = k.stated;
      differ = k.differ;
      proved = record {
        entries = each-push (λ j n. (h : List ℕ) → IsBelow s h → first_entry s h ≡ j → first_rule s h < n) t.entries (rules_named steps) k.proved.entries (entry-limits s (length t.entries) steps n.1.0);
        rules = k.proved.rules;
        pairs = k.proved.pairs;
      };
    })
line_kept list table t (Some (rule_line steps)) after k n =
    let s = sides_of list table t in
    as_kept list table after (with_claims (record t { rules = t.rules ++ entries_named steps ∷ [] })) n.1.1 (record {
      stated = k.stated;
      differ = k.differ;
      proved = record {
        entries = k.proved.entries;
        rules = each-push (λ i n. (h : List ℕ) → IsBelow s h → first_rule s h ≡ i → first_entry s h < n) t.rules (entries_named steps) k.proved.rules (rule-limits s (length t.rules) steps n.1.0);
        pairs = k.proved.pairs;
      };
    })
line_kept list table t (Some (pair_line p steps)) after k n =
    let s = sides_of list table t in
    let never = never-first s p steps n.1.1 in
    as_kept list table after (with_claims (record t { pairs = t.pairs ++ p ∷ [] })) n.1.2 (record {
      stated = k.stated;
      differ = k.differ;
      proved = record {
        entries = k.proved.entries;
        rules = k.proved.rules;
        pairs = λ q has. elim (Contains-append_cases t.pairs (p ∷ []) q has) [
          | inl before ↦ k.proved.pairs q before
          | inr last ↦ subst (λ (x : Pair). (h : List ℕ) → IsBelow s h → first_rule s h ≡ x.rule → first_entry s h ≡ x.entry → ⊥) (only p q last) never
        ];
      };
    })
line_kept list table t (Some (last_line k_)) after k n = as_kept list table after (all_of t) n.1.2 (record { is_true = k; entries = n.0.0; rules = n.0.1; each = n.1.0 })

words_kept : (list : RuleList) (table : Table) (taken : Option Taken) (ended : Bool) (words : List (List ℕ)) (after : Reading) → KeptBy list table taken ended → TakesWords list table taken ended words after →
    Kept list table after
words_kept list table None ended words after k t = heading_kept list table (heading_of words) after (states-header words) t
words_kept list table (Some taken) false words after k t = line_kept list table taken (line_in list table taken words) after k t
words_kept list table (Some taken) true words after k t = absurd t

all_kept : (list : RuleList) (table : Table) (lines : List (List ℕ)) (r after : Reading) → Kept list table r → TakesAll list table r lines after → Kept list table after
all_kept list table [] r after k t = as_kept list table after r t k
all_kept list table (line ∷ lines) r after k t = all_kept list table lines t.0 after (words_kept list table r.taken r.ended (words_of line) t.0 k t.1) t.2

-- What is shown.

key_before : (g h : List ℕ) → IsHeader g → IsHeader h → ComesBefore g h → key_of g < key_of h
key_before (a ∷ b ∷ c ∷ d ∷ e ∷ []) (p ∷ q ∷ r ∷ s ∷ t ∷ []) is has (inl less) = omega (arith, less, is.0, is.1.0, is.1.1.0, is.1.1.1.0, is.1.1.1.1.0, has.0)
key_before (a ∷ b ∷ c ∷ d ∷ e ∷ []) (p ∷ q ∷ r ∷ s ∷ t ∷ []) is has (inr (e0, inl less)) = omega (arith, e0, less, is.1.0, is.1.1.0, is.1.1.1.0, is.1.1.1.1.0)
key_before (a ∷ b ∷ c ∷ d ∷ e ∷ []) (p ∷ q ∷ r ∷ s ∷ t ∷ []) is has (inr (e0, inr (e1, inl less))) = omega (arith, e0, e1, less, is.1.1.0, is.1.1.1.0, is.1.1.1.1.0)
key_before (a ∷ b ∷ c ∷ d ∷ e ∷ []) (p ∷ q ∷ r ∷ s ∷ t ∷ []) is has (inr (e0, inr (e1, inr (e2, inl less)))) = omega (arith, e0, e1, e2, less, is.1.1.1.0, is.1.1.1.1.0)
key_before (a ∷ b ∷ c ∷ d ∷ e ∷ []) (p ∷ q ∷ r ∷ s ∷ t ∷ []) is has (inr (e0, inr (e1, inr (e2, inr (e3, inl less))))) = omega (arith, e0, e1, e2, e3, less)
key_before (a ∷ b ∷ c ∷ d ∷ e ∷ []) (p ∷ q ∷ r ∷ s ∷ t ∷ []) is has (inr (e0, inr (e1, inr (e2, inr (e3, inr last))))) = absurd last.1
key_before g h is has before = absurd assumption

below : FirstAnswers → (list : RuleList) (table : Table) (t : Taken) → IsWhole list table t → (h : List ℕ) → IsBelow (sides_of list table t) h → AgreeOn list table h
below law list table t w = agree-below law (sides_of list table t) t w.is_true.proved w.entries w.rules w.each

shown_of : FirstAnswers → (list : RuleList) (table : Table) (t : Taken) (shown : Shown) → IsWhole list table t → IsShown list table t.before shown → IsTrueOf list table shown
shown_of law list table t Equal w e = λ header is.
    let bound : (sides_of list table t).bound ≡ 2 ^ 104 = rw e refl in
    below law list table t w header (record { is = is; before = omega (arith, bound, key-small header is) })
shown_of law list table t (Differ d) w e =
    let bound : (sides_of list table t).bound ≡ key_of d.header.values = rw e.0 refl in
    let is : IsHeader d.header.values = subst (λ (o : Option (List ℕ)). IfSome o IsHeader) e.0 w.is_true.stated in
    record {
      in_fields = is;
      differ = w.is_true.differ d.header.values e.0;
      least = λ others has before. below law list table t w others (record { is = has; before = omega (arith, bound, key_before others d.header.values has is before) });
    }

pub shown-true : FirstAnswers → (list : RuleList) (table : Table) (text : List ℕ) (v : Valid) → IsValid list table text v → IsTrueOf list table v.shown
shown-true law list table text v valid = shown_of law list table valid.taken v.shown (all_kept list table (lines_of text).whole started (all_of valid.taken) tt valid.takes) valid.shown

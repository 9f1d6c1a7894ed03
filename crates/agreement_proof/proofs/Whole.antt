-- The proof that is completed is right.
use Rattle.std.proofs.Common.{◌≡◌, ◌∷◌, ◌++◌, ◌∙◌, ◌≢◌, ℕ, ◌+◌, ◌<◌, ◌≤◌, ◌^◌, List, [], Option, Some, None, Contains, ap, arith, codes, get_or, inl, inr, length, map, refl, slice_get, slice_index, subst, sym, option_map}
use Rattle.std.specs.Fmt.{decimal}
use Rattle.std.specs.List.{flat_map}
use Rattle.std.proofs.lemmas.Bool.{cases_lt}
use Rattle.std.proofs.lemmas.List.{get_or_past, length-map}
use Rattle.std.proofs.lemmas.Option.{none-some, same_Some}
use Rattle.field_boxes.specs.declared.header.Header.{Header}
use Rattle.field_boxes.specs.declared.rule_list.RuleList.{RuleList}
use Rattle.field_boxes.specs.Fields.{ComesBefore}
use Rattle.field_boxes.specs.Headline.Fields.{IsHeader}
use Rattle.field_boxes.proofs.Ordered.{ordered}
use Rattle.ternary_words.specs.declared.table.Table.{Table}
use Rattle.ternary_words.specs.Word.{key_of}
use Rattle.partition_check.specs.Agreement.{Agree, AgreeOn}
use Rattle.agreement_check.specs.declared.pair.Pair.{Pair}
use Rattle.agreement_check.specs.declared.valid.Valid.{Valid}
use Rattle.agreement_check.specs.Claims.{IsOpenPair, Taken, bound_of, entry_claim, rule_claim, sides_of}
use Rattle.agreement_check.specs.Covers.{Sides, entries_named, rules_named}
use Rattle.agreement_check.specs.Pairs.{comes_before}
use Rattle.agreement_check.specs.Proofs.{Cover, Covered, IsRight, Proof, cover_text, heading_text, pair_text, pairs_of, proof_text, steps_in, taken_of}
use Rattle.agreement_check.specs.Verdict.{IsShown, IsValid}
use Rattle.agreement_check.proofs.Ordered.{before as comes_first}
use Rattle.table_equiv.specs.Found.{IsFound}
use Rattle.word_cover.proofs.Members.{key-small}
use Rattle.table_equiv.proofs.Keys.{key-before}
use Rattle.agreement_proof.specs.Outcome.{AgreeBelow, values_of}
use Rattle.agreement_proof.specs.Texts.{IsWithin, PutsCovers, PutsPairs, reaching}

-- Below the bound they agree.

five_long : (h : List ℕ) → IsHeader h → length h ≡ 5
five_long (a ∷ b ∷ c ∷ d ∷ e ∷ []) is = refl
five_long h is = absurd assumption

before_found : (g h : List ℕ) → IsHeader g → IsHeader h → key_of g < key_of h → ComesBefore g h
before_found g h is has less = elim (ordered g h (five_long g is ∙ sym (five_long h has))) [
  | inl early ↦ early
  | inr (inl same) ↦ absurd (let e : key_of g ≡ key_of h = ap key_of same in omega (arith, less, e))
  | inr (inr late) ↦ absurd (let more : key_of h < key_of g = key-before h g has is late in omega (arith, less, more))
]

pub agree-below : (list : RuleList) (table : Table) (s : Sides) (header : Option Header) → s.list ≡ list → s.table ≡ table → s.bound ≡ bound_of (values_of header) → IsFound list table header → AgreeBelow s
agree-below list table s None el et eb found = λ h is less. subst (λ x. AgreeOn x s.table h) (sym el) (subst (λ x. AgreeOn list x h) (sym et) (found h is))
agree-below list table s (Some d) el et eb found = λ h is less.
    let low : key_of h < key_of d.values = omega (arith, less, eb) in
    subst (λ x. AgreeOn x s.table h) (sym el) (subst (λ x. AgreeOn list x h) (sym et) (found.least h is (before_found h d.values is found.in_fields low)))

-- The proof.

abbrev proof_of : Option (List ℕ) → List Cover → List Cover → List Covered → Proof
proof_of before entries rules pairs = record { before = before; entries = entries; rules = rules; pairs = pairs }

-- what the covers reach is what was taken of them
taken_open : (s : Sides) (a b : List ℕ) (t : Taken) (q : Pair) → a ≡ t.entries → b ≡ t.rules → IsOpenPair s t q → IsOpenPair s (reaching a b) q
taken_open s a b t q e f is = record {
  rule_reached = subst (λ xs. q.rule < slice_index xs q.entry) (sym e) is.rule_reached;
  entry_reached = subst (λ xs. q.entry < slice_index xs q.rule) (sym f) is.entry_reached;
  apart = is.apart;
  words = is.words;
  boxes = is.boxes;
}

reached_within : (xs : List ℕ) (i k : ℕ) → k < slice_index xs i → i < length xs
reached_within xs i k h = elim (cases_lt i (length xs)) [
  | inl less ↦ less
  | inr more ↦ absurd (let e : slice_index xs i ≡ 0 = get_or_past xs i 0 more in omega (arith, h, e))
]

within_all : (s : Sides) (a b : List ℕ) (q : Pair) → length a ≡ length s.table.entries.items + 1 → length b ≡ length s.list.rules.items + 1 → IsOpenPair s (reaching a b) q → IsWithin s q
within_all s a b q ea eb is = record {
  rule = (let less = reached_within b q.rule q.entry is.entry_reached in omega (arith, less, eb));
  entry = (let less = reached_within a q.entry q.rule is.rule_reached in omega (arith, less, ea));
}

counted : {A : Type 0} (f : A → ℕ) (xs : List A) (reaches : List ℕ) (n : ℕ) → length xs ≡ n → reaches ≡ map f xs → length reaches ≡ n
counted f xs reaches n e g = ap length g ∙ length-map xs f ∙ e

pub completed-right : (list : RuleList) (table : Table) (before : Option (List ℕ)) (a b : List ℕ) (t0 t1 t2 t3 : List ℕ) (count : ℕ) → (let s : Sides = record { list = list; table = table; bound = bound_of before } in
    ((header : List ℕ) → before ≡ Some header → IsHeader header × (AgreeOn list table header → ⊥)) →
    (e : PutsCovers s (entry_claim s) 101 rules_named (length table.entries.items + 1) t0 t1 a) →
    (r : PutsCovers s (rule_claim s) 114 entries_named (length list.rules.items + 1) t1 t2 b) →
    (p : PutsPairs s (reaching a b) (record { rule = 0; entry = length table.entries.items + 1 }) t2 t3 count) → IsRight list table (proof_of before e.covers r.covers p.pairs))
completed-right list table before a b t0 t1 t2 t3 count stated e r p =
    let s : Sides = record { list = list; table = table; bound = bound_of before } in
    let each_a = counted (λ (cover : Cover). rules_named (steps_in cover)) e.covers a (length table.entries.items + 1) e.each e.reaches_are in
    let each_b = counted (λ (cover : Cover). entries_named (steps_in cover)) r.covers b (length list.rules.items + 1) r.each r.reaches_are in
    record {
      stated = stated;
      each_entry = e.each;
      each_rule = r.each;
      within = λ c has. ((p.within c has).rule, (p.within c has).entry);
      entries = e.hold;
      rules = r.hold;
      pairs = p.hold;
      rising = p.rising;
      each_open = λ q is.
          let own = taken_open s a b (taken_of (proof_of before e.covers r.covers p.pairs)) q e.reaches_are r.reaches_are is in
          let in_both = within_all s a b q each_a each_b own in
          p.each_open q (comes_first q (record { rule = 0; entry = length table.entries.items + 1 }) (inl (let low = in_both.entry in omega (arith, low)))) in_both own;
    }

-- The text.

texts : (h e r p t0 t1 t2 t3 t4 last : List ℕ) → t0 ≡ h → t1 ≡ t0 ++ e → t2 ≡ t1 ++ r → t3 ≡ t2 ++ p → t4 ≡ t3 ++ last → h ++ e ++ r ++ p ++ last ≡ t4
texts h e r p t0 t1 t2 t3 t4 last e0 e1 e2 e3 e4 =
    sym (e4 ∙ ap (λ x. x ++ last) (e3 ∙ ap (λ x. x ++ p) (e2 ∙ ap (λ x. x ++ r) (e1 ∙ ap (λ x. x ++ e) e0))))

-- the law that right proofs are valid
abbrev pub RightAreValid : Type 0
RightAreValid = (list : RuleList) (table : Table) (p : Proof) (v : Valid) → IsRight list table p → length p.pairs < 2 ^ 32 → v.pairs ≡ length p.pairs → IsShown list table p.before v.shown →
    IsValid list table (proof_text list table p) v

pub completed-valid : RightAreValid → (list : RuleList) (table : Table) (before : Option (List ℕ)) (a b : List ℕ) (t0 t1 t2 t3 t4 : List ℕ) (count : ℕ) (v : Valid) → (let s : Sides = record { list = list; table = table; bound = bound_of before } in
    ((header : List ℕ) → before ≡ Some header → IsHeader header × (AgreeOn list table header → ⊥)) →
    t0 ≡ heading_text (length list.rules.items) (length table.entries.items) before →
    PutsCovers s (entry_claim s) 101 rules_named (length table.entries.items + 1) t0 t1 a →
    PutsCovers s (rule_claim s) 114 entries_named (length list.rules.items + 1) t1 t2 b →
    PutsPairs s (reaching a b) (record { rule = 0; entry = length table.entries.items + 1 }) t2 t3 count →
    t4 ≡ t3 ++ (codes "pairs " ++ (decimal count ++ 10 ∷ [])) → v.pairs ≡ count → IsShown list table before v.shown → IsValid list table t4 v)
completed-valid law list table before a b t0 t1 t2 t3 t4 count v stated head e r p last many shown =
    let proof = proof_of before e.covers r.covers p.pairs in
    subst (λ text. IsValid list table text v)
    (texts (heading_text (length list.rules.items) (length table.entries.items) before) (flat_map (λ cover. 101 ∷ cover_text cover) e.covers) (flat_map (λ cover. 114 ∷ cover_text cover) r.covers)
    (flat_map pair_text p.pairs) t0 t1 t2 t3 t4 (codes "pairs " ++ (decimal (length p.pairs) ++ 10 ∷ []))
    head e.text r.text p.text (last ∙ ap (λ n. t3 ++ (codes "pairs " ++ (decimal n ++ 10 ∷ []))) p.each))
    (law list table proof v (completed-right list table before a b t0 t1 t2 t3 count stated e r p) (subst (λ n. n < 2 ^ 32) p.each p.few) (many ∙ p.each) shown)

-- what is stated is a header on which they don't agree
pub found-stated : (list : RuleList) (table : Table) (header : Option Header) → IsFound list table header → (values : List ℕ) → values_of header ≡ Some values → IsHeader values × (AgreeOn list table values → ⊥)
found-stated list table None found values e = absurd (none-some values e)
found-stated list table (Some d) found values e =
    let same : d.values ≡ values = same_Some d.values values e in
    subst (λ h. IsHeader h × (AgreeOn list table h → ⊥)) same (found.in_fields, found.differ)

abbrev sides_by : RuleList → Table → ℕ → Sides
sides_by list table bound = record { list = list; table = table; bound = bound }

-- the same at a bound that is that of the header
pub completed-at : RightAreValid → (list : RuleList) (table : Table) (before : Option (List ℕ)) (bound : ℕ) (a b : List ℕ) (t0 t1 t2 t3 t4 : List ℕ) (count : ℕ) (v : Valid) → bound ≡ bound_of before →
    ((header : List ℕ) → before ≡ Some header → IsHeader header × (AgreeOn list table header → ⊥)) →
    t0 ≡ heading_text (length list.rules.items) (length table.entries.items) before →
    PutsCovers (sides_by list table bound) (entry_claim (sides_by list table bound)) 101 rules_named (length table.entries.items + 1) t0 t1 a →
    PutsCovers (sides_by list table bound) (rule_claim (sides_by list table bound)) 114 entries_named (length list.rules.items + 1) t1 t2 b →
    PutsPairs (sides_by list table bound) (reaching a b) (record { rule = 0; entry = length table.entries.items + 1 }) t2 t3 count →
    t4 ≡ t3 ++ (codes "pairs " ++ (decimal count ++ 10 ∷ [])) → v.pairs ≡ count → IsShown list table before v.shown → IsValid list table t4 v
completed-at law list table before bound a b t0 t1 t2 t3 t4 count v same stated head e r p last many shown =
    completed-valid law list table before a b t0 t1 t2 t3 t4 count v stated head
    (subst (λ n. PutsCovers (sides_by list table n) (entry_claim (sides_by list table n)) 101 rules_named (length table.entries.items + 1) t0 t1 a) same e)
    (subst (λ n. PutsCovers (sides_by list table n) (rule_claim (sides_by list table n)) 114 entries_named (length list.rules.items + 1) t1 t2 b) same r)
    (subst (λ n. PutsPairs (sides_by list table n) (reaching a b) (record { rule = 0; entry = length table.entries.items + 1 }) t2 t3 count) same p)
    last many shown

-- The text of a right proof is valid.
use Rattle.std.proofs.Common.{◌≡◌, ◌∷◌, ◌++◌, ◌∙◌, ℕ, ◌+◌, ◌-◌, ◌<◌, ◌≤◌, ◌^◌, List, [], Bool, true, false, Option, Some, None, Contains, MatchOption, codes, is_some, option_map, option_to_list, length, map, slice_get, slice_index_or, ap, refl, sym, subst, arith, append_assoc, append-nil, le_refl}
use Rattle.std.specs.Fmt.{decimal}
use Rattle.std.specs.List.{AllPairs, flat_map}
use Rattle.std.specs.Option.{option_map_or}
use Rattle.std.proofs.Math.ListN.{get_or-append}
use Rattle.std.proofs.lemmas.List.{length-append, length-map, map-append}
use Rattle.std.proofs.lemmas.Nat.{and_le_r, or_lt}
use Rattle.std.proofs.lemmas.Option.{slice_get_past, slice_get_within}
use Rattle.text_lines.specs.Headline.Steps.{◌>>=◌}
use Rattle.text_lines.proofs.Decimals.{plain_number-decimal}
use Rattle.field_boxes.specs.declared.rule.Rule.{Rule}
use Rattle.field_boxes.specs.declared.rule_list.RuleList.{RuleList}
use Rattle.field_boxes.specs.Headline.Fields.{IsHeader}
use Rattle.ternary_words.specs.declared.entry.Entry.{Entry}
use Rattle.ternary_words.specs.declared.table.Table.{Table}
use Rattle.partition_check.proofs.FirstPlaces.{got}
use Rattle.word_cover.specs.Cubes.{all_headers, cube_of}
use Rattle.agreement_check.specs.declared.pair.Pair.{Pair}
use Rattle.agreement_check.specs.declared.step.Step.{Step}
use Rattle.agreement_check.specs.declared.step.Terms.{Terms}
use Rattle.agreement_check.specs.declared.valid.Valid.{Valid}
use Rattle.agreement_check.specs.Covers.{IsCover, Sides, entries_named, entry_word, rule_word, rules_named}
use Rattle.agreement_check.specs.Cubes.{MissesRule}
use Rattle.agreement_check.specs.RuleWords.{word_of_rule}
use Rattle.agreement_check.specs.Claims.{ComesNext, Taken, begun, bound_of, entry_claim, pair_claim, rule_claim, sides_of}
use Rattle.agreement_check.specs.Pairs.{comes_before}
use Rattle.agreement_check.specs.Proofs.{Cover, Covered, IsRight, Proof, before_text, cover_text, heading_text, pair_text, pairs_of, proof_text, steps_in, taken_of, word_text}
use Rattle.agreement_check.specs.Texts.{Due, Heading, Line, counts_due, entry_line, header_due, heading_by, heading_of, last_line, number_due, numbers_in, pair_line, rule_line, terms_of, text_due}
use Rattle.agreement_check.specs.Steps.{cover_of, place_in}
use Rattle.agreement_check.specs.Verdict.{IsShown, IsValid, Reading, TakesHeading, TakesNext, all_of, line_in, started, with_claims}
use Rattle.agreement_check.proofs.Claiming.{few-entries, few-rules}
use Rattle.agreement_check.proofs.Rules.{listed-narrow}
use Rattle.agreement_check.proofs.RightLines.{AreWords, IsReadTo, IsTaken, all-taken, item-at, number-word, spaced, with-line}
use Rattle.agreement_check.proofs.RightWords.{Allows, AreSmall, AreWithin, cover-back, is-cover, place-back, step-words, steps-text, steps-within}

-- What is taken of the lines so far.

abbrev named_rules : Cover → ℕ
named_rules cover = rules_named (steps_in cover)

abbrev named_entries : Cover → ℕ
named_entries cover = entries_named (steps_in cover)

abbrev pair_in : Covered → Pair
pair_in c = c.pair

abbrev with_entries : Proof → List ℕ → Taken
with_entries p es = record { before = p.before; entries = es; rules = []; pairs = [] }

abbrev with_rules : Proof → List ℕ → Taken
with_rules p rs = record { before = p.before; entries = map named_rules p.entries; rules = rs; pairs = [] }

abbrev with_pairs : Proof → List Pair → Taken
with_pairs p ps = record { before = p.before; entries = map named_rules p.entries; rules = map named_entries p.rules; pairs = ps }

abbrev at_entries : Proof → List Cover → Reading
at_entries p done = with_claims (with_entries p (map named_rules done))

abbrev at_rules : Proof → List Cover → Reading
at_rules p done = with_claims (with_rules p (map named_entries done))

abbrev at_pairs : Proof → List Covered → Reading
at_pairs p done = with_claims (with_pairs p (map pair_in done))

abbrev own_sides : RuleList → Table → Proof → Sides
own_sides list table p = sides_of list table (taken_of p)

-- Words have no bit outside of a key.

rule_at : (list : RuleList) (k : ℕ) (o : Option Rule) → slice_get list.rules.items k ≡ o → (option_map_or word_of_rule o all_headers).value < 2 ^ 104
rule_at list k None e = omega arith
rule_at list k (Some r) e = listed-narrow list k r e

rule_small : (list : RuleList) (k : ℕ) → (rule_word list.rules.items k).value < 2 ^ 104
rule_small list k = rule_at list k (slice_get list.rules.items k) refl

entry_at : (o : Option Entry) → (option_map_or (λ (e : Entry). cube_of e.word) o all_headers).value < 2 ^ 104
entry_at None = omega arith
entry_at (Some e) = let le = and_le_r e.word.value e.word.mask in let is = e.word.masked in let small = e.word.narrow in omega (arith, le, is, small)

entry_small : (table : Table) (k : ℕ) → (entry_word table.entries.items k).value < 2 ^ 104
entry_small table k = entry_at (slice_get table.entries.items k)

-- What the terms of a line allow.

abbrev terms_at : RuleList → Table → Proof → Bool → Terms
terms_at list table p missed = terms_of (length list.rules.items) (length table.entries.items) missed (is_some p.before)

small_terms : (list : RuleList) (table : Table) (p : Proof) (missed : Bool) → AreSmall (terms_at list table p missed)
small_terms list table p missed = let rules = few-rules list in let entries = few-entries table in record { rules = omega (arith, rules); entries = omega (arith, entries) }

late_by : (before : Option (List ℕ)) (value : ℕ) → value < 2 ^ 104 → bound_of before ≤ value → is_some before ≡ true
late_by None value small h = absurd (omega (arith, small, h))
late_by (Some header) value small h = refl

entry_allows : (list : RuleList) (table : Table) (p : Proof) (j : ℕ) → j ≤ length table.entries.items → Allows (own_sides list table p) (entry_claim (own_sides list table p) j) (terms_at list table p false)
entry_allows list table p j h = record {
  rules = le_refl (length list.rules.items + 1);
  entries = omega (arith, h);
  missed_when = λ cube m. absurd (subst (λ (o : Option Rule). MatchOption o ⊥ (λ r. MissesRule r cube)) (slice_get_past list.rules.items (length list.rules.items) (le_refl (length list.rules.items))) m);
  late_when = late_by p.before;
}

rule_allows : (list : RuleList) (table : Table) (p : Proof) (i : ℕ) → i ≤ length list.rules.items → Allows (own_sides list table p) (rule_claim (own_sides list table p) i) (terms_at list table p true)
rule_allows list table p i h = record {
  rules = omega (arith, h);
  entries = le_refl (length table.entries.items + 1);
  missed_when = λ cube m. refl;
  late_when = late_by p.before;
}

pair_allows : (list : RuleList) (table : Table) (p : Proof) (q : Pair) → q.rule ≤ length list.rules.items → q.entry ≤ length table.entries.items → Allows (own_sides list table p) (pair_claim (own_sides list table p) q) (terms_at list table p true)
pair_allows list table p q h k = record {
  rules = omega (arith, h);
  entries = omega (arith, k);
  missed_when = λ cube m. refl;
  late_when = late_by p.before;
}

-- how many items there were, and at most how many there are
count_at : {X : Type 0} (all done : List X) (x : X) (rest : List X) (n : ℕ) → all ≡ done ++ x ∷ rest → length all ≡ n + 1 → length done ≤ n
count_at all done x rest n e is =
    let long = ap length e ∙ length-append done (x ∷ rest) in
    omega (arith, long, is)

-- Lines of entries.

entry_taken : (list : RuleList) (table : Table) (p : Proof) → IsRight list table p → (done : List Cover) (cover : Cover) (rest : List Cover) → p.entries ≡ done ++ cover ∷ rest →
    IsTaken list table (at_entries p done) (101 ∷ cover_text cover) (at_entries p (done ++ cover ∷ []))
entry_taken list table p right done cover rest e =
    let s = own_sides list table p in
    let steps = steps_in cover in
    let j = length done in
    let terms = terms_at list table p false in
    let small = small_terms list table p false in
    let few = count_at p.entries done cover rest (length table.entries.items) e right.each_entry in
    let holds = right.entries j cover (item-at p.entries done cover rest e) in
    let within = steps-within s (entry_claim s j) terms (entry_claim s j).cube cover (entry_allows list table p j few) (entry_small table j) holds in
    let t = with_entries p (map named_rules done) in
    let next = at_entries p (done ++ cover ∷ []) in
    let n : length (map named_rules done) ≡ j = length-map done named_rules in
    let line : line_in list table t (codes "e" ∷ map word_text steps) ≡ Some (entry_line steps) =
    ap (λ (o : Option (List Step)). let l : Option Line = option_map (λ ss. entry_line ss) o in l) (cover-back terms cover small within) in
    let own : IsCover s (entry_claim s (length (map named_rules done))) steps = subst (λ (k : ℕ). IsCover s (entry_claim s k) steps) (sym n) (is-cover s (entry_claim s j) cover holds) in
    let after : next ≡ with_claims (with_entries p (map named_rules done ++ named_rules cover ∷ [])) = ap (λ (ns : List ℕ). with_claims (with_entries p ns)) (map-append named_rules done (cover ∷ [])) in
    let taken : TakesNext (sides_of list table t) t (Some (entry_line steps)) next = ((λ past. omega (arith, past, n, few)), (own, after)) in
    record {
      first = codes "e";
      more = map word_text steps;
      text_is = ap (λ (w : List ℕ). 101 ∷ (w ++ 10 ∷ [])) (steps-text steps);
      first_is = refl;
      more_are = step-words terms steps small within;
      takes = subst (λ (o : Option Line). TakesNext (sides_of list table t) t o next) (sym line) taken;
    }

-- Lines of rules.

entries_done : (list : RuleList) (table : Table) (p : Proof) → IsRight list table p → length table.entries.items < length (map named_rules p.entries)
entries_done list table p right = let n = length-map p.entries named_rules in let is = right.each_entry in omega (arith, n, is)

rules_done : (list : RuleList) (table : Table) (p : Proof) → IsRight list table p → length list.rules.items < length (map named_entries p.rules)
rules_done list table p right = let n = length-map p.rules named_entries in let is = right.each_rule in omega (arith, n, is)

rule_taken : (list : RuleList) (table : Table) (p : Proof) → IsRight list table p → (done : List Cover) (cover : Cover) (rest : List Cover) → p.rules ≡ done ++ cover ∷ rest →
    IsTaken list table (at_rules p done) (114 ∷ cover_text cover) (at_rules p (done ++ cover ∷ []))
rule_taken list table p right done cover rest e =
    let s = own_sides list table p in
    let steps = steps_in cover in
    let i = length done in
    let terms = terms_at list table p true in
    let small = small_terms list table p true in
    let few = count_at p.rules done cover rest (length list.rules.items) e right.each_rule in
    let holds = right.rules i cover (item-at p.rules done cover rest e) in
    let within = steps-within s (rule_claim s i) terms (rule_claim s i).cube cover (rule_allows list table p i few) (rule_small list i) holds in
    let t = with_rules p (map named_entries done) in
    let next = at_rules p (done ++ cover ∷ []) in
    let n : length (map named_entries done) ≡ i = length-map done named_entries in
    let line : line_in list table t (codes "r" ∷ map word_text steps) ≡ Some (rule_line steps) =
    ap (λ (o : Option (List Step)). let l : Option Line = option_map (λ ss. rule_line ss) o in l) (cover-back terms cover small within) in
    let own : IsCover s (rule_claim s (length (map named_entries done))) steps = subst (λ (k : ℕ). IsCover s (rule_claim s k) steps) (sym n) (is-cover s (rule_claim s i) cover holds) in
    let after : next ≡ with_claims (with_rules p (map named_entries done ++ named_entries cover ∷ [])) = ap (λ (ns : List ℕ). with_claims (with_rules p ns)) (map-append named_entries done (cover ∷ [])) in
    let taken : TakesNext (sides_of list table t) t (Some (rule_line steps)) next = ((entries_done list table p right, (λ past. omega (arith, past, n, few))), (own, after)) in
    record {
      first = codes "r";
      more = map word_text steps;
      text_is = ap (λ (w : List ℕ). 114 ∷ (w ++ 10 ∷ [])) (steps-text steps);
      first_is = refl;
      more_are = step-words terms steps small within;
      takes = subst (λ (o : Option Line). TakesNext (sides_of list table t) t o next) (sym line) taken;
    }

-- Lines of pairs.

item_in : {X : Type 0} (xs : List X) (k : ℕ) (x : X) → slice_get xs k ≡ Some x → Contains xs x
item_in xs k x at = (k, slice_get_within xs k x at, got xs k x x at)

next_among : (all front : List Pair) (p : Pair) (rest : List Pair) → AllPairs (λ q r. comes_before q r ≡ true) all → all ≡ front ++ p ∷ rest → ComesNext front p
next_among all front p rest rise e q at =
    let last = length front - 1 in
    let some = slice_get_within front last q at in
    let long = ap length e ∙ length-append front (p ∷ rest) in
    let before : last < length front = omega (arith, some) in
    let here : length front < length all = omega (arith, long) in
    let q_is : slice_index_or all last q ≡ q = ap (λ (xs : List Pair). slice_index_or xs last q) e ∙ get_or-append front (p ∷ rest) q last some ∙ got front last q q at in
    let p_is : slice_index_or all (length front) q ≡ p = got all (length front) p q (item-at all front p rest e) in
    subst (λ (x : Pair). comes_before x p ≡ true) q_is (subst (λ (y : Pair). comes_before (slice_index_or all last q) y ≡ true) p_is (rise last (length front) q before here))

pair_line_is : (list : RuleList) (table : Table) (p : Proof) (c : Covered) (t : Taken) → t.before ≡ p.before → c.pair.rule ≤ length list.rules.items → c.pair.entry ≤ length table.entries.items → AreWithin (terms_at list table p true) (steps_in c.cover) →
    line_in list table t (codes "p" ∷ decimal (c.pair.rule + 1) ∷ decimal (c.pair.entry + 1) ∷ map word_text (steps_in c.cover)) ≡ Some (pair_line c.pair (steps_in c.cover))
pair_line_is list table p c t same h k within =
    let terms = terms_at list table p true in
    let small = small_terms list table p true in
    let steps = steps_in c.cover in
    let rule : place_in terms.rules (decimal (c.pair.rule + 1)) ≡ Some c.pair.rule = place-back terms.rules c.pair.rule small.rules (omega (arith, h)) in
    let entry : place_in terms.entries (decimal (c.pair.entry + 1)) ≡ Some c.pair.entry = place-back terms.entries c.pair.entry small.entries (omega (arith, k)) in
    let cover : cover_of terms (map word_text steps) ≡ Some steps = cover-back terms c.cover small within in
    let last : Pair → Option (List Step) → Option Line = λ q o. o >>= (λ ss. Some (pair_line q ss)) in
    let with_cover : ℕ → ℕ → Option Line = λ i j. last (record { rule = i; entry = j }) (cover_of terms (map word_text steps)) in
    rw same
    (ap (λ (o : Option ℕ). o >>= (λ i. place_in terms.entries (decimal (c.pair.entry + 1)) >>= (λ j. with_cover i j))) rule
    ∙ ap (λ (o : Option ℕ). o >>= (λ j. with_cover c.pair.rule j)) entry
    ∙ ap (last c.pair) cover)

pair_text_is : (c : Covered) → pair_text c ≡ codes "p" ++ (spaced (decimal (c.pair.rule + 1) ∷ decimal (c.pair.entry + 1) ∷ map word_text (steps_in c.cover)) ++ 10 ∷ [])
pair_text_is c =
    let i = decimal (c.pair.rule + 1) in
    let j = decimal (c.pair.entry + 1) in
    let words = spaced (map word_text (steps_in c.cover)) in
    ap (λ (w : List ℕ). codes "p " ++ (i ++ (32 ∷ (j ++ (w ++ 10 ∷ []))))) (steps-text (steps_in c.cover))
    ∙ ap (λ (w : List ℕ). codes "p " ++ (i ++ (32 ∷ w))) (sym (append_assoc j words (10 ∷ [])))
    ∙ ap (λ (w : List ℕ). codes "p " ++ w) (sym (append_assoc i (32 ∷ (j ++ words)) (10 ∷ [])))

pair_taken : (list : RuleList) (table : Table) (p : Proof) → IsRight list table p → (done : List Covered) (c : Covered) (rest : List Covered) → p.pairs ≡ done ++ c ∷ rest →
    IsTaken list table (at_pairs p done) (pair_text c) (at_pairs p (done ++ c ∷ []))
pair_taken list table p right done c rest e =
    let s = own_sides list table p in
    let steps = steps_in c.cover in
    let terms = terms_at list table p true in
    let small = small_terms list table p true in
    let in_pairs = item_in p.pairs (length done) c (item-at p.pairs done c rest e) in
    let places = right.within c in_pairs in
    let rule = places.0 in
    let entry = places.1 in
    let holds = right.pairs c in_pairs in
    let narrow : (pair_claim s c.pair).cube.value < 2 ^ 104 = or_lt 104 (rule_word list.rules.items c.pair.rule).value (entry_word table.entries.items c.pair.entry).value (rule_small list c.pair.rule) (entry_small table c.pair.entry) in
    let within = steps-within s (pair_claim s c.pair) terms (pair_claim s c.pair).cube c.cover (pair_allows list table p c.pair rule entry) narrow holds in
    let t = with_pairs p (map pair_in done) in
    let next = at_pairs p (done ++ c ∷ []) in
    let line = pair_line_is list table p c t refl rule entry within in
    let order : ComesNext (map pair_in done) c.pair = next_among (pairs_of p) (map pair_in done) c.pair (map pair_in rest) right.rising (ap (map pair_in) e ∙ map-append pair_in done (c ∷ rest)) in
    let after : next ≡ with_claims (with_pairs p (map pair_in done ++ c.pair ∷ [])) = ap (λ (ps : List Pair). with_claims (with_pairs p ps)) (map-append pair_in done (c ∷ [])) in
    let taken : TakesNext (sides_of list table t) t (Some (pair_line c.pair steps)) next = ((entries_done list table p right, rules_done list table p right), (order, is-cover s (pair_claim s c.pair) c.cover holds, after)) in
    let i = c.pair.rule + 1 in
    let j = c.pair.entry + 1 in
    let rules = few-rules list in
    let entries = few-entries table in
    record {
      first = codes "p";
      more = decimal i ∷ decimal j ∷ map word_text steps;
      text_is = pair_text_is c;
      first_is = refl;
      more_are = (number-word i (omega (arith, rule, rules)), (number-word j (omega (arith, entry, entries)), step-words terms steps small within));
      takes = subst (λ (o : Option Line). TakesNext (sides_of list table t) t o next) (sym line) taken;
    }

-- The last line.

last_taken : (list : RuleList) (table : Table) (p : Proof) → IsRight list table p → length p.pairs < 2 ^ 32 →
    IsTaken list table (with_claims (taken_of p)) (codes "pairs " ++ (decimal (length p.pairs) ++ 10 ∷ [])) (all_of (taken_of p))
last_taken list table p right small =
    let k = length p.pairs in
    let t = taken_of p in
    let line : line_in list table t (codes "pairs" ∷ decimal k ∷ []) ≡ Some (last_line k) =
    ap (λ (o : Option ℕ). let l : Option Line = option_map (λ n. last_line n) o in l) (plain_number-decimal 4294967295 k (omega (arith, small)) (omega (arith, small))) in
    let taken : TakesNext (sides_of list table t) t (Some (last_line k)) (all_of t) = ((entries_done list table p right, rules_done list table p right), (right.each_open, sym (length-map p.pairs pair_in), refl)) in
    record {
      first = codes "pairs";
      more = decimal k ∷ [];
      text_is = ap (λ (w : List ℕ). codes "pairs " ++ (w ++ 10 ∷ [])) (sym (append-nil (decimal k)));
      first_is = refl;
      more_are = (number-word k (omega (arith, small)), tt);
      takes = subst (λ (o : Option Line). TakesNext (sides_of list table t) t o (all_of t)) (sym line) taken;
    }

-- The first line.

abbrev before_words : Option (List ℕ) → List (List ℕ)
before_words None = []
before_words (Some header) = codes "before" ∷ map decimal header

abbrev heading_words : ℕ → ℕ → Option (List ℕ) → List (List ℕ)
heading_words rules entries before = codes "1" ∷ codes "rules" ∷ decimal rules ∷ codes "entries" ∷ decimal entries ∷ before_words before

numbers_spaced : (ns : List ℕ) → flat_map (λ n. 32 ∷ decimal n) ns ≡ spaced (map decimal ns)
numbers_spaced [] = refl
numbers_spaced (n ∷ ns) = ap (λ (t : List ℕ). 32 ∷ (decimal n ++ t)) (numbers_spaced ns)

before_is : (before : Option (List ℕ)) → before_text before ≡ spaced (before_words before)
before_is None = refl
before_is (Some header) = ap (λ (t : List ℕ). codes " before" ++ t) (numbers_spaced header)

heading_is : (rules entries : ℕ) (before : Option (List ℕ)) → heading_text rules entries before ≡ codes "proof" ++ (spaced (heading_words rules entries before) ++ 10 ∷ [])
heading_is rules entries before =
    let n = decimal rules in
    let m = decimal entries in
    let b = spaced (before_words before) in
    ap (λ (t : List ℕ). codes "proof 1 rules " ++ (n ++ (codes " entries " ++ (m ++ (t ++ 10 ∷ []))))) (before_is before)
    ∙ ap (λ (t : List ℕ). codes "proof 1 rules " ++ (n ++ (codes " entries " ++ t))) (sym (append_assoc m b (10 ∷ [])))
    ∙ ap (λ (t : List ℕ). codes "proof 1 rules " ++ t) (sym (append_assoc n (codes " entries " ++ (m ++ b)) (10 ∷ [])))

number_step : (g n : ℕ) (dues : List Due) (words : List (List ℕ)) (ns : List ℕ) → n < 2 ^ 64 → n ≤ g → numbers_in dues words ≡ Some ns → numbers_in (number_due g ∷ dues) (decimal n ∷ words) ≡ Some (n ∷ ns)
number_step g n dues words ns small h e =
    ap (λ (o : Option ℕ). let own : Option (Option ℕ) = option_map (λ m. Some m) o in own >>= (λ o. numbers_in dues words >>= (λ more. Some (option_to_list o ++ more)))) (plain_number-decimal g n small h)
    ∙ ap (λ (o : Option (List ℕ)). o >>= (λ more. Some (n ∷ more))) e

abbrev skip : Option (List ℕ) → Option (List ℕ)
skip o = o >>= (λ more. Some more)

counts_back : (rules entries : ℕ) (dues : List Due) (words : List (List ℕ)) (ns : List ℕ) → rules < 2 ^ 32 → entries < 2 ^ 32 → numbers_in dues words ≡ Some ns →
    numbers_in (counts_due ++ dues) (codes "proof" ∷ codes "1" ∷ codes "rules" ∷ decimal rules ∷ codes "entries" ∷ decimal entries ∷ words) ≡ Some (rules ∷ entries ∷ ns)
counts_back rules entries dues words ns r m e =
    let g : ℕ = 4294967295 in
    let entry : numbers_in (number_due g ∷ dues) (decimal entries ∷ words) ≡ Some (entries ∷ ns) = number_step g entries dues words ns (omega (arith, m)) (omega (arith, m)) e in
    let behind : numbers_in (text_due (codes "entries") ∷ number_due g ∷ dues) (codes "entries" ∷ decimal entries ∷ words) ≡ Some (entries ∷ ns) = ap skip entry in
    let rule = number_step g rules (text_due (codes "entries") ∷ number_due g ∷ dues) (codes "entries" ∷ decimal entries ∷ words) (entries ∷ ns) (omega (arith, r)) (omega (arith, r)) behind in
    ap (λ (o : Option (List ℕ)). skip (skip (skip o))) rule

stated_back : (rules entries : ℕ) (header : List ℕ) → rules < 2 ^ 32 → entries < 2 ^ 32 → IsHeader header →
    heading_of (codes "proof" ∷ heading_words rules entries (Some header)) ≡ Some (record { rules = rules; entries = entries; before = Some header })
unfolding heading_of
stated_back rules entries (a ∷ b ∷ c ∷ d ∷ e ∷ []) r m is =
    let ha = is.0 in
    let hb = is.1.0 in
    let hc = is.1.1.0 in
    let hd = is.1.1.1.0 in
    let he = is.1.1.1.1.0 in
    let five : numbers_in (number_due 255 ∷ []) (decimal e ∷ []) ≡ Some (e ∷ []) = number_step 255 e [] [] [] (omega (arith, he)) (omega (arith, he)) refl in
    let four = number_step 65535 d (number_due 255 ∷ []) (decimal e ∷ []) (e ∷ []) (omega (arith, hd)) (omega (arith, hd)) five in
    let three = number_step 65535 c (number_due 65535 ∷ number_due 255 ∷ []) (decimal d ∷ decimal e ∷ []) (d ∷ e ∷ []) (omega (arith, hc)) (omega (arith, hc)) four in
    let two = number_step 4294967295 b (number_due 65535 ∷ number_due 65535 ∷ number_due 255 ∷ []) (decimal c ∷ decimal d ∷ decimal e ∷ []) (c ∷ d ∷ e ∷ []) (omega (arith, hb)) (omega (arith, hb)) three in
    let one = number_step 4294967295 a (number_due 4294967295 ∷ number_due 65535 ∷ number_due 65535 ∷ number_due 255 ∷ []) (decimal b ∷ decimal c ∷ decimal d ∷ decimal e ∷ []) (b ∷ c ∷ d ∷ e ∷ []) (omega (arith, ha)) (omega (arith, ha)) two in
    let stated : numbers_in header_due (before_words (Some (a ∷ b ∷ c ∷ d ∷ e ∷ []))) ≡ Some (a ∷ b ∷ c ∷ d ∷ e ∷ []) = ap skip one in
    ap (λ (o : Option (List ℕ)). o >>= heading_by) (counts_back rules entries header_due (before_words (Some (a ∷ b ∷ c ∷ d ∷ e ∷ []))) (a ∷ b ∷ c ∷ d ∷ e ∷ []) r m stated)
stated_back rules entries header r m is = absurd assumption

heading_back : (rules entries : ℕ) (before : Option (List ℕ)) → rules < 2 ^ 32 → entries < 2 ^ 32 → ((header : List ℕ) → before ≡ Some header → IsHeader header) →
    heading_of (codes "proof" ∷ heading_words rules entries before) ≡ Some (record { rules = rules; entries = entries; before = before })
unfolding heading_of
heading_back rules entries None r m each = ap (λ (o : Option (List ℕ)). o >>= heading_by) (counts_back rules entries [] [] [] r m refl)
heading_back rules entries (Some header) r m each = stated_back rules entries header r m (each header refl)

header_words : (header : List ℕ) → IsHeader header → AreWords (map decimal header)
header_words (a ∷ b ∷ c ∷ d ∷ e ∷ []) is =
    let ha = is.0 in
    let hb = is.1.0 in
    let hc = is.1.1.0 in
    let hd = is.1.1.1.0 in
    let he = is.1.1.1.1.0 in
    (number-word a (omega (arith, ha)), (number-word b (omega (arith, hb)), (number-word c (omega (arith, hc)), (number-word d (omega (arith, hd)), (number-word e (omega (arith, he)), tt)))))
header_words header is = absurd assumption

before_are : (before : Option (List ℕ)) → ((header : List ℕ) → before ≡ Some header → IsHeader header) → AreWords (before_words before)
before_are None each = tt
before_are (Some header) each = (refl, header_words header (each header refl))

heading_taken : (list : RuleList) (table : Table) (p : Proof) → IsRight list table p → IsTaken list table started (heading_text (length list.rules.items) (length table.entries.items) p.before) (with_claims (begun p.before))
heading_taken list table p right =
    let rules = length list.rules.items in
    let entries = length table.entries.items in
    let r = few-rules list in
    let m = few-entries table in
    let each : (header : List ℕ) → p.before ≡ Some header → IsHeader header = λ header e. (right.stated header e).0 in
    let is = heading_back rules entries p.before (omega (arith, r)) (omega (arith, m)) each in
    let h : Heading = record { rules = rules; entries = entries; before = p.before } in
    let next = with_claims (begun p.before) in
    let taken : TakesHeading list table (Some h) next = (refl, (λ d. (right.stated d.0 d.1).1 d.2), refl) in
    record {
      first = codes "proof";
      more = heading_words rules entries p.before;
      text_is = heading_is rules entries p.before;
      first_is = refl;
      more_are = (refl, (refl, (number-word rules (omega (arith, r)), (refl, (number-word entries (omega (arith, m)), before_are p.before each)))));
      takes = subst (λ (o : Option Heading). TakesHeading list table o next) (sym is) taken;
    }

-- All lines.

five_parts : (h e r q l : List ℕ) → h ++ e ++ r ++ q ++ l ≡ h ++ (e ++ (r ++ (q ++ (l ++ []))))
five_parts h e r q l =
    append_assoc (h ++ e ++ r) q l ∙ append_assoc (h ++ e) r (q ++ l) ∙ append_assoc h e (r ++ (q ++ l))
    ∙ ap (λ (t : List ℕ). h ++ (e ++ (r ++ (q ++ t)))) (sym (append-nil l))

all_read : (list : RuleList) (table : Table) (p : Proof) → IsRight list table p → length p.pairs < 2 ^ 32 → IsReadTo list table started (proof_text list table p) (all_of (taken_of p))
all_read list table p right small =
    let after = all_of (taken_of p) in
    let heading = heading_text (length list.rules.items) (length table.entries.items) p.before in
    let entries = flat_map (λ cover. 101 ∷ cover_text cover) p.entries in
    let rules = flat_map (λ cover. 114 ∷ cover_text cover) p.rules in
    let pairs = flat_map pair_text p.pairs in
    let last = codes "pairs " ++ (decimal (length p.pairs) ++ 10 ∷ []) in
    let none : IsReadTo list table after [] after = record { lines = refl; ended = refl } in
    let at_last = with-line list table (with_claims (taken_of p)) after after last [] (last_taken list table p right small) none in
    let behind_rules = all-taken list table pair_text (at_pairs p) p.pairs (pair_taken list table p right) (last ++ []) after at_last in
    let behind_entries = all-taken list table (λ cover. 114 ∷ cover_text cover) (at_rules p) p.rules (rule_taken list table p right) (pairs ++ (last ++ [])) after behind_rules in
    let behind_heading = all-taken list table (λ cover. 101 ∷ cover_text cover) (at_entries p) p.entries (entry_taken list table p right) (rules ++ (pairs ++ (last ++ []))) after behind_entries in
    let whole = with-line list table started (with_claims (begun p.before)) after heading (entries ++ (rules ++ (pairs ++ (last ++ [])))) (heading_taken list table p right) behind_heading in
    subst (λ (t : List ℕ). IsReadTo list table started t after) (sym (five_parts heading entries rules pairs last)) whole

pub right-valid : (list : RuleList) (table : Table) (p : Proof) (v : Valid) → IsRight list table p → length p.pairs < 2 ^ 32 → v.pairs ≡ length p.pairs → IsShown list table p.before v.shown → IsValid list table (proof_text list table p) v
right-valid list table p v right small pairs shown =
    let read = all_read list table p right small in
    record {
      taken = taken_of p;
      takes = read.lines;
      whole = read.ended;
      pairs = pairs ∙ sym (length-map p.pairs pair_in);
      shown = shown;
    }

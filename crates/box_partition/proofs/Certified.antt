-- The coarsest rows that claim the first rule and the first entry are the certificate of a list and a table that agree.
use Rattle.std.proofs.Common.{◌≡◌, ◌∷◌, ◌++◌, ℕ, suc, ◌+◌, ◌-◌, ◌≤◌, List, [], Bool, Some, None, length, map, refl, ap, sym, subst, ◌∙◌, arith, Option, All, position, vec_len}
use Rattle.std.proofs.lemmas.List.Quantifiers.{position-Some}
use Rattle.std.proofs.lemmas.List.Elements.{All-cons, All-tail}
use Rattle.field_boxes.specs.Headline.Classifier.{Interval}
use Rattle.field_boxes.specs.Headline.Fields.{IsHeader}
use Rattle.field_boxes.specs.Names.{name_at}
use Rattle.field_boxes.specs.Rules as rules
use Rattle.field_boxes.specs.declared.rule_list.RuleList.{RuleList}
use Rattle.ternary_words.specs.declared.table.Table.{Table}
use Rattle.ternary_words.specs.Views as words
use Rattle.node_store.specs.Diagram.{Node, answer}
use Rattle.field_boxes.specs.Lists.{name_decided}
use Rattle.partition_check.specs.Agreement.{name_answered, Agree}
use Rattle.partition_check.specs.Boxes.{ends, IsBox}
use Rattle.field_boxes.specs.Boxes.{LiesIn}
use Rattle.partition_check.specs.Checking.{Statement, IsNumber}
use Rattle.partition_check.specs.Claims.{place_of, rule_matches, entry_matches, rule_decision, entry_decision}
use Rattle.partition_check.specs.Good.{IsRight}
use Rattle.partition_check.specs.Partition.{Group, rows_of, AreGroups}
use Rattle.partition_check.proofs.BoxHeaders.{up_to-header}
use Rattle.partition_check.proofs.Passed.{held-values}
use Rattle.box_partition.specs.Certificate.{IsCertificate}
use Rattle.box_partition.specs.Coarsest.{Claims, claims_of, put_interval, IsCoarsest}
use Rattle.box_partition.specs.Firsts.{first_claims, node_claims, number_of_place, number_answered}
use Rattle.box_partition.specs.Rows.{AreRowsOf}
use Rattle.box_partition.proofs.Coarse.{AreRight, claimed-right, right-claimed, groups-bound, coarsest-one}
use Rattle.box_partition.proofs.Exists.{coarsest-made}
use Rattle.box_partition.proofs.Stripped.{coarsest-partition}

-- each row has a box
abbrev AreBoxes : List ℕ → List Statement → Type 0
AreBoxes gs [] = Unit {0}
AreBoxes gs (s ∷ rows) = IsBox gs s.box × AreBoxes gs rows

boxes-group : (g : ℕ) (gs : List ℕ) (i : Interval) (rest more : List Statement) → i.lo ≤ i.hi → i.hi ≤ g → AreBoxes gs rest → AreBoxes (g ∷ gs) more →
    AreBoxes (g ∷ gs) (map (put_interval i) rest ++ more)
boxes-group g gs i [] more low high b m = m
boxes-group g gs i (s ∷ rest) more low high b m = ((low, high, b.0), boxes-group g gs i rest more low high b.1 m)

boxes-groups : (P : List Statement → Type 0) (g : ℕ) (gs : List ℕ) (lo : ℕ) (groups : List (Group Statement)) → ((rows : List Statement) → P rows → AreBoxes gs rows) → AreGroups P lo g groups →
    AreBoxes (g ∷ gs) (rows_of put_interval groups)
boxes-groups P g gs lo [] each h = tt
boxes-groups P g gs lo (x ∷ groups) each h =
    let top = groups-bound P (suc x.first.hi) g groups h.4 in
    boxes-group g gs x.first x.rest (rows_of put_interval groups) (omega (arith, h.1, h.2)) (omega (arith, top)) (each x.rest h.3) (boxes-groups P g gs (suc x.first.hi) groups each h.4)

coarsest-boxes : (gs : List ℕ) (rows : List Statement) → IsCoarsest gs rows → AreBoxes gs rows
coarsest-boxes [] rows h = subst (AreBoxes []) (sym h.2) (subst (IsBox []) (sym h.1) tt, tt)
coarsest-boxes (g ∷ gs) rows h = subst (AreBoxes (g ∷ gs)) (sym h.1) (boxes-groups (IsCoarsest gs) g gs 0 h.0 (coarsest-boxes gs) h.2)

-- the least header of a box
abbrev lows : List Interval → List ℕ
lows box = map (λ (i : Interval). i.lo) box

lows-lie : (gs : List ℕ) (box : List Interval) → IsBox gs box → LiesIn box (lows box)
lows-lie [] [] h = tt
lows-lie (g ∷ gs) (i ∷ box) h = (omega arith, h.0, lows-lie gs box h.2)
lows-lie gs box h = absurd h

-- what is claimed of all headers is claimed by rows, whichever function says it
claimed-alike : (f h : List ℕ → Claims) (rows : List Statement) → ((header : List ℕ) → IsHeader header → f header ≡ h header) → AreBoxes ends rows → AreRight f rows → AreRight h rows
claimed-alike f h [] same b l = tt
claimed-alike f h (s ∷ rows) same b l =
    ((λ header lies. sym (same header (up_to-header header (held-values ends s.box header b.0 lies))) ∙ l.0 header lies), claimed-alike f h rows same b.1 l.1)

-- places and numbers
pub place-back : (place : Option ℕ) → place_of (number_of_place place) ≡ place
place-back None = refl
place-back (Some k) = let e : k + 1 - 1 ≡ k = omega arith in ap (λ n. Some n) e

number-back : (count : ℕ) (number : Option ℕ) → IsNumber count number → number_of_place (place_of number) ≡ number
number-back count None h = refl
number-back count (Some n) h = let e : n - 1 + 1 ≡ n = omega (arith, h.0) in ap (λ m. Some m) e

number-found : {X : Type 0} (p : X → Bool) (xs : List X) (count : ℕ) (place : Option ℕ) → length xs ≡ count → position p xs ≡ place → IsNumber count (number_of_place place)
number-found p xs count None many e = tt
number-found p [] count (Some k) many e = absurd cc
number-found p (x ∷ xs) count (Some k) many e = let q = position-Some p (x ∷ xs) k x e in (omega arith, omega (arith, q.0, many))

-- what a list and a table say of a header whose first rule and entry are known
abbrev pub RuleDecides : Type 0
RuleDecides = (list : RuleList) (header : List ℕ) (number : Option ℕ) → rules.first_match header list.rules.items ≡ place_of number →
    name_decided list header ≡ name_at list.names (rule_decision list.rules.items number)

abbrev pub EntryDecides : Type 0
EntryDecides = (table : Table) (header : List ℕ) (number : Option ℕ) → words.first_match header table.entries.items ≡ place_of number →
    name_answered table header ≡ name_at table.names (entry_decision table.entries.items number)

row-right : RuleDecides → EntryDecides → (list : RuleList) (table : Table) (s : Statement) → Agree list table → IsBox ends s.box →
    ((header : List ℕ) → LiesIn s.box header → first_claims list.rules.items table.entries.items header ≡ claims_of s) → IsRight list table s
row-right rule entry list table s agree box claimed =
    let least = lows s.box in
    let lies = lows-lie ends s.box box in
    let header = up_to-header least (held-values ends s.box least box lies) in
    let rule_claimed : (h : List ℕ) → LiesIn s.box h → rules.first_match h list.rules.items ≡ place_of s.rule =
    λ h in_box. sym (place-back (rules.first_match h list.rules.items)) ∙ ap (λ (c : Claims). place_of c.0) (claimed h in_box) in
    let entry_claimed : (h : List ℕ) → LiesIn s.box h → words.first_match h table.entries.items ≡ place_of s.entry =
    λ h in_box. sym (place-back (words.first_match h table.entries.items)) ∙ ap (λ (c : Claims). place_of c.1) (claimed h in_box) in
    record {
      rule_number = subst (IsNumber (vec_len list.rules)) (ap (λ (c : Claims). c.0) (claimed least lies))
          (number-found (rule_matches least) list.rules.items (vec_len list.rules) (rules.first_match least list.rules.items) (omega (arith, list.rules.ok)) refl);
      entry_number = subst (IsNumber (vec_len table.entries)) (ap (λ (c : Claims). c.1) (claimed least lies))
          (number-found (entry_matches least) table.entries.items (vec_len table.entries) (words.first_match least table.entries.items) (omega (arith, table.entries.ok)) refl);
      rule = rule_claimed;
      entry = entry_claimed;
      alike = sym (rule list least s.rule (rule_claimed least lies)) ∙ agree least header ∙ entry table least s.entry (entry_claimed least lies);
    }

rows-right : RuleDecides → EntryDecides → (list : RuleList) (table : Table) (rows : List Statement) → Agree list table → AreBoxes ends rows →
    AreRight (first_claims list.rules.items table.entries.items) rows → All (IsRight list table) rows
rows-right rule entry list table [] agree b l = λ k d less. absurd (omega (arith, less))
rows-right rule entry list table (s ∷ rows) agree b l =
    All-cons (IsRight list table) s rows (row-right rule entry list table s agree b.0 l.0) (rows-right rule entry list table rows agree b.1 l.1)

pub certified : RuleDecides → EntryDecides → (list : RuleList) (table : Table) (rows : List Statement) → Agree list table → IsCoarsest ends rows →
    AreRight (first_claims list.rules.items table.entries.items) rows → IsCertificate list table rows
certified rule entry list table rows agree c l = record {
  good = record { partition = coarsest-partition ends rows c; right = rows-right rule entry list table rows agree (coarsest-boxes ends rows c) l };
  coarsest = c;
}

-- the rows of a certificate claim the first rule and the first entry
right-claims : (list : RuleList) (table : Table) (rows : List Statement) → All (IsRight list table) rows → AreRight (first_claims list.rules.items table.entries.items) rows
right-claims list table [] h = tt
right-claims list table (s ∷ rows) h =
    let r = h 0 s (omega arith) in (
      (λ header lies.
          ap (λ (o : Option ℕ). let c : Claims = (o, number_of_place (words.first_match header table.entries.items)) in c)
          (ap number_of_place (r.rule header lies) ∙ number-back (vec_len list.rules) s.rule r.rule_number)
          ∙ ap (λ (o : Option ℕ). let c : Claims = (s.rule, o) in c) (ap number_of_place (r.entry header lies) ∙ number-back (vec_len table.entries) s.entry r.entry_number)),
      right-claims list table rows (All-tail (IsRight list table) s rows h),
    )

pub certificate-some : RuleDecides → EntryDecides → (list : RuleList) (table : Table) → Agree list table → (rows : List Statement) × IsCertificate list table rows
certificate-some rule entry list table agree =
    let made = coarsest-made ends (first_claims list.rules.items table.entries.items) in
    (made.0, certified rule entry list table made.0 agree made.1 (claimed-right (first_claims list.rules.items table.entries.items) made.0 made.2))

pub certificate-one : (list : RuleList) (table : Table) (rows others : List Statement) → IsCertificate list table rows → IsCertificate list table others → rows ≡ others
certificate-one list table rows others p q =
    let f = first_claims list.rules.items table.entries.items in
    coarsest-one ends f rows others p.coarsest q.coarsest (right-claimed f rows (right-claims list table rows p.good.right)) (right-claimed f others (right-claims list table others q.good.right))

-- the rows of the two nodes that answer the first rule and the first entry
pub record IsCertificateOf (nodes : List Node) (a b : ℕ) (list : RuleList) (table : Table) (rows : List Statement) : Type 0 where
  pub certificate : IsCertificate list table rows
  pub rows_of_nodes : AreRowsOf nodes 0 a b rows

pub certificate-of : RuleDecides → EntryDecides → (nodes : List Node) (a b : ℕ) (list : RuleList) (table : Table) → Agree list table →
    ((header : List ℕ) → IsHeader header → number_answered (answer nodes a header) ≡ number_of_place (rules.first_match header list.rules.items)) →
    ((header : List ℕ) → IsHeader header → number_answered (answer nodes b header) ≡ number_of_place (words.first_match header table.entries.items)) →
    (rows : List Statement) × IsCertificateOf nodes a b list table rows
certificate-of rule entry nodes a b list table agree left right =
    let f = first_claims list.rules.items table.entries.items in
    let made = coarsest-made ends f in
    let claimed = claimed-right f made.0 made.2 in
    let same : (header : List ℕ) → IsHeader header → f header ≡ node_claims nodes a b header =
    λ header is.
    ap (λ (o : Option ℕ). let c : Claims = (o, number_of_place (words.first_match header table.entries.items)) in c) (sym (left header is))
    ∙ ap (λ (o : Option ℕ). let c : Claims = (number_answered (answer nodes a header), o) in c) (sym (right header is)) in (
      made.0,
      record {
        certificate = certified rule entry list table made.0 agree made.1 claimed;
        rows_of_nodes = record {
          coarsest = made.1;
          claimed = right-claimed (node_claims nodes a b) made.0 (claimed-alike f (node_claims nodes a b) made.0 same (coarsest-boxes ends made.0 made.1) claimed);
        };
      },
    )

-- The search for an open pair without a line.
use Rattle.std.proofs.Common.{◌≡◌, ◌⊎◌, ◌∷◌, ◌++◌, ◌∙◌, ℕ, zero, suc, ◌+◌, ◌/◌, ◌%◌, ◌^◌, ◌<◌, ◌≤◌, List, [], Bool, true, false, Option, Some, None, IfSome, Contains, min, bit_and, bit_xor, length, slice_get, slice_index, slice_index_or, nat_eq, ap, refl, sym, subst, arith, inl, inr, if◌then◌else◌}
use Rattle.std.specs.Bool.{OnFalse}
use Rattle.std.specs.Int.{bit_at}
use Rattle.std.specs.List.{AllWithin}
use Rattle.std.proofs.lemmas.Bool.{cases_lt, false_from_ne_true}
use Rattle.std.proofs.lemmas.Bool.Decides.{eqb_tells}
use Rattle.std.proofs.lemmas.List.{get_or_default}
use Rattle.std.proofs.lemmas.List.Elements.{Contains-append_left, Contains-push}
use Rattle.std.proofs.lemmas.Nat.Bits.{bit_at_and, bit_at_xor, bit_at-lt, bit_at-zero}
use Rattle.field_boxes.specs.declared.rule.Rule.{Rule}
use Rattle.ternary_words.specs.declared.word.Word.{Word}
use Rattle.agreement_check.specs.declared.pair.Pair.{Pair}
use Rattle.agreement_check.specs.Claims.{IsMissing, Taken}
use Rattle.agreement_check.specs.Covers.{Sides, entry_word, rule_word}
use Rattle.word_cover.specs.Cubes.{Allows, Cube, Meet, cube_of}
use Rattle.agreement_check.specs.Joins.{AreRuleWords, IsFirstOf, IsNoLater, IsOf}
use Rattle.agreement_check.specs.Pairs.{comes_before}
use Rattle.agreement_check.proofs.Ordered.{not-itself}

-- Lists of places.

pub one-further : {X : Type 0} (P : X → Type 0) (xs : List X) (n : ℕ) → AllWithin P xs 0 n → ((d : X) → P (slice_index_or xs n d)) → AllWithin P xs 0 (n + 1)
one-further P xs n each here k d low less = elim (cases_lt k n) [
  | inl before ↦ each k d low before
  | inr not_before ↦ (let e : n ≡ k = omega (arith, less, not_before) in subst (λ m. P (slice_index_or xs m d)) e (here d))
]

pub contained : {X : Type 0} (P : X → Type 0) (xs : List X) (n : ℕ) → AllWithin P xs 0 n → length xs ≤ n → (x : X) → Contains xs x → P x
contained P xs n each all x (k, less, is) = subst P is (each k x (omega arith) (omega (arith, less, all)))

pub kept-on : {X : Type 0} (xs ys : List X) (x y : X) → ys ≡ xs ++ y ∷ [] → Contains xs x → Contains ys x
kept-on xs ys x y e has = subst (λ zs. Contains zs x) (sym e) (Contains-append_left xs (y ∷ []) x has)

pub kept-last : {X : Type 0} (xs ys : List X) (y : X) → ys ≡ xs ++ y ∷ [] → Contains ys y
kept-last xs ys y e = subst (λ zs. Contains zs y) (sym e) (Contains-push xs y)

-- of the first places each of which this holds is kept
keeps_in : (P : ℕ → Type 0) (places old new : List ℕ) (n e : ℕ) → n < length places → new ≡ old ++ slice_index_or places n e ∷ [] → AllWithin (λ k. P k → Contains old k) places 0 n →
    AllWithin (λ k. P k → Contains new k) places 0 (n + 1)
keeps_in P places old new n e less pushed each =
    one-further (λ k. P k → Contains new k) places n (λ k d low before p. kept-on old new (slice_index_or places k d) (slice_index_or places n e) pushed (each k d low before p))
    (λ d p. subst (Contains new) (get_or_default places n e d less) (kept-last old new (slice_index_or places n e) pushed))

keeps_out : (P : ℕ → Type 0) (places old : List ℕ) (n e : ℕ) → n < length places → (P (slice_index_or places n e) → ⊥) → AllWithin (λ k. P k → Contains old k) places 0 n →
    AllWithin (λ k. P k → Contains old k) places 0 (n + 1)
keeps_out P places old n e less not each = one-further (λ k. P k → Contains old k) places n each (λ d p. absurd (not (subst P (get_or_default places n d e less) p)))

pub kept-turn : (P : ℕ → Type 0) (places old new : List ℕ) (n e : ℕ) (t : Bool) → n < length places → new ≡ (if t then old ++ slice_index_or places n e ∷ [] else old) → OnFalse t (P (slice_index_or places n e) → ⊥) →
    AllWithin (λ k. P k → Contains old k) places 0 n → AllWithin (λ k. P k → Contains new k) places 0 (n + 1)
kept-turn P places old new n e true less is not each = keeps_in P places old new n e less is each
kept-turn P places old new n e false less is not each = subst (λ xs. AllWithin (λ k. P k → Contains xs k) places 0 (n + 1)) (sym is) (keeps_out P places old n e less not each)

pub places-more : (xs ys : List ℕ) (n : ℕ) → ys ≡ xs ++ n ∷ [] → ((k : ℕ) → k < n → Contains xs k) → (k : ℕ) → k < n + 1 → Contains ys k
places-more xs ys n e each k less = elim (cases_lt k n) [
  | inl low ↦ kept-on xs ys k n e (each k low)
  | inr high ↦ (let same : n ≡ k = omega (arith, less, high) in subst (Contains ys) same (kept-last xs ys n e))
]

-- Words of rules.

push_get : {A : Type 0} (xs : List A) (x : A) (k : ℕ) (y : A) → slice_get (xs ++ x ∷ []) k ≡ Some y → (slice_get xs k ≡ Some y) ⊎ ((length xs ≡ k) × (x ≡ y))
push_get [] x zero y h = inr (refl, cc)
push_get [] x (suc k) y h = absurd (cc h)
push_get (z ∷ xs) x zero y h = inl h
push_get (z ∷ xs) x (suc k) y h = elim (push_get xs x k y h) [ inl e ↦ inl e | inr e ↦ inr (omega (arith, e.0), e.1) ]

pub words-push : (rules : List Rule) (xs ys : List Word) (w : Word) (n : ℕ) → AreRuleWords rules xs → length xs ≡ n → cube_of w ≡ rule_word rules n → ys ≡ xs ++ w ∷ [] → AreRuleWords rules ys
words-push rules xs ys w n are long is e k x at = elim (push_get xs w k x (ap (λ zs. slice_get zs k) (sym e) ∙ at)) [
  | inl before ↦ are k x before
  | inr last ↦ ap cube_of (sym last.1) ∙ is ∙ ap (rule_word rules) (sym long ∙ last.0)
]

-- Two words that meet have headers with one value at a bit.

abbrev BothAllow : Cube → Cube → ℕ → Type 0
BothAllow a b bit = (Allows a bit false × Allows b bit false) ⊎ (Allows a bit true × Allows b bit true)

by_value : (a b : Cube) (bit : ℕ) (one : Bool) → Allows a bit one → Allows b bit one → BothAllow a b bit
by_value a b bit false f g = inl (f, g)
by_value a b bit true f g = inr (f, g)

same_value : (x y m n : ℕ) → x < 2 → y < 2 → m < 2 → n < 2 → (m ≡ 0 → ⊥) → (n ≡ 0 → ⊥) → min ((x + y) % 2) (min m n) ≡ 0 → x ≡ y
same_value x y m n a b c d e f h =
    let one : m ≡ 1 = grind (arith, e) in
    let other : n ≡ 1 = grind (arith, f) in
    omega (arith, one, other, h, a, b)

meet_bit : (a b : Cube) (bit : ℕ) → Meet a b → min ((bit_at a.value bit + bit_at b.value bit) % 2) (min (bit_at a.mask bit) (bit_at b.mask bit)) ≡ 0
meet_bit a b bit meet =
    ap (λ x. min x (min (bit_at a.mask bit) (bit_at b.mask bit))) (sym (bit_at_xor a.value b.value bit))
    ∙ ap (min (bit_at (bit_xor a.value b.value) bit)) (sym (bit_at_and a.mask b.mask bit))
    ∙ sym (bit_at_and (bit_xor a.value b.value) (bit_and a.mask b.mask) bit) ∙ ap (λ x. bit_at x bit) meet ∙ bit_at-zero bit

pub both-allow : (a b : Cube) (bit : ℕ) → Meet a b → BothAllow a b bit
both-allow a b bit meet =
    let va = nat_eq (a.value / 2 ^ bit % 2) 1 in
    let vb = nat_eq (b.value / 2 ^ bit % 2) 1 in
    elim (eqb_tells (a.mask / 2 ^ bit % 2) 0) [
      | inl free ↦ by_value a b bit vb (inl free.1) (inr refl)
      | inr set ↦ elim (eqb_tells (b.mask / 2 ^ bit % 2) 0) [
        | inl free ↦ by_value a b bit va (inr refl) (inl free.1)
        | inr also ↦
            let same = same_value (bit_at a.value bit) (bit_at b.value bit) (bit_at a.mask bit) (bit_at b.mask bit) (bit_at-lt a.value bit) (bit_at-lt b.value bit) (bit_at-lt a.mask bit) (bit_at-lt b.mask bit)
            set.1 also.1 (meet_bit a b bit meet) in
            by_value a b bit va (inr refl) (inr (ap (λ x. nat_eq x 1) (sym same)))
      ]
    ]

-- The first missing pair.

pub none-first : (s : Sides) (t : Taken) (Is : Pair → Type 0) → ((p : Pair) → Is p → IsMissing s t p → ⊥) → IsFirstOf s t Is None
none-first s t Is none = record { missing = tt; first = λ p is m. none p is m }

either_missing : (s : Sides) (t : Taken) (one other result : Option Pair) → IfSome one (IsMissing s t) → IfSome other (IsMissing s t) → (result ≡ one) ⊎ (result ≡ other) → IfSome result (IsMissing s t)
either_missing s t one other result a b (inl e) = subst (λ o. IfSome o (IsMissing s t)) (sym e) a
either_missing s t one other result a b (inr e) = subst (λ o. IfSome o (IsMissing s t)) (sym e) b

-- the earlier one of two is the first of those of which one of two facts holds, if they are missing
pub first-either : (s : Sides) (t : Taken) (A B C : Pair → Type 0) (one other result : Option Pair) → IsFirstOf s t A one → IsFirstOf s t B other →
    ((p : Pair) → IsNoLater one p → IsNoLater result p) → ((p : Pair) → IsNoLater other p → IsNoLater result p) → (result ≡ one) ⊎ (result ≡ other) →
    ((p : Pair) → C p → IsMissing s t p → A p ⊎ B p) → IsFirstOf s t C result
first-either s t A B C one other result a b first second either parts = record {
  missing = either_missing s t one other result a.missing b.missing either;
  first = λ p is m. elim (parts p is m) [ inl x ↦ first p (a.first p x m) | inr y ↦ second p (b.first p y m) ];
}

-- what is the first of more
pub first-of : (s : Sides) (t : Taken) (A C : Pair → Type 0) (found : Option Pair) → IsFirstOf s t A found → ((p : Pair) → C p → IsMissing s t p → A p) → IsFirstOf s t C found
first-of s t A C found a parts = record { missing = a.missing; first = λ p is m. a.first p (parts p is m) m }

-- one of the first places, of so many
abbrev pub IsBefore : List ℕ → ℕ → ℕ → Type 0
IsBefore xs n x = (k : ℕ) × (k < n) × (slice_index_or xs k x ≡ x)

-- the pair of a rule and an entry
pub pair-is : (p : Pair) (r e : ℕ) → p.rule ≡ r → p.entry ≡ e → p ≡ record { rule = r; entry = e }
pair-is p r e a b = ap (λ n. record { rule = n; entry = p.entry }) a ∙ ap (λ n. record { rule = r; entry = n }) b

-- one more
pub before-more : (xs : List ℕ) (n x : ℕ) → IsBefore xs (n + 1) x → IsBefore xs n x ⊎ (slice_index_or xs n x ≡ x)
before-more xs n x (k, less, is) = elim (cases_lt k n) [
  | inl low ↦ inl (k, low, is)
  | inr high ↦ (let e : k ≡ n = omega (arith, less, high) in inr (subst (λ m. slice_index_or xs m x ≡ x) e is))
]

pub before-all : (xs : List ℕ) (n x : ℕ) → length xs ≤ n → Contains xs x → IsBefore xs n x
before-all xs n x all (k, less, is) = (k, omega (arith, less, all), is)

-- a pair whose rule or entry comes past all of them isn't missing
none_past : (xs : List ℕ) (k : ℕ) → length xs ≤ k → slice_index xs k ≡ 0
none_past [] k h = refl
none_past (x ∷ xs) zero h = absurd (omega (arith, h))
none_past (x ∷ xs) (suc k) h = none_past xs k (omega (arith, h))

pub missing-rule : (s : Sides) (t : Taken) (p : Pair) → IsMissing s t p → p.rule < length t.rules
missing-rule s t p m = elim (cases_lt p.rule (length t.rules)) [ inl less ↦ less | inr past ↦ absurd (omega (arith, m.open_pair.entry_reached, none_past t.rules p.rule past)) ]

pub missing-entry : (s : Sides) (t : Taken) (p : Pair) → IsMissing s t p → p.entry < length t.entries
missing-entry s t p m = elim (cases_lt p.entry (length t.entries)) [ inl less ↦ less | inr past ↦ absurd (omega (arith, m.open_pair.rule_reached, none_past t.entries p.entry past)) ]

-- One rule more, or one entry.

pub rule-turn : (s : Sides) (t : Taken) (rules : List ℕ) (n e entry : ℕ) (one other result : Option Pair) → n < length rules →
    IsFirstOf s t (λ p. IsBefore rules n p.rule × (p.entry ≡ entry)) one → IsFirstOf s t (λ p. p ≡ record { rule = slice_index_or rules n e; entry = entry }) other →
    ((p : Pair) → IsNoLater one p → IsNoLater result p) → ((p : Pair) → IsNoLater other p → IsNoLater result p) → (result ≡ one) ⊎ (result ≡ other) →
    IsFirstOf s t (λ p. IsBefore rules (n + 1) p.rule × (p.entry ≡ entry)) result
rule-turn s t rules n e entry one other result less a b first second either =
    first-either s t (λ p. IsBefore rules n p.rule × (p.entry ≡ entry)) (λ p. p ≡ record { rule = slice_index_or rules n e; entry = entry }) (λ p. IsBefore rules (n + 1) p.rule × (p.entry ≡ entry))
    one other result a b first second either (λ p is m. elim (before-more rules n p.rule is.0) [
      | inl low ↦ inl (low, is.1)
      | inr here ↦ inr (pair-is p (slice_index_or rules n e) entry (sym here ∙ get_or_default rules n p.rule e less) is.1)
    ])

pub entry-turn : (s : Sides) (t : Taken) (rules entries : List ℕ) (n e : ℕ) (one other result : Option Pair) → n < length entries →
    IsFirstOf s t (λ p. Contains rules p.rule × IsBefore entries n p.entry) one → IsFirstOf s t (λ p. Contains rules p.rule × (p.entry ≡ slice_index_or entries n e)) other →
    ((p : Pair) → IsNoLater one p → IsNoLater result p) → ((p : Pair) → IsNoLater other p → IsNoLater result p) → (result ≡ one) ⊎ (result ≡ other) →
    IsFirstOf s t (λ p. Contains rules p.rule × IsBefore entries (n + 1) p.entry) result
entry-turn s t rules entries n e one other result less a b first second either =
    first-either s t (λ p. Contains rules p.rule × IsBefore entries n p.entry) (λ p. Contains rules p.rule × (p.entry ≡ slice_index_or entries n e)) (λ p. Contains rules p.rule × IsBefore entries (n + 1) p.entry)
    one other result a b first second either (λ p is m. elim (before-more entries n p.entry is.1) [
      | inl low ↦ inl (is.0, low)
      | inr here ↦ inr (is.0, sym here ∙ get_or_default entries n p.entry e less)
    ])

-- none of them, and all
pub no-rule-yet : (s : Sides) (t : Taken) (rules : List ℕ) (entry : ℕ) → IsFirstOf s t (λ p. IsBefore rules 0 p.rule × (p.entry ≡ entry)) None
no-rule-yet s t rules entry = none-first s t (λ p. IsBefore rules 0 p.rule × (p.entry ≡ entry)) (λ p is m. omega (arith, is.0.1))

pub no-entry-yet : (s : Sides) (t : Taken) (rules entries : List ℕ) → IsFirstOf s t (λ p. Contains rules p.rule × IsBefore entries 0 p.entry) None
no-entry-yet s t rules entries = none-first s t (λ p. Contains rules p.rule × IsBefore entries 0 p.entry) (λ p is m. omega (arith, is.1.1))

pub all-rules : (s : Sides) (t : Taken) (rules : List ℕ) (n entry : ℕ) (found : Option Pair) → length rules ≤ n → IsFirstOf s t (λ p. IsBefore rules n p.rule × (p.entry ≡ entry)) found →
    IsFirstOf s t (λ p. Contains rules p.rule × (p.entry ≡ entry)) found
all-rules s t rules n entry found all f =
    first-of s t (λ p. IsBefore rules n p.rule × (p.entry ≡ entry)) (λ p. Contains rules p.rule × (p.entry ≡ entry)) found f (λ p is m. (before-all rules n p.rule all is.0, is.1))

pub all-entries : (s : Sides) (t : Taken) (rules entries : List ℕ) (n : ℕ) (found : Option Pair) → length entries ≤ n → IsFirstOf s t (λ p. Contains rules p.rule × IsBefore entries n p.entry) found →
    IsFirstOf s t (IsOf rules entries) found
all-entries s t rules entries n found all f =
    first-of s t (λ p. Contains rules p.rule × IsBefore entries n p.entry) (IsOf rules entries) found f (λ p is m. (is.0, before-all entries n p.entry all is.1))

-- One pair.

pub one-first : (s : Sides) (t : Taken) (pair : Pair) → IsMissing s t pair → IsFirstOf s t (λ p. p ≡ pair) (Some pair)
one-first s t pair m = record { missing = m; first = λ p is h. subst (λ q. comes_before q pair ≡ false) (sym is) (false_from_ne_true (comes_before pair pair) (not-itself pair)) }

pub no-first : (s : Sides) (t : Taken) (pair : Pair) → (IsMissing s t pair → ⊥) → IsFirstOf s t (λ p. p ≡ pair) None
no-first s t pair none = none-first s t (λ p. p ≡ pair) (λ p is m. none (subst (IsMissing s t) is m))

-- past the words of all rules
pub past-first : (s : Sides) (t : Taken) (pair : Pair) (n m : ℕ) → length t.rules ≤ n → m ≡ n → m ≤ pair.rule → IsFirstOf s t (λ p. p ≡ pair) None
past-first s t pair n m few each past = no-first s t pair (λ is. omega (arith, missing-rule s t pair is, few, each, past))

-- Halves.

-- a pair that is missing is one of those whose words have headers with 0 at the bit, or with 1
pub halves-first : (s : Sides) (t : Taken) (rules entries : List ℕ) (zero_rules zero_entries one_rules one_entries : List ℕ) (bit : ℕ) (first_half other_half result : Option Pair) →
    ((k : ℕ) → Contains rules k → Allows (rule_word s.list.rules.items k) bit false → Contains zero_rules k) →
    ((k : ℕ) → Contains entries k → Allows (entry_word s.table.entries.items k) bit false → Contains zero_entries k) →
    ((k : ℕ) → Contains rules k → Allows (rule_word s.list.rules.items k) bit true → Contains one_rules k) →
    ((k : ℕ) → Contains entries k → Allows (entry_word s.table.entries.items k) bit true → Contains one_entries k) →
    IsFirstOf s t (IsOf zero_rules zero_entries) first_half → IsFirstOf s t (IsOf one_rules one_entries) other_half →
    ((p : Pair) → IsNoLater first_half p → IsNoLater result p) → ((p : Pair) → IsNoLater other_half p → IsNoLater result p) → (result ≡ first_half) ⊎ (result ≡ other_half) → IsFirstOf s t (IsOf rules entries) result
halves-first s t rules entries zero_rules zero_entries one_rules one_entries bit first_half other_half result zr ze or oe a b first second either =
    first-either s t (IsOf zero_rules zero_entries) (IsOf one_rules one_entries) (IsOf rules entries) first_half other_half result a b first second either
    (λ p is m. elim (both-allow (rule_word s.list.rules.items p.rule) (entry_word s.table.entries.items p.entry) bit m.open_pair.words) [
      | inl both ↦ inl (zr p.rule is.0 both.0, ze p.entry is.1 both.1)
      | inr both ↦ inr (or p.rule is.0 both.0, oe p.entry is.1 both.1)
    ])

-- what is left within the covers
pub within-first : (s : Sides) (t : Taken) (rules entries fewer_rules fewer_entries own_rules last_rules last_entries : List ℕ) (found : Option Pair) → own_rules ≡ fewer_rules → last_rules ≡ fewer_rules →
    last_entries ≡ fewer_entries → ((p : Pair) → IsOf rules entries p → IsMissing s t p → Contains fewer_rules p.rule) →
    ((p : Pair) → IsOf own_rules entries p → IsMissing s t p → Contains fewer_entries p.entry) → IsFirstOf s t (IsOf last_rules last_entries) found → IsFirstOf s t (IsOf rules entries) found
within-first s t rules entries fewer_rules fewer_entries own_rules last_rules last_entries found own last of r e f =
    first-of s t (IsOf last_rules last_entries) (IsOf rules entries) found f (λ p is m.
    let rule = r p is m in
    let entry = e p (subst (λ xs. Contains xs p.rule) (sym own) rule, is.1) m in
    (subst (λ xs. Contains xs p.rule) (sym last) rule, subst (λ xs. Contains xs p.entry) (sym of) entry))

-- the lists by other names
pub half-as : (P : ℕ → Type 0) (all all_ some some_ : List ℕ) → all_ ≡ all → some_ ≡ some → ((k : ℕ) → Contains all_ k → P k → Contains some k) → (k : ℕ) → Contains all k → P k → Contains some_ k
half-as P all all_ some some_ e f each k has is = subst (λ xs. Contains xs k) (sym f) (each k (subst (λ xs. Contains xs k) (sym e) has) is)

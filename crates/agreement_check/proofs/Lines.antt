-- The words of a line: which line of a proof they may still become, and that they can't become one that is due.
use Rattle.std.proofs.Common.{◌≡◌, ◌∷◌, ◌++◌, ℕ, zero, suc, ◌+◌, ◌<◌, ◌≤◌, ◌↔◌, List, [], Bool, true, false, not, IsTrue, Option, Some, None, Result, Ok, Err, IfOk, IfSome, nat_eq, if◌then◌else◌, option_map, is_some, codes, length, nat_le, bytes_eq, ap, refl, sym, subst, ◌∙◌, arith, append_assoc, eqb-true, leb-false, leb-true}
use Rattle.std.proofs.lemmas.Bool.{false≢true}
use Rattle.std.proofs.lemmas.Option.{cond_some, same_Some}
use Rattle.std.proofs.lemmas.Slice.Eq.{bytes_eq-Decides}
use Rattle.text_lines.specs.Headline.Steps.{◌>>=◌}
use Rattle.text_lines.specs.Numbers.{plain_number}
use Rattle.agreement_check.specs.declared.claims.Claims.{Claims}
use Rattle.agreement_check.specs.declared.claims.Due.{Due}
use Rattle.agreement_check.specs.declared.claims.Due.TheVariants as due
use Rattle.agreement_check.specs.declared.claims.Stage.{Stage}
use Rattle.agreement_check.specs.declared.claims.Stage.TheVariants as stage
use Rattle.agreement_check.specs.declared.cover.Cover.{Cover}
use Rattle.agreement_check.specs.declared.line.At.{At}
use Rattle.agreement_check.specs.declared.line.At.TheVariants as at
use Rattle.agreement_check.specs.declared.line.Line as code_line
use Rattle.agreement_check.specs.declared.pair.Pair.{Pair}
use Rattle.agreement_check.specs.declared.step.Step.{Step}
use Rattle.agreement_check.specs.declared.step.Terms.{Terms}
use Rattle.agreement_check.specs.declared.valid.Difference.{Difference}
use Rattle.agreement_check.specs.Claims.{entry_claim, pair_claim, rule_claim, sides_of}
use Rattle.agreement_check.specs.Covers.{Claim, Sides}
use Rattle.agreement_check.specs.Covering.{StandsFor}
use Rattle.agreement_check.specs.Standing.{AreStepsOf, HasNoForm, IsAt, IsBehind, IsCoverFront, IsHeadingFront, IsLastFront, IsPairFront, claim_due_in, due_by, due_in, entry_count, header_of, is_entry, list_in, own_sides, reading_by, reading_in, rule_count, table_in, taken_in, terms_in}
use Rattle.agreement_check.specs.Steps.{are_covers, cover_of, place_in, step_of, steps_of}
use Rattle.agreement_check.specs.Texts.{Line, counts_due, due_at, header_due, entry_line, heading_of, last_line, last_line_of, pair_line, pair_line_of, rule_line, terms_of}
use Rattle.agreement_check.specs.Verdict.{IsDue, line_in}
use Rattle.agreement_check.proofs.FirstLine.{no-heading}

-- Which kind of line is due.

abbrev kind_by : Bool → Bool → Due
kind_by a b = if a then due.Entry else (if b then due.Rule else due.Pair)

begun_by : (st : Stage) (k want : Due) → (want ≡ due.Heading → ⊥) → (want ≡ due.Nothing → ⊥) → due_by st k ≡ want → (st ≡ stage.Begun) × (k ≡ want)
begun_by stage.Fresh k want h n e = absurd (h (sym e))
begun_by stage.Begun k want h n e = (refl, e)
begun_by stage.Ended k want h n e = absurd (n (sym e))

pub begun-entry : (c : Claims) → due_in c ≡ due.Entry → (c.stage ≡ stage.Begun) × (claim_due_in c ≡ due.Entry)
begun-entry c e = begun_by c.stage (claim_due_in c) due.Entry (λ f. cc f) (λ f. cc f) e

pub begun-rule : (c : Claims) → due_in c ≡ due.Rule → (c.stage ≡ stage.Begun) × (claim_due_in c ≡ due.Rule)
begun-rule c e = begun_by c.stage (claim_due_in c) due.Rule (λ f. cc f) (λ f. cc f) e

pub begun-pair : (c : Claims) → due_in c ≡ due.Pair → (c.stage ≡ stage.Begun) × (claim_due_in c ≡ due.Pair)
begun-pair c e = begun_by c.stage (claim_due_in c) due.Pair (λ f. cc f) (λ f. cc f) e

fresh_by : (st : Stage) (a b : Bool) → due_by st (kind_by a b) ≡ due.Heading → st ≡ stage.Fresh
fresh_by stage.Fresh a b e = refl
fresh_by stage.Begun true b e = absurd (cc e)
fresh_by stage.Begun false true e = absurd (cc e)
fresh_by stage.Begun false false e = absurd (cc e)
fresh_by stage.Ended a b e = absurd (cc e)

pub fresh-in : (c : Claims) → due_in c ≡ due.Heading → c.stage ≡ stage.Fresh
fresh-in c e = fresh_by c.stage (nat_le (length c.entries.items) (entry_count c)) (nat_le (length c.rules.items) (rule_count c)) e

ended_by : (st : Stage) (a b : Bool) → due_by st (kind_by a b) ≡ due.Nothing → st ≡ stage.Ended
ended_by stage.Fresh a b e = absurd (cc e)
ended_by stage.Begun true b e = absurd (cc e)
ended_by stage.Begun false true e = absurd (cc e)
ended_by stage.Begun false false e = absurd (cc e)
ended_by stage.Ended a b e = refl

pub ended-in : (c : Claims) → due_in c ≡ due.Nothing → c.stage ≡ stage.Ended
ended-in c e = ended_by c.stage (nat_le (length c.entries.items) (entry_count c)) (nat_le (length c.rules.items) (rule_count c)) e

-- the lines of a kind
abbrev IsOfKind : Due → Line → Type 0
IsOfKind due.Entry (entry_line steps) = Unit {0}
IsOfKind due.Rule (rule_line steps) = Unit {0}
IsOfKind due.Pair (pair_line p steps) = Unit {0}
IsOfKind due.Pair (last_line k) = Unit {0}
IsOfKind kind line = ⊥

abbrev pub IsDueIn : Claims → Line → Type 0
IsDueIn c line = IsDue (sides_of (list_in c) (table_in c) (taken_in c)) (taken_in c) line

of_kind : (c : Claims) (line : Line) (a b : Bool) → nat_le (length c.entries.items) (entry_count c) ≡ a → nat_le (length c.rules.items) (rule_count c) ≡ b → IsDueIn c line → IsOfKind (kind_by a b) line
of_kind c (entry_line steps) true b ea eb is = tt
of_kind c (entry_line steps) false b ea eb is = absurd (is (leb-false (length c.entries.items) (entry_count c) ea))
of_kind c (rule_line steps) true b ea eb is = let le = leb-true (length c.entries.items) (entry_count c) ea in absurd (omega (arith, le, is.0))
of_kind c (rule_line steps) false true ea eb is = tt
of_kind c (rule_line steps) false false ea eb is = absurd (is.1 (leb-false (length c.rules.items) (rule_count c) eb))
of_kind c (pair_line p steps) true b ea eb is = let le = leb-true (length c.entries.items) (entry_count c) ea in absurd (omega (arith, le, is.0))
of_kind c (pair_line p steps) false true ea eb is = let le = leb-true (length c.rules.items) (rule_count c) eb in absurd (omega (arith, le, is.1))
of_kind c (pair_line p steps) false false ea eb is = tt
of_kind c (last_line k) true b ea eb is = let le = leb-true (length c.entries.items) (entry_count c) ea in absurd (omega (arith, le, is.0))
of_kind c (last_line k) false true ea eb is = let le = leb-true (length c.rules.items) (rule_count c) eb in absurd (omega (arith, le, is.1))
of_kind c (last_line k) false false ea eb is = tt

-- What words spell.

abbrev pub terms_at : Claims → Bool → Terms
terms_at c missed = terms_of (rule_count c) (entry_count c) missed (is_some (header_of c.difference))

abbrev pub SpellsPair : Claims → List (List ℕ) → Pair → List Step → Type 0
SpellsPair c (i ∷ j ∷ words) p steps = (place_in (rule_count c + 1) i ≡ Some p.rule) × (place_in (entry_count c + 1) j ≡ Some p.entry) × (cover_of (terms_at c true) words ≡ Some steps)
SpellsPair c words p steps = ⊥

abbrev pub SpellsLast : List (List ℕ) → ℕ → Type 0
SpellsLast (word ∷ []) k = plain_number 4294967295 word ≡ Some k
SpellsLast words k = ⊥

abbrev pub Spells : Claims → List ℕ → List (List ℕ) → Line → Type 0
Spells c kind words (entry_line steps) = (kind ≡ codes "e") × (cover_of (terms_at c false) words ≡ Some steps)
Spells c kind words (rule_line steps) = (kind ≡ codes "r") × (cover_of (terms_at c true) words ≡ Some steps)
Spells c kind words (pair_line p steps) = (kind ≡ codes "p") × SpellsPair c words p steps
Spells c kind words (last_line k) = (kind ≡ codes "pairs") × SpellsLast words k

module _ (c : Claims) (kind : List ℕ) where
  entry_spelled : (words : List (List ℕ)) (line : Line) (o : Option (List Step)) → kind ≡ codes "e" → cover_of (terms_at c false) words ≡ o → option_map (λ steps. entry_line steps) o ≡ Some line → Spells c kind words line
  entry_spelled words line None k e f = absurd (cc f)
  entry_spelled words line (Some steps) k e f = subst (Spells c kind words) (same_Some (entry_line steps) line f) (k, e)

  rule_spelled : (words : List (List ℕ)) (line : Line) (o : Option (List Step)) → kind ≡ codes "r" → cover_of (terms_at c true) words ≡ o → option_map (λ steps. rule_line steps) o ≡ Some line → Spells c kind words line
  rule_spelled words line None k e f = absurd (cc f)
  rule_spelled words line (Some steps) k e f = subst (Spells c kind words) (same_Some (rule_line steps) line f) (k, e)

  pair_by : (i j : List ℕ) (words : List (List ℕ)) (line : Line) (x y : Option ℕ) (z : Option (List Step)) → kind ≡ codes "p" → place_in (rule_count c + 1) i ≡ x → place_in (entry_count c + 1) j ≡ y →
      cover_of (terms_at c true) words ≡ z → (x >>= (λ rule. y >>= (λ entry. z >>= (λ steps. Some (pair_line (record { rule = rule; entry = entry }) steps))))) ≡ Some line → Spells c kind (i ∷ j ∷ words) line
  pair_by i j words line None y z k ex ey ez f = absurd (cc f)
  pair_by i j words line (Some rule) None z k ex ey ez f = absurd (cc f)
  pair_by i j words line (Some rule) (Some entry) None k ex ey ez f = absurd (cc f)
  pair_by i j words line (Some rule) (Some entry) (Some steps) k ex ey ez f =
      subst (Spells c kind (i ∷ j ∷ words)) (same_Some (pair_line (record { rule = rule; entry = entry }) steps) line f) (k, (ex, ey, ez))

  pair_spelled : (words : List (List ℕ)) (line : Line) → kind ≡ codes "p" → pair_line_of (terms_at c true) words ≡ Some line → Spells c kind words line
  pair_spelled [] line k f = absurd (cc f)
  pair_spelled (i ∷ []) line k f = absurd (cc f)
  pair_spelled (i ∷ j ∷ words) line k f = pair_by i j words line (place_in (rule_count c + 1) i) (place_in (entry_count c + 1) j) (cover_of (terms_at c true) words) k refl refl refl f

  last_by : (word : List ℕ) (line : Line) (o : Option ℕ) → kind ≡ codes "pairs" → plain_number 4294967295 word ≡ o → option_map (λ n. last_line n) o ≡ Some line → Spells c kind (word ∷ []) line
  last_by word line None k e f = absurd (cc f)
  last_by word line (Some n) k e f = subst (Spells c kind (word ∷ [])) (same_Some (last_line n) line f) (k, e)

  last_spelled : (words : List (List ℕ)) (line : Line) → kind ≡ codes "pairs" → last_line_of words ≡ Some line → Spells c kind words line
  last_spelled [] line k f = absurd (cc f)
  last_spelled (word ∷ []) line k f = last_by word line (plain_number 4294967295 word) k refl f
  last_spelled (word ∷ next ∷ words) line k f = absurd (cc f)

  is_text : (text : List ℕ) → bytes_eq kind text ≡ true → kind ≡ text
  is_text text e = (bytes_eq-Decides kind text).0 e

  spelled_by : (words : List (List ℕ)) (line : Line) (e r p last : Bool) → bytes_eq kind (codes "e") ≡ e → bytes_eq kind (codes "r") ≡ r → bytes_eq kind (codes "p") ≡ p → bytes_eq kind (codes "pairs") ≡ last →
      (if e then option_map (λ steps. entry_line steps) (cover_of (terms_at c false) words)
      else (if r then option_map (λ steps. rule_line steps) (cover_of (terms_at c true) words)
      else (if p then pair_line_of (terms_at c true) words
      else (if last then last_line_of words else None)))) ≡ Some line → Spells c kind words line
  spelled_by words line true r p last is_e is_r is_p is_last f = entry_spelled words line (cover_of (terms_at c false) words) (is_text (codes "e") is_e) refl f
  spelled_by words line false true p last is_e is_r is_p is_last f = rule_spelled words line (cover_of (terms_at c true) words) (is_text (codes "r") is_r) refl f
  spelled_by words line false false true last is_e is_r is_p is_last f = pair_spelled words line (is_text (codes "p") is_p) f
  spelled_by words line false false false true is_e is_r is_p is_last f = last_spelled words line (is_text (codes "pairs") is_last) f
  spelled_by words line false false false false is_e is_r is_p is_last f = absurd (cc f)

  pub spelled : (words : List (List ℕ)) (line : Line) → line_in (list_in c) (table_in c) (taken_in c) (kind ∷ words) ≡ Some line → Spells c kind words line
  spelled words line f = spelled_by words line (bytes_eq kind (codes "e")) (bytes_eq kind (codes "r")) (bytes_eq kind (codes "p")) (bytes_eq kind (codes "pairs")) refl refl refl refl f

-- Words of no line that is due.

abbrev pub NoForm : Claims → List (List ℕ) → Type 0
NoForm c words = HasNoForm (list_in c) (table_in c) (reading_in c).taken (reading_in c).ended words

abbrev pub NoFormBy : Claims → List (List ℕ) → Stage → Type 0
NoFormBy c words st = HasNoForm (list_in c) (table_in c) (reading_by st (taken_in c)).taken (reading_by st (taken_in c)).ended words

pub no-form-fresh : (c : Claims) (words : List (List ℕ)) → c.stage ≡ stage.Fresh → heading_of words ≡ None → NoForm c words
no-form-fresh c words e none = subst (NoFormBy c words) (sym e) none

pub no-form-ended : (c : Claims) (words : List (List ℕ)) → c.stage ≡ stage.Ended → NoForm c words
no-form-ended c words e = subst (NoFormBy c words) (sym e) tt

pub if_none : (o : Option Line) (P : Line → Type 0) → ((line : Line) → o ≡ Some line → P line) → IfSome o P
if_none None P f = tt
if_none (Some line) P f = f line refl

nothing : (c : Claims) (k : Due) (kind : List ℕ) (words : List (List ℕ)) → c.stage ≡ stage.Begun → claim_due_in c ≡ k → ((line : Line) → IsOfKind k line → Spells c kind words line → ⊥) → NoForm c (kind ∷ words)
nothing c k kind words begun is f =
    let each : (line : Line) → line_in (list_in c) (table_in c) (taken_in c) (kind ∷ words) ≡ Some line → IsDueIn c line → ⊥ = λ line e d.
    let of : IsOfKind (claim_due_in c) line = of_kind c line (nat_le (length c.entries.items) (entry_count c)) (nat_le (length c.rules.items) (rule_count c)) refl refl d in
    f line (subst (λ (x : Due). IsOfKind x line) is of) (spelled c kind words line e) in
    subst (NoFormBy c (kind ∷ words)) (sym begun) (if_none (line_in (list_in c) (table_in c) (taken_in c) (kind ∷ words)) (λ line. IsDueIn c line → ⊥) each)

-- one word more, and any behind it
pub behind-all : (c : Claims) (words : List (List ℕ)) (word : List ℕ) → ((more : List (List ℕ)) → NoForm c (words ++ word ∷ more)) → (more : List (List ℕ)) → NoForm c ((words ++ word ∷ []) ++ more)
behind-all c words word f more = subst (NoForm c) (sym (append_assoc words (word ∷ []) more)) (f more)

pub heading-none : (c : Claims) (place : ℕ) (numbers : List ℕ) (words : List (List ℕ)) (word : List ℕ) → c.stage ≡ stage.Fresh → IsHeadingFront place numbers words → due_at (counts_due ++ header_due) place word ≡ None →
    (more : List (List ℕ)) → NoForm c ((words ++ word ∷ []) ++ more)
heading-none c place numbers words word fresh h e = behind-all c words word (λ more.
    no-form-fresh c (words ++ word ∷ more) fresh (no-heading words word more (subst (λ n. due_at (counts_due ++ header_due) n word ≡ None) (sym h.count) e)))

-- A line that has to begin otherwise.

not_entry : (c : Claims) (kind : List ℕ) (words : List (List ℕ)) (line : Line) → (kind ≡ codes "e" → ⊥) → IsOfKind due.Entry line → Spells c kind words line → ⊥
not_entry c kind words (entry_line steps) other of s = other s.0
not_entry c kind words (rule_line steps) other of s = of
not_entry c kind words (pair_line p steps) other of s = of
not_entry c kind words (last_line k) other of s = of

pub no-entry : (c : Claims) (kind : List ℕ) (words : List (List ℕ)) → due_in c ≡ due.Entry → (kind ≡ codes "e" → ⊥) → NoForm c (kind ∷ words)
no-entry c kind words e other =
    let is = begun-entry c e in
    nothing c due.Entry kind words is.0 is.1 (λ line of s. not_entry c kind words line other of s)

not_rule : (c : Claims) (kind : List ℕ) (words : List (List ℕ)) (line : Line) → (kind ≡ codes "r" → ⊥) → IsOfKind due.Rule line → Spells c kind words line → ⊥
not_rule c kind words (entry_line steps) other of s = of
not_rule c kind words (rule_line steps) other of s = other s.0
not_rule c kind words (pair_line p steps) other of s = of
not_rule c kind words (last_line k) other of s = of

pub no-rule : (c : Claims) (kind : List ℕ) (words : List (List ℕ)) → due_in c ≡ due.Rule → (kind ≡ codes "r" → ⊥) → NoForm c (kind ∷ words)
no-rule c kind words e other =
    let is = begun-rule c e in
    nothing c due.Rule kind words is.0 is.1 (λ line of s. not_rule c kind words line other of s)

-- The line of a pair, and the last line.

p_pairs : (kind : List ℕ) → kind ≡ codes "p" → kind ≡ codes "pairs" → ⊥
p_pairs kind p pairs = let e : length (codes "p") ≡ length (codes "pairs") = ap length (sym p ∙ pairs) in omega (arith, e)

pair_refuted : (c : Claims) (kind : List ℕ) (words : List (List ℕ)) (line : Line) → kind ≡ codes "p" → ((p : Pair) (steps : List Step) → SpellsPair c words p steps → ⊥) → IsOfKind due.Pair line → Spells c kind words line → ⊥
pair_refuted c kind words (entry_line steps) p f of s = of
pair_refuted c kind words (rule_line steps) p f of s = of
pair_refuted c kind words (pair_line q steps) p f of s = f q steps s.1
pair_refuted c kind words (last_line k) p f of s = p_pairs kind p s.0

last_refuted : (c : Claims) (kind : List ℕ) (words : List (List ℕ)) (line : Line) → kind ≡ codes "pairs" → ((k : ℕ) → SpellsLast words k → ⊥) → IsOfKind due.Pair line → Spells c kind words line → ⊥
last_refuted c kind words (entry_line steps) p f of s = of
last_refuted c kind words (rule_line steps) p f of s = of
last_refuted c kind words (pair_line q steps) p f of s = p_pairs kind s.0 p
last_refuted c kind words (last_line k) p f of s = f k s.1

neither_refuted : (c : Claims) (kind : List ℕ) (words : List (List ℕ)) (line : Line) → (kind ≡ codes "p" → ⊥) → (kind ≡ codes "pairs" → ⊥) → IsOfKind due.Pair line → Spells c kind words line → ⊥
neither_refuted c kind words (entry_line steps) p q of s = of
neither_refuted c kind words (rule_line steps) p q of s = of
neither_refuted c kind words (pair_line r steps) p q of s = p s.0
neither_refuted c kind words (last_line k) p q of s = q s.0

pub no-kind : (c : Claims) (kind : List ℕ) (words : List (List ℕ)) → due_in c ≡ due.Pair → (kind ≡ codes "p" → ⊥) → (kind ≡ codes "pairs" → ⊥) → NoForm c (kind ∷ words)
no-kind c kind words e p q =
    let is = begun-pair c e in
    nothing c due.Pair kind words is.0 is.1 (λ line of s. neither_refuted c kind words line p q of s)

no_first : (c : Claims) (word : List ℕ) (more : List (List ℕ)) (p : Pair) (steps : List Step) → place_in (rule_count c + 1) word ≡ None → SpellsPair c (word ∷ more) p steps → ⊥
no_first c word [] p steps none s = s
no_first c word (j ∷ more) p steps none s = let e = sym none ∙ s.0 in cc e

-- the number of the rule is none
pub no-rule_number : (c : Claims) (words : List (List ℕ)) (word : List ℕ) (more : List (List ℕ)) → due_in c ≡ due.Pair → IsPairFront (rule_count c + 1) [] words → place_in (rule_count c + 1) word ≡ None →
    NoForm c (words ++ word ∷ more)
no-rule_number c (kind ∷ []) word more e front none =
    let is = begun-pair c e in
    nothing c due.Pair kind (word ∷ more) is.0 is.1 (λ line of s. pair_refuted c kind (word ∷ more) line front (λ p steps t. no_first c word more p steps none t) of s)
no-rule_number c [] word more e front none = absurd front
no-rule_number c (kind ∷ next ∷ words) word more e front none = absurd front

pub rule-number : (rules rule : ℕ) (words : List (List ℕ)) (word : List ℕ) → IsPairFront rules [] words → place_in rules word ≡ Some rule → IsPairFront rules (rule ∷ []) (words ++ word ∷ [])
rule-number rules rule (kind ∷ []) word front some = (front, some)
rule-number rules rule [] word front some = absurd front
rule-number rules rule (kind ∷ next ∷ words) word front some = absurd front

no_second : (c : Claims) (i word : List ℕ) (more : List (List ℕ)) (p : Pair) (steps : List Step) → place_in (entry_count c + 1) word ≡ None → SpellsPair c (i ∷ word ∷ more) p steps → ⊥
no_second c i word more p steps none s = let e = sym none ∙ s.1 in cc e

-- the number of the entry is none
pub no-entry_number : (c : Claims) (rule : ℕ) (rest : List ℕ) (words : List (List ℕ)) (word : List ℕ) (more : List (List ℕ)) → due_in c ≡ due.Pair → IsPairFront (rule_count c + 1) (rule ∷ rest) words →
    place_in (entry_count c + 1) word ≡ None → NoForm c (words ++ word ∷ more)
no-entry_number c rule [] (kind ∷ i ∷ []) word more e front none =
    let is = begun-pair c e in
    nothing c due.Pair kind (i ∷ word ∷ more) is.0 is.1 (λ line of s. pair_refuted c kind (i ∷ word ∷ more) line front.0 (λ p steps t. no_second c i word more p steps none t) of s)
no-entry_number c rule rest words word more e front none = absurd front

pub entry-number : (c : Claims) (rule entry : ℕ) (cover : Cover) (rest : List ℕ) (words : List (List ℕ)) (word : List ℕ) → IsPairFront (rule_count c + 1) (rule ∷ rest) words → place_in (entry_count c + 1) word ≡ Some entry →
    AreStepsOf (terms_in c) (own_sides c) (pair_claim (own_sides c) (record { rule = rule; entry = entry })) cover [] → IsCoverFront c due.Pair (rule ∷ rest ++ entry ∷ []) cover (words ++ word ∷ [])
entry-number c rule entry cover [] (kind ∷ i ∷ []) word front some are = (front.0, front.1, some, are)
entry-number c rule entry cover rest words word front some are = absurd front

-- a number behind that of the last line, or none in it
last_longer : (word next : List ℕ) (more : List (List ℕ)) (k : ℕ) → SpellsLast (word ∷ next ∷ more) k → ⊥
last_longer word next more k s = s

pub no-last_word : (c : Claims) (k : ℕ) (rest : List ℕ) (words : List (List ℕ)) (word : List ℕ) (more : List (List ℕ)) → due_in c ≡ due.Pair → IsLastFront (k ∷ rest) words → NoForm c (words ++ word ∷ more)
no-last_word c k [] (kind ∷ i ∷ []) word more e front =
    let is = begun-pair c e in
    nothing c due.Pair kind (i ∷ word ∷ more) is.0 is.1 (λ line of s. last_refuted c kind (i ∷ word ∷ more) line front.0 (λ n t. last_longer i word more n t) of s)
no-last_word c k rest words word more e front = absurd front

no_number : (word : List ℕ) (more : List (List ℕ)) (k : ℕ) → plain_number 4294967295 word ≡ None → SpellsLast (word ∷ more) k → ⊥
no_number word [] k none s = let e = sym none ∙ s in cc e
no_number word (next ∷ more) k none s = s

pub no-last_number : (c : Claims) (words : List (List ℕ)) (word : List ℕ) (more : List (List ℕ)) → due_in c ≡ due.Pair → IsLastFront [] words → plain_number 4294967295 word ≡ None → NoForm c (words ++ word ∷ more)
no-last_number c (kind ∷ []) word more e front none =
    let is = begun-pair c e in
    nothing c due.Pair kind (word ∷ more) is.0 is.1 (λ line of s. last_refuted c kind (word ∷ more) line front (λ n t. no_number word more n none t) of s)
no-last_number c [] word more e front none = absurd front
no-last_number c (kind ∷ next ∷ words) word more e front none = absurd front

pub last-number : (k : ℕ) (words : List (List ℕ)) (word : List ℕ) → IsLastFront [] words → plain_number 4294967295 word ≡ Some k → IsLastFront (k ∷ []) (words ++ word ∷ [])
last-number k (kind ∷ []) word front some = (front, some)
last-number k [] word front some = absurd front
last-number k (kind ∷ next ∷ words) word front some = absurd front

-- Covers.

cover_by : (o : Option (List Step)) (steps : List Step) → (o >>= (λ s. if are_covers 1 s then Some s else None)) ≡ Some steps → (o ≡ Some steps) × (are_covers 1 steps ≡ true)
cover_by None steps e = absurd (cc e)
cover_by (Some s) steps e =
    let k = cond_some (are_covers 1 s) s steps e in
    (ap (λ (x : List Step). Some x) k.1, subst (λ (x : List Step). are_covers 1 x ≡ true) k.1 k.0)

cover_told : (terms : Terms) (words : List (List ℕ)) (steps : List Step) → cover_of terms words ≡ Some steps → (steps_of terms words ≡ Some steps) × (are_covers 1 steps ≡ true)
unfolding cover_of
cover_told terms words steps e = cover_by (steps_of terms words) steps e

abbrev in_front : Option Step → Option (List Step) → Option (List Step)
in_front own rest = own >>= (λ s. rest >>= (λ more. Some (s ∷ more)))

first_none : (own : Option Step) (rest : Option (List Step)) → own ≡ None → in_front own rest ≡ None
first_none None rest e = refl
first_none (Some s) rest e = absurd (cc e)

later_none : (own : Option Step) (rest : Option (List Step)) → rest ≡ None → in_front own rest ≡ None
later_none None rest e = refl
later_none (Some s) None e = refl
later_none (Some s) (Some more) e = absurd (cc e)

steps_none : (terms : Terms) (words : List (List ℕ)) (word : List ℕ) (more : List (List ℕ)) → step_of terms word ≡ None → steps_of terms (words ++ word ∷ more) ≡ None
steps_none terms [] word more e = first_none (step_of terms word) (steps_of terms more) e
steps_none terms (w ∷ words) word more e = later_none (step_of terms w) (steps_of terms (words ++ word ∷ more)) (steps_none terms words word more e)

pub no-step : (terms : Terms) (words : List (List ℕ)) (word : List ℕ) (more : List (List ℕ)) (steps : List Step) → step_of terms word ≡ None → cover_of terms (words ++ word ∷ more) ≡ Some steps → ⊥
no-step terms words word more steps none e =
    let some = (cover_told terms (words ++ word ∷ more) steps e).0 in
    let is = sym (steps_none terms words word more none) ∙ some in
    cc is

first_step : (own : Option Step) (steps : List Step) (step : Step) → own ≡ Some step → (let none : Option (List Step) = Some [] in none) ≡ Some steps → in_front own (Some []) ≡ Some (steps ++ step ∷ [])
first_step None steps step e f = absurd (cc e)
first_step (Some s) steps step e f =
    ap (λ (x : Step). Some (x ∷ [])) (same_Some s step e) ∙ ap (λ (x : List Step). Some (x ++ step ∷ [])) (same_Some [] steps f)

later_step : (own : Option Step) (rest longer : Option (List Step)) (steps : List Step) (step : Step) → ((more : List Step) → rest ≡ Some more → longer ≡ Some (more ++ step ∷ [])) → in_front own rest ≡ Some steps →
    in_front own longer ≡ Some (steps ++ step ∷ [])
later_step None rest longer steps step f e = absurd (cc e)
later_step (Some s) None longer steps step f e = absurd (cc e)
later_step (Some s) (Some more) longer steps step f e =
    let l : longer ≡ Some (more ++ step ∷ []) = f more refl in
    let is : s ∷ more ≡ steps = same_Some (s ∷ more) steps e in
    ap (λ (x : Option (List Step)). x >>= (λ m. Some (s ∷ m))) l ∙ ap (λ (x : List Step). Some (x ++ step ∷ [])) is

steps_more : (terms : Terms) (words : List (List ℕ)) (word : List ℕ) (steps : List Step) (step : Step) → steps_of terms words ≡ Some steps → step_of terms word ≡ Some step →
    steps_of terms (words ++ word ∷ []) ≡ Some (steps ++ step ∷ [])
steps_more terms [] word steps step e f = first_step (step_of terms word) steps step f e
steps_more terms (w ∷ words) word steps step e f =
    later_step (step_of terms w) (steps_of terms words) (steps_of terms (words ++ word ∷ [])) steps step (λ more is. steps_more terms words word more step is f) e

pub cover-begun : (terms : Terms) (s : Sides) (claim : Claim) (cover : Cover) → StandsFor s claim [] cover → AreStepsOf terms s claim cover []
cover-begun terms s claim cover st = record { steps = []; spelled = refl; stands = st }

pub cover-more : (terms : Terms) (s : Sides) (claim : Claim) (old new : Cover) (words : List (List ℕ)) (word : List ℕ) (step : Step) → step_of terms word ≡ Some step →
    ((c : Claim) (steps : List Step) → StandsFor s c steps old → StandsFor s c (steps ++ step ∷ []) new) → AreStepsOf terms s claim old words → AreStepsOf terms s claim new (words ++ word ∷ [])
cover-more terms s claim old new words word step e f are = record {
  steps = are.steps ++ step ∷ [];
  spelled = steps_more terms words word are.steps step are.spelled e;
  stands = f claim are.steps are.stands;
}

-- steps behind a cover that is whole
abbrev GoesOn : List Step → List Step → Type 0
GoesOn steps all = (step : Step) × (rest : List Step) × (all ≡ steps ++ step ∷ rest)

behind_first : (x : Option Step) (y : Option (List Step)) (steps all : List Step) → (let none : Option (List Step) = Some [] in none) ≡ Some steps → in_front x y ≡ Some all → GoesOn steps all
behind_first None y steps all e f = absurd (cc f)
behind_first (Some s) None steps all e f = absurd (cc f)
behind_first (Some s) (Some more) steps all e f = (s, more, sym (same_Some (s ∷ more) all f) ∙ ap (λ (x : List Step). x ++ s ∷ more) (same_Some [] steps e))

behind_later : (x : Option Step) (y z : Option (List Step)) (steps all : List Step) → ((ys zs : List Step) → y ≡ Some ys → z ≡ Some zs → GoesOn ys zs) → in_front x y ≡ Some steps → in_front x z ≡ Some all → GoesOn steps all
behind_later None y z steps all f e g = absurd (cc e)
behind_later (Some s) None z steps all f e g = absurd (cc e)
behind_later (Some s) (Some ys) None steps all f e g = absurd (cc g)
behind_later (Some s) (Some ys) (Some zs) steps all f e g =
    let h = f ys zs refl refl in
    (h.0, h.1, sym (same_Some (s ∷ zs) all g) ∙ ap (λ (x : List Step). s ∷ x) h.2 ∙ ap (λ (x : List Step). x ++ h.0 ∷ h.1) (same_Some (s ∷ ys) steps e))

steps_behind : (terms : Terms) (words : List (List ℕ)) (word : List ℕ) (more : List (List ℕ)) (steps all : List Step) → steps_of terms words ≡ Some steps → steps_of terms (words ++ word ∷ more) ≡ Some all → GoesOn steps all
steps_behind terms [] word more steps all e f = behind_first (step_of terms word) (steps_of terms more) steps all e f
steps_behind terms (w ∷ words) word more steps all e f =
    behind_later (step_of terms w) (steps_of terms words) (steps_of terms (words ++ word ∷ more)) steps all (λ ys zs g h. steps_behind terms words word more ys zs g h) e f

pub no-cover : (terms : Terms) (s : Sides) (claim : Claim) (cover : Cover) (words : List (List ℕ)) (word : List ℕ) (more : List (List ℕ)) (all : List Step) → cover.due ≡ 0 → AreStepsOf terms s claim cover words →
    cover_of terms (words ++ word ∷ more) ≡ Some all → ⊥
no-cover terms s claim cover words word more all none are e =
    let t = cover_told terms (words ++ word ∷ more) all e in
    let b = steps_behind terms words word more are.steps all are.spelled t.0 in
    let over : are_covers cover.due (b.0 ∷ b.1) ≡ false = subst (λ n. are_covers n (b.0 ∷ b.1) ≡ false) (sym none) refl in
    false≢true (sym over ∙ sym (are.stands.form (b.0 ∷ b.1)) ∙ ap (are_covers 1) (sym b.2) ∙ t.1)

-- The words of a line with a cover.

some_header : (d : Option Difference) → is_some d ≡ is_some (header_of d)
some_header None = refl
some_header (Some x) = refl

terms_as : (c : Claims) (k : Due) → claim_due_in c ≡ k → terms_in c ≡ terms_at c (if is_entry k then false else true)
terms_as c k e =
    ap (λ (x : Due). terms_of (rule_count c) (entry_count c) (if is_entry x then false else true) (is_some c.difference)) e
    ∙ ap (λ (late : Bool). terms_of (rule_count c) (entry_count c) (if is_entry k then false else true) late) (some_header c.difference)

abbrev NoCover : Terms → List (List ℕ) → Type 0
NoCover terms words = (all : List Step) → cover_of terms words ≡ Some all → ⊥

entry_refuted : (c : Claims) (kind : List ℕ) (words : List (List ℕ)) (line : Line) → NoCover (terms_at c false) words → IsOfKind due.Entry line → Spells c kind words line → ⊥
entry_refuted c kind words (entry_line steps) f of s = f steps s.1
entry_refuted c kind words (rule_line steps) f of s = of
entry_refuted c kind words (pair_line p steps) f of s = of
entry_refuted c kind words (last_line k) f of s = of

rule_refuted : (c : Claims) (kind : List ℕ) (words : List (List ℕ)) (line : Line) → NoCover (terms_at c true) words → IsOfKind due.Rule line → Spells c kind words line → ⊥
rule_refuted c kind words (entry_line steps) f of s = of
rule_refuted c kind words (rule_line steps) f of s = f steps s.1
rule_refuted c kind words (pair_line p steps) f of s = of
rule_refuted c kind words (last_line k) f of s = of

pub front-none : (c : Claims) (k : Due) (numbers : List ℕ) (cover : Cover) (words : List (List ℕ)) (word : List ℕ) (more : List (List ℕ)) → c.stage ≡ stage.Begun → claim_due_in c ≡ k → IsCoverFront c k numbers cover words →
    ((claim : Claim) (covered : List (List ℕ)) → AreStepsOf (terms_in c) (own_sides c) claim cover covered → NoCover (terms_in c) (covered ++ word ∷ more)) → NoForm c (words ++ word ∷ more)
front-none c due.Entry numbers cover (kind ∷ words) word more begun is front f =
    let none : NoCover (terms_at c false) (words ++ word ∷ more) = subst (λ (t : Terms). NoCover t (words ++ word ∷ more)) (terms_as c due.Entry is) (f (entry_claim (own_sides c) (length c.entries.items)) words front.1) in
    nothing c due.Entry kind (words ++ word ∷ more) begun is (λ line of s. entry_refuted c kind (words ++ word ∷ more) line none of s)
front-none c due.Rule numbers cover (kind ∷ words) word more begun is front f =
    let none : NoCover (terms_at c true) (words ++ word ∷ more) = subst (λ (t : Terms). NoCover t (words ++ word ∷ more)) (terms_as c due.Rule is) (f (rule_claim (own_sides c) (length c.rules.items)) words front.1) in
    nothing c due.Rule kind (words ++ word ∷ more) begun is (λ line of s. rule_refuted c kind (words ++ word ∷ more) line none of s)
front-none c due.Pair (i ∷ j ∷ []) cover (kind ∷ rule ∷ entry ∷ words) word more begun is front f =
    let none : NoCover (terms_at c true) (words ++ word ∷ more) =
    subst (λ (t : Terms). NoCover t (words ++ word ∷ more)) (terms_as c due.Pair is) (f (pair_claim (own_sides c) (record { rule = i; entry = j })) words front.3) in
    nothing c due.Pair kind (rule ∷ entry ∷ (words ++ word ∷ more)) begun is (λ line of s. pair_refuted c kind (rule ∷ entry ∷ (words ++ word ∷ more)) line front.0 (λ p steps t. none steps t.2) of s)
front-none c k numbers cover words word more begun is front f = absurd front

pub front-more : (c : Claims) (k : Due) (numbers : List ℕ) (old new : Cover) (words : List (List ℕ)) (word : List ℕ) → IsCoverFront c k numbers old words →
    ((claim : Claim) (covered : List (List ℕ)) → AreStepsOf (terms_in c) (own_sides c) claim old covered → AreStepsOf (terms_in c) (own_sides c) claim new (covered ++ word ∷ [])) → IsCoverFront c k numbers new (words ++ word ∷ [])
front-more c due.Entry numbers old new (kind ∷ words) word front f = (front.0, f (entry_claim (own_sides c) (length c.entries.items)) words front.1)
front-more c due.Rule numbers old new (kind ∷ words) word front f = (front.0, f (rule_claim (own_sides c) (length c.rules.items)) words front.1)
front-more c due.Pair (i ∷ j ∷ []) old new (kind ∷ rule ∷ entry ∷ words) word front f = (front.0, front.1, front.2, f (pair_claim (own_sides c) (record { rule = i; entry = j })) words front.3)
front-more c k numbers old new words word front f = absurd front

-- The answers of the code, by what word is due.

-- behind words that are none
pub start-behind : {E : Type 0} (c : Claims) (old : code_line.Line) (word : List ℕ) (result : Result At E) (new : code_line.Line) → IfOk result (λ next. IsAt c next new (word ∷ [])) → IsBehind c at.Start old word result new
start-behind c old word (Ok next) new h = λ words e. subst (λ (ws : List (List ℕ)). IsAt c next new (ws ++ word ∷ [])) (sym e) h
start-behind c old word (Err error) new h = tt

pub behind-start : {E : Type 0} (c : Claims) (here : At) (old : code_line.Line) (word : List ℕ) (result : Result At E) (new : code_line.Line) → IsBehind c here old word result new → IsAt c here old [] → IfOk result (λ next. IsAt c next new (word ∷ []))
behind-start c here old word (Ok next) new f h = f [] h
behind-start c here old word (Err error) new f h = tt

-- only which word is due changes
pub moved-on : (c : Claims) (here next : At) (line : code_line.Line) (words : List (List ℕ)) → IsAt c here line words → IsAt c here (record line { at = next }) words
moved-on c at.Start next line words h = h
moved-on c (at.Heading place) next line words h = h
moved-on c at.Pair next line words h = h
moved-on c at.Cover next line words h = h
moved-on c at.Last next line words h = h
moved-on c at.Nothing next line words h = h

pub some-numbers : (items : List ℕ) (n : ℕ) → n ≡ length items → nat_eq n 0 ≡ false → items ≡ [] → ⊥
some-numbers items n is e none = let zero : n ≡ 0 = is ∙ ap length none in false≢true (sym e ∙ ap (λ m. nat_eq m 0) zero)

pub no-last_words : (c : Claims) (numbers : List ℕ) (words : List (List ℕ)) (word : List ℕ) (more : List (List ℕ)) → due_in c ≡ due.Pair → (numbers ≡ [] → ⊥) → IsLastFront numbers words → NoForm c (words ++ word ∷ more)
no-last_words c [] words word more e some front = absurd (some refl)
no-last_words c (k ∷ rest) words word more e some front = no-last_word c k rest words word more e front

pub no-numbers : (items : List ℕ) (n : ℕ) → n ≡ length items → nat_eq n 0 ≡ true → items ≡ []
no-numbers [] n is e = refl
no-numbers (k ∷ items) n is e = let zero = eqb-true n 0 e in absurd (omega (arith, zero, is))

-- a word that was compared
pub other-word : (word text given : List ℕ) (b : Bool) → b ≡ not (bytes_eq word given) → b ≡ true → given ≡ text → word ≡ text → ⊥
other-word word text given b is true_is same e =
    let t : bytes_eq word given ≡ true = (bytes_eq-Decides word given).1 (e ∙ sym same) in
    let clash : true ≡ false = sym true_is ∙ is ∙ ap not t in
    cc clash

same_by : (t : Bool) → false ≡ not t → t ≡ true
same_by true e = refl
same_by false e = absurd (cc e)

pub same-word : (word text given : List ℕ) (b : Bool) → b ≡ not (bytes_eq word given) → b ≡ false → given ≡ text → word ≡ text
same-word word text given b is none same = (bytes_eq-Decides word given).0 (same_by (bytes_eq word given) (sym none ∙ is)) ∙ same

-- a cover that has begun
pub entry-begun : (c : Claims) (numbers : List ℕ) (cover : Cover) (word : List ℕ) → due_in c ≡ due.Entry → word ≡ codes "e" → StandsFor (own_sides c) (entry_claim (own_sides c) (length c.entries.items)) [] cover →
    (c.stage ≡ stage.Begun) × IsCoverFront c (claim_due_in c) numbers cover (word ∷ [])
entry-begun c numbers cover word e kind st =
    let is = begun-entry c e in
    (is.0, subst (λ (k : Due). IsCoverFront c k numbers cover (word ∷ [])) (sym is.1) (kind, cover-begun (terms_in c) (own_sides c) (entry_claim (own_sides c) (length c.entries.items)) cover st))

pub rule-begun : (c : Claims) (numbers : List ℕ) (cover : Cover) (word : List ℕ) → due_in c ≡ due.Rule → word ≡ codes "r" → StandsFor (own_sides c) (rule_claim (own_sides c) (length c.rules.items)) [] cover →
    (c.stage ≡ stage.Begun) × IsCoverFront c (claim_due_in c) numbers cover (word ∷ [])
rule-begun c numbers cover word e kind st =
    let is = begun-rule c e in
    (is.0, subst (λ (k : Due). IsCoverFront c k numbers cover (word ∷ [])) (sym is.1) (kind, cover-begun (terms_in c) (own_sides c) (rule_claim (own_sides c) (length c.rules.items)) cover st))

zero_by : (n : ℕ) → (0 < n → ⊥) → n ≡ 0
zero_by zero f = refl
zero_by (suc n) f = absurd (f (omega arith))

pub not-due : (b : Bool) (n : ℕ) → (IsTrue b ↔ (0 < n)) → b ≡ false → n ≡ 0
not-due b n iff e = zero_by n (λ some. false≢true (sym e ∙ iff.1 some))

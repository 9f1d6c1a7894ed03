-- The text of a proof has at most one verdict, and one that is wrong is wrong in one line, for one reason.
use Rattle.std.proofs.Common.{◌≡◌, ◌∷◌, ℕ, ◌+◌, ◌≤◌, List, [], Bool, true, false, Option, Some, None, length, take, ap, sym, subst, ◌∙◌, inl, inr}
use Rattle.std.proofs.lemmas.List.{take_all}
use Rattle.field_boxes.specs.declared.rule_list.RuleList.{RuleList}
use Rattle.ternary_words.specs.declared.table.Table.{Table}
use Rattle.partition_check.specs.CertificateText.{lines_of}
use Rattle.agreement_check.specs.declared.pair.Pair.{Pair}
use Rattle.agreement_check.specs.declared.valid.Valid.{Valid}
use Rattle.agreement_check.specs.declared.wrong.Why.{Why}
use Rattle.agreement_check.specs.declared.wrong.Why.TheVariants.{PairMissing}
use Rattle.agreement_check.specs.declared.wrong.Wrong.{Wrong}
use Rattle.agreement_check.specs.Claims.{EachHasLine, IsFirstMissing, Taken, sides_of}
use Rattle.agreement_check.specs.Covers.{Sides}
use Rattle.agreement_check.specs.Streams.{ReadsWrong}
use Rattle.agreement_check.specs.Texts.{Heading, Line, entry_line, heading_of, last_line, pair_line, rule_line, words_of}
use Rattle.agreement_check.specs.Verdict.{EndsBadly, FailsClaim, FailsHeading, FailsNext, FailsWords, FindsWrong, IsUnended, IsValid, IsWrong, LacksEnd, Reading, TakesAll, TakesClaim, TakesHeading, TakesNext, TakesWords, line_in, started}
use Rattle.agreement_check.proofs.Ordered.{neither}

-- A line is taken in one way.

heading_one : (list : RuleList) (table : Table) (o : Option Heading) (a b : Reading) → TakesHeading list table o a → TakesHeading list table o b → a ≡ b
heading_one list table None a b s t = absurd s
heading_one list table (Some h) a b s t = s.2 ∙ sym t.2

claim_one : (s : Sides) (t : Taken) (line : Line) (a b : Reading) → TakesClaim s t line a → TakesClaim s t line b → a ≡ b
claim_one s t (entry_line steps) a b f g = f.1 ∙ sym g.1
claim_one s t (rule_line steps) a b f g = f.1 ∙ sym g.1
claim_one s t (pair_line p steps) a b f g = f.2 ∙ sym g.2
claim_one s t (last_line k) a b f g = f.2 ∙ sym g.2

next_one : (s : Sides) (t : Taken) (o : Option Line) (a b : Reading) → TakesNext s t o a → TakesNext s t o b → a ≡ b
next_one s t None a b f g = absurd f
next_one s t (Some line) a b f g = claim_one s t line a b f.1 g.1

words_one : (list : RuleList) (table : Table) (taken : Option Taken) (ended : Bool) (words : List (List ℕ)) (a b : Reading) → TakesWords list table taken ended words a → TakesWords list table taken ended words b → a ≡ b
words_one list table None ended words a b s t = heading_one list table (heading_of words) a b s t
words_one list table (Some t) false words a b f g = next_one (sides_of list table t) t (line_in list table t words) a b f g
words_one list table (Some t) true words a b f g = absurd f

all_one : (list : RuleList) (table : Table) (lines : List (List ℕ)) (r a b : Reading) → TakesAll list table r lines a → TakesAll list table r lines b → a ≡ b
all_one list table [] r a b s t = s ∙ sym t
all_one list table (line ∷ lines) r a b s t =
    let same = words_one list table r.taken r.ended (words_of line) s.0 t.0 s.1 t.1 in
    all_one list table lines t.0 a b (subst (λ (x : Reading). TakesAll list table x lines a) same s.2) t.2

-- None is taken that is wrong.

heading_apart : (list : RuleList) (table : Table) (o : Option Heading) (a : Reading) (why : Why) → TakesHeading list table o a → FailsHeading list table o why → ⊥
heading_apart list table None a why t f = t
heading_apart list table (Some h) a why t (inl f) = f.1 t.0
heading_apart list table (Some h) a why t (inr f) = t.1 f.2

missing_apart : (s : Sides) (t : Taken) (p : Pair) → EachHasLine s t → IsFirstMissing s t p → ⊥
missing_apart s t p each first = first.missing.without (each p first.missing.open_pair)

claim_apart : (s : Sides) (t : Taken) (line : Line) (a : Reading) (why : Why) → TakesClaim s t line a → FailsClaim s t line why → ⊥
claim_apart s t (entry_line steps) a why h f = f.1 h.0
claim_apart s t (rule_line steps) a why h f = f.1 h.0
claim_apart s t (pair_line p steps) a why h (inl f) = f.1 h.0
claim_apart s t (pair_line p steps) a why h (inr f) = f.2 h.1
claim_apart s t (last_line k) a why h (inl f) = missing_apart s t f.0 h.0 f.2
claim_apart s t (last_line k) a why h (inr f) = f.2 h.1

next_apart : (s : Sides) (t : Taken) (o : Option Line) (a : Reading) (why : Why) → TakesNext s t o a → FailsNext s t o why → ⊥
next_apart s t None a why h f = h
next_apart s t (Some line) a why h (inl f) = f.1 h.0
next_apart s t (Some line) a why h (inr f) = claim_apart s t line a why h.1 f.1

words_apart : (list : RuleList) (table : Table) (taken : Option Taken) (ended : Bool) (words : List (List ℕ)) (a : Reading) (why : Why) →
    TakesWords list table taken ended words a → FailsWords list table taken ended words why → ⊥
words_apart list table None ended words a why t f = heading_apart list table (heading_of words) a why t f
words_apart list table (Some t) false words a why h f = next_apart (sides_of list table t) t (line_in list table t words) a why h f
words_apart list table (Some t) true words a why h f = h

pub all_apart : (list : RuleList) (table : Table) (lines : List (List ℕ)) (r a : Reading) (w : Wrong) → TakesAll list table r lines a → FindsWrong list table r lines w → ⊥
all_apart list table [] r a w t f = f
all_apart list table (line ∷ lines) r a w t (inl f) = words_apart list table r.taken r.ended (words_of line) t.0 w.why t.1 f.why
all_apart list table (line ∷ lines) r a w t (inr f) =
    let same = words_one list table r.taken r.ended (words_of line) t.0 f.0 t.1 f.1 in
    all_apart list table lines f.0 a w (subst (λ (x : Reading). TakesAll list table x lines a) same t.2) f.2

-- It is wrong for one reason.

heading_why : (list : RuleList) (table : Table) (o : Option Heading) (v w : Why) → FailsHeading list table o v → FailsHeading list table o w → v ≡ w
heading_why list table None v w f g = f ∙ sym g
heading_why list table (Some h) v w (inl f) (inl g) = f.0 ∙ sym g.0
heading_why list table (Some h) v w (inl f) (inr g) = absurd (f.1 g.1)
heading_why list table (Some h) v w (inr f) (inl g) = absurd (g.1 f.1)
heading_why list table (Some h) v w (inr f) (inr g) = f.0 ∙ sym g.0

missing_why : (s : Sides) (t : Taken) (p q : Pair) → IsFirstMissing s t p → IsFirstMissing s t q → PairMissing (p.rule + 1) (p.entry + 1) ≡ PairMissing (q.rule + 1) (q.entry + 1)
missing_why s t p q f g =
    let same = neither p q (g.first p f.missing) (f.first q g.missing) in
    ap (λ n. PairMissing (n + 1) (p.entry + 1)) same.0 ∙ ap (λ n. PairMissing (q.rule + 1) (n + 1)) same.1

claim_why : (s : Sides) (t : Taken) (line : Line) (v w : Why) → FailsClaim s t line v → FailsClaim s t line w → v ≡ w
claim_why s t (entry_line steps) v w f g = f.0 ∙ sym g.0
claim_why s t (rule_line steps) v w f g = f.0 ∙ sym g.0
claim_why s t (pair_line p steps) v w (inl f) (inl g) = f.0 ∙ sym g.0
claim_why s t (pair_line p steps) v w (inl f) (inr g) = absurd (f.1 g.1)
claim_why s t (pair_line p steps) v w (inr f) (inl g) = absurd (g.1 f.1)
claim_why s t (pair_line p steps) v w (inr f) (inr g) = f.0 ∙ sym g.0
claim_why s t (last_line k) v w (inl f) (inl g) = f.1 ∙ missing_why s t f.0 g.0 f.2 g.2 ∙ sym g.1
claim_why s t (last_line k) v w (inl f) (inr g) = absurd (missing_apart s t f.0 g.1 f.2)
claim_why s t (last_line k) v w (inr f) (inl g) = absurd (missing_apart s t g.0 f.1 g.2)
claim_why s t (last_line k) v w (inr f) (inr g) = f.0 ∙ sym g.0

next_why : (s : Sides) (t : Taken) (o : Option Line) (v w : Why) → FailsNext s t o v → FailsNext s t o w → v ≡ w
next_why s t None v w f g = f ∙ sym g
next_why s t (Some line) v w (inl f) (inl g) = f.0 ∙ sym g.0
next_why s t (Some line) v w (inl f) (inr g) = absurd (f.1 g.0)
next_why s t (Some line) v w (inr f) (inl g) = absurd (g.1 f.0)
next_why s t (Some line) v w (inr f) (inr g) = claim_why s t line v w f.1 g.1

words_why : (list : RuleList) (table : Table) (taken : Option Taken) (ended : Bool) (words : List (List ℕ)) (v w : Why) →
    FailsWords list table taken ended words v → FailsWords list table taken ended words w → v ≡ w
words_why list table None ended words v w f g = heading_why list table (heading_of words) v w f g
words_why list table (Some t) false words v w f g = next_why (sides_of list table t) t (line_in list table t words) v w f g
words_why list table (Some t) true words v w f g = f ∙ sym g

lacks_why : (ended : Bool) (rest : List ℕ) (v w : Why) → LacksEnd ended rest v → LacksEnd ended rest w → v ≡ w
lacks_why false [] v w f g = f ∙ sym g
lacks_why false (b ∷ rest) v w f g = f ∙ sym g
lacks_why true [] v w f g = absurd f
lacks_why true (b ∷ rest) v w f g = f ∙ sym g

-- the same line, for the same reason
wrong : {v w : Wrong} {n : ℕ} → v.line ≡ n → w.line ≡ n → v.why ≡ w.why → v ≡ w
wrong {v = v} {w = w} p q r =
    let same : v.line ≡ w.line = p ∙ sym q in
    ap (λ n. record { line = n; why = v.why }) same ∙ ap (λ y. record { line = w.line; why = y }) r

lines_wrong : (list : RuleList) (table : Table) (lines : List (List ℕ)) (r : Reading) (v w : Wrong) → FindsWrong list table r lines v → FindsWrong list table r lines w → v ≡ w
lines_wrong list table [] r v w f g = absurd f
lines_wrong list table (line ∷ lines) r v w (inl f) (inl g) = wrong f.line_is g.line_is (words_why list table r.taken r.ended (words_of line) v.why w.why f.why g.why)
lines_wrong list table (line ∷ lines) r v w (inl f) (inr g) = absurd (words_apart list table r.taken r.ended (words_of line) g.0 v.why g.1 f.why)
lines_wrong list table (line ∷ lines) r v w (inr f) (inl g) = absurd (words_apart list table r.taken r.ended (words_of line) f.0 w.why f.1 g.why)
lines_wrong list table (line ∷ lines) r v w (inr f) (inr g) =
    let same = words_one list table r.taken r.ended (words_of line) f.0 g.0 f.1 g.1 in
    lines_wrong list table lines g.0 v w (subst (λ (x : Reading). FindsWrong list table x lines v) same f.2) g.2

unended_wrong : (list : RuleList) (table : Table) (text : List ℕ) (v w : Wrong) → IsUnended list table text v → IsUnended list table text w → v ≡ w
unended_wrong list table text v w f g =
    let rest = (lines_of text).rest in
    let same = all_one list table (lines_of text).whole started f.after g.after f.takes g.takes in
    let first : EndsBadly g.after rest v = subst (λ (x : Reading). EndsBadly x rest v) same f.ends in
    wrong first.line_is g.ends.line_is (lacks_why g.after.ended rest v.why w.why first.why g.ends.why)

pub wrong-one : (list : RuleList) (table : Table) (text : List ℕ) (v w : Wrong) → IsWrong list table text v → IsWrong list table text w → v ≡ w
wrong-one list table text v w (inl f) (inl g) = lines_wrong list table (lines_of text).whole started v w f g
wrong-one list table text v w (inl f) (inr g) = absurd (all_apart list table (lines_of text).whole started g.after v g.takes f)
wrong-one list table text v w (inr f) (inl g) = absurd (all_apart list table (lines_of text).whole started f.after w f.takes g)
wrong-one list table text v w (inr f) (inr g) = unended_wrong list table text v w f g

-- What is valid isn't wrong.

lacks_none : (ended : Bool) (rest : List ℕ) (why : Why) → ended ≡ true → rest ≡ [] → LacksEnd ended rest why → ⊥
lacks_none ended rest why e none h = subst (λ (b : Bool). LacksEnd b [] why) e (subst (λ (t : List ℕ). LacksEnd ended t why) none h)

pub valid-apart : (list : RuleList) (table : Table) (text : List ℕ) (v : Valid) (w : Wrong) → IsValid list table text v → IsWrong list table text w → ⊥
valid-apart list table text v w valid (inl f) = all_apart list table (lines_of text).whole started _ w valid.takes f
valid-apart list table text v w valid (inr u) =
    let same = all_one list table (lines_of text).whole started u.after _ u.takes valid.takes in
    lacks_none u.after.ended (lines_of text).rest w.why (ap (λ (x : Reading). x.ended) same) valid.whole u.ends.why

-- a text within the limit with a wrong line isn't wrong at its end
line_or_end : (list : RuleList) (table : Table) (limit : ℕ) (text : List ℕ) (v w : Wrong) → FindsWrong list table started (lines_of (take limit text)).whole v → length text ≤ limit → IsUnended list table text w → ⊥
line_or_end list table limit text v w found within u =
    let line = subst (λ (t : List ℕ). FindsWrong list table started (lines_of t).whole v) (take_all limit text within) found in
    all_apart list table (lines_of text).whole started u.after v u.takes line

pub read-one : (list : RuleList) (table : Table) (limit : ℕ) (text : List ℕ) (v w : Wrong) → ReadsWrong list table limit text v → ReadsWrong list table limit text w → v ≡ w
read-one list table limit text v w (inl f) (inl g) = lines_wrong list table (lines_of (take limit text)).whole started v w f g
read-one list table limit text v w (inl f) (inr g) = absurd (line_or_end list table limit text v w f g.0 g.1)
read-one list table limit text v w (inr f) (inl g) = absurd (line_or_end list table limit text w v g f.0 f.1)
read-one list table limit text v w (inr f) (inr g) = unended_wrong list table text v w f.1 g.1

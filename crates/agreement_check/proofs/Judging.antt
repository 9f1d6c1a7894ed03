-- What a line's words come to, and what is said of it.
use Rattle.std.proofs.Common.{◌≡◌, ◌≢◌, ◌⊎◌, ◌∷◌, ◌++◌, ◌∙◌, ℕ, zero, suc, ◌+◌, ◌<◌, ◌||◌, List, [], Bool, true, false, Option, Some, None, Ok, Err, Result, IfOk, IfSome, codes, is_some, length, nat_eq, slice_index_or, take, ap, refl, sym, subst, arith, inl, inr, if◌then◌else◌, option_map, option_to_list}
use Rattle.std.proofs.lemmas.Bool.Decides.{eqb_tells}
use Rattle.std.proofs.lemmas.List.{append-nil}
use Rattle.text_lines.specs.Headline.Steps.{◌>>=◌}
use Rattle.text_lines.specs.Numbers.{plain_number}
use Rattle.agreement_check.specs.declared.claims.Claims.{Claims}
use Rattle.agreement_check.specs.declared.claims.Due.{Due}
use Rattle.agreement_check.specs.declared.claims.Due.TheVariants as due
use Rattle.agreement_check.specs.declared.claims.Stage.{Stage}
use Rattle.agreement_check.specs.declared.claims.Stage.TheVariants as stage
use Rattle.agreement_check.specs.declared.cover.Cover.{Cover}
use Rattle.agreement_check.specs.declared.line.At.{At}
use Rattle.agreement_check.specs.declared.line.At.TheVariants as at
use Rattle.agreement_check.specs.declared.line.Line as code_line
use Rattle.agreement_check.specs.declared.step.Step.{Step}
use Rattle.agreement_check.specs.declared.step.Terms.{Terms}
use Rattle.agreement_check.specs.declared.wrong.Why.{Why}
use Rattle.agreement_check.specs.declared.wrong.Why.TheVariants as whys
use Rattle.agreement_check.specs.Claims.{Taken, entry_claim, pair_claim, rule_claim, sides_of}
use Rattle.agreement_check.specs.Covering.{StandsFor}
use Rattle.agreement_check.specs.Covers.{Sides, Claim}
use Rattle.agreement_check.specs.Standing.{AreStepsOf, HasNoForm, IsAt, IsCoverFront, IsHeadingFront, IsLastFront, IsPairFront, IsSound, Judges, JudgesClaim, claim_due_in, entry_count, header_of, heading_at, list_in, own_sides, reading_by, reading_in, rule_count, table_in, taken_in, terms_in, is_entry, JudgesHeading, StatesHeader}
use Rattle.agreement_check.specs.Steps.{are_covers, cover_of, place_in, steps_of}
use Rattle.agreement_check.specs.Texts.{Due as Word, Heading, Line, counts_due, entry_line, header_due, heading_by, heading_of, last_line, line_by, numbers_in, pair_line, pair_line_of, rule_line, terms_of}
use Rattle.agreement_check.specs.Verdict.{FailsHeading, FailsNext, FailsWords, IsDue, TakesNext, TakesWords, line_in}
use Rattle.agreement_check.proofs.Headings.{states-header}
use Rattle.agreement_check.proofs.Claiming.{EntryIsDue, PairIsDue, RuleIsDue, pair-due}

-- A cover's words.

ends_here : (n : ℕ) → n ≡ 0 → are_covers n [] ≡ true
ends_here n e = rw e refl

goes_on : (n : ℕ) → 0 < n → are_covers n [] ≡ false
goes_on zero h = absurd (omega (arith, h))
goes_on (suc n) h = refl

forms : (s : Sides) (c : Claim) (steps : List Step) (cover : Cover) → StandsFor s c steps cover → are_covers 1 steps ≡ are_covers cover.due []
forms s c steps cover st = ap (are_covers 1) (sym (append-nil steps)) ∙ st.form []

one_cover : (terms : Terms) (words : List (List ℕ)) (steps : List Step) → steps_of terms words ≡ Some steps → are_covers 1 steps ≡ true → cover_of terms words ≡ Some steps
unfolding cover_of
one_cover terms words steps e f = rw (e, f) refl

no_cover : (terms : Terms) (words : List (List ℕ)) (steps : List Step) → steps_of terms words ≡ Some steps → are_covers 1 steps ≡ false → cover_of terms words ≡ None
unfolding cover_of
no_cover terms words steps e f = rw (e, f) refl

whole : (terms : Terms) (s : Sides) (c : Claim) (cover : Cover) (words : List (List ℕ)) → (a : AreStepsOf terms s c cover words) → cover.due ≡ 0 → cover_of terms words ≡ Some a.steps
whole terms s c cover words a none = one_cover terms words a.steps a.spelled (forms s c a.steps cover a.stands ∙ ends_here cover.due none)

unfinished : (terms : Terms) (s : Sides) (c : Claim) (cover : Cover) (words : List (List ℕ)) → AreStepsOf terms s c cover words → 0 < cover.due → cover_of terms words ≡ None
unfinished terms s c cover words a some = no_cover terms words a.steps a.spelled (forms s c a.steps cover a.stands ∙ goes_on cover.due some)

-- The line.

abbrev own_line : Claims → List (List ℕ) → Option Line
own_line c words = line_in (list_in c) (table_in c) (taken_in c) words

some_mapped : {A B : Type 0} (f : A → B) (o : Option A) → is_some (option_map f o) ≡ is_some o
some_mapped f None = refl
some_mapped f (Some x) = refl

-- the words that a cover may have in a line of the kind that is due
terms_are : (c : Claims) (kind : Due) → claim_due_in c ≡ kind → terms_in c ≡ terms_of (rule_count c) (entry_count c) (if is_entry kind then false else true) (is_some (header_of c.difference))
terms_are c kind e =
    ap (λ k. terms_of (rule_count c) (entry_count c) (if is_entry k then false else true) (is_some c.difference)) e
    ∙ ap (terms_of (rule_count c) (entry_count c) (if is_entry kind then false else true)) (sym (some_mapped _ c.difference))

-- the cover behind it
cover-read : (c : Claims) (kind : Due) (words : List (List ℕ)) (o : Option (List Step)) → claim_due_in c ≡ kind → cover_of (terms_in c) words ≡ o →
    cover_of (terms_of (rule_count c) (entry_count c) (if is_entry kind then false else true) (is_some (header_of c.difference))) words ≡ o
cover-read c kind words o e f = ap (λ terms. cover_of terms words) (sym (terms_are c kind e)) ∙ f

entry_words : (c : Claims) (kind : List ℕ) (words : List (List ℕ)) (o : Option (List Step)) → kind ≡ codes "e" → claim_due_in c ≡ due.Entry → cover_of (terms_in c) words ≡ o →
    own_line c (kind ∷ words) ≡ option_map (λ steps. entry_line steps) o
entry_words c kind words o e d f =
    ap (λ k. line_by (rule_count c) (entry_count c) (is_some (header_of c.difference)) k words) e ∙ ap (option_map (λ steps. entry_line steps)) (cover-read c due.Entry words o d f)

rule_words : (c : Claims) (kind : List ℕ) (words : List (List ℕ)) (o : Option (List Step)) → kind ≡ codes "r" → claim_due_in c ≡ due.Rule → cover_of (terms_in c) words ≡ o →
    own_line c (kind ∷ words) ≡ option_map (λ steps. rule_line steps) o
rule_words c kind words o e d f =
    ap (λ k. line_by (rule_count c) (entry_count c) (is_some (header_of c.difference)) k words) e ∙ ap (option_map (λ steps. rule_line steps)) (cover-read c due.Rule words o d f)

pair_parts : (terms : Terms) (one two : List ℕ) (words : List (List ℕ)) (i j : ℕ) (o : Option (List Step)) → place_in terms.rules one ≡ Some i → place_in terms.entries two ≡ Some j → cover_of terms words ≡ o →
    pair_line_of terms (one ∷ two ∷ words) ≡ option_map (λ steps. pair_line (record { rule = i; entry = j }) steps) o
pair_parts terms one two words i j None e f g = rw (e, f, g) refl
pair_parts terms one two words i j (Some steps) e f g = rw (e, f, g) refl

pair_words : (c : Claims) (kind one two : List ℕ) (words : List (List ℕ)) (i j : ℕ) (o : Option (List Step)) → kind ≡ codes "p" → claim_due_in c ≡ due.Pair → place_in (rule_count c + 1) one ≡ Some i →
    place_in (entry_count c + 1) two ≡ Some j → cover_of (terms_in c) words ≡ o → own_line c (kind ∷ one ∷ two ∷ words) ≡ option_map (λ steps. pair_line (record { rule = i; entry = j }) steps) o
pair_words c kind one two words i j o k d e f g =
    ap (λ x. line_by (rule_count c) (entry_count c) (is_some (header_of c.difference)) x (one ∷ two ∷ words)) k
    ∙ pair_parts (terms_of (rule_count c) (entry_count c) true (is_some (header_of c.difference))) one two words i j o e f (cover-read c due.Pair words o d g)

-- What is said of it.

own_is : (c : Claims) → IsSound c → own_sides c ≡ sides_of (list_in c) (table_in c) (taken_in c)
own_is c s = ap (λ b. record { list = list_in c; table = table_in c; bound = b }) s.bound

abbrev JudgesBy : Claims → Stage → List (List ℕ) → Option Why → Claims → Type 0
JudgesBy old st words None new = TakesWords (list_in old) (table_in old) (reading_by st (taken_in old)).taken (reading_by st (taken_in old)).ended words (reading_in new)
JudgesBy old st words (Some why) new = FailsWords (list_in old) (table_in old) (reading_by st (taken_in old)).taken (reading_by st (taken_in old)).ended words why

judged_by : (old new : Claims) (st : Stage) (words : List (List ℕ)) (why : Option Why) → old.stage ≡ st → JudgesBy old st words why new → Judges old words why new
judged_by old new st words None e j = subst (λ x. JudgesBy old x words None new) (sym e) j
judged_by old new st words (Some why) e j = subst (λ x. JudgesBy old x words (Some why) new) (sym e) j

-- a line that is due, and its claim
claim_next : (old new : Claims) (line : Line) (words : List (List ℕ)) (why : Option Why) → IsSound old → own_line old words ≡ Some line → IsDue (own_sides old) (taken_in old) line → JudgesClaim old line why new →
    JudgesBy old stage.Begun words why new
claim_next old new line words None s is d j =
    subst (λ o. TakesNext (sides_of (list_in old) (table_in old) (taken_in old)) (taken_in old) o (reading_in new)) (sym is)
    (subst (λ x. TakesNext x (taken_in old) (Some line) (reading_in new)) (own_is old s) (d, j))
claim_next old new line words (Some why) s is d j =
    subst (λ o. FailsNext (sides_of (list_in old) (table_in old) (taken_in old)) (taken_in old) o why) (sym is)
    (subst (λ x. FailsNext x (taken_in old) (Some line) why) (own_is old s) (inr (d, j)))

-- no line
no_line : (old new : Claims) (words : List (List ℕ)) → own_line old words ≡ None → JudgesBy old stage.Begun words (Some whys.Form) new
no_line old new words is = subst (λ o. FailsNext (sides_of (list_in old) (table_in old) (taken_in old)) (taken_in old) o whys.Form) (sym is) refl

-- The line of a cover that is whole.

pub entry-judged : (old new : Claims) (numbers : List ℕ) (cover : Cover) (words : List (List ℕ)) (why : Option Why) → IsSound old → EntryIsDue old → cover.due ≡ 0 →
    IsCoverFront old (claim_due_in old) numbers cover words →
    ((steps : List Step) → StandsFor (own_sides old) (entry_claim (own_sides old) (length old.entries.items)) steps cover → JudgesClaim old (entry_line steps) why new) → Judges old words why new
entry-judged old new numbers cover [] why s d none front each = absurd (subst (λ k. IsCoverFront old k numbers cover []) d.kind front)
entry-judged old new numbers cover (kind ∷ words) why s d none front each =
    let f : IsCoverFront old due.Entry numbers cover (kind ∷ words) = subst (λ k. IsCoverFront old k numbers cover (kind ∷ words)) d.kind front in
    let is = entry_words old kind words (Some f.1.steps) f.0 d.kind (whole _ _ _ cover words f.1 none) in
    judged_by old new stage.Begun (kind ∷ words) why d.begun
    (claim_next old new (entry_line f.1.steps) (kind ∷ words) why s is (λ done. omega (arith, done, d.few)) (each f.1.steps f.1.stands))

pub rule-judged : (old new : Claims) (numbers : List ℕ) (cover : Cover) (words : List (List ℕ)) (why : Option Why) → IsSound old → RuleIsDue old → cover.due ≡ 0 →
    IsCoverFront old (claim_due_in old) numbers cover words →
    ((steps : List Step) → StandsFor (own_sides old) (rule_claim (own_sides old) (length old.rules.items)) steps cover → JudgesClaim old (rule_line steps) why new) → Judges old words why new
rule-judged old new numbers cover [] why s d none front each = absurd (subst (λ k. IsCoverFront old k numbers cover []) d.kind front)
rule-judged old new numbers cover (kind ∷ words) why s d none front each =
    let f : IsCoverFront old due.Rule numbers cover (kind ∷ words) = subst (λ k. IsCoverFront old k numbers cover (kind ∷ words)) d.kind front in
    let is = rule_words old kind words (Some f.1.steps) f.0 d.kind (whole _ _ _ cover words f.1 none) in
    judged_by old new stage.Begun (kind ∷ words) why d.begun
    (claim_next old new (rule_line f.1.steps) (kind ∷ words) why s is (d.entries, λ done. omega (arith, done, d.few)) (each f.1.steps f.1.stands))

pair_front : (old new : Claims) (numbers : List ℕ) (cover : Cover) (words : List (List ℕ)) (why : Option Why) → IsSound old → PairIsDue old → cover.due ≡ 0 → IsCoverFront old due.Pair numbers cover words →
    ((i j : ℕ) (steps : List Step) → numbers ≡ i ∷ j ∷ [] → StandsFor (own_sides old) (pair_claim (own_sides old) (record { rule = i; entry = j })) steps cover →
    JudgesClaim old (pair_line (record { rule = i; entry = j }) steps) why new) → JudgesBy old stage.Begun words why new
pair_front old new (i ∷ j ∷ []) cover (kind ∷ one ∷ two ∷ words) why s d none f each =
    let a = f.3 in
    let is = pair_words old kind one two words i j (Some a.steps) f.0 d.kind f.1 f.2 (whole _ _ _ cover words a none) in
    claim_next old new (pair_line (record { rule = i; entry = j }) a.steps) (kind ∷ one ∷ two ∷ words) why s is (d.entries, d.rules) (each i j a.steps refl a.stands)
pair_front old new numbers cover words why s d none f each = absurd f

pub pair-judged : (old new : Claims) (numbers : List ℕ) (cover : Cover) (words : List (List ℕ)) (why : Option Why) → IsSound old → PairIsDue old → cover.due ≡ 0 →
    IsCoverFront old (claim_due_in old) numbers cover words →
    ((i j : ℕ) (steps : List Step) → numbers ≡ i ∷ j ∷ [] → StandsFor (own_sides old) (pair_claim (own_sides old) (record { rule = i; entry = j })) steps cover →
    JudgesClaim old (pair_line (record { rule = i; entry = j }) steps) why new) → Judges old words why new
pair-judged old new numbers cover words why s d none front each =
    judged_by old new stage.Begun words why d.begun (pair_front old new numbers cover words why s d none (subst (λ k. IsCoverFront old k numbers cover words) d.kind front) each)

-- one that isn't has no form
unfinished_line : (c : Claims) (kind : Due) (numbers : List ℕ) (cover : Cover) (words : List (List ℕ)) → claim_due_in c ≡ kind → 0 < cover.due → IsCoverFront c kind numbers cover words → own_line c words ≡ None
unfinished_line c due.Entry numbers cover (kind ∷ words) d some f = entry_words c kind words None f.0 d (unfinished _ _ _ cover words f.1 some)
unfinished_line c due.Rule numbers cover (kind ∷ words) d some f = rule_words c kind words None f.0 d (unfinished _ _ _ cover words f.1 some)
unfinished_line c due.Pair (i ∷ j ∷ []) cover (kind ∷ one ∷ two ∷ words) d some f = pair_words c kind one two words i j None f.0 d f.1 f.2 (unfinished _ _ _ cover words f.3 some)
unfinished_line c kind numbers cover words d some f = absurd f

pub cover-unfinished : (old new : Claims) (numbers : List ℕ) (cover : Cover) (words : List (List ℕ)) → old.stage ≡ stage.Begun → 0 < cover.due → IsCoverFront old (claim_due_in old) numbers cover words →
    Judges old words (Some whys.Form) new
cover-unfinished old new numbers cover words e some f = judged_by old new stage.Begun words (Some whys.Form) e (no_line old new words (unfinished_line old (claim_due_in old) numbers cover words refl some f))

-- The last line.

last_words : (c : Claims) (kind word : List ℕ) (k : ℕ) → kind ≡ codes "pairs" → plain_number 4294967295 word ≡ Some k → own_line c (kind ∷ word ∷ []) ≡ Some (last_line k)
last_words c kind word k e f =
    ap (λ x. line_by (rule_count c) (entry_count c) (is_some (header_of c.difference)) x (word ∷ [])) e ∙ ap (option_map (λ n. last_line n)) f

last_front : (old new : Claims) (numbers : List ℕ) (words : List (List ℕ)) (why : Option Why) → IsSound old → PairIsDue old → IsLastFront numbers words → (numbers ≡ [] → why ≡ Some whys.Form) →
    ((k : ℕ) → numbers ≡ k ∷ [] → JudgesClaim old (last_line k) why new) → JudgesBy old stage.Begun words why new
last_front old new [] (kind ∷ []) why s d f form each =
    subst (λ w. JudgesBy old stage.Begun (kind ∷ []) w new) (sym (form refl))
    (no_line old new (kind ∷ []) (ap (λ x. line_by (rule_count old) (entry_count old) (is_some (header_of old.difference)) x []) f))
last_front old new (k ∷ []) (kind ∷ word ∷ []) why s d f form each =
    claim_next old new (last_line k) (kind ∷ word ∷ []) why s (last_words old kind word k f.0 f.1) (d.entries, d.rules) (each k refl)
last_front old new numbers words why s d f form each = absurd f

pub last-judged : (old new : Claims) (numbers : List ℕ) (words : List (List ℕ)) (why : Option Why) → IsSound old → PairIsDue old → IsLastFront numbers words → (numbers ≡ [] → why ≡ Some whys.Form) →
    ((k : ℕ) → numbers ≡ k ∷ [] → JudgesClaim old (last_line k) why new) → Judges old words why new
last-judged old new numbers words why s d f form each = judged_by old new stage.Begun words why d.begun (last_front old new numbers words why s d f form each)

-- Lines that end too early, or have no form.

pair_short : (c : Claims) (numbers : List ℕ) (words : List (List ℕ)) → IsPairFront (rule_count c + 1) numbers words → own_line c words ≡ None
pair_short c [] (kind ∷ []) f = ap (λ x. line_by (rule_count c) (entry_count c) (is_some (header_of c.difference)) x []) f
pair_short c (i ∷ []) (kind ∷ word ∷ []) f = ap (λ x. line_by (rule_count c) (entry_count c) (is_some (header_of c.difference)) x (word ∷ [])) f.0
pair_short c numbers words f = absurd f

pub pair-short : (old new : Claims) (numbers : List ℕ) (words : List (List ℕ)) → PairIsDue old → IsPairFront (rule_count old + 1) numbers words → Judges old words (Some whys.Form) new
pair-short old new numbers words d f = judged_by old new stage.Begun words (Some whys.Form) d.begun (no_line old new words (pair_short old numbers words f))

lacks_form : (s : Sides) (t : Taken) (o : Option Line) → IfSome o (λ line. IsDue s t line → ⊥) → FailsNext s t o whys.Form
lacks_form s t None h = refl
lacks_form s t (Some line) h = inl (refl, h)

form_by : (old new : Claims) (st : Stage) (words : List (List ℕ)) → HasNoForm (list_in old) (table_in old) (reading_by st (taken_in old)).taken (reading_by st (taken_in old)).ended words →
    JudgesBy old st words (Some whys.Form) new
form_by old new stage.Fresh words h = subst (λ o. FailsHeading (list_in old) (table_in old) o whys.Form) (sym h) refl
form_by old new stage.Begun words h = lacks_form (sides_of (list_in old) (table_in old) (taken_in old)) (taken_in old) (own_line old words) h
form_by old new stage.Ended words h = refl

pub no-form : (old new : Claims) (words : List (List ℕ)) → ((more : List (List ℕ)) → HasNoForm (list_in old) (table_in old) (reading_in old).taken (reading_in old).ended (words ++ more)) →
    Judges old words (Some whys.Form) new
no-form old new words h =
    judged_by old new old.stage words (Some whys.Form) refl
    (form_by old new old.stage words (subst (λ (ws : List (List ℕ)). HasNoForm (list_in old) (table_in old) (reading_in old).taken (reading_in old).ended ws) (append-nil words) (h [])))

-- The first line.

none_after : (o : Option (Option ℕ)) (r : Option (List ℕ)) → r ≡ None → (o >>= (λ own. r >>= (λ more. Some (option_to_list own ++ more)))) ≡ None
none_after None r e = refl
none_after (Some own) r e = rw e refl

-- as many words as are due
numbers_none : (dues : List Word) (words : List (List ℕ)) → (length words ≡ length dues → ⊥) → numbers_in dues words ≡ None
numbers_none [] [] h = absurd (h refl)
numbers_none [] (word ∷ words) h = refl
numbers_none (d ∷ dues) [] h = refl
numbers_none (d ∷ dues) (word ∷ words) h = none_after (d word) (numbers_in dues words) (numbers_none dues words (λ e. h (ap suc e)))

six : (words : List (List ℕ)) (numbers : List ℕ) → length words ≡ 6 → numbers_in counts_due words ≡ Some numbers → heading_of words ≡ heading_by numbers
unfolding heading_of
six words numbers e f = rw (e, f) refl

twelve : (words : List (List ℕ)) (numbers : List ℕ) → length words ≡ 12 → numbers_in (counts_due ++ header_due) words ≡ Some numbers → heading_of words ≡ heading_by numbers
unfolding heading_of
twelve words numbers e f = rw (e, f) refl

other_by : (words : List (List ℕ)) (t : Bool) → nat_eq (length words) 6 ≡ t → t ≡ false → (length words ≡ 12 → ⊥) → heading_of words ≡ None
unfolding heading_of
other_by words t e f g = rw (e, f, numbers_none (counts_due ++ header_due) words g) refl

abbrev if_due : Bool → List ℕ → Option Heading
if_due t numbers = if t then heading_by numbers else None

heading_read : (place : ℕ) (numbers : List ℕ) (words : List (List ℕ)) → IsHeadingFront place numbers words → heading_of words ≡ heading_at place numbers
heading_read place numbers words f = elim (eqb_tells place 6) [
  | inl is ↦
      let e : length words ≡ 6 = f.count ∙ is.1 in
      six words numbers e (subst (λ n. numbers_in (take n (counts_due ++ header_due)) words ≡ Some numbers) is.1 f.numbers_are)
      ∙ ap (λ n. heading_at n numbers) (sym is.1)
  | inr other ↦ elim (eqb_tells place 12) [
    | inl is ↦
        let e : length words ≡ 12 = f.count ∙ is.1 in
        twelve words numbers e (subst (λ n. numbers_in (take n (counts_due ++ header_due)) words ≡ Some numbers) is.1 f.numbers_are)
        ∙ ap (λ n. heading_at n numbers) (sym is.1)
    | inr never ↦
        other_by words (nat_eq (length words) 6) refl (ap (λ n. nat_eq n 6) f.count ∙ other.0) (λ e. never.1 (sym f.count ∙ e))
        ∙ ap (λ t. if_due t numbers) (sym (ap (λ t. t || nat_eq place 12) other.0 ∙ never.0))
  ]
]

heading_by_why : (old new : Claims) (words : List (List ℕ)) (heading : Option Heading) (why : Option Why) → heading_of words ≡ heading → JudgesHeading old heading why new → JudgesBy old stage.Fresh words why new
heading_by_why old new words heading None e j = subst (λ o. JudgesHeading old o None new) (sym e) j
heading_by_why old new words heading (Some why) e j = subst (λ o. JudgesHeading old o (Some why) new) (sym e) j

pub heading-judged : (old new : Claims) (place : ℕ) (numbers : List ℕ) (words : List (List ℕ)) (why : Option Why) → old.stage ≡ stage.Fresh → IsHeadingFront place numbers words →
    (StatesHeader (heading_at place numbers) → JudgesHeading old (heading_at place numbers) why new) → Judges old words why new
heading-judged old new place numbers words why e f each =
    let is = heading_read place numbers words f in
    judged_by old new stage.Fresh words why e (heading_by_why old new words (heading_at place numbers) why is (each (subst StatesHeader is (states-header words))))

-- numbers that state no heading
pub no-heading : (ns : List ℕ) → (length ns ≡ 2 → ⊥) → (length ns ≡ 7 → ⊥) → heading_by ns ≡ None
no-heading [] f g = refl
no-heading (a ∷ []) f g = refl
no-heading (a ∷ b ∷ []) f g = absurd (f refl)
no-heading (a ∷ b ∷ c ∷ []) f g = refl
no-heading (a ∷ b ∷ c ∷ d ∷ []) f g = refl
no-heading (a ∷ b ∷ c ∷ d ∷ e ∷ []) f g = refl
no-heading (a ∷ b ∷ c ∷ d ∷ e ∷ h ∷ []) f g = refl
no-heading (a ∷ b ∷ c ∷ d ∷ e ∷ h ∷ i ∷ []) f g = absurd (g refl)
no-heading (a ∷ b ∷ c ∷ d ∷ e ∷ h ∷ i ∷ j ∷ ns) f g = refl

-- so many words say what the numbers in them state, or nothing
pub heading-whole : (place : ℕ) (numbers : List ℕ) (t : Bool) → t ≡ nat_eq place 6 || nat_eq place 12 → t ≡ true → heading_at place numbers ≡ heading_by numbers
heading-whole place numbers t e f = ap (λ x. if_due x numbers) (sym e ∙ f)

pub heading-unwhole : (place : ℕ) (numbers : List ℕ) (t : Bool) → t ≡ nat_eq place 6 || nat_eq place 12 → t ≡ false → heading_at place numbers ≡ None
heading-unwhole place numbers t e f = ap (λ x. if_due x numbers) (sym e ∙ f)

-- what is said of a first line that says nothing
pub no-heading-fails : (old new : Claims) (heading : Option Heading) → heading ≡ None → JudgesHeading old heading (Some whys.Form) new
no-heading-fails old new heading e = subst (λ o. JudgesHeading old o (Some whys.Form) new) (sym e) refl

pub two-are : (ns : List ℕ) (d e : ℕ) → length ns ≡ 2 → ns ≡ slice_index_or ns 0 d ∷ slice_index_or ns 1 e ∷ []
two-are [] d e h = absurd (omega (arith, h))
two-are (a ∷ []) d e h = absurd (omega (arith, h))
two-are (a ∷ b ∷ []) d e h = refl
two-are (a ∷ b ∷ c ∷ ns) d e h = absurd (omega (arith, h))

pub one-is : (ns : List ℕ) (d : ℕ) → length ns ≡ 1 → ns ≡ slice_index_or ns 0 d ∷ []
one-is [] d h = absurd (omega (arith, h))
one-is (a ∷ []) d h = refl
one-is (a ∷ b ∷ ns) d h = absurd (omega (arith, h))

pub seven-are : (ns : List ℕ) (d : ℕ) → length ns ≡ 7 →
    ns ≡ slice_index_or ns 0 d ∷ slice_index_or ns 1 d ∷ slice_index_or ns 2 d ∷ slice_index_or ns 3 d ∷ slice_index_or ns 4 d ∷ slice_index_or ns 5 d ∷ slice_index_or ns 6 d ∷ []
seven-are [] d h = absurd (omega (arith, h))
seven-are (a ∷ []) d h = absurd (omega (arith, h))
seven-are (a ∷ b ∷ []) d h = absurd (omega (arith, h))
seven-are (a ∷ b ∷ c ∷ []) d h = absurd (omega (arith, h))
seven-are (a ∷ b ∷ c ∷ e ∷ []) d h = absurd (omega (arith, h))
seven-are (a ∷ b ∷ c ∷ e ∷ f ∷ []) d h = absurd (omega (arith, h))
seven-are (a ∷ b ∷ c ∷ e ∷ f ∷ g ∷ []) d h = absurd (omega (arith, h))
seven-are (a ∷ b ∷ c ∷ e ∷ f ∷ g ∷ i ∷ []) d h = refl
seven-are (a ∷ b ∷ c ∷ e ∷ f ∷ g ∷ i ∷ j ∷ ns) d h = absurd (omega (arith, h))

-- Results of calls.

pub last-result : {E : Type 0} (old new : Claims) (numbers : List ℕ) (words : List (List ℕ)) (r : Result (Option Why) E) → IsSound old → PairIsDue old → IsLastFront numbers words →
    (numbers ≡ [] → r ≡ Ok (Some whys.Form)) → ((k : ℕ) → numbers ≡ k ∷ [] → IfOk r (λ why. JudgesClaim old (last_line k) why new)) → IfOk r (λ why. Judges old words why new)
last-result old new numbers words (Ok why) s d f form each = last-judged old new numbers words why s d f (λ e. cc (form e)) each
last-result old new numbers words (Err error) s d f form each = tt

pub entry-result : {E : Type 0} (old new : Claims) (numbers : List ℕ) (cover : Cover) (words : List (List ℕ)) (r : Result (Option Why) E) → IsSound old → EntryIsDue old → cover.due ≡ 0 →
    IsCoverFront old (claim_due_in old) numbers cover words →
    ((steps : List Step) → StandsFor (own_sides old) (entry_claim (own_sides old) (length old.entries.items)) steps cover → IfOk r (λ why. JudgesClaim old (entry_line steps) why new)) →
    IfOk r (λ why. Judges old words why new)
entry-result old new numbers cover words (Ok why) s d none front each = entry-judged old new numbers cover words why s d none front each
entry-result old new numbers cover words (Err error) s d none front each = tt

pub rule-result : {E : Type 0} (old new : Claims) (numbers : List ℕ) (cover : Cover) (words : List (List ℕ)) (r : Result (Option Why) E) → IsSound old → RuleIsDue old → cover.due ≡ 0 →
    IsCoverFront old (claim_due_in old) numbers cover words →
    ((steps : List Step) → StandsFor (own_sides old) (rule_claim (own_sides old) (length old.rules.items)) steps cover → IfOk r (λ why. JudgesClaim old (rule_line steps) why new)) →
    IfOk r (λ why. Judges old words why new)
rule-result old new numbers cover words (Ok why) s d none front each = rule-judged old new numbers cover words why s d none front each
rule-result old new numbers cover words (Err error) s d none front each = tt

pub pair-result : {E : Type 0} (old new : Claims) (numbers : List ℕ) (cover : Cover) (words : List (List ℕ)) (r : Result (Option Why) E) → IsSound old → PairIsDue old → cover.due ≡ 0 →
    IsCoverFront old (claim_due_in old) numbers cover words →
    ((i j : ℕ) (steps : List Step) → numbers ≡ i ∷ j ∷ [] → StandsFor (own_sides old) (pair_claim (own_sides old) (record { rule = i; entry = j })) steps cover →
    IfOk r (λ why. JudgesClaim old (pair_line (record { rule = i; entry = j }) steps) why new)) → IfOk r (λ why. Judges old words why new)
pair-result old new numbers cover words (Ok why) s d none front each = pair-judged old new numbers cover words why s d none front each
pair-result old new numbers cover words (Err error) s d none front each = tt

-- What is kept of a line that isn't one.

pub unfit-judged : (old new : Claims) (here : At) (line : code_line.Line) (words : List (List ℕ)) → (here ≡ at.Start) ⊎ ((here ≡ at.Pair) ⊎ (here ≡ at.Nothing)) → words ≢ [] → IsAt old here line words →
    Judges old words (Some whys.Form) new
unfit-judged old new here line words (inl e) some is = absurd (some (subst (λ a. IsAt old a line words) e is))
unfit-judged old new here line words (inr (inl e)) some is =
    let f : IsAt old at.Pair line words = subst (λ a. IsAt old a line words) e is in
    pair-short old new line.numbers.items words (pair-due old f.0) f.1
unfit-judged old new here line words (inr (inr e)) some is =
    let f : IsAt old at.Nothing line words = subst (λ a. IsAt old a line words) e is in
    no-form old new words f

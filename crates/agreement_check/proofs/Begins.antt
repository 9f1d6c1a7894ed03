-- A valid proof begins with the word that tells it from a certificate of rows.
use Rattle.std.proofs.Common.{◌≡◌, ◌∷◌, ◌++◌, ℕ, List, [], Bool, true, false, Option, Some, None, nat_eq, if◌then◌else◌, option_to_list, length, ap, refl, sym, subst, ◌∙◌, append_assoc, drop, eqb-true}
use Rattle.std.specs.Prelude.{codes}
use Rattle.std.specs.List.{onto_first, starts_with}
use Rattle.std.specs.Str.{bytes_eq}
use Rattle.std.proofs.lemmas.Bool.{false≢true}
use Rattle.std.proofs.lemmas.Slice.Eq.{bytes_eq-Decides}
use Rattle.field_boxes.specs.declared.rule_list.RuleList.{RuleList}
use Rattle.ternary_words.specs.declared.table.Table.{Table}
use Rattle.text_lines.specs.Headline.Steps.{◌>>=◌}
use Rattle.partition_check.specs.CertificateText.{Lines, lines_of, put_byte}
use Rattle.agreement_check.specs.declared.valid.Valid.{Valid}
use Rattle.agreement_check.specs.Texts.{Due, Heading, counts_due, header_due, heading_by, heading_of, numbers_in, text_due, words_of}
use Rattle.agreement_check.specs.Claims.{Taken}
use Rattle.agreement_check.specs.Verdict.{IsValid, Reading, TakesAll, TakesHeading, all_of, started}

head_same : {X : Type 0} (x y : X) (xs ys : List X) → x ∷ xs ≡ y ∷ ys → x ≡ y
head_same x y xs ys e = cc

tail_same : {X : Type 0} (x y : X) (xs ys : List X) → x ∷ xs ≡ y ∷ ys → xs ≡ ys
tail_same x y xs ys e = cc

-- A line of two words and more begins with the first one and a space.
abbrev Begins : List ℕ → List ℕ → ℕ → Type 0
Begins text front byte = (rest : List ℕ) × (text ≡ front ++ byte ∷ rest)

onto : (b : ℕ) (line w v : List ℕ) (parts ws : List (List ℕ)) → onto_first b parts ≡ w ∷ v ∷ ws →
    ((x : List ℕ) → parts ≡ x ∷ v ∷ ws → Begins line x 32) → Begins (b ∷ line) w 32
onto b line w v [] ws e each = absurd cc
onto b line w v (x ∷ parts) ws e each =
    let more : parts ≡ v ∷ ws = tail_same (b ∷ x) w parts (v ∷ ws) e in
    let h = each x (ap (λ (ps : List (List ℕ)). x ∷ ps) more) in
    (h.0, ap (λ (t : List ℕ). b ∷ t) h.1 ∙ ap (λ (t : List ℕ). t ++ 32 ∷ h.0) (head_same (b ∷ x) w parts (v ∷ ws) e))

split : (b : ℕ) (line w v : List ℕ) (ws : List (List ℕ)) (t : Bool) → nat_eq b 32 ≡ t → (let parts : List (List ℕ) = if t then [] ∷ words_of line else onto_first b (words_of line) in parts) ≡ w ∷ v ∷ ws →
    ((x : List ℕ) → words_of line ≡ x ∷ v ∷ ws → Begins line x 32) → Begins (b ∷ line) w 32
split b line w v ws true is e each =
    (line, ap (λ (n : ℕ). n ∷ line) (eqb-true b 32 is) ∙ ap (λ (t : List ℕ). t ++ 32 ∷ line) (head_same [] w (words_of line) (v ∷ ws) e))
split b line w v ws false is e each = onto b line w v (words_of line) ws e each

first_word : (line w v : List ℕ) (ws : List (List ℕ)) → words_of line ≡ w ∷ v ∷ ws → Begins line w 32
first_word [] w v ws e = absurd cc
first_word (b ∷ line) w v ws e = split b line w v ws (nat_eq b 32) refl e (λ x f. first_word line x v ws f)

-- A text begins with its first line.
put : (b : ℕ) (text line rest : List ℕ) (parts lines : List (List ℕ)) → (put_byte b parts rest).whole ≡ line ∷ lines →
    ((x : List ℕ) (xs : List (List ℕ)) → parts ≡ x ∷ xs → Begins text x 10) → Begins (b ∷ text) line 10
put b text line rest [] lines e each = absurd cc
put b text line rest (x ∷ parts) lines e each =
    let h = each x parts refl in
    (h.0, ap (λ (t : List ℕ). b ∷ t) h.1 ∙ ap (λ (t : List ℕ). t ++ 10 ∷ h.0) (head_same (b ∷ x) line parts lines e))

split_line : (b : ℕ) (text line : List ℕ) (lines : List (List ℕ)) (t : Bool) → nat_eq b 10 ≡ t →
    (let l : Lines = if t then record { whole = [] ∷ (lines_of text).whole; rest = (lines_of text).rest } else put_byte b (lines_of text).whole (lines_of text).rest in l).whole ≡ line ∷ lines →
    ((x : List ℕ) (xs : List (List ℕ)) → (lines_of text).whole ≡ x ∷ xs → Begins text x 10) → Begins (b ∷ text) line 10
split_line b text line lines true is e each =
    (text, ap (λ (n : ℕ). n ∷ text) (eqb-true b 10 is) ∙ ap (λ (t : List ℕ). t ++ 10 ∷ text) (head_same [] line (lines_of text).whole lines e))
split_line b text line lines false is e each = put b text line (lines_of text).rest (lines_of text).whole lines e each

first_line : (text line : List ℕ) (lines : List (List ℕ)) → (lines_of text).whole ≡ line ∷ lines → Begins text line 10
first_line [] line lines e = absurd cc
first_line (b ∷ text) line lines e = split_line b text line lines (nat_eq b 10) refl e (λ x xs f. first_line text x xs f)

-- The first word of the first line.

text_by : (t : Bool) (o : Option ℕ) → (let r : Option (Option ℕ) = if t then Some None else None in r) ≡ Some o → t ≡ true
text_by true o e = refl
text_by false o e = absurd (cc e)

own_is : (own : Option (Option ℕ)) (rest : Option (List ℕ)) (ns : List ℕ) → (own >>= (λ o. rest >>= (λ more. Some (option_to_list o ++ more)))) ≡ Some ns → (o : Option ℕ) × (own ≡ Some o)
own_is None rest ns e = absurd (cc e)
own_is (Some o) rest ns e = (o, refl)

no_rest : (own : Option (Option ℕ)) (ns : List ℕ) → (own >>= (λ o. None >>= (λ more. Some (option_to_list o ++ more)))) ≡ Some ns → ⊥
no_rest None ns e = cc e
no_rest (Some o) ns e = cc e

two_words : (first : List ℕ) (second : Due) (dues : List Due) (words : List (List ℕ)) (ns : List ℕ) → numbers_in (text_due first ∷ second ∷ dues) words ≡ Some ns →
    (v : List ℕ) × (ws : List (List ℕ)) × (words ≡ first ∷ v ∷ ws)
two_words first second dues [] ns e = absurd (cc e)
two_words first second dues (w ∷ []) ns e = absurd (no_rest (text_due first w) ns e)
two_words first second dues (w ∷ v ∷ ws) ns e =
    let own = own_is (text_due first w) (numbers_in (second ∷ dues) (v ∷ ws)) ns e in
    (v, ws, ap (λ (x : List ℕ). x ∷ v ∷ ws) ((bytes_eq-Decides w first).0 (text_by (bytes_eq w first) own.0 own.1)))

-- a first line that says something begins so
says_so : (dues : List Due) (words : List (List ℕ)) (o : Option (List ℕ)) (h : Heading) → numbers_in dues words ≡ o → (o >>= heading_by) ≡ Some h → (ns : List ℕ) × (numbers_in dues words ≡ Some ns)
says_so dues words None h is e = absurd (cc e)
says_so dues words (Some ns) h is e = (ns, is)

abbrev IsProofLine : List (List ℕ) → Type 0
IsProofLine words = (v : List ℕ) × (ws : List (List ℕ)) × (words ≡ codes "proof" ∷ v ∷ ws)

heading_words : (words : List (List ℕ)) (t : Bool) (h : Heading) → (numbers_in (if t then counts_due else counts_due ++ header_due) words >>= heading_by) ≡ Some h → IsProofLine words
heading_words words true h e =
    let said = says_so counts_due words (numbers_in counts_due words) h refl e in two_words (codes "proof") (text_due (codes "1")) (drop 2 counts_due) words said.0 said.1
heading_words words false h e =
    let said = says_so (counts_due ++ header_due) words (numbers_in (counts_due ++ header_due) words) h refl e in two_words (codes "proof") (text_due (codes "1")) (drop 2 (counts_due ++ header_due)) words said.0 said.1

line_of_heading : (words : List (List ℕ)) (h : Heading) → heading_of words ≡ Some h → IsProofLine words
unfolding heading_of
line_of_heading words h e = heading_words words (nat_eq (length words) 6) h e

taken_heading : (list : RuleList) (table : Table) (words : List (List ℕ)) (o : Option Heading) (after : Reading) → heading_of words ≡ o → TakesHeading list table o after → IsProofLine words
taken_heading list table words None after is t = absurd t
taken_heading list table words (Some h) after is t = line_of_heading words h is

begins_by : (list : RuleList) (table : Table) (text : List ℕ) (taken : Taken) (lines : List (List ℕ)) → (lines_of text).whole ≡ lines → TakesAll list table started lines (all_of taken) → (rest : List ℕ) × (text ≡ codes "proof " ++ rest)
begins_by list table text taken [] is t = absurd (false≢true (ap (λ (r : Reading). r.ended) (sym t)))
begins_by list table text taken (line ∷ lines) is t =
    let words = taken_heading list table (words_of line) (heading_of (words_of line)) t.0 refl t.1 in
    let word = first_word line (codes "proof") words.0 words.1 words.2 in
    let whole = first_line text line lines is in
    (word.0 ++ 10 ∷ whole.0, whole.1 ∙ ap (λ (l : List ℕ). l ++ 10 ∷ whole.0) word.1 ∙ append_assoc (codes "proof") (32 ∷ word.0) (10 ∷ whole.0))

starts : (text rest : List ℕ) → text ≡ codes "proof " ++ rest → starts_with nat_eq text (codes "proof ") ≡ true
starts text rest e = subst (λ (t : List ℕ). starts_with nat_eq t (codes "proof ") ≡ true) (sym e) refl

pub begins-so : (list : RuleList) (table : Table) (text : List ℕ) (v : Valid) → IsValid list table text v → starts_with nat_eq text (codes "proof ") ≡ true
begins-so list table text v valid =
    let h = begins_by list table text _ (lines_of text).whole refl valid.takes in
    starts text h.0 h.1

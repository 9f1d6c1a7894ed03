-- Lines that are made of words are read so.
use Rattle.std.proofs.Common.{◌≡◌, ◌∷◌, ◌++◌, ◌∙◌, ℕ, ◌<◌, ◌^◌, List, [], Bool, true, false, length, nat_eq, nat_lt, slice_get, Some, ap, refl, sym, subst, arith, append_assoc, append-nil}
use Rattle.std.specs.Fmt.{decimal}
use Rattle.std.specs.List.{flat_map, list_all, onto_first}
use Rattle.std.specs.Char.{digit_value}
use Rattle.std.proofs.lemmas.Bool.{and_parts, lt-ltb, ltb-true, ne_eqb}
use Rattle.std.proofs.lemmas.Str.Parse.{digit_from_value}
use Rattle.text_lines.proofs.Decimals.{decimal-all, is_digit}
use Rattle.text_lines.proofs.Joins.{all_joined, all_wider}
use Rattle.field_boxes.specs.declared.rule_list.RuleList.{RuleList}
use Rattle.ternary_words.specs.declared.table.Table.{Table}
use Rattle.partition_check.specs.CertificateText.{Lines, lines_of}
use Rattle.partition_check.proofs.JoinedLines.{HasNoFeed, lines-joined}
use Rattle.agreement_check.specs.Texts.{words_of}
use Rattle.agreement_check.specs.Verdict.{Reading, TakesAll, TakesWords}

-- Words: texts without spaces and line feeds.

abbrev is_mark : ℕ → Bool
is_mark b = nat_lt 32 b

abbrev is_text : ℕ → Bool
is_text b = nat_lt 31 b

abbrev pub IsWord : List ℕ → Type 0
IsWord word = list_all is_mark word ≡ true

abbrev pub AreWords : List (List ℕ) → Type 0
AreWords [] = Unit {0}
AreWords (w ∷ ws) = IsWord w × AreWords ws

-- each with a space before it
abbrev pub spaced : List (List ℕ) → List ℕ
spaced [] = []
spaced (w ∷ ws) = 32 ∷ (w ++ spaced ws)

digit_mark : (b : ℕ) → is_digit b ≡ true → is_mark b ≡ true
digit_mark b h = let range = digit_from_value b (ltb-true (digit_value b) 10 h) in let low = range.0 in lt-ltb 32 b (omega (arith, low))

pub number-word : (n : ℕ) → n < 2 ^ 64 → IsWord (decimal n)
number-word n h = decimal-all is_mark digit_mark n h

mark_text : (b : ℕ) → is_mark b ≡ true → is_text b ≡ true
mark_text b h = let more = ltb-true 32 b h in lt-ltb 31 b (omega (arith, more))

spaced_text : (ws : List (List ℕ)) → AreWords ws → list_all is_text (spaced ws) ≡ true
spaced_text [] h = refl
spaced_text (w ∷ ws) h = all_joined is_text w (spaced ws) (all_wider is_mark is_text mark_text w h.0) (spaced_text ws h.1)

no_feed : (line : List ℕ) → list_all is_text line ≡ true → HasNoFeed line
no_feed [] h = tt
no_feed (b ∷ line) h =
    let parts = and_parts (is_text b) (list_all is_text line) h in
    let more = ltb-true 31 b parts.0 in
    (ne_eqb b 10 (λ e. omega (arith, more, e)), no_feed line parts.1)

no_space : (b : ℕ) → is_mark b ≡ true → nat_eq b 32 ≡ false
no_space b h = let more = ltb-true 32 b h in ne_eqb b 32 (λ e. omega (arith, more, e))

one_word : (word : List ℕ) → IsWord word → words_of word ≡ word ∷ []
one_word [] h = refl
one_word (b ∷ word) h =
    let parts = and_parts (is_mark b) (list_all is_mark word) h in
    rw (no_space b parts.0) (ap (onto_first b) (one_word word parts.1))

first_word : (word rest : List ℕ) → IsWord word → words_of (word ++ 32 ∷ rest) ≡ word ∷ words_of rest
first_word [] rest h = refl
first_word (b ∷ word) rest h =
    let parts = and_parts (is_mark b) (list_all is_mark word) h in
    rw (no_space b parts.0) (ap (onto_first b) (first_word word rest parts.1))

all_words : (w : List ℕ) (ws : List (List ℕ)) → IsWord w → AreWords ws → words_of (w ++ spaced ws) ≡ w ∷ ws
all_words w [] h k = ap words_of (append-nil w) ∙ one_word w h
all_words w (v ∷ ws) h k = first_word w (v ++ spaced ws) h ∙ ap (λ (vs : List (List ℕ)). w ∷ vs) (all_words v ws k.0 k.1)

-- Lines.

abbrev line_before : List ℕ → Lines → Lines
line_before line l = record { whole = line ∷ l.whole; rest = l.rest }

first_line : (line rest : List ℕ) → HasNoFeed line → lines_of (line ++ 10 ∷ rest) ≡ line_before line (lines_of rest)
first_line line rest h = lines-joined line (10 ∷ rest) h ∙ ap (λ (t : List ℕ). line_before t (lines_of rest)) (append-nil line)

-- a text is one line of words, which is taken
pub record IsTaken (list : RuleList) (table : Table) (r : Reading) (text : List ℕ) (next : Reading) : Type 0 where
  pub first : List ℕ
  pub more : List (List ℕ)
  pub text_is : text ≡ first ++ (spaced more ++ 10 ∷ [])
  pub first_is : IsWord first
  pub more_are : AreWords more
  pub takes : TakesWords list table r.taken r.ended (first ∷ more) next

-- all lines of a text are taken, and it ends with the last one
pub record IsReadTo (list : RuleList) (table : Table) (r : Reading) (text : List ℕ) (after : Reading) : Type 0 where
  pub lines : TakesAll list table r (lines_of text).whole after
  pub ended : (lines_of text).rest ≡ []

pub with-line : (list : RuleList) (table : Table) (r next after : Reading) (text rest : List ℕ) → IsTaken list table r text next → IsReadTo list table next rest after → IsReadTo list table r (text ++ rest) after
with-line list table r next after text rest t g =
    let line = t.first ++ spaced t.more in
    let parted : text ++ rest ≡ line ++ 10 ∷ rest =
    ap (λ (s : List ℕ). s ++ rest) (t.text_is ∙ sym (append_assoc t.first (spaced t.more) (10 ∷ []))) ∙ append_assoc line (10 ∷ []) rest in
    let clear = no_feed line (all_joined is_text t.first (spaced t.more) (all_wider is_mark is_text mark_text t.first t.first_is) (spaced_text t.more t.more_are)) in
    let split : lines_of (text ++ rest) ≡ line_before line (lines_of rest) = ap lines_of parted ∙ first_line line rest clear in
    let words : words_of line ≡ t.first ∷ t.more = all_words t.first t.more t.first_is t.more_are in
    let own : TakesWords list table r.taken r.ended (words_of line) next = subst (λ (ws : List (List ℕ)). TakesWords list table r.taken r.ended ws next) (sym words) t.takes in
    let front : TakesAll list table r (line ∷ (lines_of rest).whole) after = (next, own, g.lines) in
    record {
      lines = subst (λ (l : Lines). TakesAll list table r l.whole after) (sym split) front;
      ended = ap (λ (l : Lines). l.rest) split ∙ g.ended;
    }

-- Lines of one kind, one for each item: the state is that of the items so far.
section : {X : Type 0} (list : RuleList) (table : Table) (f : X → List ℕ) (state : List X → Reading) (all : List X) →
    ((done : List X) (x : X) (rest : List X) → all ≡ done ++ x ∷ rest → IsTaken list table (state done) (f x) (state (done ++ x ∷ []))) →
    (text : List ℕ) (after : Reading) → IsReadTo list table (state all) text after → (done todo : List X) → all ≡ done ++ todo → IsReadTo list table (state done) (flat_map f todo ++ text) after
section list table f state all each text after good done [] e = subst (λ ds. IsReadTo list table (state ds) text after) (e ∙ append-nil done) good
section list table f state all each text after good done (x ∷ rest) e =
    let later = section list table f state all each text after good (done ++ x ∷ []) rest (e ∙ sym (append_assoc done (x ∷ []) rest)) in
    let own = with-line list table (state done) (state (done ++ x ∷ [])) after (f x) (flat_map f rest ++ text) (each done x rest e) later in
    subst (λ (t : List ℕ). IsReadTo list table (state done) t after) (sym (append_assoc (f x) (flat_map f rest) text)) own

pub all-taken : {X : Type 0} (list : RuleList) (table : Table) (f : X → List ℕ) (state : List X → Reading) (all : List X) →
    ((done : List X) (x : X) (rest : List X) → all ≡ done ++ x ∷ rest → IsTaken list table (state done) (f x) (state (done ++ x ∷ []))) →
    (text : List ℕ) (after : Reading) → IsReadTo list table (state all) text after → IsReadTo list table (state []) (flat_map f all ++ text) after
all-taken list table f state all each text after good = section list table f state all each text after good [] all refl

-- the item behind those that were taken
get_at : {X : Type 0} (done : List X) (x : X) (rest : List X) → slice_get (done ++ x ∷ rest) (length done) ≡ Some x
get_at [] x rest = refl
get_at (d ∷ done) x rest = get_at done x rest

pub item-at : {X : Type 0} (all done : List X) (x : X) (rest : List X) → all ≡ done ++ x ∷ rest → slice_get all (length done) ≡ Some x
item-at all done x rest e = ap (λ xs. slice_get xs (length done)) e ∙ get_at done x rest

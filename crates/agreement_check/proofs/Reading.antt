-- What is kept of a text, byte by byte, and the lines that were taken of it.
use Rattle.std.proofs.Common.{◌≡◌, ◌≢◌, ◌⊎◌, ◌∷◌, ◌++◌, ℕ, ◌+◌, ◌<◌, List, [], Bool, true, false, Result, Ok, Err, IsErrAnd, MatchResult, length, slice_index, take, drop, nat_eq, ap, refl, sym, subst, ◌∙◌, append_assoc, inl, inr, take-append-drop}
use Rattle.std.proofs.lemmas.List.{take_more}
use Rattle.field_boxes.specs.declared.rule_list.RuleList.{RuleList}
use Rattle.ternary_words.specs.declared.table.Table.{Table}
use Rattle.partition_check.specs.CertificateText.{Lines, lines_of}
use Rattle.partition_check.proofs.JoinedLines.{lines-append}
use Rattle.agreement_check.specs.declared.claims.Claims.{Claims}
use Rattle.agreement_check.specs.declared.line.At.{At}
use Rattle.agreement_check.specs.declared.line.At.TheVariants as at
use Rattle.agreement_check.specs.declared.line.Line.{Line}
use Rattle.agreement_check.specs.declared.reader.Reader.{Reader}
use Rattle.agreement_check.specs.declared.reader.Refusal.{Refusal}
use Rattle.agreement_check.specs.declared.reader.Refusal.TheVariants as refusals
use Rattle.agreement_check.specs.declared.valid.Valid.{Valid}
use Rattle.agreement_check.specs.declared.wrong.Why.{Why}
use Rattle.agreement_check.specs.declared.wrong.Why.TheVariants.{Form, EndsEarly}
use Rattle.agreement_check.specs.declared.wrong.Wrong.{Wrong}
use Rattle.agreement_check.specs.Standing.{IfWrong, IsAfter, IsAt, header_of, list_in, reading_in, table_in, taken_in}
use Rattle.agreement_check.specs.Texts.{words_of}
use Rattle.agreement_check.specs.Verdict.{FailsLine, FailsWords, FindsWrong, IsShown, IsUnended, IsValid, LacksEnd, Reading, TakesAll, TakesLine, TakesWords, all_of, lines_taken, started}
use Rattle.agreement_check.proofs.Words.{kept-none, lines-byte, lines-feed, never-none, no-bytes, one-word, words-byte, words-space}

-- Lines that are taken, one list after another.

module _ (list : RuleList) (table : Table) where
  takes_append : (a b : List (List ℕ)) (r m after : Reading) → TakesAll list table r a m → TakesAll list table m b after → TakesAll list table r (a ++ b) after
  takes_append [] b r m after h k = subst (λ (x : Reading). TakesAll list table x b after) h k
  takes_append (line ∷ a) b r m after h k = (h.0, h.1, takes_append a b h.0 m after h.2 k)

  finds_front : (a b : List (List ℕ)) (r : Reading) (w : Wrong) → FindsWrong list table r a w → FindsWrong list table r (a ++ b) w
  finds_front [] b r w f = absurd f
  finds_front (line ∷ a) b r w (inl f) = inl f
  finds_front (line ∷ a) b r w (inr f) = inr (f.0, f.1, finds_front a b f.0 w f.2)

  finds_behind : (a b : List (List ℕ)) (r m : Reading) (w : Wrong) → TakesAll list table r a m → FindsWrong list table m b w → FindsWrong list table r (a ++ b) w
  finds_behind [] b r m w h f = subst (λ (x : Reading). FindsWrong list table x b w) h f
  finds_behind (line ∷ a) b r m w h f = inr (h.0, h.1, finds_behind a b h.0 m w h.2 f)

-- a wrong line stays wrong when the text goes on
pub wrong-later : (list : RuleList) (table : Table) (text more : List ℕ) (w : Wrong) → FindsWrong list table started (lines_of text).whole w → FindsWrong list table started (lines_of (text ++ more)).whole w
wrong-later list table text more w f =
    subst (λ (l : Lines). FindsWrong list table started l.whole w) (sym (lines-append text more)) (finds_front list table (lines_of text).whole (lines_of ((lines_of text).rest ++ more)).whole started w f)

-- What a refusal says.

pub wrong-map : (e : Refusal) (P Q : Wrong → Type 0) → ((w : Wrong) → P w → Q w) → IfWrong e P → IfWrong e Q
wrong-map (refusals.Wrong wrong) P Q f h = f wrong h
wrong-map refusals.Memory P Q f h = tt

pub handed-on : {T : Type 0} (result : Result T Refusal) (e : Refusal) (A : T → Type 0) (P : Wrong → Type 0) → IsErrAnd result (λ x. x ≡ e) → IfWrong e P → MatchResult result A (λ x. IfWrong x P)
handed-on (Ok t) e A P is h = absurd is
handed-on (Err x) e A P is h = subst (λ (y : Refusal). IfWrong y P) (sym is) h

-- All bytes, and the next one.

pub all-bytes : (text bytes : List ℕ) (i : ℕ) → i < length bytes → ((text ++ take i bytes) ++ slice_index bytes i ∷ []) ++ drop (i + 1) bytes ≡ text ++ bytes
all-bytes text bytes i h =
    let b : List ℕ = slice_index bytes i ∷ [] in
    let rest = drop (i + 1) bytes in
    ap (λ (t : List ℕ). t ++ rest) (append_assoc text (take i bytes) b) ∙ append_assoc text (take i bytes ++ b) rest
    ∙ ap (λ (t : List ℕ). text ++ t) (ap (λ (t : List ℕ). t ++ rest) (sym (take_more bytes i 0 h)) ∙ take-append-drop (i + 1) bytes)

-- The next byte.

module _ {list : RuleList} {table : Table} {text : List ℕ} {old : Reader} (h : IsAfter list table text old) where
  abbrev so_far : List ℕ
  so_far = (lines_of text).rest

  -- list, table and the lines that were taken, behind a byte that ends none
  none_ended : (b : ℕ) (c : Claims) → nat_eq b 10 ≡ false → c ≡ old.claims → TakesAll list table started (lines_of (text ++ b ∷ [])).whole (reading_in c)
  none_ended b c line same =
      subst (λ (l : Lines). TakesAll list table started l.whole (reading_in c)) (sym (lines-byte text b line)) (subst (λ (x : Claims). TakesAll list table started (lines_of text).whole (reading_in x)) (sym same) h.takes)

  last_words : (b : ℕ) → nat_eq b 10 ≡ false → words_of (lines_of (text ++ b ∷ [])).rest ≡ words_of (so_far ++ b ∷ [])
  last_words b line = ap (λ (l : Lines). words_of l.rest) (lines-byte text b line)

  pub after-byte : (b : ℕ) (new : Reader) → nat_eq b 10 ≡ false → nat_eq b 32 ≡ false → new.claims ≡ old.claims → new.line ≡ old.line →
      ((word : List ℕ) → old.word.items ≡ take 13 word → new.word.items ≡ take 13 (word ++ b ∷ [])) → IsAfter list table (text ++ b ∷ []) new
  after-byte b new line space claims same kept = record {
    list_is = ap list_in claims ∙ h.list_is;
    table_is = ap table_in claims ∙ h.table_is;
    takes = none_ended b new.claims line claims;
    words = h.words;
    word = h.word ++ b ∷ [];
    parts = last_words b line ∙ words-byte b so_far h.words h.word space h.parts;
    kept = kept h.word h.kept;
    stands = subst (λ (c : Claims). IsAt c new.line.at new.line h.words) (sym claims) (subst (λ (l : Line). IsAt old.claims l.at l h.words) (sym same) h.stands);
    begins = λ e. ap (λ (l : Line). l.at) same ∙ h.begins e;
  }

  pub after-space : (new : Reader) → new.claims ≡ old.claims → new.word.items ≡ [] → IsAt old.claims new.line.at new.line (h.words ++ h.word ∷ []) → IsAfter list table (text ++ 32 ∷ []) new
  after-space new claims empty stands = record {
    list_is = ap list_in claims ∙ h.list_is;
    table_is = ap table_in claims ∙ h.table_is;
    takes = none_ended 32 new.claims refl claims;
    words = h.words ++ h.word ∷ [];
    word = [];
    parts = last_words 32 refl ∙ words-space so_far ∙ ap (λ (ws : List (List ℕ)). ws ++ [] ∷ []) h.parts;
    kept = empty;
    stands = subst (λ (c : Claims). IsAt c new.line.at new.line (h.words ++ h.word ∷ [])) (sym claims) stands;
    begins = λ e. absurd (never-none h.words h.word e);
  }

  -- the words of the line that ended
  abbrev ended_words : List (List ℕ)
  ended_words = h.words ++ h.word ∷ []

  pub after-line : (new : Reader) → TakesWords (list_in old.claims) (table_in old.claims) (reading_in old.claims).taken (reading_in old.claims).ended (h.words ++ h.word ∷ []) (reading_in new.claims) →
      list_in new.claims ≡ list_in old.claims → table_in new.claims ≡ table_in old.claims → new.word.items ≡ [] → new.line.at ≡ at.Start → IsAfter list table (text ++ 10 ∷ []) new
  after-line new takes lists tables empty start =
      let r = reading_in old.claims in
      let next = reading_in new.claims in
      let given : TakesWords list table r.taken r.ended ended_words next =
      subst (λ (l : RuleList). TakesWords l table r.taken r.ended ended_words next) h.list_is (subst (λ (t : Table). TakesWords (list_in old.claims) t r.taken r.ended ended_words next) h.table_is takes) in
      let line : TakesLine list table r so_far next = subst (λ (ws : List (List ℕ)). TakesWords list table r.taken r.ended ws next) (sym h.parts) given in
      record {
        list_is = lists ∙ h.list_is;
        table_is = tables ∙ h.table_is;
        takes = subst (λ (l : Lines). TakesAll list table started l.whole next) (sym (lines-feed text)) (takes_append list table (lines_of text).whole (so_far ∷ []) started r next h.takes (next, line, refl));
        words = [];
        word = [];
        parts = ap (λ (l : Lines). words_of l.rest) (lines-feed text);
        kept = empty;
        stands = subst (λ (a : At). IsAt new.claims a new.line []) (sym start) refl;
        begins = λ e. start;
      }

  pub line-wrong : (w : Wrong) → w.line ≡ lines_taken (reading_in old.claims) + 1 →
      FailsWords (list_in old.claims) (table_in old.claims) (reading_in old.claims).taken (reading_in old.claims).ended (h.words ++ h.word ∷ []) w.why → FindsWrong list table started (lines_of (text ++ 10 ∷ [])).whole w
  line-wrong w number fails =
      let r = reading_in old.claims in
      let given : FailsWords list table r.taken r.ended ended_words w.why =
      subst (λ (l : RuleList). FailsWords l table r.taken r.ended ended_words w.why) h.list_is (subst (λ (t : Table). FailsWords (list_in old.claims) t r.taken r.ended ended_words w.why) h.table_is fails) in
      let line : FailsLine list table r so_far w = record { line_is = number; why = subst (λ (ws : List (List ℕ)). FailsWords list table r.taken r.ended ws w.why) (sym h.parts) given } in
      subst (λ (l : Lines). FindsWrong list table started l.whole w) (sym (lines-feed text)) (finds_behind list table (lines_of text).whole (so_far ∷ []) started r w h.takes (inl line))

-- none yet
pub after-none : (r : Reader) → reading_in r.claims ≡ started → r.line.at ≡ at.Start → r.word.items ≡ [] → IsAfter (list_in r.claims) (table_in r.claims) [] r
after-none r begun start empty = record {
  list_is = refl;
  table_is = refl;
  takes = begun;
  words = [];
  word = [];
  parts = refl;
  kept = empty;
  stands = subst (λ (a : At). IsAt r.claims a r.line []) (sym start) refl;
  begins = λ e. start;
}

-- The end.

lacks_form : (ended : Bool) (rest : List ℕ) → (rest ≡ [] → ⊥) → LacksEnd ended rest Form
lacks_form false [] some = absurd (some refl)
lacks_form true [] some = absurd (some refl)
lacks_form false (b ∷ rest) some = refl
lacks_form true (b ∷ rest) some = refl

lacks_last : (ended : Bool) (rest : List ℕ) → ended ≡ false → rest ≡ [] → LacksEnd ended rest EndsEarly
lacks_last ended rest e none = subst (λ (b : Bool). LacksEnd b rest EndsEarly) (sym e) (subst (λ (t : List ℕ). LacksEnd false t EndsEarly) (sym none) refl)

module _ {list : RuleList} {table : Table} {text : List ℕ} {r : Reader} (h : IsAfter list table text r) where
  no_rest : r.line.at ≡ at.Start → r.word.items ≡ [] → (lines_of text).rest ≡ []
  no_rest start empty =
      let words : h.words ≡ [] = subst (λ (a : At). IsAt r.claims a r.line h.words) start h.stands in
      let word : h.word ≡ [] = kept-none h.word (sym empty ∙ h.kept) in
      no-bytes (lines_of text).rest (h.parts ∙ ap (λ (ws : List (List ℕ)). ws ++ h.word ∷ []) words ∙ ap (λ (w : List ℕ). w ∷ []) word)

  -- nothing is kept where no bytes are left
  at_start : (lines_of text).rest ≡ [] → (r.line.at ≡ at.Start) × (r.word.items ≡ [])
  at_start none =
      let parts = one-word h.words h.word (sym h.parts ∙ ap words_of none) in
      (h.begins parts.0, h.kept ∙ ap (take 13) parts.1)

  pub ends-in_form : (w : Wrong) → w.line ≡ lines_taken (reading_in r.claims) + 1 → w.why ≡ Form → ((r.line.at ≡ at.Start) × (r.word.items ≡ []) → ⊥) → IsUnended list table text w
  ends-in_form w number why some = record {
    after = reading_in r.claims;
    takes = h.takes;
    ends = record {
      line_is = number;
      why = subst (λ (y : Why). LacksEnd (reading_in r.claims).ended (lines_of text).rest y) (sym why) (lacks_form (reading_in r.claims).ended (lines_of text).rest (λ none. some (at_start none)));
    };
  }

  pub ends-early : (w : Wrong) → w.line ≡ lines_taken (reading_in r.claims) + 1 → w.why ≡ EndsEarly → r.line.at ≡ at.Start → r.word.items ≡ [] → (reading_in r.claims).ended ≡ false → IsUnended list table text w
  ends-early w number why start empty goes = record {
    after = reading_in r.claims;
    takes = h.takes;
    ends = record {
      line_is = number;
      why = subst (λ (y : Why). LacksEnd (reading_in r.claims).ended (lines_of text).rest y) (sym why) (lacks_last (reading_in r.claims).ended (lines_of text).rest goes (no_rest start empty));
    };
  }

  pub ends-valid : (v : Valid) → r.line.at ≡ at.Start → r.word.items ≡ [] → reading_in r.claims ≡ all_of (taken_in r.claims) → v.pairs ≡ length r.claims.pairs.items →
      IsShown (list_in r.claims) (table_in r.claims) (header_of r.claims.difference) v.shown → IsValid list table text v
  ends-valid v start empty whole pairs shown = record {
    taken = taken_in r.claims;
    takes = subst (λ (x : Reading). TakesAll list table started (lines_of text).whole x) whole h.takes;
    whole = no_rest start empty;
    pairs = pairs;
    shown = subst (λ (l : RuleList). IsShown l table (header_of r.claims.difference) v.shown) h.list_is (subst (λ (t : Table). IsShown (list_in r.claims) t (header_of r.claims.difference) v.shown) h.table_is shown);
  }

-- The first line of a table is written as it was read.
use Rattle.std.proofs.Common.{◌≡◌, ◌∷◌, ◌++◌, ℕ, List, Bool, true, false, cond, [], ap, refl, sym, ◌∙◌, arith, Some, None, ◌&&◌, codes, decimal, bytes_eq}
use Rattle.std.proofs.lemmas.Bool.{and_parts}
use Rattle.std.proofs.lemmas.Option.{cond_some, option_and_then_some}
use Rattle.std.proofs.lemmas.Slice.Eq.{bytes_eq-Decides}
use Rattle.table_text.specs.declared.heading.Version.TheVariants.{Trits, Columns}
use Rattle.table_text.specs.Heading.{Heading, HeadingWords, heading_of, is_labelled, slot_of, version_of, words_of}
use Rattle.text_lines.specs.Headline.Cuts.{split_once}
use Rattle.text_lines.specs.Numbers.{plain_number}
use Rattle.text_lines.proofs.Joins.{split_back}
use Rattle.table_text.proofs.HeadingTexts.{first_text, three_digits}
use Rattle.text_lines.proofs.NumberBack.{plain_back}

-- eight words with a space between them
abbrev with_spaces : List ℕ → List ℕ → List ℕ → List ℕ → List ℕ → List ℕ → List ℕ → List ℕ → List ℕ
with_spaces a b c d e f g h = a ++ 32 ∷ (b ++ 32 ∷ (c ++ 32 ∷ (d ++ 32 ∷ (e ++ 32 ∷ (f ++ 32 ∷ (g ++ 32 ∷ h))))))

abbrev joined : HeadingWords → List ℕ
joined w = with_spaces w.table w.version w.slot w.slot_number w.composed w.composed_number w.entries w.entries_number

words_back : (line : List ℕ) (w : HeadingWords) → words_of line ≡ Some w → line ≡ joined w
unfolding words_of
words_back line w h =
    option_and_then_some _ (split_once 32 line) w h (λ p ep hp.
    option_and_then_some _ (split_once 32 p.1) w hp (λ q eq hq.
    option_and_then_some _ (split_once 32 q.1) w hq (λ r er hr.
    option_and_then_some _ (split_once 32 r.1) w hr (λ s es hs.
    option_and_then_some _ (split_once 32 s.1) w hs (λ t et ht.
    option_and_then_some _ (split_once 32 t.1) w ht (λ u eu hu.
    option_and_then_some _ (split_once 32 u.1) w hu (λ v ev hv.
    let cut : HeadingWords = record { table = p.0; version = q.0; slot = r.0; slot_number = s.0; composed = t.0; composed_number = u.0; entries = v.0; entries_number = v.1 } in
    let same : cut ≡ w = cc in
    split_back 32 line p ep ∙ ap (λ x. p.0 ++ 32 ∷ x) (split_back 32 p.1 q eq ∙ ap (λ x. q.0 ++ 32 ∷ x) (split_back 32 q.1 r er ∙ ap (λ x. r.0 ++ 32 ∷ x) (split_back 32 r.1 s es
    ∙ ap (λ x. s.0 ++ 32 ∷ x) (split_back 32 s.1 t et ∙ ap (λ x. t.0 ++ 32 ∷ x) (split_back 32 t.1 u eu ∙ ap (λ x. u.0 ++ 32 ∷ x) (split_back 32 u.1 v ev))))))
    ∙ ap joined same)))))))

version_step : (text : List ℕ) (s t : Bool) → bytes_eq text (49 ∷ []) ≡ s → bytes_eq text (50 ∷ []) ≡ t → cond s (Some Trits) (cond t (Some Columns) None) ≡ Some Columns → text ≡ 50 ∷ []
version_step text false true es et h = (bytes_eq-Decides text (50 ∷ [])).0 et
version_step text s t es et h = absurd cc

version_back : (text : List ℕ) → version_of text ≡ Some Columns → text ≡ codes "2"
version_back text h = version_step text (bytes_eq text (49 ∷ [])) (bytes_eq text (50 ∷ [])) refl refl h

slot_step : (text : List ℕ) (n : ℕ) (a b c : Bool) → bytes_eq text (codes "104") ≡ a → bytes_eq text (codes "144") ≡ b → bytes_eq text (codes "288") ≡ c →
    cond a (Some 104) (cond b (Some 144) (cond c (Some 288) None)) ≡ Some n → text ≡ decimal n
slot_step text n true b c ea eb ec h =
    let same : 104 ≡ n = cc in (bytes_eq-Decides text (codes "104")).0 ea ∙ sym (three_digits 104 1 0 4 refl (omega arith) (omega arith) (omega arith) (omega arith)) ∙ ap decimal same
slot_step text n false true c ea eb ec h =
    let same : 144 ≡ n = cc in (bytes_eq-Decides text (codes "144")).0 eb ∙ sym (three_digits 144 1 4 4 refl (omega arith) (omega arith) (omega arith) (omega arith)) ∙ ap decimal same
slot_step text n false false true ea eb ec h =
    let same : 288 ≡ n = cc in (bytes_eq-Decides text (codes "288")).0 ec ∙ sym (three_digits 288 2 8 8 refl (omega arith) (omega arith) (omega arith) (omega arith)) ∙ ap decimal same
slot_step text n false false false ea eb ec h = absurd cc

slot_back : (text : List ℕ) (n : ℕ) → slot_of text ≡ Some n → text ≡ decimal n
slot_back text n h = slot_step text n (bytes_eq text (codes "104")) (bytes_eq text (codes "144")) (bytes_eq text (codes "288")) refl refl refl h

eight_same : (w : HeadingWords) (slot composed entries : List ℕ) → is_labelled w ≡ true → w.version ≡ codes "2" → w.slot_number ≡ slot → w.composed_number ≡ composed → w.entries_number ≡ entries → joined w ≡ first_text slot composed entries
eight_same w slot composed entries labelled version hs hc he =
    let d = and_parts (bytes_eq w.table (codes "table") && bytes_eq w.slot (codes "slot") && bytes_eq w.composed (codes "composed")) (bytes_eq w.entries (codes "entries")) labelled in
    let c = and_parts (bytes_eq w.table (codes "table") && bytes_eq w.slot (codes "slot")) (bytes_eq w.composed (codes "composed")) d.0 in
    let b = and_parts (bytes_eq w.table (codes "table")) (bytes_eq w.slot (codes "slot")) c.0 in
    rw ((bytes_eq-Decides w.table (codes "table")).0 b.0, version, (bytes_eq-Decides w.slot (codes "slot")).0 b.1, hs, (bytes_eq-Decides w.composed (codes "composed")).0 c.1, hc, (bytes_eq-Decides w.entries (codes "entries")).0 d.1, he) refl

-- a first line of the second version
pub heading_back : (line : List ℕ) (h : Heading) → heading_of line ≡ Some h → h.version ≡ Columns → line ≡ first_text (decimal h.slot) (decimal h.composed) (decimal h.entries)
unfolding heading_of
heading_back line h is version =
    option_and_then_some _ (words_of line) h is (λ w ew hw.
    option_and_then_some _ (version_of w.version) h hw (λ v ev hv.
    option_and_then_some _ (slot_of w.slot_number) h hv (λ s es hs.
    option_and_then_some _ (plain_number 262144 w.composed_number) h hs (λ c ec hc.
    option_and_then_some _ (plain_number 262144 w.entries_number) h hc (λ n en hn.
    let made : Heading = record { version = v; slot = s; composed = c; entries = n } in
    let last = cond_some (is_labelled w) made h hn in
    let second : v ≡ Columns = ap (λ (x : Heading). x.version) last.1 ∙ version in
    words_back line w ew
    ∙ eight_same w (decimal s) (decimal c) (decimal n) last.0 (version_back w.version (ev ∙ ap (λ x. Some x) second)) (slot_back w.slot_number s es) (sym (plain_back 262144 w.composed_number c (omega arith) ec)) (sym (plain_back 262144 w.entries_number n (omega arith) en))
    ∙ ap (λ (x : Heading). first_text (decimal x.slot) (decimal x.composed) (decimal x.entries)) last.1)))))

-- Numbers of decisions in a list of names that grows.
use Rattle.std.proofs.Common.{◌≡◌, ◌≤◌, ◌<◌, ◌-◌, ◌∷◌, ◌++◌, ◌&&◌, nat_eq, ℕ, zero, suc, min, Bool, true, false, if◌then◌else◌, List, [], Option, Some, None, option_map, length, map, slice_get, slice_index, inl, inr, refl, ap, sym, ◌∙◌, subst, arith, append-nil, length-append, append_assoc}
use Rattle.std.specs.Prelude.{All, IsTrue}
use Rattle.std.proofs.lemmas.Bool.{cases_eq}
use Rattle.std.proofs.lemmas.Option.{slice_get-map}
use Rattle.std.proofs.lemmas.List.{get_or_append_left}
use Rattle.std.proofs.Math.Seq.{get_or-append_seam}
use Rattle.std.proofs.lemmas.List.Elements.{All-head, All-tail, All-nil, All-cons, All-push}
use Rattle.slot_patch.proofs.Builders.{get-front}
use Rattle.field_boxes.specs.Headline.Names.{miss, text_of}
use Rattle.field_boxes.specs.Names.{name_at, with_name, is_known}
use Rattle.ternary_words.specs.Limits.{AreNumbered}
use Rattle.ternary_words.specs.Views.{entry_of, word_of}
use Rattle.ternary_words.specs.Headline.Table as words
use Rattle.ternary_words.specs.declared.entry.Entry.{Entry}
use Rattle.ternary_words.specs.declared.word.Word.{Word}
use Rattle.bank_update.specs.Standing.{table_in, entries_in}
use Rattle.slot_patch.specs.Least.{least_slots, same_word}
use Rattle.slot_patch.specs.Naming.{AreNumbersOf, ComeFrom, Grow, HaveWordsOf, renumbered}

abbrev Names : Type 0
Names = List (List ℕ)

-- a decision's number, at most so many
abbrev UpTo : ℕ → Entry → Type 0
UpTo n e = e.decision ≤ n

pub name-kept : (before now : Names) (n : ℕ) → Grow before now → n ≤ length before → name_at now n ≡ name_at before n
name-kept before now zero g h = refl
name-kept before now (suc k) g h = ap (λ (names : Names). slice_get names k) g.1 ∙ get-front before g.0 k (omega (arith, h))

entries_kept : (before now : Names) (es : List Entry) → Grow before now → AreNumbered (length before) es → map (entry_of now) es ≡ map (entry_of before) es
entries_kept before now [] g h = refl
entries_kept before now (e ∷ es) g h =
    let head = All-head (UpTo (length before)) e es h in
    let name = name-kept before now e.decision g head in
    let one : entry_of now e ≡ entry_of before e = ap (λ (d : Option (List ℕ)). let x : words.Entry = record { word = word_of e.word; decision = d } in x) name in
    ap (λ (x : words.Entry). x ∷ map (entry_of now) es) one
    ∙ ap (λ (xs : List words.Entry). entry_of before e ∷ xs) (entries_kept before now es g (All-tail (UpTo (length before)) e es h))

pub grown : (before now : Names) → Grow before now → length before ≤ length now
grown before now g = let e = ap length g.1 in let long = length-append before g.0 in omega (arith, e, long)

-- growing

pub grow-none : (names : Names) → Grow names names
grow-none names = ([], sym (append-nil names))

pub grow-on : (a b c : Names) → Grow a b → Grow b c → Grow a c
grow-on a b c g h = (g.0 ++ h.0, h.1 ∙ ap (λ (ns : Names). ns ++ h.0) g.1 ∙ append_assoc a g.0 h.0)

with_case : (names : Names) (name : List ℕ) (t : Bool) → Grow names (if t then names else names ++ name ∷ [])
with_case names name true = grow-none names
with_case names name false = (name ∷ [], refl)

pub grow-with : (names : Names) (name : List ℕ) → Grow names (with_name names name)
grow-with names name = with_case names name (is_known names name)

-- what is true of each name
true_at : (P : List ℕ → Type 0) (names : Names) (k : ℕ) → k < length names → All P names → P (text_of (name_at names (suc k)))
true_at P [] k h all = absurd (omega (arith, h))
true_at P (x ∷ names) zero h all = All-head P x names all
true_at P (x ∷ names) (suc k) h all = true_at P names k (omega (arith, h)) (All-tail P x names all)

true_case : (P : List ℕ → Type 0) (names : Names) (name : List ℕ) (t : Bool) → All P names → P name → All P (if t then names else names ++ name ∷ [])
true_case P names name true all one = all
true_case P names name false all one = All-push P names name all one

pub come-with : (before these now : Names) (k : ℕ) (name : List ℕ) → ComeFrom before these now → name ≡ text_of (name_at these (suc k)) → k < length these → ComeFrom before these (with_name now name)
come-with before these now k name h same small = λ is olds news.
    let P = λ (x : List ℕ). IsTrue (is x) in
    true_case P now name (is_known now name) (h is olds news) (subst P (sym same) (true_at P these k small news))

-- numbers of the same names

renamed_one : (names list : Names) (numbers : List ℕ) (e : Entry) → AreNumbersOf (length names) names list numbers → e.decision ≤ length names → entry_of list (renumbered numbers e) ≡ entry_of names e
renamed_one names list numbers e h small =
    ap (λ (d : Option (List ℕ)). let x : words.Entry = record { word = word_of e.word; decision = d } in x) (h.same e.decision small)

pub renamed : (names list : Names) (numbers : List ℕ) (es : List Entry) → AreNumbersOf (length names) names list numbers → AreNumbered (length names) es →
    map (entry_of list) (map (renumbered numbers) es) ≡ map (entry_of names) es
renamed names list numbers [] h small = refl
renamed names list numbers (e ∷ es) h small =
    ap (λ (x : words.Entry). x ∷ map (entry_of list) (map (renumbered numbers) es)) (renamed_one names list numbers e h (All-head (UpTo (length names)) e es small))
    ∙ ap (λ (xs : List words.Entry). entry_of names e ∷ xs) (renamed names list numbers es h (All-tail (UpTo (length names)) e es small))

pub renumbered-within : (names list : Names) (numbers : List ℕ) (es : List Entry) → AreNumbersOf (length names) names list numbers → AreNumbered (length names) es →
    AreNumbered (length list) (map (renumbered numbers) es)
renumbered-within names list numbers [] h small = All-nil (UpTo (length list))
renumbered-within names list numbers (e ∷ es) h small =
    All-cons (UpTo (length list)) (renumbered numbers e) (map (renumbered numbers) es) (h.within e.decision (All-head (UpTo (length names)) e es small))
    (renumbered-within names list numbers es h (All-tail (UpTo (length names)) e es small))

pub renumbered-words : (numbers : List ℕ) (es : List Entry) → HaveWordsOf (map (renumbered numbers) es) es
renumbered-words numbers [] = tt
renumbered-words numbers (e ∷ es) = (refl, renumbered-words numbers es)

name_there : (names : Names) (k : ℕ) → k < length names → name_at names (suc k) ≡ Some (text_of (name_at names (suc k)))
name_there [] k h = absurd (omega (arith, h))
name_there (x ∷ names) zero h = refl
name_there (x ∷ names) (suc k) h = name_there names k (omega (arith, h))

pub numbers-more : (names before now : Names) (numbers made : List ℕ) (count n : ℕ) (text : List ℕ) → AreNumbersOf count names before numbers → Grow before now → name_at now n ≡ Some text →
    text ≡ text_of (name_at names (suc count)) → count < length names → n ≤ length now → made ≡ numbers ++ n ∷ [] → AreNumbersOf (suc count) names now made
numbers-more names before now numbers made count n text h g name is less small made_is =
    let many = h.many in
    let long = length-append numbers (n ∷ []) in
    let more = grown before now g in
    let last : slice_index made (suc count) ≡ n = ap (λ (ns : List ℕ). slice_index ns (suc count)) made_is ∙ ap (slice_index (numbers ++ n ∷ [])) (sym many) ∙ get_or-append_seam numbers n [] 0 in
    let front = λ (k : ℕ) (le : k ≤ count). (ap (λ (ns : List ℕ). slice_index ns k) made_is ∙ get_or_append_left numbers (n ∷ []) 0 k (omega (arith, le, many))) in
    record {
      many = ap length made_is ∙ (let e : length (numbers ++ n ∷ []) ≡ suc (suc count) = omega (arith, long, many) in e);
      same = λ k le. elim (cases_eq k (suc count)) [
        | inl same ↦ ap (λ m. name_at now (slice_index made m)) same ∙ ap (name_at now) last ∙ name ∙ ap (λ (t : List ℕ). let o : Option (List ℕ) = Some t in o) is
            ∙ sym (name_there names count less) ∙ ap (name_at names) (sym same)
        | inr other ↦
            let low : k ≤ count = omega (arith, le, other) in
            ap (name_at now) (front k low) ∙ name-kept before now (slice_index numbers k) g (h.within k low) ∙ h.same k low
      ];
      within = λ k le. elim (cases_eq k (suc count)) [
        | inl same ↦ let e = ap (slice_index made) same ∙ last in omega (arith, e, small)
        | inr other ↦
            let low : k ≤ count = omega (arith, le, other) in
            let f = front k low in
            let w = h.within k low in
            omega (arith, f, w, more)
      ];
    }

-- how many slots are needed depends on words alone

same_either : (a b c : Entry) → b.word ≡ c.word → same_word a b ≡ same_word a c
same_either a b c h = ap (λ (w : Word). nat_eq a.word.mask w.mask && nat_eq a.word.value w.value) h

pub least-alike : (old made new : List Entry) → HaveWordsOf made new → least_slots same_word old made ≡ least_slots same_word old new
least-alike [] [] [] h = refl
least-alike [] (m ∷ made) (b ∷ new) h = ap suc (least-alike [] made new h.1)
least-alike (a ∷ old) [] [] h = refl
least-alike (a ∷ old) (m ∷ made) (b ∷ new) h =
    let x = least-alike old (m ∷ made) (b ∷ new) h in
    let y = least-alike (a ∷ old) made new h.1 in
    let z = least-alike old made new h.1 in
    let t = same_either a m b h.0 in
    cc (x, y, z, t)
least-alike old made new h = absurd assumption

pub length-words : (made new : List Entry) → HaveWordsOf made new → length made ≡ length new
length-words [] [] h = refl
length-words (m ∷ made) (b ∷ new) h = ap suc (length-words made new h.1)
length-words made new h = absurd assumption

-- a number behind the last name has none
pub text-none : {K : Type 0} (text : K → List ℕ) (keys : List K) (n : ℕ) → (n ≡ 0 → ⊥) → slice_get keys (n - 1) ≡ None → text_of (name_at (map text keys) n) ≡ miss
text-none text keys zero apart none = absurd (apart refl)
text-none text keys (suc k) apart none =
    ap text_of (slice_get-map text keys k ∙ ap (option_map text) (ap (slice_get keys) (let e : k ≡ suc k - 1 = omega arith in e) ∙ none))

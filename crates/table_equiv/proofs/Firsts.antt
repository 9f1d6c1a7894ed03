-- The first of some places whose item passes.
use Rattle.std.proofs.Common.{◌≡◌, ◌∷◌, ◌++◌, ℕ, zero, suc, option_map, ◌+◌, ◌<◌, ◌≤◌, List, [], Bool, true, false, cond, Option, Some, None, length, ap, refl, sym, subst, ◌∙◌, arith, inl, inr, find, take, drop}
use Rattle.std.specs.List.{position_or_len}
use Rattle.std.specs.Option.{option_or}
use Rattle.std.specs.Prelude.{slice_index}
use Rattle.std.proofs.lemmas.Bool.{cases_lt}
use Rattle.std.proofs.lemmas.List.{take-append-drop, take_all}
use Rattle.std.proofs.Math.Seq.{take-suc}
use Rattle.std.proofs.lemmas.List.Folds.{find-append}
use Rattle.table_equiv.specs.Places.{has_at}
use Rattle.ternary_words.specs.declared.word.Word.{Word}
use Rattle.table_equiv.specs.Firsts.{first_of, decided_at, DecideSame, KeepDecided, KeepAlike, Leads, DecidesAs}
use Rattle.agreement_check.proofs.First.{first-passes, none-before, up_to_length}

or_none : {A : Type 0} (o : Option A) → option_or o None ≡ o
or_none None = refl
or_none (Some x) = refl

one_false : (q : ℕ → Bool) (x : ℕ) → q x ≡ false → find q (x ∷ []) ≡ None
one_false q x e = ap (λ t. let o : Option ℕ = cond t (Some x) None in o) e

one_true : (q : ℕ → Bool) (x : ℕ) → q x ≡ true → find q (x ∷ []) ≡ Some x
one_true q x e = ap (λ t. let o : Option ℕ = cond t (Some x) None in o) e

-- one more that doesn't pass, and one more
pub find-out : (q : ℕ → Bool) (kept front : List ℕ) (x : ℕ) → find q kept ≡ find q front → q x ≡ false → find q kept ≡ find q (front ++ x ∷ [])
find-out q kept front x same e = same ∙ sym (find-append q front (x ∷ []) ∙ ap (option_or (find q front)) (one_false q x e) ∙ or_none (find q front))

pub find-in : (q : ℕ → Bool) (kept front : List ℕ) (x : ℕ) → find q kept ≡ find q front → find q (kept ++ x ∷ []) ≡ find q (front ++ x ∷ [])
find-in q kept front x same = find-append q kept (x ∷ []) ∙ ap (λ o. option_or o (find q (x ∷ []))) same ∙ sym (find-append q front (x ∷ []))

or_some : (o rest : Option ℕ) (x : ℕ) → option_or o (Some x) ≡ option_or (option_or o (Some x)) rest
or_some None rest x = refl
or_some (Some y) rest x = refl

-- one more that passes: what comes behind it doesn't count
pub find-whole : (q : ℕ → Bool) (kept front rest : List ℕ) (x : ℕ) → find q kept ≡ find q front → q x ≡ true → find q (kept ++ x ∷ []) ≡ find q ((front ++ x ∷ []) ++ rest)
find-whole q kept front rest x same e =
    let one : find q (front ++ x ∷ []) ≡ option_or (find q front) (Some x) = find-append q front (x ∷ []) ∙ ap (option_or (find q front)) (one_true q x e) in
    find-in q kept front x same ∙ one ∙ or_some (find q front) (find q rest) x ∙ sym (find-append q (front ++ x ∷ []) rest ∙ ap (λ o. option_or o (find q rest)) one)

-- the first of a list, if it passes
pub find-lead : (q : ℕ → Bool) (places : List ℕ) → 0 < length places → q (slice_index places 0) ≡ true → find q places ≡ Some (slice_index places 0)
find-lead q [] h e = absurd (omega (arith, h))
find-lead q (x ∷ places) h e = ap (λ t. cond t (Some x) (find q places)) e

-- what is found among the places before i
pub record AreBefore {A : Type 0} (p : A → Bool) (items : List A) (some : List ℕ) (i : ℕ) : Type 0 where
  pub yes : position_or_len p items < i → first_of p items some ≡ Some (position_or_len p items)
  pub no : i ≤ position_or_len p items → first_of p items some ≡ None

is_false : (b : Bool) → (b ≡ true → ⊥) → b ≡ false
is_false true h = absurd (h refl)
is_false false h = refl

pub before-none : {A : Type 0} (p : A → Bool) (items : List A) → AreBefore p items [] 0
before-none p items = record { yes = λ h. absurd (omega (arith, h)); no = λ h. refl }

pub before-more : {A : Type 0} (p : A → Bool) (items : List A) (some : List ℕ) (i : ℕ) → AreBefore p items some i → AreBefore p items (some ++ i ∷ []) (i + 1)
before-more p items some i h =
    let q : ℕ → Bool = has_at p items in
    let r = position_or_len p items in
    record {
      yes = λ less. elim (cases_lt r i) [
        | inl early ↦ find-append q some (i ∷ []) ∙ ap (λ o. option_or o (find q (i ∷ []))) (h.yes early)
        | inr late ↦ let same : i ≡ r = omega (arith, less, late) in
            find-append q some (i ∷ []) ∙ ap (λ o. option_or o (find q (i ∷ []))) (h.no late) ∙ one_true q i (subst (λ k. q k ≡ true) (sym same) (first-passes p items)) ∙ ap (λ k. Some k) same
      ];
      no = λ more. find-append q some (i ∷ []) ∙ ap (λ o. option_or o (find q (i ∷ []))) (h.no (omega (arith, more)))
          ∙ one_false q i (is_false (q i) (none-before p items i (omega (arith, more))));
    }

-- a loop over places: one more was left out, one more was kept, one more was kept that passes, and the last was met
next-taken : (places : List ℕ) (i : ℕ) → i < length places → take (i + 1) places ≡ take i places ++ slice_index places i ∷ []
next-taken places i h = let s : i + 1 ≡ suc i = omega arith in ap (λ n. take n places) s ∙ take-suc places i 0 h

pub keep-out : (q : ℕ → Bool) (kept places : List ℕ) (i : ℕ) → i < length places → find q kept ≡ find q (take i places) → q (slice_index places i) ≡ false → find q kept ≡ find q (take (i + 1) places)
keep-out q kept places i h same e = find-out q kept (take i places) (slice_index places i) same e ∙ ap (find q) (sym (next-taken places i h))

pub keep-in : (q : ℕ → Bool) (kept places new : List ℕ) (i : ℕ) → i < length places → new ≡ kept ++ slice_index places i ∷ [] → find q kept ≡ find q (take i places) → find q new ≡ find q (take (i + 1) places)
keep-in q kept places new i h e same = ap (find q) e ∙ find-in q kept (take i places) (slice_index places i) same ∙ ap (find q) (sym (next-taken places i h))

pub keep-whole : (q : ℕ → Bool) (kept places new : List ℕ) (i : ℕ) → i < length places → new ≡ kept ++ slice_index places i ∷ [] → find q kept ≡ find q (take i places) → q (slice_index places i) ≡ true → find q new ≡ find q places
keep-whole q kept places new i h e same t =
    ap (find q) e ∙ find-whole q kept (take i places) (drop (i + 1) places) (slice_index places i) same t
    ∙ ap (find q) (ap (λ ps. ps ++ drop (i + 1) places) (sym (next-taken places i h)) ∙ take-append-drop (i + 1) places)

pub keep-all : (q : ℕ → Bool) (kept places : List ℕ) (i : ℕ) → length places ≤ i → find q kept ≡ find q (take i places) → find q kept ≡ find q places
keep-all q kept places i h same = same ∙ ap (find q) (take_all i places h)

-- and the open one behind the last
pub all-before : {A : Type 0} (p : A → Bool) (items : List A) (some more : List ℕ) (i : ℕ) → AreBefore p items some i → i ≡ length items → more ≡ some ++ length items ∷ [] →
    first_of p items more ≡ Some (position_or_len p items)
all-before p items some more i h e f =
    let g : AreBefore p items some (length items) = subst (AreBefore p items some) e h in
    ap (λ ps. first_of p items ps) f ∙ (before-more p items some (length items) g).yes (omega (arith, up_to_length p items))

pub before-pushed : {A : Type 0} (p : A → Bool) (items : List A) (some new : List ℕ) (i : ℕ) → new ≡ some ++ i ∷ [] → AreBefore p items some i → AreBefore p items new (i + 1)
before-pushed p items some new i e h = subst (λ (ps : List ℕ). AreBefore p items ps (i + 1)) (sym e) (before-more p items some i h)

-- places that all decide alike, and one behind them that passes
found_step : (d : ℕ → ℕ) (x n : ℕ) (b : Bool) (rest : Option ℕ) → d x ≡ n → option_map d rest ≡ Some n → option_map d (cond b (Some x) rest) ≡ Some n
found_step d x n true rest e h = ap (λ m. Some m) e
found_step d x n false rest e h = h

found-alike : (d : ℕ → ℕ) (q : ℕ → Bool) (places : List ℕ) (place : ℕ) → ((k : ℕ) → k < length places → d (slice_index places k) ≡ d place) → q place ≡ true →
    option_map d (find q (places ++ place ∷ [])) ≡ Some (d place)
found-alike d q [] place alike t = ap (option_map d) (one_true q place t)
found-alike d q (x ∷ places) place alike t =
    found_step d x (d place) (q x) (find q (places ++ place ∷ [])) (alike 0 (omega arith)) (found-alike d q places place (λ k h. alike (suc k) (omega (arith, h))) t)

same_step : (d : ℕ → ℕ) (x : ℕ) (b : Bool) (one other : Option ℕ) → DecideSame d one other → DecideSame d (cond b (Some x) one) (cond b (Some x) other)
same_step d x true one other h = refl
same_step d x false one other h = h

-- those right before one that passes may be left out where they decide as it does
last-alike : (d : ℕ → ℕ) (q : ℕ → Bool) (kept : List ℕ) (n place : ℕ) → ((k : ℕ) → n ≤ k → k < length kept → d (slice_index kept k) ≡ d place) → q place ≡ true →
    DecideSame d (find q (take n kept ++ place ∷ [])) (find q (kept ++ place ∷ []))
last-alike d q kept zero place alike t = ap (option_map d) (one_true q place t) ∙ sym (found-alike d q kept place (λ k h. alike k (omega arith) h) t)
last-alike d q [] (suc n) place alike t = refl
last-alike d q (x ∷ kept) (suc n) place alike t =
    same_step d x (q x) (find q (take n kept ++ place ∷ [])) (find q (kept ++ place ∷ [])) (last-alike d q kept n place (λ k h less. alike (suc k) (omega (arith, h)) (omega (arith, less))) t)

pub pushed-alike : (d : ℕ → ℕ) (q : ℕ → Bool) (kept cut new : List ℕ) (n place : ℕ) → cut ≡ take n kept → new ≡ cut ++ place ∷ [] →
    ((k : ℕ) → n ≤ k → k < length kept → d (slice_index kept k) ≡ d place) → q place ≡ true → DecideSame d (find q new) (find q (kept ++ place ∷ []))
pushed-alike d q kept cut new n place e f alike t = ap (λ xs. option_map d (find q xs)) (f ∙ ap (λ xs. xs ++ place ∷ []) e) ∙ last-alike d q kept n place alike t

same_some : (m n : ℕ) → (let o : Option ℕ = Some m in o ≡ Some n) → m ≡ n
same_some m n e = cc

-- where one of the kept places leads, the first item decides as it does
pub led : {A : Type 0} (has : List ℕ → A → Bool) (d : A → ℕ) (items : List A) (places kept : List ℕ) (w : Word) (place : ℕ) →
    KeepDecided has d items places w → KeepAlike has d items kept places w → Leads has items kept w place → DecidesAs has d items w place
led has d items places kept w place decided alike leads header at =
    same_some (decided_at d items (position_or_len (has header) items)) (decided_at d items place)
    (sym (decided header at) ∙ sym (alike header at) ∙ ap (option_map (decided_at d items)) (leads header at))

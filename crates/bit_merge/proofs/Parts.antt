-- A table merged run by run.
use Rattle.std.proofs.Common.{◌≡◌, ◌≢◌, ◌∷◌, ◌++◌, ℕ, ◌+◌, ◌-◌, ◌<◌, ◌≤◌, List, [], length, map, take, drop, get_or, ap, refl, sym, subst, ◌∙◌, arith, Some, None, inl, inr, zero, suc, slice_index_or}
use Rattle.std.proofs.Math.Seq.{take-add}
use Rattle.std.proofs.lemmas.Bool.{cases_lt}
use Rattle.std.proofs.lemmas.List.{length-append, length-map, length-take-le, length-drop, map-append, take-map, drop-map, get_or-take, get_or-drop}
use Rattle.field_boxes.specs.Names.{AreDistinct, name_at}
use Rattle.ternary_words.specs.Limits.{AreNumbered}
use Rattle.ternary_words.specs.Headline.Table as seen
use Rattle.ternary_words.specs.Views.{entry_of}
use Rattle.ternary_words.specs.declared.entry.Entry.{Entry}
use Rattle.bit_merge.specs.Merge.{IsMerged}
use Rattle.bit_merge.specs.Slots.{Slots, entries_of, numbered_entries, LeadTo, AreDone}
use Rattle.bit_merge.specs.Runs.{decision_at, AllHave, IsRunEnd, IsMergedRun}
use Rattle.bit_merge.proofs.RunByRun.{AreApart, both-merged}
use Rattle.bit_merge.proofs.SlotSteps.{done-merged}
use Rattle.bit_merge.proofs.Merged.{is_fewer}

-- the words of a run, as they are merged
seen_run : (names : List (List ℕ)) (decision : ℕ) (run : List Entry) → AllHave decision run →
    map (entry_of names) run ≡ entries_of (name_at names decision) (map (λ (e : Entry). Some e.word) run)
seen_run names decision [] all = refl
seen_run names decision (e ∷ run) all =
    let here = all 0 (omega arith) in
    let rest = seen_run names decision run (λ k less. all (suc k) (omega (arith, less))) in cc

seen_out : (names : List (List ℕ)) (decision : ℕ) (slots : Slots) → map (entry_of names) (numbered_entries decision slots) ≡ entries_of (name_at names decision) slots
seen_out names decision [] = refl
seen_out names decision (None ∷ slots) = seen_out names decision slots
seen_out names decision (Some w ∷ slots) = cc (seen_out names decision slots)

numbered_one : (decision : ℕ) (slots : Slots) → AllHave decision (numbered_entries decision slots)
numbered_one decision [] k h = absurd (omega (arith, h))
numbered_one decision (None ∷ slots) k h = numbered_one decision slots k h
numbered_one decision (Some w ∷ slots) zero h = refl
numbered_one decision (Some w ∷ slots) (suc k) h = numbered_one decision slots k (omega (arith, h))

pub run-merged : (decision : ℕ) (run : List Entry) (first last : Slots) (out : List Entry) → AllHave decision run → first ≡ map (λ (e : Entry). Some e.word) run →
    LeadTo first last → AreDone last (length last) → out ≡ numbered_entries decision last → IsMergedRun decision run out
run-merged decision run first last out all e leads done f = record {
  merged = λ names.
      let d = name_at names decision in
      let a : map (entry_of names) run ≡ entries_of d first = seen_run names decision run all ∙ ap (entries_of d) (sym e) in
      let b : map (entry_of names) out ≡ entries_of d last = ap (map (entry_of names)) f ∙ seen_out names decision last in
      subst (λ l. IsMerged l (map (entry_of names) out)) (sym a) (subst (IsMerged (entries_of d first)) (sym b) (leads d (entries_of d last) (done-merged d last (length last) (omega arith) done)));
  one = subst (AllHave decision) (sym f) (numbered_one decision last);
}

-- the entry before the place and that at the place decide different things, where both are there
abbrev pub IsBoundary : List Entry → ℕ → Type 0
IsBoundary entries place = (k : ℕ) → suc k ≡ place → place < length entries → decision_at entries k ≢ decision_at entries place

-- of the entries before the start these are the merged ones, and a run begins there
pub record ArePartly (entries : List Entry) (start : ℕ) (out : List Entry) : Type 0 where
  pub within : start ≤ length entries
  pub boundary : IsBoundary entries start
  pub merged : (names : List (List ℕ)) → AreDistinct names → AreNumbered (length names) entries → IsMerged (map (entry_of names) (take start entries)) (map (entry_of names) out)
  pub numbered : (count : ℕ) → AreNumbered count entries → AreNumbered count out
  pub fewer : length out ≤ start

-- decisions by place
pub decision-is : (entries : List Entry) (k : ℕ) (d : Entry) → k < length entries → decision_at entries k ≡ (slice_index_or entries k d).decision
decision-is [] k d h = absurd (omega (arith, h))
decision-is (x ∷ entries) zero d h = refl
decision-is (x ∷ entries) (suc k) d h = decision-is entries k d (omega (arith, h))

-- the decisions as a list
decision_map : (entries : List Entry) (k : ℕ) → decision_at entries k ≡ get_or (map (λ (e : Entry). e.decision) entries) k 0
decision_map [] k = refl
decision_map (e ∷ entries) zero = refl
decision_map (e ∷ entries) (suc k) = decision_map entries k

decision_part : (entries : List Entry) (n m k : ℕ) → k < m → decision_at (take m (drop n entries)) k ≡ decision_at entries (n + k)
decision_part entries n m k less =
    let f = λ (e : Entry). e.decision in
    decision_map (take m (drop n entries)) k ∙ ap (λ l. get_or l k 0) (sym (take-map f m (drop n entries)) ∙ ap (take m) (sym (drop-map f n entries)))
    ∙ get_or-take m (drop n (map f entries)) k 0 less ∙ get_or-drop n (map f entries) k 0 ∙ sym (decision_map entries (n + k))

pub run-has : (entries : List Entry) (start decision end : ℕ) → IsRunEnd entries start decision end → AllHave decision (take (end - start) (drop start entries))
run-has entries start decision end h k less =
    let l : length (take (end - start) (drop start entries)) ≡ end - start = length-take-le (end - start) (drop start entries) (omega (arith, length-drop start entries, h.within)) in
    decision_part entries start (end - start) k (omega (arith, less, l)) ∙ h.one (start + k) (omega arith) (omega (arith, less, l, h.more))

-- of numbered entries all but the first are numbered
fewer_numbered : (count : ℕ) (x : Entry) (entries : List Entry) → AreNumbered count (x ∷ entries) → AreNumbered count entries
fewer_numbered count x entries numbered k d less = numbered (suc k) d (omega (arith, less))

-- where a run begins, what stands before it decides otherwise
apart_here : (names : List (List ℕ)) (x : Entry) (entries : List Entry) (m : ℕ) → AreDistinct names → AreNumbered (length names) (x ∷ entries) → IsBoundary (x ∷ entries) 1 →
    AreApart (entry_of names x ∷ []) (map (entry_of names) (take m entries))
apart_here names x [] zero distinct numbered b = tt
apart_here names x [] (suc m) distinct numbered b = tt
apart_here names x (y ∷ entries) zero distinct numbered b = tt
apart_here names x (y ∷ entries) (suc m) distinct numbered b =
    λ e. b 0 refl (omega arith) (distinct x.decision y.decision (numbered 0 x (omega arith)) (numbered 1 x (omega arith)) e)

apart_more : (x y : seen.Entry) (xs ys : List seen.Entry) → AreApart (y ∷ xs) ys → AreApart (x ∷ y ∷ xs) ys
apart_more x y xs [] h = tt
apart_more x y xs (z ∷ ys) h = h

apart_at : (names : List (List ℕ)) (entries : List Entry) (start m : ℕ) → AreDistinct names → AreNumbered (length names) entries → IsBoundary entries start →
    AreApart (map (entry_of names) (take start entries)) (map (entry_of names) (take m (drop start entries)))
apart_at names [] zero m distinct numbered b = tt
apart_at names [] (suc start) m distinct numbered b = tt
apart_at names (x ∷ entries) zero m distinct numbered b = tt
apart_at names (x ∷ entries) (suc zero) m distinct numbered b = apart_here names x entries m distinct numbered b
apart_at names (x ∷ []) (suc (suc start)) m distinct numbered b = apart_here names x [] m distinct numbered (λ k e less. absurd (omega (arith, less)))
apart_at names (x ∷ y ∷ entries) (suc (suc start)) m distinct numbered b =
    apart_more (entry_of names x) (entry_of names y) (map (entry_of names) (take start entries)) (map (entry_of names) (take m (drop start entries)))
    (apart_at names (y ∷ entries) (suc start) m distinct (fewer_numbered (length names) x (y ∷ entries) numbered) (λ k e less. b (suc k) (ap suc e) (omega (arith, less))))

numbered_run : (entries run : List Entry) (decision count : ℕ) → AllHave decision run → decision ≤ count → AreNumbered count run
numbered_run entries run decision count all small k d less = let e = decision-is run k d less in let f = all k less in omega (arith, e, f, small)

numbered_both : (count : ℕ) (xs ys : List Entry) → AreNumbered count xs → AreNumbered count ys → AreNumbered count (xs ++ ys)
numbered_both count [] ys h g k d less = g k d less
numbered_both count (x ∷ xs) ys h g zero d less = h 0 d (omega arith)
numbered_both count (x ∷ xs) ys h g (suc k) d less = numbered_both count xs ys (fewer_numbered count x xs h) g k d (omega (arith, less))

few_count : (count : ℕ) (entries : List Entry) (k : ℕ) → AreNumbered count entries → k < length entries → decision_at entries k ≤ count
few_count count [] k numbered h = absurd (omega (arith, h))
few_count count (x ∷ entries) zero numbered h = numbered 0 x (omega arith)
few_count count (x ∷ entries) (suc k) numbered h = few_count count entries k (fewer_numbered count x entries numbered) (omega (arith, h))

pub partly-next : (entries : List Entry) (start decision end : ℕ) (out more : List Entry) → ArePartly entries start out → IsRunEnd entries start decision end →
    IsMergedRun decision (take (end - start) (drop start entries)) more → ArePartly entries end (out ++ more)
partly-next entries start decision end out more h r m =
    let run = take (end - start) (drop start entries) in
    let whole : take end entries ≡ take start entries ++ run = ap (λ n. take n entries) (let e : end ≡ start + (end - start) = omega (arith, r.more) in e) ∙ take-add start (end - start) entries in
    let long : length run ≡ end - start = length-take-le (end - start) (drop start entries) (omega (arith, length-drop start entries, r.within)) in
    record {
      within = r.within;
      boundary = λ k e less same. r.unlike less (sym same ∙ r.one k (omega (arith, e, r.more)) (omega (arith, e)));
      merged = λ names distinct numbered.
          let view = entry_of names in
          let a = h.merged names distinct numbered in
          let b = m.merged names in
          let both = both-merged a.0 b.0 (map view (take start entries)) (map view run) (map view out) (map view more)
          (apart_at names entries start (end - start) distinct numbered h.boundary) a.1 b.1 in
          let all : IsMerged (map view (take start entries) ++ map view run) (map view out ++ map view more) = (a.0 + b.0, both) in
          subst (λ l. IsMerged (map view l) (map view (out ++ more))) (sym whole)
          (subst (λ l. IsMerged l (map view (out ++ more))) (sym (map-append view (take start entries) run))
          (subst (IsMerged (map view (take start entries) ++ map view run)) (sym (map-append view out more)) all));
      numbered = λ count numbered. numbered_both count out more (h.numbered count numbered)
          (numbered_run entries more decision count m.one (let e = r.one start (omega arith) r.more in let f = few_count count entries start numbered (omega (arith, r.more, r.within)) in omega (arith, e, f)));
      fewer =
          let none : List (List ℕ) = [] in
          let x = length-map run (entry_of none) in
          let y = length-map more (entry_of none) in
          let z = length-append out more in
          omega (arith, is_fewer (map (entry_of none) run) (map (entry_of none) more) (m.merged none), x, y, z, long, h.fewer, r.more);
    }

-- the next entry of the run
pub one-more : (entries : List Entry) (start decision end : ℕ) → ((k : ℕ) → start ≤ k → k < end → decision_at entries k ≡ decision) → decision_at entries end ≡ decision →
    (k : ℕ) → start ≤ k → k < end + 1 → decision_at entries k ≡ decision
one-more entries start decision end one here k le less =
    elim (cases_lt k end) [
      | inl m ↦ one k le m
      | inr m ↦ let e : k ≡ end = omega (arith, less, m) in ap (decision_at entries) e ∙ here
    ]

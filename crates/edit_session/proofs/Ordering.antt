-- The numbers of an order stand for rules.
use Rattle.std.proofs.Common.{◌≡◌, ◌∷◌, ◌++◌, ℕ, ◌+◌, ◌<◌, List, [], Option, Some, None, Result, Ok, Err, true, true≢false, ap, arith, refl, sym, subst, ◌∙◌, length}
use Rattle.std.specs.Global.{Vec}
use Rattle.std.specs.Prelude.{All, IfOk, IfSome, OnErr, is_none, slice_index_or}
use Rattle.std.specs.Result.{result_ok}
use Rattle.std.specs.List.{AllByRecursion, insert, range_with_len, remove}
use Rattle.std.proofs.Math.ListN.{get_or-append}
use Rattle.std.proofs.Math.Seq.{get_or-append_seam}
use Rattle.std.proofs.lemmas.List.{length-append, map-id}
use Rattle.std.proofs.lemmas.List.Elements.{All-from_get_or, All-weaker, recursion_from_All}
use Rattle.std.proofs.lemmas.List.FromFn.{fill_by_all, get_or-range_with_len, length-range_with_len, map-range_with_len_more}
use Rattle.field_boxes.specs.declared.rule.Rule.{Rule}
use Rattle.edit_session.specs.Ordered.{AreWithin, gathered, in_order, no_rule}
use Rattle.edit_session.proofs.Edits.{All-insert, All-remove, map-insert, map-remove}

-- where a rule more is kept, the places are those of rules
pub still-within : (kept : List Rule) (r : Rule) (places : List ℕ) → AreWithin kept places → AreWithin (kept ++ r ∷ []) places
still-within kept r places within =
    All-weaker (λ place. place < length kept) (λ place. place < length (kept ++ r ∷ [])) (λ place low. simp length-append (omega (arith, low))) places within

same_by : (kept : List Rule) (r : Rule) (places : List ℕ) → AllByRecursion (λ place. place < length kept) places → gathered (kept ++ r ∷ []) places ≡ gathered kept places
same_by kept r [] within = refl
same_by kept r (place ∷ places) within =
    ap (λ x. x ∷ gathered (kept ++ r ∷ []) places) (get_or-append kept (r ∷ []) no_rule place within.0)
    ∙ ap (λ rs. slice_index_or kept place no_rule ∷ rs) (same_by kept r places within.1)

-- and the same rules stand there
pub still-gathered : (kept : List Rule) (r : Rule) (places : List ℕ) → AreWithin kept places → gathered (kept ++ r ∷ []) places ≡ gathered kept places
still-gathered kept r places within = same_by kept r places (recursion_from_All (λ place. place < length kept) places within)

-- to insert the number of a rule that is kept behind the others is to insert the rule
pub number-inserted : (kept : List Rule) (r : Rule) (places : List ℕ) (index : ℕ) → AreWithin kept places →
    gathered (kept ++ r ∷ []) (insert places index (length kept)) ≡ insert (gathered kept places) index r
number-inserted kept r places index within =
    map-insert (λ place. slice_index_or (kept ++ r ∷ []) place no_rule) places index (length kept)
    ∙ ap (λ (rs : List Rule). insert rs index (slice_index_or (kept ++ r ∷ []) (length kept) no_rule)) (still-gathered kept r places within)
    ∙ ap (λ (x : Rule). insert (gathered kept places) index x) (get_or-append_seam kept r [] no_rule)

pub inserted-within : (kept : List Rule) (r : Rule) (places : List ℕ) (index : ℕ) → AreWithin kept places → AreWithin (kept ++ r ∷ []) (insert places index (length kept))
inserted-within kept r places index within =
    All-insert (λ place. place < length (kept ++ r ∷ [])) places index (length kept) (still-within kept r places within) (simp length-append (omega arith))

-- to remove a number is to remove the rule
pub number-removed : (kept : List Rule) (places : List ℕ) (index : ℕ) → gathered kept (remove places index) ≡ remove (gathered kept places) index
number-removed kept places index = map-remove (λ place. slice_index_or kept place no_rule) places index

-- all numbers in turn stand for the rules as they are kept
pub numbered-gathered : (kept : List Rule) → gathered kept (range_with_len 0 (length kept)) ≡ kept
numbered-gathered kept = sym (fill_by_all (λ place. slice_index_or kept place no_rule) kept (length kept) no_rule refl (λ k low. refl))

pub numbered-within : (kept : List Rule) → AreWithin kept (range_with_len 0 (length kept))
numbered-within kept =
    All-from_get_or (λ place. place < length kept) (range_with_len 0 (length kept)) 0
    (λ i low.
    let inside : i < length kept = subst (λ n. i < n) (length-range_with_len 0 (length kept)) low in
    let behind : 0 + i < length kept = omega (arith, inside) in
    subst (λ place. place < length kept) (sym (get_or-range_with_len 0 (length kept) i 0 inside)) behind)

pub range-more : (n : ℕ) → range_with_len 0 (n + 1) ≡ range_with_len 0 n ++ n ∷ []
range-more n =
    sym (map-id (range_with_len 0 (n + 1))) ∙ map-range_with_len_more (λ k. k) 0 n n (omega arith) ∙ ap (λ ks. ks ++ n ∷ []) (map-id (range_with_len 0 n))

none_by : {X : Type 0} (o : Option X) → is_none o ≡ true → o ≡ None
none_by None h = refl
none_by (Some x) h = absurd (true≢false (sym h))

-- the rules of a list that has no numbers are those that are kept
pub unnumbered : (kept : List Rule) (places : Option (Vec ℕ)) → is_none places ≡ true → in_order kept places ≡ kept
unnumbered kept places none = ap (in_order kept) (none_by places none)

-- numbers for all of them were made, or refused
pub made-within : {E : Type 0} (kept : List Rule) (count : ℕ) (r : Result (Vec ℕ) E) (places : Option (Vec ℕ)) → places ≡ result_ok r → IfOk r (λ numbers. numbers.items ≡ range_with_len 0 count) → count ≡ length kept →
    IfSome places (λ v. AreWithin kept v.items)
made-within kept count (Ok numbers) places is all long =
    subst (λ (o : Option (Vec ℕ)). IfSome o (λ v. AreWithin kept v.items)) (sym is) (subst (AreWithin kept) (sym (all ∙ ap (range_with_len 0) long)) (numbered-within kept))
made-within kept count (Err e) places is all long = subst (λ (o : Option (Vec ℕ)). IfSome o (λ v. AreWithin kept v.items)) (sym is) tt

pub made-in-order : {E : Type 0} (kept : List Rule) (count : ℕ) (r : Result (Vec ℕ) E) (places : Option (Vec ℕ)) → places ≡ result_ok r → IfOk r (λ numbers. numbers.items ≡ range_with_len 0 count) → count ≡ length kept →
    in_order kept places ≡ kept
made-in-order kept count (Ok numbers) places is all long = ap (in_order kept) is ∙ ap (gathered kept) (all ∙ ap (range_with_len 0) long) ∙ numbered-gathered kept
made-in-order kept count (Err e) places is all long = ap (in_order kept) is

-- a rule more is kept, and its number isn't in the order
pub is-kept : (kept new : List Rule) (r : Rule) (places now : List ℕ) → new ≡ kept ++ r ∷ [] → now ≡ places → AreWithin kept places → AreWithin new now × (gathered new now ≡ gathered kept places)
is-kept kept new r places now items same within = (
  subst (λ rs. AreWithin rs now) (sym items) (subst (AreWithin (kept ++ r ∷ [])) (sym same) (still-within kept r places within)),
  ap (λ rs. gathered rs now) items ∙ ap (gathered (kept ++ r ∷ [])) same ∙ still-gathered kept r places within,
)

-- and then it is
pub is-put-in : (kept new : List Rule) (r : Rule) (places now : List ℕ) (index number : ℕ) → new ≡ kept ++ r ∷ [] → now ≡ insert places index number → number ≡ length kept → AreWithin kept places →
    AreWithin new now × (gathered new now ≡ insert (gathered kept places) index r)
is-put-in kept new r places now index number items put counted within =
    let same = put ∙ ap (insert places index) counted in (
      subst (λ rs. AreWithin rs now) (sym items) (subst (AreWithin (kept ++ r ∷ [])) (sym same) (inserted-within kept r places index within)),
      ap (λ rs. gathered rs now) items ∙ ap (gathered (kept ++ r ∷ [])) same ∙ number-inserted kept r places index within,
    )

pub on-err : {X E P : Type 0} (r : Result X E) → P → OnErr r P
on-err (Ok x) p = tt
on-err (Err e) p = p

-- what holds of all rules holds of all that were gathered
pub all-gathered : {E : Type 0} (P : Rule → Type 0) (rules : List Rule) (r : Result (Vec Rule) E) → IfOk r (λ v. v.items ≡ rules) → All P rules → IfOk r (λ v. All P v.items)
all-gathered P rules (Ok v) items all = subst (All P) (sym items) all
all-gathered P rules (Err e) items all = tt

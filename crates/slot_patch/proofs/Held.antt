-- What slots hold, told by the slots of the entries.
use Rattle.std.proofs.Common.{◌≡◌, ◌≤◌, ◌<◌, ◌+◌, ◌-◌, ◌∷◌, nat_eq, true, Bool, ℕ, zero, suc, List, [], Option, Some, None, length, take, slice_get, if◌then◌else◌, refl, ap, sym, ◌∙◌, subst, arith, length-append}
use Rattle.std.specs.Option.{option_to_list}
use Rattle.std.proofs.lemmas.Bool.{eq-eqb, ne_eqb}
use Rattle.std.proofs.lemmas.Option.{none-some, slice_get-get_or}
use Rattle.ternary_words.specs.declared.entry.Entry.{Entry}
use Rattle.bank_update.specs.Standing.{entries_in}
use Rattle.slot_patch.specs.Held.{StandIn, held_by, is_slot}
use Rattle.slot_patch.specs.InPlace.{at}
use Rattle.slot_patch.specs.Ordered.{places}
use Rattle.std.proofs.Math.Seq.{take-length}
use Rattle.slot_patch.proofs.Merges.{standing-more}
use Rattle.slot_patch.proofs.Outlines.{length-places}

abbrev Slots : Type 0
Slots = List (Option Entry)

-- how many entries stand before a slot
abbrev pub count_before : ℕ → Slots → ℕ
count_before k held = length (entries_in (take k held))

-- no slot is before the first
not-before : (j : ℕ) (held : Slots) (n p : ℕ) → slice_get (places j held) n ≡ Some p → j ≤ p
not-before j [] n p h = absurd (none-some p h)
not-before j (None ∷ held) n p h = let rest = not-before (suc j) held n p h in omega (arith, rest)
not-before j (Some e ∷ held) zero p h = let e : j ≡ p = cc in omega (arith, e)
not-before j (Some e ∷ held) (suc n) p h = let rest = not-before (suc j) held n p h in omega (arith, rest)

-- the slots of the entries that stand before one are before it
is-before : (j : ℕ) (held : Slots) (k n p : ℕ) → n < count_before k held → slice_get (places j held) n ≡ Some p → p < j + k
is-before j [] k n p small h = absurd (none-some p h)
is-before j (x ∷ held) zero n p small h = absurd (omega (arith, small))
is-before j (None ∷ held) (suc k) n p small h = let rest = is-before (suc j) held k n p small h in omega (arith, rest)
is-before j (Some e ∷ held) (suc k) zero p small h = let e : j ≡ p = cc in omega (arith, e)
is-before j (Some e ∷ held) (suc k) (suc n) p small h = let rest = is-before (suc j) held k n p (omega (arith, small)) h in omega (arith, rest)

other-case : (entries : List Entry) (o : Option ℕ) (n slot : ℕ) → ((p : ℕ) → o ≡ Some p → p ≡ slot → ⊥) → (if is_slot o slot then slice_get entries n else None) ≡ None
other-case entries None n slot other = refl
other-case entries (Some p) n slot other = ap (λ (t : Bool). let o : Option Entry = if t then slice_get entries n else None in o) (ne_eqb p slot (other p refl))

-- none stands in a slot that is none of theirs
other-slot : (slots : List ℕ) (entries : List Entry) (n slot : ℕ) → ((p : ℕ) → slice_get slots n ≡ Some p → p ≡ slot → ⊥) → held_by slots entries n slot ≡ None
other-slot slots entries n slot other = other-case entries (slice_get slots n) n slot other

-- the slot is found by how many entries stand before it
found-from : (j : ℕ) (held : Slots) (k : ℕ) (x : Option Entry) → slice_get held k ≡ Some x → held_by (places j held) (entries_in held) (count_before k held) (j + k) ≡ x
found-from j [] k x h = absurd (none-some x h)
found-from j (None ∷ held) zero x h =
    other-slot (places (suc j) held) (entries_in held) 0 (j + 0) (λ p at same. let less = not-before (suc j) held 0 p at in omega (arith, less, same)) ∙ (let e : None ≡ x = cc in e)
found-from j (Some e ∷ held) zero x h =
    ap (λ (t : Bool). let o : Option Entry = if t then Some e else None in o) (eq-eqb j (j + 0) (let e : j ≡ j + 0 = omega arith in e)) ∙ (let e : Some e ≡ x = cc in e)
found-from j (None ∷ held) (suc k) x h =
    subst (λ n. held_by (places (suc j) held) (entries_in held) (count_before k held) n ≡ x) (let e : suc j + k ≡ j + suc k = omega arith in e) (found-from (suc j) held k x h)
found-from j (Some e ∷ held) (suc k) x h =
    subst (λ n. held_by (places (suc j) held) (entries_in held) (count_before k held) n ≡ x) (let e : suc j + k ≡ j + suc k = omega arith in e) (found-from (suc j) held k x h)

pub found : (held : Slots) (k : ℕ) (x : Option Entry) → slice_get held k ≡ Some x → held_by (places 0 held) (entries_in held) (count_before k held) k ≡ x
found held k x h = subst (λ n. held_by (places 0 held) (entries_in held) (count_before k held) n ≡ x) (let e : 0 + k ≡ k = omega arith in e) (found-from 0 held k x h)

pub count-more : (held : Slots) (k : ℕ) (x : Option Entry) → slice_get held k ≡ Some x → count_before (suc k) held ≡ count_before k held + length (option_to_list x)
count-more held k x h = ap (λ (es : List Entry). length es) (standing-more held k x h).1 ∙ length-append (entries_in (take k held)) (option_to_list x)

-- and by how many stand before the next one, less one
back_case : (held : Slots) (k m : ℕ) (x : Option Entry) → slice_get held k ≡ Some x → m ≡ count_before k held + length (option_to_list x) → held_by (places 0 held) (entries_in held) (m - 1) k ≡ x
back_case held k m (Some e) h is =
    subst (λ n. held_by (places 0 held) (entries_in held) n k ≡ Some e) (let e : count_before k held ≡ m - 1 = omega (arith, is) in e) (found held k (Some e) h)
back_case held k zero None h is =
    subst (λ n. held_by (places 0 held) (entries_in held) n k ≡ None) (let e : count_before k held ≡ 0 - 1 = omega (arith, is) in e) (found held k None h)
back_case held k (suc n) None h is =
    other-slot (places 0 held) (entries_in held) (suc n - 1) k
    (λ p at same. let less = is-before 0 held k (suc n - 1) p (omega (arith, is)) at in omega (arith, less, same))

pub found-back : (held : Slots) (k : ℕ) (x : Option Entry) → slice_get held k ≡ Some x → held_by (places 0 held) (entries_in held) (count_before (suc k) held - 1) k ≡ x
found-back held k x h = back_case held k (count_before (suc k) held) x h (count-more held k x h)

-- the same of a slot as the code has it

stands : (held : Slots) (slots : List ℕ) (entries : List Entry) (n m k : ℕ) (x : Option Entry) → StandIn held slots entries → n ≡ m → held_by (places 0 held) (entries_in held) m k ≡ x → held_by slots entries n k ≡ x
stands held slots entries n m k x stand is h =
    ap (λ (i : ℕ). held_by slots entries i k) is ∙ ap (λ (ns : List ℕ). held_by ns entries m k) (sym stand.0) ∙ ap (λ (es : List Entry). held_by (places 0 held) es m k) (sym stand.1) ∙ h

pub found-in : (held : Slots) (slots : List ℕ) (entries : List Entry) (k n : ℕ) → k < length held → StandIn held slots entries → n ≡ count_before k held → held_by slots entries n k ≡ at held k
found-in held slots entries k n small stand is = stands held slots entries n (count_before k held) k (at held k) stand is (found held k (at held k) (slice_get-get_or held k None small))

pub found-in-back : (held : Slots) (slots : List ℕ) (entries : List Entry) (k n : ℕ) → k < length held → StandIn held slots entries → n ≡ count_before (suc k) held → held_by slots entries (n - 1) k ≡ at held k
found-in-back held slots entries k n small stand is =
    stands held slots entries (n - 1) (count_before (suc k) held - 1) k (at held k) stand (ap (λ m. m - 1) is) (found-back held k (at held k) (slice_get-get_or held k None small))

pub count-next : (held : Slots) (k n : ℕ) (x : Option Entry) → k < length held → n ≡ count_before k held → x ≡ at held k → n + length (option_to_list x) ≡ count_before (suc k) held
count-next held k n x small is same =
    ap (λ m. m + length (option_to_list x)) is ∙ ap (λ (y : Option Entry). count_before k held + length (option_to_list y)) same ∙ sym (count-more held k (at held k) (slice_get-get_or held k None small))

pub count-last : (held : Slots) (k n : ℕ) (x : Option Entry) (one : ℕ) → k < length held → n ≡ count_before (suc k) held → x ≡ at held k → one ≡ length (option_to_list x) → n - one ≡ count_before k held
count-last held k n x one small is same count =
    let more = count-more held k (at held k) (slice_get-get_or held k None small) in
    let long = ap (λ (y : Option Entry). length (option_to_list y)) same in
    omega (arith, more, is, count, long)

pub all-before : (held : Slots) (slots : List ℕ) (entries : List Entry) (k : ℕ) → StandIn held slots entries → k ≡ length held → length slots ≡ count_before k held
all-before held slots entries k stand is =
    ap length (sym stand.0) ∙ length-places 0 held ∙ ap (λ (s : Slots). length (entries_in s)) (sym (take-length held) ∙ ap (λ (m : ℕ). take m held) (sym is))

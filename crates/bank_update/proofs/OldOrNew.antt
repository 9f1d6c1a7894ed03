-- What a lookup in the slots of a state answers.
use Rattle.std.proofs.Common.{◌≡◌, ◌⊎◌, ◌∷◌, ℕ, suc, ◌≤◌, Bool, true, false, cond, List, [], Option, Some, None, option_map, length, refl, ap, sym, ◌∙◌, arith, subst, inl, inr, true≢false}
use Rattle.std.specs.Prelude.{option_and_then, find, IfSome}
use Rattle.std.proofs.lemmas.Slice.Eq.{bytes_eq-Decides}
use Rattle.field_boxes.specs.Names.{name_at}
use Rattle.ternary_words.specs.Headline.Table as words
use Rattle.ternary_words.specs.Limits.{AreNumbered}
use Rattle.ternary_words.specs.Views.{entry_of}
use Rattle.ternary_words.specs.declared.entry.Entry.{Entry}
use Rattle.tcam_sim.specs.Slots.{Stored, look_up, stored}
use Rattle.bank_update.specs.Banks.{least_match, matches}
use Rattle.bank_update.specs.Machine.{State, Update, held, held_with, looked, names_with, old_or_new, same_answer}
use Rattle.bank_update.specs.Plans.{answer_after}
use Rattle.bank_update.specs.Sound.{IsSound, IsUnderway}
use Rattle.bank_update.specs.Standing.{Standing, answer, bank_of, entries_in, table_in}
use Rattle.bank_update.proofs.LookUps.{answer_step, decided, looked-up, name_of}

-- the name of what was found, in the table whose entry stands in the slot
abbrev pub naming : State → Option Update → ℕ × ℕ → Option (List ℕ)
naming s pending found = name_at (names_with s pending found.0) found.1

pub then_map : {X Y Z : Type 0} (f : X → Y) (g : Y → Option Z) (o : Option X) → option_and_then g (option_map f o) ≡ option_and_then (λ x. g (f x)) o
then_map f g None = refl
then_map f g (Some x) = refl

named_from : (names : List (List ℕ)) (values : List ℕ) (slots : List (Option Entry)) (from : ℕ) →
    option_and_then (λ (r : ℕ × Stored). name_of names r.1) (least_match (matches values) (bank_of slots) from) ≡ words.answer (table_in names slots) values
named_from names values [] from = refl
named_from names values (None ∷ slots) from = named_from names values slots (suc from)
named_from names values (Some e ∷ slots) from =
    answer_step (λ (r : ℕ × Stored). name_of names r.1) (λ (x : words.Entry). x.decision) (matches values (stored e)) (from, stored e) (entry_of names e)
    (least_match (matches values) (bank_of slots) (suc from)) (find (words.entry_matches values) (table_in names slots)) refl (named_from names values slots (suc from))

-- a table's slots answer, by name, as the table
pub table-answer : (table : Standing) (values : List ℕ) → option_and_then (λ (f : ℕ × ℕ). name_at table.names f.1) (look_up (bank_of table.slots) values) ≡ answer table values
table-answer table values =
    ap (option_and_then (λ (f : ℕ × ℕ). name_at table.names f.1)) (looked-up (bank_of table.slots) values)
    ∙ then_map decided (λ (f : ℕ × ℕ). name_at table.names f.1) (least_match (matches values) (bank_of table.slots) 0)
    ∙ named_from table.names values table.slots 0

-- an answer that is one of two, by whether it is the first of them

same_true : (a b : Option (List ℕ)) → same_answer a b ≡ true → a ≡ b
same_true None None h = refl
same_true None (Some b) h = absurd (true≢false (sym h))
same_true (Some a) None h = absurd (true≢false (sym h))
same_true (Some a) (Some b) h = ap (λ (x : List ℕ). Some x) ((bytes_eq-Decides a b).0 h)

same_own : (a : Option (List ℕ)) → same_answer a a ≡ true
same_own None = refl
same_own (Some a) = (bytes_eq-Decides a a).1 refl

chosen_case : (t : Bool) (x new old : Option (List ℕ)) → same_answer x new ≡ t → (x ≡ old) ⊎ (x ≡ new) → x ≡ cond t new old
chosen_case true x new old is h = same_true x new is
chosen_case false x new old is (inl h) = h
chosen_case false x new old is (inr h) = absurd (true≢false (sym (ap (λ y. same_answer y new) h ∙ same_own new) ∙ is))

pub chosen : (x new old : Option (List ℕ)) → (x ≡ old) ⊎ (x ≡ new) → x ≡ cond (same_answer x new) new old
chosen x new old h = chosen_case (same_answer x new) x new old refl h

-- what is looked up while this is pending
abbrev pub looked_with : State → Option Update → List ℕ → Option (List ℕ)
looked_with s pending values = option_and_then (naming s pending) (look_up (held_with s pending) values)

answer_case : (s : State) (pending : Option Update) (values : List ℕ) → s.pending ≡ pending → IfSome pending (IsUnderway s) → looked s values ≡ old_or_new s pending values
answer_case s None values is u = ap (λ p. looked_with s p values) is ∙ table-answer s.settled values
answer_case s (Some u) values is way =
    let e : looked s values ≡ answer_after s.settled u.plan u.done values = ap (λ p. looked_with s p values) is in
    chosen (looked s values) (answer u.plan.new values) (answer s.settled values)
    (subst (λ (x : Option (List ℕ)). (x ≡ answer s.settled values) ⊎ (x ≡ answer u.plan.new values)) (sym e) (way.plan.good.old_or_new u.done values (omega (arith, way.left))))

pub looked-answer : (s : State) (values : List ℕ) → IsSound s → looked s values ≡ old_or_new s s.pending values
looked-answer s values sound = answer_case s s.pending values refl sound.update

-- a found decision is the number of a name

found_step : (t : Bool) (names : List (List ℕ)) (e : Entry) (from : ℕ) (r : ℕ × Stored) (o : Option (ℕ × Stored)) → e.decision ≤ length names →
    (o ≡ Some r → r.1.decision ≤ length names) → cond t (Some (from, stored e)) o ≡ Some r → r.1.decision ≤ length names
found_step true names e from r o here there h = subst (λ (v : ℕ × Stored). v.1.decision ≤ length names) (let s : (from, stored e) ≡ r = cc in s) here
found_step false names e from r o here there h = there h

found_in : (names : List (List ℕ)) (values : List ℕ) (slots : List (Option Entry)) (from : ℕ) (r : ℕ × Stored) → AreNumbered (length names) (entries_in slots) →
    least_match (matches values) (bank_of slots) from ≡ Some r → r.1.decision ≤ length names
found_in names values [] from r all h = absurd (cc)
found_in names values (None ∷ slots) from r all h = found_in names values slots (suc from) r all h
found_in names values (Some e ∷ slots) from r all h =
    found_step (matches values (stored e)) names e from r (least_match (matches values) (bank_of slots) (suc from)) (all 0 e (omega arith))
    (λ k. found_in names values slots (suc from) r (λ j d small. all (suc j) d (omega (arith, small))) k) h

pub found_of : {X Y : Type 0} (f : X → Y) (o : Option X) (y : Y) → option_map f o ≡ Some y → (x : X) × (o ≡ Some x) × (f x ≡ y)
found_of f None y h = absurd (cc)
found_of f (Some x) y h = (x, refl, cc)

pub settled_found : (table : Standing) (values : List ℕ) (slot decision : ℕ) → AreNumbered (length table.names) (entries_in table.slots) →
    look_up (bank_of table.slots) values ≡ Some (slot, decision) → decision ≤ length table.names
settled_found table values slot decision all h =
    let f = found_of decided (least_match (matches values) (bank_of table.slots) 0) (slot, decision) (sym (looked-up (bank_of table.slots) values) ∙ h) in
    subst (λ (v : ℕ × ℕ). v.1 ≤ length table.names) f.2 (found_in table.names values table.slots 0 f.0 all f.1)

named_case : (s : State) (pending : Option Update) (values : List ℕ) (slot decision : ℕ) → AreNumbered (length s.settled.names) (entries_in s.settled.slots) →
    IfSome pending (IsUnderway s) → look_up (held_with s pending) values ≡ Some (slot, decision) → decision ≤ length (names_with s pending slot)
named_case s None values slot decision all u h = settled_found s.settled values slot decision all h
named_case s (Some u) values slot decision all way h = way.plan.finds u.done values slot decision (omega (arith, way.left)) h

pub found-named : (s : State) (values : List ℕ) (slot decision : ℕ) → IsSound s → look_up (held s) values ≡ Some (slot, decision) →
    decision ≤ length (names_with s s.pending slot)
found-named s values slot decision sound h = named_case s s.pending values slot decision sound.numbered sound.update h

-- Searches that are done in parts.
use Rattle.std.proofs.Common.{◌≡◌, ℕ, ◌+◌, ◌≤◌, Bool, false, List, Option, Some, None, length, sym, ◌∙◌, ap, arith, inl, inr, subst, cond, lt-ltb, le-ltb}
use Rattle.std.specs.Prelude.{position, slice_index_or, nat_lt, IfSome, IfNone}
use Rattle.std.specs.List.{position_or_len}
use Rattle.std.proofs.lemmas.Bool.{cases_eq, cases_lt}
use Rattle.std.proofs.lemmas.List.Sums.{position_or_len_is}
use Rattle.tcam_sim.specs.Slots.{Stored, slot_agrees}
use Rattle.tcam_sim.specs.Search.{IsFirst, NoneAgree}

-- one slot more that doesn't agree
pub none_more : (slots : List (Option Stored)) (key : List Bool) (from to : ℕ) → NoneAgree slots key from to → slot_agrees key (slice_index_or slots to None) ≡ false → NoneAgree slots key from (to + 1)
none_more slots key from to before last k behind below = elim (cases_eq k to) [
  | inl same ↦ ap (λ i. slot_agrees key (slice_index_or slots i None)) same ∙ last
  | inr apart ↦ before k behind (omega (arith, below, apart))
]

-- the first of all slots is where their search ends
pub first_is_position : (slots : List (Option Stored)) (key : List Bool) (k : ℕ) → IsFirst slots key 0 (length slots) k → position (slot_agrees key) slots ≡ Some k
first_is_position slots key k first =
    let at : position_or_len (slot_agrees key) slots ≡ k =
    position_or_len_is (slot_agrees key) slots k None (omega (arith, first.below)) (λ j h. first.before j (omega arith) h) (λ h. first.agrees) in
    ap (λ n. cond (nat_lt n (length slots)) (Some n) None) at ∙ ap (λ b. cond b (Some k) None) (lt-ltb k (length slots) first.below)

pub none_is_position : (slots : List (Option Stored)) (key : List Bool) → NoneAgree slots key 0 (length slots) → position (slot_agrees key) slots ≡ None
none_is_position slots key none =
    let at : position_or_len (slot_agrees key) slots ≡ length slots =
    position_or_len_is (slot_agrees key) slots (length slots) None (omega arith) (λ j h. none j (omega arith) h) (λ h. absurd (omega (arith, h))) in
    ap (λ n. cond (nat_lt n (length slots)) (Some n) None) at ∙ ap (λ b. cond b (Some (length slots)) None) (le-ltb (length slots) (length slots) (omega arith))

-- what a search of all slots found is their first that agrees
pub searched : (slots : List (Option Stored)) (key : List Bool) (n : ℕ) (found : Option ℕ) → n ≡ length slots → IfSome found (IsFirst slots key 0 n) → IfNone found (NoneAgree slots key 0 n) → found ≡ position (slot_agrees key) slots
searched slots key n (Some k) e first none = let P : ℕ → Type 0 = λ m. IsFirst slots key 0 m k in sym (first_is_position slots key k (subst P e first))
searched slots key n None e first none = let P : ℕ → Type 0 = λ m. NoneAgree slots key 0 m in sym (none_is_position slots key (subst P e none))

-- the first of some slots is the first of more
pub first_within : (slots : List (Option Stored)) (key : List Bool) (from m n k : ℕ) → m ≤ n → IsFirst slots key from m k → IsFirst slots key from n k
first_within slots key from m n k le first = record { behind = first.behind; below = omega (arith, first.below, le); agrees = first.agrees; before = first.before }

-- none of two parts
none_of_both : (slots : List (Option Stored)) (key : List Bool) (m n : ℕ) → NoneAgree slots key 0 m → NoneAgree slots key m n → NoneAgree slots key 0 n
none_of_both slots key m n front back k behind below = elim (cases_lt k m) [
  | inl lt ↦ front k behind lt
  | inr le ↦ back k le below
]

-- what a search found of the slots that are left after one that found none
pub searched_in_two : (slots : List (Option Stored)) (key : List Bool) (m n : ℕ) (found : Option ℕ) → n ≡ length slots → NoneAgree slots key 0 m → IfSome found (IsFirst slots key m n) → IfNone found (NoneAgree slots key m n) → found ≡ position (slot_agrees key) slots
searched_in_two slots key m n (Some k) e front first none =
    searched slots key n (Some k) e (record { behind = omega arith; below = first.below; agrees = first.agrees; before = none_of_both slots key m k front first.before }) tt
searched_in_two slots key m n None e front first none = searched slots key n None e tt (none_of_both slots key m n front none)

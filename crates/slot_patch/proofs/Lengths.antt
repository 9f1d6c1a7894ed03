-- How many writes a plan has at most.
use Rattle.std.proofs.Common.{◌≡◌, ◌⊎◌, ◌≤◌, ◌<◌, ◌+◌, ◌-◌, ◌*◌, ◌∷◌, ◌++◌, ℕ, zero, suc, Bool, if◌then◌else◌, List, [], Option, Some, None, length, slice_get, slice_index, refl, ap, sym, ◌∙◌, arith, length-append, lt-ltb, le-ltb}
use Rattle.ternary_words.specs.declared.entry.Entry.{Entry}
use Rattle.slot_patch.specs.InPlace.{differing, in_place, is_same}
use Rattle.slot_patch.specs.Layouts.{IsLayout}
use Rattle.bank_update.specs.Standing.{entries_in}
use Rattle.slot_patch.specs.Moving.{move}
use Rattle.slot_patch.specs.Ordered.{down_move, downs, moves_of, up_move, ups}
use Rattle.bank_update.specs.declared.write.Write.{Write}
use Rattle.slot_patch.proofs.Fewest.{differing-from, one, one-most}
use Rattle.slot_patch.proofs.Places.{count-all-back, count-writes}

abbrev Slots : Type 0
Slots = List (Option Entry)

-- moves

one_entry : (i j : ℕ) (e : Option Entry) → length (up_move i j e) + length (down_move i j e) ≤ 2
one_entry i j None = omega arith
one_entry i j (Some e) = grind arith

-- the moves down of the first entries
abbrev downed : List ℕ → List ℕ → List Entry → ℕ → ℕ
downed from to entries zero = 0
downed from to entries (suc k) = downed from to entries k + length (down_move (slice_index from k) (slice_index to k) (slice_get entries k))

count_both : (from to : List ℕ) (entries : List Entry) (k : ℕ) → length (ups from to entries k) + downed from to entries k ≤ 2 * k
count_both from to entries zero = omega arith
count_both from to entries (suc k) =
    let long = length-append (ups from to entries k) (up_move (slice_index from k) (slice_index to k) (slice_get entries k)) in
    omega (arith, long, one_entry (slice_index from k) (slice_index to k) (slice_get entries k), count_both from to entries k)

pub two-a-move : (from to : List ℕ) (entries : List Entry) → length (moves_of from to entries) ≤ 2 * length entries
two-a-move from to entries =
    let n = length entries in
    let long = length-append (ups from to entries n) (downs from to entries n n) in
    let piece = λ (k : ℕ). down_move (slice_index from k) (slice_index to k) (slice_get entries k) in
    let down : length (downs from to entries n n) ≡ downed from to entries n =
    count-all-back (downs from to entries n) piece (downed from to entries) n refl (λ k. refl) refl (λ k. refl) in
    let both = count_both from to entries n in
    omega (arith, long, down, both)

-- writes in place

one_slot : (a b : Option Entry) (xs ys : Slots) (n : ℕ) → n ≤ length (entries_in xs) + length (entries_in ys) → one (is_same a b) + n ≤ length (entries_in (a ∷ xs)) + length (entries_in (b ∷ ys))
one_slot None None xs ys n h = omega (arith, h)
one_slot None (Some b) xs ys n h = omega (arith, h)
one_slot (Some a) None xs ys n h = omega (arith, h)
one_slot (Some a) (Some b) xs ys n h = let most = one-most (is_same (Some a) (Some b)) in omega (arith, h, most)

count_in : (start next : Slots) → length start ≡ length next → differing start next (length start) ≤ length (entries_in start) + length (entries_in next)
count_in [] [] h = omega arith
count_in (a ∷ start) (b ∷ next) h =
    let both = one_slot a b start next (differing start next (length start)) (count_in start next (omega (arith, h))) in
    omega (arith, both, differing-from a b start next (length start))
count_in start next h = absurd (omega (arith, h))

pub few-in-place : (start next : Slots) → length start ≡ length next → length (in_place start next) ≤ length (entries_in start) + length (entries_in next)
few-in-place start next h = omega (arith, count-writes start next, count_in start next h)

pub few-writes : (count : ℕ) (from to : List ℕ) (old new : List Entry) (start next : Slots) → IsLayout count old new start next →
    length (moves_of from to old ++ in_place start next) ≤ 3 * length old + length new
few-writes count from to old new start next l =
    let long = length-append (moves_of from to old) (in_place start next) in
    let place = few-in-place start next (l.start_slots ∙ sym l.next_slots) in
    omega (arith, long, two-a-move from to old, place, ap (λ (es : List Entry). length es) l.old_entries, ap (λ (es : List Entry). length es) l.new_entries)

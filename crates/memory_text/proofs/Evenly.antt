-- A table that is spread evenly stands in its slots in order.
use Rattle.std.proofs.Common.{◌≡◌, ◌∷◌, ◌++◌, ℕ, suc, ◌+◌, ◌-◌, ◌*◌, ◌/◌, ◌<◌, ◌≤◌, List, [], ap, refl, sym, ◌∙◌, arith, append_assoc, length, length-append, replicate, set, Some, None, Option, zero, append-nil}
use Rattle.std.proofs.Math.Nat.{add-div_right, le-div_iff_mul-le, div-mul-le_self}
use Rattle.std.proofs.lemmas.List.{length-replicate, replicate-append-replicate, set_at}
use Rattle.std.proofs.lemmas.List.Elements.{filter_map-append}
use Rattle.ternary_words.specs.Headline.Table.{Entry, Table}
use Rattle.memory_text.specs.Memory.{after, entries_in}
use Rattle.memory_text.specs.Spreading.{even_slot, even_writes, spread}
use Rattle.memory_text.proofs.Afterwards.{even_within}

-- a greater number has a quotient that isn't less
quotient_le : (a b k : ℕ) → 0 < k → a ≤ b → a / k ≤ b / k
quotient_le a b k some le = (le-div_iff_mul-le some).1 (let h = div-mul-le_self a k in omega (arith, h, le))

-- the slot of the next entry is further on
next_slot : (slots many i : ℕ) → many ≤ slots → 0 < many → even_slot slots many i + 1 ≤ even_slot slots many (suc i)
next_slot slots many i le some =
    let k = 2 * many in
    let ahead : (2 * i + 1) * slots + k ≤ (2 * suc i + 1) * slots = omega (arith, le) in
    let more = quotient_le ((2 * i + 1) * slots + k) ((2 * suc i + 1) * slots) k (omega (arith, some)) ahead in
    omega (arith, more, add-div_right ((2 * i + 1) * slots) (let e : 0 < k = omega (arith, some) in e))

-- no entry stands in free slots
none_free : (n : ℕ) → entries_in (replicate n None) ≡ []
none_free zero = refl
none_free (suc n) = none_free n

entries-append : (xs ys : List (Option Entry)) → entries_in (xs ++ ys) ≡ entries_in xs ++ entries_in ys
entries-append xs ys = filter_map-append (λ (slot : Option Entry). slot) xs ys

-- an entry is put into one of the free slots behind a front
put_behind : (front : List (Option Entry)) (d rest n : ℕ) (x : Option Entry) → n ≡ length front + d → set (front ++ replicate (d + suc rest) None) n x ≡ (front ++ replicate d None ++ x ∷ []) ++ replicate rest None
put_behind front d rest n x at =
    let free : List (Option Entry) = replicate d None in
    let none : Option Entry = None in
    let parted : front ++ replicate (d + suc rest) none ≡ (front ++ free) ++ none ∷ replicate rest none =
    ap (λ xs. front ++ xs) (sym (replicate-append-replicate d (suc rest) none)) ∙ sym (append_assoc front free (none ∷ replicate rest none)) in
    let size : length (front ++ free) ≡ n = omega (arith, length-append front free, length-replicate d none, at) in
    ap (λ xs. set xs n x) parted ∙ set_at (front ++ free) none (replicate rest none) x n size ∙ sym (append_assoc (front ++ free) (x ∷ []) (replicate rest none))

front_entries : (front : List (Option Entry)) (d : ℕ) (e : Entry) → entries_in (front ++ replicate d None ++ Some e ∷ []) ≡ entries_in front ++ e ∷ []
front_entries front d e =
    let free : List (Option Entry) = replicate d None in
    entries-append (front ++ free) (Some e ∷ [])
    ∙ ap (λ xs. xs ++ e ∷ []) (entries-append front free ∙ ap (λ xs. entries_in front ++ xs) (none_free d) ∙ append-nil (entries_in front))

-- the entries from one on, of so many, behind a front of the slots
placed : (slots many i : ℕ) (es : List Entry) (front : List (Option Entry)) (rest : ℕ) → many ≤ slots → i + length es ≡ many → length front + rest ≡ slots → (0 < length es → length front ≤ even_slot slots many i) →
    entries_in (after (front ++ replicate rest None) (even_writes slots many i es)) ≡ entries_in front ++ es
placed slots many i [] front rest le size all behind = entries-append front (replicate rest None) ∙ ap (λ xs. entries_in front ++ xs) (none_free rest)
placed slots many i (e ∷ es) front rest le size all behind =
    let s = even_slot slots many i in
    let from = behind (omega arith) in
    let within : s < slots = even_within slots many i (omega (arith, size)) (omega (arith, size, le)) in
    let d = s - length front in
    let more = rest - d - 1 in
    let parts : rest ≡ d + suc more = omega (arith, from, within, all) in
    let at : s ≡ length front + d = omega (arith, from) in
    let next = front ++ replicate d None ++ Some e ∷ [] in
    let long : length next ≡ s + 1 = omega (arith, length-append (front ++ replicate d None) (Some e ∷ []), length-append front (replicate d None), length-replicate {A = Option Entry} d None, from) in
    ap (λ n. entries_in (after (set (front ++ replicate n None) s (Some e)) (even_writes slots many (suc i) es))) parts
    ∙ ap (λ xs. entries_in (after xs (even_writes slots many (suc i) es))) (put_behind front d more s (Some e) at)
    ∙ placed slots many (suc i) es next more le (omega (arith, size)) (omega (arith, long, parts, all, at))
    (λ some. let further = next_slot slots many i le (omega (arith, size)) in omega (arith, further, long))
    ∙ ap (λ xs. xs ++ es) (front_entries front d e) ∙ append_assoc (entries_in front) (e ∷ []) es

-- a table in as many slots as it has entries, or more
pub spread_stands : (slots : ℕ) (table : Table) → length table.entries ≤ slots → entries_in (spread slots table).slots ≡ table.entries
spread_stands slots table le = placed slots (length table.entries) 0 table.entries [] slots le (omega arith) (omega arith) (λ some. omega arith)

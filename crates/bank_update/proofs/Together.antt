-- Tables whose entries stand side by side, and the room beside them.
use Rattle.std.proofs.Common.{◌≡◌, ◌∷◌, ◌++◌, ℕ, zero, suc, ◌+◌, ◌-◌, ◌==◌, ◌≤◌, ◌<◌, ◌&&◌, Bool, true, false, List, [], Option, Some, None, Result, Ok, Err, inl, inr, length, map, nat_le, nat_lt, replicate, if◌then◌else◌, refl, ap, sym, subst, ◌∙◌, arith, length-append}
use Rattle.std.specs.Prelude.{IfSome}
use Rattle.std.proofs.lemmas.Bool.{eqb-false, eqb-true, leb-false, leb-true, ltb-false, ltb-true}
use Rattle.std.proofs.lemmas.List.{length-map, length-replicate}
use Rattle.ternary_words.specs.declared.entry.Entry.{Entry}
use Rattle.bank_update.specs.Banks.{alone}
use Rattle.bank_update.specs.Kept.{block_of, swap_to}
use Rattle.bank_update.specs.Standing.{Standing, entries_in, first_slot, is_taken}
use Rattle.bank_update.specs.Whole.{IsRoomAt, IsTogether, free_above, free_below, is_below, layout, room_for, start_of}
use Rattle.bank_update.specs.Writes.{IsBeside, Layout, in_block}
use Rattle.bank_update.specs.declared.block.Placed.{Placed}
use Rattle.bank_update.specs.declared.refusal.BeginRefusal.{BeginRefusal}
use Rattle.bank_update.specs.declared.refusal.BeginRefusal.TheVariants.{NoRoom}
use Rattle.bank_update.proofs.Blocks.{alone-empty}
use Rattle.bank_update.proofs.Standings.{entries-alone, taken-in, taken-out}

pub length-alone : (slots from : ℕ) (es : List Entry) → from + length es ≤ slots → length (alone slots from es) ≡ slots
length-alone slots from es h =
    let behind : List (Option Entry) = replicate (slots - from - length es) None in
    let there : List (Option Entry) = map (λ e. Some e) es in
    let before : List (Option Entry) = replicate from None in
    let a = length-append before (there ++ behind) in
    let b = length-append there behind in
    let c = length-replicate {A = Option Entry} from None in
    let d = length-replicate {A = Option Entry} (slots - from - length es) None in
    let e = length-map es (λ (x : Entry). let o : Option Entry = Some x in o) in
    omega (arith, a, b, c, d, e, h)

-- the slot from which on a table stands

first_at : (from : ℕ) (e : Entry) (rest : List (Option Entry)) → first_slot (replicate from None ++ (Some e ∷ rest)) ≡ from
first_at zero e rest = refl
first_at (suc from) e rest = ap suc (first_at from e rest)

abbrev start_by : List Entry → ℕ → ℕ
start_by found first = if length found == 0 then 0 else first

start_case : (t : Bool) (slots from : ℕ) (es : List Entry) → length es == 0 ≡ t → start_by es (first_slot (alone slots from es)) ≡ (if t then 0 else from)
start_case true slots from [] h = refl
start_case false slots from [] h = ap (λ (b : Bool). if b then 0 else from) h
start_case true slots from (e ∷ es) h = absurd (let none = eqb-true (length (e ∷ es)) 0 h in omega (arith, none))
start_case false slots from (e ∷ es) h =
    ap (λ (b : Bool). if b then 0 else first_slot (alone slots from (e ∷ es))) h
    ∙ first_at from e (map (λ x. Some x) es ++ replicate (slots - from - length (e ∷ es)) None)

pub start-alone : (slots from : ℕ) (es : List Entry) → start_of (alone slots from es) ≡ (if length es == 0 then 0 else from)
start-alone slots from es =
    ap (λ (found : List Entry). start_by found (first_slot (alone slots from es))) (entries-alone slots from es) ∙ start_case (length es == 0) slots from es refl

-- a table alone is told by its slots

told_case : (t : Bool) (slots from : ℕ) (e : Entry) (es : List Entry) → length (e ∷ es) == 0 ≡ t → alone slots from (e ∷ es) ≡ alone slots (if t then 0 else from) (e ∷ es)
told_case true slots from e es h = absurd (let none = eqb-true (length (e ∷ es)) 0 h in omega (arith, none))
told_case false slots from e es h = refl

told_by : (slots from : ℕ) (es : List Entry) → from + length es ≤ slots → alone slots from es ≡ alone slots (if length es == 0 then 0 else from) es
told_by slots from [] h = alone-empty slots from (omega (arith, h)) ∙ sym (alone-empty slots 0 (omega arith))
told_by slots from (e ∷ es) h = told_case (length (e ∷ es) == 0) slots from e es refl

pub together-alone : (slots from : ℕ) (es : List Entry) → from + length es ≤ slots → IsTogether (alone slots from es)
together-alone slots from es h =
    told_by slots from es h
    ∙ ap (λ n. alone n (if length es == 0 then 0 else from) es) (sym (length-alone slots from es h))
    ∙ ap (λ n. alone (length (alone slots from es)) n es) (sym (start-alone slots from es))
    ∙ ap (λ found. alone (length (alone slots from es)) (start_of (alone slots from es)) found) (sym (entries-alone slots from es))

-- the entries are inside the memory
abbrev pub Inside : Standing → Type 0
Inside s = start_of s.slots + length (entries_in s.slots) ≤ length s.slots

-- the same of a block as the code keeps it

abbrev pub Fits : ℕ → Option Placed → Type 0
Fits slots placed = IfSome placed (λ p. p.start + length p.table.entries.items ≤ slots)

pub block-long : (slots : ℕ) (placed : Option Placed) → Fits slots placed → length (block_of slots placed).slots ≡ slots
block-long slots None h = length-alone slots 0 [] (omega arith)
block-long slots (Some p) h = length-alone slots p.start p.table.entries.items h

pub block-together : (slots : ℕ) (placed : Option Placed) → Fits slots placed → IsTogether (block_of slots placed).slots
block-together slots None h = together-alone slots 0 [] (omega arith)
block-together slots (Some p) h = together-alone slots p.start p.table.entries.items h

start_in : (t : Bool) (slots from count : ℕ) → from + count ≤ slots → (if t then 0 else from) + count ≤ slots
start_in true slots from count h = omega (arith, h)
start_in false slots from count h = h

alone_inside : (slots from : ℕ) (es : List Entry) → from + length es ≤ slots → start_of (alone slots from es) + length (entries_in (alone slots from es)) ≤ length (alone slots from es)
alone_inside slots from es h =
    let long = length-alone slots from es h in
    let start = start-alone slots from es in
    let many = ap length (entries-alone slots from es) in
    let fits = start_in (length es == 0) slots from (length es) h in
    omega (arith, long, start, many, fits)

pub block-inside : (slots : ℕ) (placed : Option Placed) → Fits slots placed →
    start_of (block_of slots placed).slots + length (entries_in (block_of slots placed).slots) ≤ length (block_of slots placed).slots
block-inside slots None h = alone_inside slots 0 [] (omega arith)
block-inside slots (Some p) h = alone_inside slots p.start p.table.entries.items h

-- room

beside_below : (old : Standing) (start : ℕ) (entries : List Entry) (t : Bool) → (start == start_of old.slots + length (entries_in old.slots)) ≡ t →
    start ≡ start_of old.slots + length (entries_in old.slots) → start + length entries ≤ length old.slots → IsBeside t (layout old start entries)
beside_below old start entries true is at h = (at, h)
beside_below old start entries false is at h = absurd (eqb-false start (start_of old.slots + length (entries_in old.slots)) is at)

beside_above : (old : Standing) (start : ℕ) (entries : List Entry) (t : Bool) → (start == start_of old.slots + length (entries_in old.slots)) ≡ t →
    0 < length entries → start + length entries ≡ start_of old.slots → start_of old.slots + length (entries_in old.slots) ≤ length old.slots → IsBeside t (layout old start entries)
beside_above old start entries true is some at h = absurd (let e = eqb-true start (start_of old.slots + length (entries_in old.slots)) is in omega (arith, e, some, at))
beside_above old start entries false is some at h = (at, h)

abbrev above_by : Standing → ℕ → Bool → Result ℕ BeginRefusal
above_by old wanted t = if t then Ok (start_of old.slots - wanted) else Err (NoRoom (free_above old) (free_below old) wanted)

abbrev room_by : Standing → ℕ → Bool → Bool → Result ℕ BeginRefusal
room_by old wanted below above = if below then Ok (start_of old.slots + length (entries_in old.slots)) else above_by old wanted above

room_case : (old : Standing) (start : ℕ) (entries : List Entry) (below above : Bool) → nat_le (length entries) (free_below old) ≡ below → nat_le (length entries) (free_above old) ≡ above →
    start_of old.slots + length (entries_in old.slots) ≤ length old.slots → room_by old (length entries) below above ≡ Ok start → IsRoomAt old start entries
room_case old start entries true above low high inside h =
    let less = leb-true (length entries) (free_below old) low in
    let at : start_of old.slots + length (entries_in old.slots) ≡ start = cc in
    beside_below old start entries (is_below (layout old start entries)) refl (sym at) (omega (arith, less, at, inside))
room_case old start entries false true low high inside h =
    let more = leb-false (length entries) (free_below old) low in
    let less = leb-true (length entries) (free_above old) high in
    let at : start_of old.slots - length entries ≡ start = cc in
    beside_above old start entries (is_below (layout old start entries)) refl (omega (arith, more)) (omega (arith, less, at)) inside
room_case old start entries false false low high inside h = absurd (cc)

pub room-at : (old : Standing) (start : ℕ) (entries : List Entry) → start_of old.slots + length (entries_in old.slots) ≤ length old.slots →
    room_for old (length entries) ≡ Ok start → IsRoomAt old start entries
room-at old start entries inside h = room_case old start entries (nat_le (length entries) (free_below old)) (nat_le (length entries) (free_above old)) refl refl inside h

fits_by : (b : Bool) (l : Layout Entry) → IsBeside b l → l.b + length l.new ≤ l.slots
fits_by true l h = h.1
fits_by false l h = omega (arith, h.0, h.1)

-- where there is room, the entries fit
pub room-fits : (old : Standing) (start : ℕ) (entries : List Entry) → IsRoomAt old start entries → start + length entries ≤ length old.slots
room-fits old start entries room = fits_by (is_below (layout old start entries)) (layout old start entries) room

-- what the code reads off a block

pub entries-some : (slots : ℕ) (placed : Option Placed) (p : Placed) (now : Standing) → placed ≡ Some p → block_of slots placed ≡ now → p.table.entries.items ≡ entries_in now.slots
entries-some slots placed p now is view =
    sym (entries-alone slots p.start p.table.entries.items) ∙ ap (λ (o : Option Placed). entries_in (block_of slots o).slots) (sym is) ∙ ap (λ (s : Standing). entries_in s.slots) view

pub entries-none : (slots : ℕ) (placed : Option Placed) (now : Standing) → placed ≡ None → block_of slots placed ≡ now → [] ≡ entries_in now.slots
entries-none slots placed now is view =
    sym (entries-alone slots 0 []) ∙ ap (λ (o : Option Placed). entries_in (block_of slots o).slots) (sym is) ∙ ap (λ (s : Standing). entries_in s.slots) view

pub start-some : (slots : ℕ) (placed : Option Placed) (p : Placed) (now : Standing) → placed ≡ Some p → block_of slots placed ≡ now →
    (if length p.table.entries.items == 0 then 0 else p.start) ≡ start_of now.slots
start-some slots placed p now is view =
    sym (start-alone slots p.start p.table.entries.items) ∙ ap (λ (o : Option Placed). start_of (block_of slots o).slots) (sym is) ∙ ap (λ (s : Standing). start_of s.slots) view

pub start-none : (slots : ℕ) (placed : Option Placed) (now : Standing) → placed ≡ None → block_of slots placed ≡ now → 0 ≡ start_of now.slots
start-none slots placed now is view =
    sym (start-alone slots 0 []) ∙ ap (λ (o : Option Placed). start_of (block_of slots o).slots) (sym is) ∙ ap (λ (s : Standing). start_of s.slots) view

pub long-now : (slots : ℕ) (placed : Option Placed) (now : Standing) → Fits slots placed → block_of slots placed ≡ now → slots ≡ length now.slots
long-now slots placed now fits view = sym (block-long slots placed fits) ∙ ap (λ (s : Standing). length s.slots) view

pub inside-now : (slots : ℕ) (placed : Option Placed) (now : Standing) → Fits slots placed → block_of slots placed ≡ now → start_of now.slots + length (entries_in now.slots) ≤ length now.slots
inside-now slots placed now fits view = subst (λ (s : Standing). start_of s.slots + length (entries_in s.slots) ≤ length s.slots) view (block-inside slots placed fits)

pub together-now : (slots : ℕ) (placed : Option Placed) (now : Standing) → Fits slots placed → block_of slots placed ≡ now → IsTogether now.slots
together-now slots placed now fits view = subst (λ (s : Standing). IsTogether s.slots) view (block-together slots placed fits)

pub settled-now : (slots : ℕ) (placed : Option Placed) (p : Placed) (now : Standing) → Fits slots placed → block_of slots placed ≡ now →
    block_of slots (Some p) ≡ (swap_to now p).new
settled-now slots placed p now fits view = ap (λ n. block_of n (Some p)) (long-now slots placed now fits view)

between_case : (t u : Bool) (slots start slot : ℕ) (es : List Entry) → nat_le start slot ≡ t → nat_lt slot (start + length es) ≡ u → (t && u) ≡ is_taken (alone slots start es) slot
between_case true true slots start slot es low high = sym (taken-in slots start slot es (leb-true start slot low) (ltb-true slot (start + length es) high))
between_case true false slots start slot es low high = sym (taken-out slots start slot es (inr (ltb-false slot (start + length es) high)))
between_case false true slots start slot es low high = sym (taken-out slots start slot es (inl (leb-false start slot low)))
between_case false false slots start slot es low high = sym (taken-out slots start slot es (inl (leb-false start slot low)))

-- a slot is taken where it is one of the block's
pub between-is : (slots start slot : ℕ) (es : List Entry) → in_block start (length es) slot ≡ is_taken (alone slots start es) slot
between-is slots start slot es = between_case (nat_le start slot) (nat_lt slot (start + length es)) slots start slot es refl refl

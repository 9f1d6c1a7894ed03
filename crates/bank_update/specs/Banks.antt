-- Banks, and what a lookup in one gives.
use Rattle.std.specs.Prelude.{ℕ, suc, ◌-◌, Bool, false, cond, List, [], ◌∷◌, ◌++◌, map, length, replicate, Option, Some, None}
use Rattle.ternary_words.specs.Headline.Word.{agrees, header_bits}
use Rattle.tcam_sim.specs.Slots.{Stored}

-- the least slot whose entry passes, with the entry; the slots are counted from a number on
abbrev pub least_match : {E : Type 0} → (E → Bool) → List (Option E) → ℕ → Option (ℕ × E)
least_match m [] from = None
least_match m (None ∷ bank) from = least_match m bank (suc from)
least_match m (Some e ∷ bank) from = cond (m e) (Some (from, e)) (least_match m bank (suc from))

-- the first entry of a table that passes, with its slot, where the table's entries stand from a slot on
abbrev pub first_from : {E : Type 0} → (E → Bool) → List E → ℕ → Option (ℕ × E)
first_from m [] from = None
first_from m (e ∷ entries) from = cond (m e) (Some (from, e)) (first_from m entries (suc from))

-- the bank of so many slots that has the entries alone, from a slot on
abbrev pub alone : {E : Type 0} → ℕ → ℕ → List E → List (Option E)
alone slots from entries = replicate from None ++ (map (λ e. Some e) entries ++ replicate (slots - from - length entries) None)

-- whether the slot holds an entry that passes
abbrev pub passes : {E : Type 0} → (E → Bool) → Option E → Bool
passes m None = false
passes m (Some e) = m e

-- whether an entry as a slot holds it matches the header
abbrev pub matches : List ℕ → Stored → Bool
matches values s = agrees s.word (header_bits values)

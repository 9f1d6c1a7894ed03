-- The first slot that hits is on the side of the key's bit.
use Rattle.std.proofs.Common.{◌≡◌, ℕ, ◌<◌, Bool, true, false, cond, List, [], ◌∷◌, Option, Some, ap, refl, ◌∙◌, find}
use Rattle.std.specs.Prelude.{filter}
use Rattle.field_boxes.specs.Headline.Bits.{bits}
use Rattle.ternary_words.specs.declared.entry.Entry.{Entry}
use Rattle.bank_index.specs.Bits.{bit_at, may_hit}
use Rattle.bank_index.specs.Hits.{first_of, hits}
use Rattle.bank_index.proofs.OneBit.{hits_there}

find_step : {X : Type 0} (p : X → Bool) (a b : Bool) (x : X) (kept rest : List X) → p x ≡ a → (a ≡ true → b ≡ true) → find p kept ≡ find p rest →
    find p (cond b (x ∷ kept) kept) ≡ cond a (Some x) (find p rest)
find_step p a true x kept rest e h same = ap (λ t. cond t (Some x) (find p kept)) e ∙ ap (cond a (Some x)) same
find_step p true false x kept rest e h same = let bad : false ≡ true = h refl in cc
find_step p false false x kept rest e h same = same

-- what doesn't hit may be left out
find-filter : {X : Type 0} (p q : X → Bool) (xs : List X) → ((x : X) → p x ≡ true → q x ≡ true) → find p (filter q xs) ≡ find p xs
find-filter p q [] h = refl
find-filter p q (x ∷ xs) h = find_step p (p x) (q x) x (filter q xs) xs refl (h x) (find-filter p q xs h)

pub first_on_side : (entries : List Entry) (slots : List ℕ) (key bit : ℕ) → bit < 104 →
    first_of entries (bits 104 key) (filter (may_hit entries bit (bit_at key bit)) slots) ≡ first_of entries (bits 104 key) slots
first_on_side entries slots key bit within = find-filter (hits entries (bits 104 key)) (may_hit entries bit (bit_at key bit)) slots (λ slot h. hits_there entries key bit slot within h)

-- The tree over the slots of entries, and where its nodes lead a key.
use Rattle.std.specs.Prelude.{◌≡◌, ℕ, zero, suc, ◌<◌, ◌++◌, List, Option, Some, None, slice_get, if◌then◌else◌}
use Rattle.std.specs.Coded.{Coded-set, coded_option, coded_ℕ, ×_prop, Π_prop, Unit-prop, le_prop}
use Rattle.field_boxes.specs.Headline.Bits.{bits}
use Rattle.ternary_words.specs.declared.entry.Entry.{Entry}
use Rattle.bank_index.specs.Bits.{bit_at}
use Rattle.bank_index.specs.Hits.{first_of}
use Rattle.bank_index.specs.declared.node.Node.{Node}
use Rattle.bank_index.specs.declared.node.Node.TheVariants.{Leaf, Split, Whole}

-- the leaf's first slot that hits is this one; an inner node leads the key on
abbrev pub LeadsOn : (ℕ → Type 0) → List Entry → ℕ → Option ℕ → Option Node → Type 0
LeadsOn Next entries key first None = ⊥
LeadsOn Next entries key first (Some (Leaf slots)) = first_of entries (bits 104 key) slots.items ≡ first
LeadsOn Next entries key first (Some (Split bit zeros ones)) = (bit < 104) × Next (if bit_at key bit then ones else zeros)
LeadsOn Next entries key first (Some Whole) = Unit {0}

-- in fewer steps than these from the place on
unfoldable pub LeadsIn : ℕ → List Node → List Entry → ℕ → Option ℕ → ℕ → Type 0
LeadsIn zero nodes entries key first place = ⊥
LeadsIn (suc steps) nodes entries key first place = LeadsOn (LeadsIn steps nodes entries key first) entries key first (slice_get nodes place)

-- every key finds in the leaf to which it is led the first of these slots that hits
abbrev pub IsTreeOf : ℕ → List Node → List Entry → List ℕ → ℕ → Type 0
IsTreeOf steps nodes entries slots place = (key : ℕ) → LeadsIn steps nodes entries key (first_of entries (bits 104 key) slots) place

-- nodes were added, and at the place there is a tree of the slots
pub record IsGrown (steps : ℕ) (old new : List Node) (entries : List Entry) (slots : List ℕ) (place : ℕ) : Type 0 where
  pub gained : (more : List Node) × (new ≡ old ++ more)
  pub tree : IsTreeOf steps new entries slots place

-- there is one proof at most of where a key is led
LeadsOn-prop : (Next : ℕ → Type 0) (entries : List Entry) (key : ℕ) (first : Option ℕ) (node : Option Node) → ((place : ℕ) → IsProp (Next place)) → IsProp (LeadsOn Next entries key first node)
LeadsOn-prop Next entries key first None next = λ x y. absurd x
LeadsOn-prop Next entries key first (Some (Leaf slots)) next = Coded-set (coded_option coded_ℕ) (first_of entries (bits 104 key) slots.items) first
LeadsOn-prop Next entries key first (Some (Split bit zeros ones)) next = ×_prop le_prop (next (if bit_at key bit then ones else zeros))
LeadsOn-prop Next entries key first (Some Whole) next = Unit-prop

LeadsIn-prop : (steps : ℕ) (nodes : List Node) (entries : List Entry) (key : ℕ) (first : Option ℕ) (place : ℕ) → IsProp (LeadsIn steps nodes entries key first place)
unfolding LeadsIn
LeadsIn-prop zero nodes entries key first place = λ x y. absurd x
LeadsIn-prop (suc steps) nodes entries key first place =
    LeadsOn-prop (LeadsIn steps nodes entries key first) entries key first (slice_get nodes place) (λ next. LeadsIn-prop steps nodes entries key first next)

pub IsTreeOf-prop : (steps : ℕ) (nodes : List Node) (entries : List Entry) (slots : List ℕ) (place : ℕ) → IsProp (IsTreeOf steps nodes entries slots place)
IsTreeOf-prop steps nodes entries slots place = Π_prop (λ key. LeadsIn-prop steps nodes entries key (first_of entries (bits 104 key) slots) place)

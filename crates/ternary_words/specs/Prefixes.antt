-- Words that are a prefix in each field.
use Rattle.std.specs.Prelude.{◌≡◌, ℕ, length, ◌-◌, ◌*◌, ◌^◌, Bool, true, ◌&&◌, List, [], ◌∷◌, ◌++◌, Some, None, map, replicate}
use Rattle.field_boxes.specs.declared.prefix.Prefix.{Prefix}
use Rattle.field_boxes.specs.Headline.Fields.{stated, width}
use Rattle.field_boxes.specs.Headline.Prefix.{FitsWidth, prefix_holds}
use Rattle.field_boxes.specs.Prefix.{prefix_bits}
use Rattle.ternary_words.specs.Headline.Word.{Trit}

-- the bits of a prefix, and '*' below them
abbrev pub prefix_trits : ℕ → Prefix → List Trit
prefix_trits w p = map (λ b. Some b) (prefix_bits w p) ++ replicate (w - p.len) None

-- the number whose bits are 1 at the places that a prefix of so many bits sets
abbrev pub mask_of : ℕ → Prefix → ℕ
mask_of w p = (2 ^ p.len - 1) * 2 ^ (w - p.len)

-- the masks of the prefixes of these fields
abbrev pub masks_of : List ℕ → List Prefix → List ℕ
masks_of [] ps = []
masks_of (f ∷ fs) [] = []
masks_of (f ∷ fs) (p ∷ ps) = mask_of (width f) p ∷ masks_of fs ps

-- the prefixes of these fields, one after another
abbrev pub fields_trits : List ℕ → List Prefix → List Trit
fields_trits [] ps = []
fields_trits (f ∷ fs) [] = []
fields_trits (f ∷ fs) (p ∷ ps) = prefix_trits (width f) p ++ fields_trits fs ps

-- each prefix fits its field
abbrev pub FitFields : List ℕ → List Prefix → Type 0
FitFields [] ps = Unit {0}
FitFields (f ∷ fs) [] = Unit {0}
FitFields (f ∷ fs) (p ∷ ps) = FitsWidth (width f) p × FitFields fs ps

-- whether each prefix holds the value of its field
abbrev pub all_hold : List ℕ → List Prefix → List ℕ → Bool
all_hold [] ps values = true
all_hold (f ∷ fs) [] values = true
all_hold (f ∷ fs) (p ∷ ps) [] = true
all_hold (f ∷ fs) (p ∷ ps) (v ∷ vs) = prefix_holds (width f) p v && all_hold fs ps vs

-- the word is that of these five prefixes, each of which fits its field
pub record IsWordOf (ps : List Prefix) (word : List Trit) : Type 0 where
  pub five : length ps ≡ 5
  pub fit : FitFields stated ps
  pub same : word ≡ fields_trits stated ps

-- a word that is a prefix in each field
abbrev pub IsPrefixInEach : List Trit → Type 0
IsPrefixInEach word = (ps : List Prefix) × IsWordOf ps word

-- a prefix of the field has this mask
abbrev pub HasMask : ℕ → ℕ → Type 0
HasMask w mask = (p : Prefix) × FitsWidth w p × (mask ≡ mask_of w p)

-- the prefix fits the field, and has this value and this mask
pub record IsPart (w value mask : ℕ) (p : Prefix) : Type 0 where
  pub fits : FitsWidth w p
  pub valued : p.value ≡ value
  pub masked : mask ≡ mask_of w p

-- Rule lists, and the first rule that matches, over any list of fields.
-- From the classifier model of the Razor papers (Meiners, Liu, Torng 2007 and 2010).
use Rattle.std.specs.Prelude.{ℕ, Bool, true, ◌&&◌, List, [], ◌∷◌, filter, find, Option, option_map, nat_le, unwrap_or, slice_get}
use Rattle.std.specs.List.{list_any}

-- the values from lo to hi
pub record Interval : Type 0 where
  pub lo : ℕ
  pub hi : ℕ

-- whether the interval has the value
abbrev pub interval_holds : ℕ → Interval → Bool
interval_holds v i = nat_le i.lo v && nat_le v i.hi

-- whether one of the intervals has the value
abbrev pub union_holds : ℕ → List Interval → Bool
union_holds v set = list_any (interval_holds v) set

-- a rule: for each field the intervals whose union is its set of values, and what it decides
pub record Rule (A : Type 0) : Type 0 where
  pub sets : List (List Interval)
  pub decision : A

-- whether the rule's set of the field holds the value
abbrev pub set_holds : {A : Type 0} → ℕ → ℕ → Rule A → Bool
set_holds field v rule = union_holds v (unwrap_or (slice_get rule.sets field) [])

-- whether the rule's sets of these fields hold these values, one for each field
abbrev pub matches : {A : Type 0} → List ℕ → List ℕ → Rule A → Bool
matches [] values rule = true
matches (field ∷ fields) [] rule = true
matches (field ∷ fields) (v ∷ values) rule = set_holds field v rule && matches fields values rule

-- what the first rule that matches decides
abbrev pub source : {A : Type 0} → List ℕ → List ℕ → List (Rule A) → Option A
source fields values rules = option_map (λ rule. rule.decision) (find (matches fields values) rules)

-- the rules whose set of the field holds the value, in order
abbrev pub residue : {A : Type 0} → ℕ → ℕ → List (Rule A) → List (Rule A)
residue field v rules = filter (set_holds field v) rules

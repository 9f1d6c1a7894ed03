-- Right proofs: trees of covers that hold, and their text.
use Rattle.std.specs.Prelude.{◌≡◌, ℕ, ◌+◌, ◌≤◌, true, List, [], ◌∷◌, ◌++◌, Contains, Option, Some, None, codes, length, map, slice_get}
use Rattle.std.specs.List.{AllPairs, flat_map}
use Rattle.std.specs.Fmt.{decimal}
use Rattle.field_boxes.specs.Headline.Fields.{IsHeader}
use Rattle.field_boxes.specs.declared.rule_list.RuleList.{RuleList}
use Rattle.ternary_words.specs.declared.table.Table.{Table}
use Rattle.partition_check.specs.Agreement.{AgreeOn}
use Rattle.agreement_check.specs.declared.pair.Pair.{Pair}
use Rattle.agreement_check.specs.declared.step.Step.{Step}
use Rattle.agreement_check.specs.declared.step.Step.TheVariants.{InRule, InEntry, Missed, Late, Halved}
use Rattle.word_cover.specs.Cubes.{Cube, IsOpen, zero_half, one_half}
use Rattle.agreement_check.specs.Covers.{Sides, Claim, Shows, rules_named, entries_named}
use Rattle.agreement_check.specs.Claims.{Taken, sides_of, entry_claim, rule_claim, pair_claim, IsOpenPair}
use Rattle.agreement_check.specs.Pairs.{comes_before}

-- a cover of a cube: the rule or the entry in which it lies, that it misses the rule that is covered or comes too late, or a bit and covers of its halves
pub data Cover : Type 0 where
  in_rule : ℕ → Cover
  in_entry : ℕ → Cover
  missed : Cover
  late : Cover
  halved : ℕ → Cover → Cover → Cover

-- the cover holds of the cube
abbrev pub Holds : Sides → Claim → Cube → Cover → Type 0
Holds s c cube (in_rule k) = Shows s c cube (InRule k)
Holds s c cube (in_entry k) = Shows s c cube (InEntry k)
Holds s c cube missed = Shows s c cube Missed
Holds s c cube late = Shows s c cube Late
Holds s c cube (halved bit zero one) = IsOpen cube bit × Holds s c (zero_half cube bit) zero × Holds s c (one_half cube bit) one

-- its steps, in the order of the text
abbrev pub steps_in : Cover → List Step
steps_in (in_rule k) = InRule k ∷ []
steps_in (in_entry k) = InEntry k ∷ []
steps_in missed = Missed ∷ []
steps_in late = Late ∷ []
steps_in (halved bit zero one) = Halved bit ∷ (steps_in zero ++ steps_in one)

-- a pair with its cover
pub record Covered : Type 0 where
  pub pair : Pair
  pub cover : Cover

-- the stated header, if the proof is of a difference; a cover for each entry and for each rule, with the open ones; and pairs
pub record Proof : Type 0 where
  pub before : Option (List ℕ)
  pub entries : List Cover
  pub rules : List Cover
  pub pairs : List Covered

abbrev pub pairs_of : Proof → List Pair
pairs_of p = map (λ (c : Covered). c.pair) p.pairs

-- what is taken of it
abbrev pub taken_of : Proof → Taken
taken_of p = record {
  before = p.before;
  entries = map (λ cover. rules_named (steps_in cover)) p.entries;
  rules = map (λ cover. entries_named (steps_in cover)) p.rules;
  pairs = pairs_of p;
}

-- the covers hold, the pairs are in order, and each open pair is among them
pub record IsRight (list : RuleList) (table : Table) (p : Proof) : Type 0 where
  pub stated : (header : List ℕ) → p.before ≡ Some header → IsHeader header × ¬ AgreeOn list table header
  pub each_entry : length p.entries ≡ length table.entries.items + 1
  pub each_rule : length p.rules ≡ length list.rules.items + 1
  pub within : (c : Covered) → Contains p.pairs c → (c.pair.rule ≤ length list.rules.items) × (c.pair.entry ≤ length table.entries.items)
  pub entries : (j : ℕ) (cover : Cover) → slice_get p.entries j ≡ Some cover → (let s = sides_of list table (taken_of p) in Holds s (entry_claim s j) (entry_claim s j).cube cover)
  pub rules : (i : ℕ) (cover : Cover) → slice_get p.rules i ≡ Some cover → (let s = sides_of list table (taken_of p) in Holds s (rule_claim s i) (rule_claim s i).cube cover)
  pub pairs : (c : Covered) → Contains p.pairs c → (let s = sides_of list table (taken_of p) in Holds s (pair_claim s c.pair) (pair_claim s c.pair).cube c.cover)
  pub rising : AllPairs (λ q r. comes_before q r ≡ true) (pairs_of p)
  pub each_open : (q : Pair) → IsOpenPair (sides_of list table (taken_of p)) (taken_of p) q → Contains (pairs_of p) q

-- Its text.

abbrev pub word_text : Step → List ℕ
word_text (InRule k) = 114 ∷ decimal (k + 1)
word_text (InEntry k) = 101 ∷ decimal (k + 1)
word_text Missed = 45 ∷ []
word_text Late = 62 ∷ []
word_text (Halved bit) = decimal bit

-- a space and a word for each step, and the end of the line
abbrev pub cover_text : Cover → List ℕ
cover_text cover = flat_map (λ step. 32 ∷ word_text step) (steps_in cover) ++ 10 ∷ []

abbrev pub numbers_text : List ℕ → List ℕ
numbers_text numbers = flat_map (λ n. 32 ∷ decimal n) numbers

abbrev pub before_text : Option (List ℕ) → List ℕ
before_text None = []
before_text (Some header) = codes " before" ++ numbers_text header

abbrev pub heading_text : ℕ → ℕ → Option (List ℕ) → List ℕ
heading_text rules entries before = codes "proof 1 rules " ++ (decimal rules ++ (codes " entries " ++ (decimal entries ++ (before_text before ++ 10 ∷ []))))

abbrev pub pair_text : Covered → List ℕ
pair_text c = codes "p " ++ (decimal (c.pair.rule + 1) ++ (32 ∷ (decimal (c.pair.entry + 1) ++ cover_text c.cover)))

abbrev pub proof_text : RuleList → Table → Proof → List ℕ
proof_text list table p =
    heading_text (length list.rules.items) (length table.entries.items) p.before
    ++ flat_map (λ cover. 101 ∷ cover_text cover) p.entries
    ++ flat_map (λ cover. 114 ∷ cover_text cover) p.rules
    ++ flat_map pair_text p.pairs
    ++ (codes "pairs " ++ (decimal (length p.pairs) ++ 10 ∷ []))

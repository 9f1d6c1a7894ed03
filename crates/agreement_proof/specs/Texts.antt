-- Lines that are put behind a text.
use Rattle.std.specs.Prelude.{◌≡◌, ℕ, ◌+◌, ◌≤◌, ◌<◌, ◌^◌, true, List, [], ◌∷◌, ◌++◌, Contains, Option, None, codes, bit_and, length, map, slice_get, Some}
use Rattle.std.specs.List.{AllPairs, flat_map}
use Rattle.std.specs.Fmt.{decimal}
use Rattle.agreement_check.specs.declared.pair.Pair.{Pair}
use Rattle.agreement_check.specs.declared.step.Step.{Step}
use Rattle.agreement_check.specs.Claims.{DecideAlike, IsOpenPair, Taken, pair_claim}
use Rattle.agreement_check.specs.Covers.{Sides, Claim, entry_word, rule_word}
use Rattle.word_cover.specs.Cubes.{Meet}
use Rattle.agreement_check.specs.Pairs.{comes_before}
use Rattle.agreement_check.specs.Proofs.{Cover, Covered, Holds, cover_text, pair_text, steps_in, word_text}

-- a space and a word for each step, and the end of the line
abbrev pub steps_text : List Step → List ℕ
steps_text steps = flat_map (λ step. 32 ∷ word_text step) steps ++ 10 ∷ []

abbrev pub pair_line_text : Pair → List Step → List ℕ
pair_line_text p steps = codes "p " ++ (decimal (p.rule + 1) ++ (32 ∷ (decimal (p.entry + 1) ++ steps_text steps)))

-- the line of a cover that holds is put behind a text, and this is how far it reaches
pub record PutsCover (s : Sides) (c : Claim) (kind : ℕ) (named : List Step → ℕ) (before after : List ℕ) (reach : ℕ) : Type 0 where
  pub cover : Cover
  pub holds : Holds s c c.cube cover
  pub text : after ≡ before ++ (kind ∷ cover_text cover)
  pub reach_is : reach ≡ named (steps_in cover)

-- the lines of the first claims, so many
pub record PutsCovers (s : Sides) (claim : ℕ → Claim) (kind : ℕ) (named : List Step → ℕ) (count : ℕ) (before after reaches : List ℕ) : Type 0 where
  pub covers : List Cover
  pub each : length covers ≡ count
  pub hold : (k : ℕ) (cover : Cover) → slice_get covers k ≡ Some cover → Holds s (claim k) (claim k).cube cover
  pub text : after ≡ before ++ flat_map (λ cover. kind ∷ cover_text cover) covers
  pub reaches_are : reaches ≡ map (λ cover. named (steps_in cover)) covers

-- what was taken where the covers reach so far
abbrev pub reaching : List ℕ → List ℕ → Taken
reaching entries rules = record { before = None; entries = entries; rules = rules; pairs = [] }

-- rule and entry decide by other names, and their words meet; that of the rule has no 1 outside of its mask
pub record AreApart (s : Sides) (p : Pair) : Type 0 where
  pub apart : ¬ DecideAlike s p
  pub masked : (let w = rule_word s.list.rules.items p.rule in bit_and w.value w.mask ≡ w.value)
  pub words : Meet (rule_word s.list.rules.items p.rule) (entry_word s.table.entries.items p.entry)

-- the line of a pair with a cover that holds
pub record PutsPair (s : Sides) (p : Pair) (before after : List ℕ) : Type 0 where
  pub cover : Cover
  pub holds : Holds s (pair_claim s p) (pair_claim s p).cube cover
  pub text : after ≡ before ++ pair_text (record { pair = p; cover = cover })

-- the pair is one of a rule and an entry, each with the open one
pub record IsWithin (s : Sides) (p : Pair) : Type 0 where
  pub rule : p.rule ≤ length s.list.rules.items
  pub entry : p.entry ≤ length s.table.entries.items

-- the lines of all open pairs that come before this one, and of some that may come before it, in order
pub record PutsPairs (s : Sides) (t : Taken) (next : Pair) (before after : List ℕ) (count : ℕ) : Type 0 where
  pub pairs : List Covered
  pub each : count ≡ length pairs
  pub few : count < 2 ^ 32
  pub hold : (c : Covered) → Contains pairs c → Holds s (pair_claim s c.pair) (pair_claim s c.pair).cube c.cover
  pub within : (c : Covered) → Contains pairs c → IsWithin s c.pair
  pub rising : AllPairs (λ q r. comes_before q r ≡ true) (map (λ (c : Covered). c.pair) pairs)
  pub earlier : (q : Pair) → Contains (map (λ (c : Covered). c.pair) pairs) q → comes_before q next ≡ true
  pub each_open : (q : Pair) → comes_before q next ≡ true → IsWithin s q → IsOpenPair s t q → Contains (map (λ (c : Covered). c.pair) pairs) q
  pub text : after ≡ before ++ flat_map pair_text pairs

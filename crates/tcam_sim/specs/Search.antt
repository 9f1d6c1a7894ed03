-- What a search through the slots finds.
use Rattle.std.specs.Prelude.{◌≡◌, ℕ, ◌<◌, ◌≤◌, Bool, true, false, List, Option, None, slice_index_or}
use Rattle.tcam_sim.specs.Slots.{Stored, slot_agrees}

-- no slot from one number on and below another agrees with the key
abbrev pub NoneAgree : List (Option Stored) → List Bool → ℕ → ℕ → Type 0
NoneAgree slots key from to = (k : ℕ) → from ≤ k → k < to → slot_agrees key (slice_index_or slots k None) ≡ false

-- the least of these slots that agrees with the key
pub record IsFirst (slots : List (Option Stored)) (key : List Bool) (from to slot : ℕ) : Type 0 where
  pub behind : from ≤ slot
  pub below : slot < to
  pub agrees : slot_agrees key (slice_index_or slots slot None) ≡ true
  pub before : NoneAgree slots key from slot

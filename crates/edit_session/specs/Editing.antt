-- An editing session over a device, and what stands after an edit that was refused.
use Rattle.std.specs.Prelude.{◌≡◌, ◌⊎◌, ℕ, List, Err, IsOk}
use Rattle.edit_session.specs.Lists.{Listed, add_answer, with_name_alone}
use Rattle.bank_update.specs.Machine.{State}
use Rattle.edit_session.specs.Machine.{Copies, SessionState}
use Rattle.edit_session.specs.declared.refusal.PlaceRefusal.{PlaceRefusal}
use Rattle.edit_session.specs.declared.refusal.PlaceRefusal.TheVariants as places

-- a device, the state of its swap, and the lists of its tables
pub record ListedSwap (V : Type 0) : Type 0 where
  pub device : V
  pub state : State
  pub copies : Copies

-- a device, and the session over it
pub record Editing (V : Type 0) : Type 0 where
  pub device : V
  pub session : SessionState

-- why no rule was added, and the list that stands then: after a refusal of memory the name may be there
abbrev pub IsAddRefused : Listed → Listed → ℕ → List ℕ → PlaceRefusal → Type 0
IsAddRefused list new place name (places.NoPlace count) = (add_answer list place ≡ Err (places.NoPlace count)) × (new ≡ list)
IsAddRefused list new place name places.Full = (add_answer list place ≡ Err places.Full) × (new ≡ list)
IsAddRefused list new place name places.Memory = IsOk (add_answer list place) × ((new ≡ list) ⊎ (new ≡ with_name_alone list name))

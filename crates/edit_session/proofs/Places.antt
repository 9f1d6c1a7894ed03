-- The places at which a rule may be added.
use Rattle.std.proofs.Common.{◌≡◌, ℕ, ◌+◌, ◌==◌, ◌≤◌, Bool, true, false, length, Ok, Err, if◌then◌else◌, refl, ap, leb-true}
use Rattle.std.specs.Prelude.{◌&&◌, ◌≢◌, nat_le, is_ok, IsOk}
use Rattle.std.proofs.lemmas.Bool.{eqb-false}
use Rattle.edit_session.specs.Lists.{Listed, add_answer}
use Rattle.edit_session.specs.declared.refusal.PlaceRefusal.TheVariants as places

-- a rule fits at this place of a list of so many rules, which is not full, and then there are so many
pub record Fits (place rules count : ℕ) : Type 0 where
  pub low : 1 ≤ place
  pub high : place ≤ rules + 1
  pub more : count ≡ rules + 1
  pub room : rules ≢ 65536

fits_by : (low high full : Bool) (place rules count : ℕ) → nat_le 1 place ≡ low → nat_le place (rules + 1) ≡ high → rules == 65536 ≡ full →
    (if low && high then (if full then Err places.Full else Ok (rules + 1)) else Err (places.NoPlace rules)) ≡ Ok count → Fits place rules count
fits_by true true false place rules count l h f is = record { low = leb-true 1 place l; high = leb-true place (rules + 1) h; more = cc; room = eqb-false rules 65536 f }
fits_by true true true place rules count l h f is = absurd (cc)
fits_by true false full place rules count l h f is = absurd (cc)
fits_by false high full place rules count l h f is = absurd (cc)

pub fits : (list : Listed) (place count : ℕ) → add_answer list place ≡ Ok count → Fits place (length list.rules) count
fits list place count is =
    let rules = length list.rules in
    fits_by (nat_le 1 place) (nat_le place (rules + 1)) (rules == 65536) place rules count refl refl refl is

-- a place was found
pub placed : (list : Listed) (place count : ℕ) → add_answer list place ≡ Ok count → IsOk (add_answer list place)
placed list place count is = ap is_ok is

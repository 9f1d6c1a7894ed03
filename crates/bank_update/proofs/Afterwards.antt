-- The bank after the first writes of a list, and undoing one of them.
use Rattle.std.proofs.Common.{◌≡◌, ◌∷◌, ℕ, zero, suc, List, [], Option, Some, None, option_map, length, set, slice_get, refl, ap, ◌∙◌}
use Rattle.std.proofs.lemmas.List.{length-set, set-set}
use Rattle.tcam_sim.specs.Slots.{stored}
use Rattle.bank_update.specs.Plans.{SayWhatStood, after, written}
use Rattle.bank_update.specs.Standing.{Bank}
use Rattle.bank_update.specs.declared.write.Write.{Write}

pub set-own : {X : Type 0} (xs : List X) (k : ℕ) (x : X) → slice_get xs k ≡ Some x → set xs k x ≡ xs
set-own [] k x h = refl
set-own (y ∷ xs) zero x h = ap (λ z. z ∷ xs) (let e : x ≡ y = cc in e)
set-own (y ∷ xs) (suc k) x h = ap (λ r. y ∷ r) (set-own xs k x h)

pub does : (old : Bank) (writes : List Write) (d : ℕ) (w : Write) → slice_get writes d ≡ Some w →
    after old writes (suc d) ≡ set (after old writes d) w.slot (option_map stored w.entry)
does old writes d w h = ap (written (after old writes d)) h

pub undoes : (old : Bank) (writes : List Write) (d : ℕ) (w : Write) → SayWhatStood old writes → slice_get writes d ≡ Some w →
    set (after old writes (suc d)) w.slot (option_map stored w.before) ≡ after old writes d
undoes old writes d w stood h =
    ap (λ (bank : Bank). set bank w.slot (option_map stored w.before)) (does old writes d w h)
    ∙ set-set (after old writes d) w.slot (option_map stored w.entry) (option_map stored w.before)
    ∙ set-own (after old writes d) w.slot (option_map stored w.before) (stood d w h)

length_written : (bank : Bank) (w : Option Write) → length (written bank w) ≡ length bank
length_written bank None = refl
length_written bank (Some w) = length-set bank w.slot (option_map stored w.entry)

pub length-after : (old : Bank) (writes : List Write) (d : ℕ) → length (after old writes d) ≡ length old
length-after old writes zero = refl
length-after old writes (suc d) = length_written (after old writes d) (slice_get writes d) ∙ length-after old writes d

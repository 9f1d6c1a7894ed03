-- Slots that are filled one after another.
use Rattle.std.proofs.Common.{◌≡◌, ℕ, suc, ◌-◌, ◌<◌, List, [], ◌∷◌, ◌++◌, Option, Some, None, length, map, replicate, set, ap, sym, ◌∙◌, arith, append_assoc, length-append}
use Rattle.std.proofs.lemmas.List.{set_at, map-append, length-map}
use Rattle.ternary_words.specs.declared.entry.Entry.{Entry}
use Rattle.tcam_sim.specs.Slots.{Stored, stored, filled}

-- one entry more
pub filled-next : (count n : ℕ) (done : List Entry) (e : Entry) → length done ≡ n → n < count → set (filled count done) n (Some (stored e)) ≡ filled count (done ++ e ∷ [])
filled-next count n done e long room =
    let held : Entry → Option Stored = λ x. Some (stored x) in
    let front = map held done in
    let wide : length front ≡ n = length-map done held ∙ long in
    let more = length-append done (e ∷ []) in
    let left : count - length done ≡ suc (count - length (done ++ e ∷ [])) = omega (arith, more, long, room) in
    ap (λ m. set (front ++ replicate m None) n (held e)) left
    ∙ set_at front None (replicate (count - length (done ++ e ∷ [])) None) (held e) n wide
    ∙ sym (ap (λ xs. xs ++ replicate (count - length (done ++ e ∷ [])) None) (map-append held done (e ∷ [])) ∙ append_assoc front (held e ∷ []) (replicate (count - length (done ++ e ∷ [])) None))

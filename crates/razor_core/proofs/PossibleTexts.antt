-- What follows where nothing came under a name.
use Rattle.std.proofs.Common.{◌≡◌, Bool, ℕ, List, ap, subst, length, drop}
use Rattle.razor_base.specs.Texts.{MayHave, left_in}

-- what is left stays
pub kept_left : (text : List ℕ) {old new : List ℕ} → new ≡ old → left_in text new ≡ left_in text old
kept_left text e = ap (λ given. drop (length given) text) e

-- a text that it may have at the last, it might have before
pub still_may : {old new text : List ℕ} {first last : Bool} → (new ≡ old) × (last ≡ first) → MayHave new last text → MayHave old first text
still_may {old = old} {text = text} {last = last} e is = subst (λ (b : Bool). MayHave old b text) e.1 (subst (λ (given : List ℕ). MayHave given last text) e.0 is)

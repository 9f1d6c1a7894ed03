-- Tests and their outcomes.
use Rattle.std.proofs.Common.{◌≡◌, ◌⊎◌, Bool, true, false, ◌||◌, refl, sym, ◌∙◌, inl, inr}
use Rattle.std.specs.Prelude.{IfOk, Result, Ok, Err}
use Rattle.std.specs.Bool.{OnTrue}
use Rattle.std.proofs.lemmas.Bool.{true≢false}

pub neither : (s t : Bool) → s || t ≡ false → (s ≡ false) × (t ≡ false)
neither true t h = absurd (cc h)
neither false t h = (refl, h)

pub none_both : (s t : Bool) → s ≡ false → t ≡ false → s || t ≡ false
none_both false t e h = h
none_both true t e h = absurd (cc e)

pub not_both : (s : Bool) → s ≡ true → s ≡ false → ⊥
not_both s t f = true≢false (sym t ∙ f)

pub unless : (s : Bool) → (s ≡ true → ⊥) → s ≡ false
unless false n = refl
unless true n = absurd (n refl)

pub apart_from : (s t : Bool) → (s ≡ true → t ≡ false) → t ≡ true → s ≡ false
apart_from s t f m = unless s (λ e. not_both t m (f e))

pub by_case : (t : Bool) → (t ≡ true) ⊎ (t ≡ false)
by_case true = inl refl
by_case false = inr refl

pub only_one : (s : Bool) → s || false ≡ true → s ≡ true
only_one true h = refl
only_one false h = h

pub in_either : (s t u : Bool) → (s ≡ true → u ≡ true) → s || t ≡ true → u || t ≡ true
in_either true true true f h = refl
in_either true true false f h = refl
in_either true false true f h = refl
in_either true false false f h = f refl
in_either false t true f h = refl
in_either false t false f h = h

-- a yes that may be wrong only one way says less
pub if_yes : {F : Type 0} (r : Result Bool F) (P Q : Type 0) → (P → Q) → IfOk r (λ yes. OnTrue yes P) → IfOk r (λ yes. OnTrue yes Q)
if_yes (Ok true) P Q f h = f h
if_yes (Ok false) P Q f h = h
if_yes (Err e) P Q f h = h

-- what follows of a result's value
pub if_ok : {T E : Type 0} (r : Result T E) (P Q : T → Type 0) → ((x : T) → P x → Q x) → IfOk r P → IfOk r Q
if_ok (Ok x) P Q f p = f x p
if_ok (Err e) P Q f p = p

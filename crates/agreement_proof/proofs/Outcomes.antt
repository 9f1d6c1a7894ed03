-- What is known of an outcome, carried over.
use Rattle.std.proofs.Common.{Result, Ok, Err, Bool, true, false, refl, ◌≡◌, ◌↔◌, IsTrue, IfOk, OnOk}
use Rattle.std.specs.Bool.{OnTrue, OnFalse}

pub ok-map : {A E : Type 0} (r : Result A E) (P Q : A → Type 0) → ((x : A) → P x → Q x) → IfOk r P → IfOk r Q
ok-map (Ok x) P Q f h = f x h
ok-map (Err e) P Q f h = tt

pub on-ok : {A E : Type 0} (r : Result A E) (P Q : Type 0) → (P → Q) → OnOk r P → OnOk r Q
on-ok (Ok x) P Q f h = f h
on-ok (Err e) P Q f h = tt

pub when-yes : (b : Bool) (P : Type 0) → b ≡ true → OnTrue b P → P
when-yes true P e h = h
when-yes false P e h = absurd (cc e)

pub not-true : (b : Bool) → (b ≡ true → ⊥) → b ≡ false
not-true true f = absurd (f refl)
not-true false f = refl

pub when-no : (b : Bool) (P : Type 0) → b ≡ false → OnFalse b P → P
when-no true P e h = absurd (cc e)
when-no false P e h = h

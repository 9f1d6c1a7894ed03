-- What is known of an outcome, carried over.
use Rattle.std.proofs.Common.{Result, Ok, Err, Bool, true, false, not, refl, ◌≡◌, ◌↔◌, IsTrue, ℕ, ◌≤◌, ◌<◌}
use Rattle.std.proofs.Math.Dec.{leb}
use Rattle.std.proofs.lemmas.Bool.{false≢true, leb-true, leb-false}
use Rattle.std.specs.Prelude.{IfOk, OnOk}
use Rattle.std.specs.Bool.{OnTrue, OnFalse}

pub not_true : (b : Bool) (P Q : Type 0) → (P → Q) → OnFalse b P → OnTrue (not b) Q
not_true true P Q f h = tt
not_true false P Q f h = f h

-- a test that decides, turned
pub decided-not : (b : Bool) (P Q : Type 0) → (IsTrue b ↔ P) → ((P → ⊥) → Q) → OnTrue (not b) Q
decided-not true P Q iff f = tt
decided-not false P Q iff f = f (λ p. false≢true (iff.1 p))

pub unlike : (b : Bool) → (b ≡ true → ⊥) → b ≡ false
unlike true n = absurd (n refl)
unlike false n = refl

pub if_ok : {A E : Type 0} (r : Result A E) (P Q : A → Type 0) → ((x : A) → P x → Q x) → IfOk r P → IfOk r Q
if_ok (Err e) P Q f h = tt
if_ok (Ok x) P Q f h = f x h

pub on_ok : {A E : Type 0} (r : Result A E) (P Q : Type 0) → (P → Q) → OnOk r P → OnOk r Q
on_ok (Err e) P Q f h = tt
on_ok (Ok x) P Q f h = f h

yes_of : (t : Bool) (P : Type 0) → (t ≡ true → P) → OnTrue t P
yes_of true P f = f refl
yes_of false P f = tt

no_of : (t : Bool) (P : Type 0) → (t ≡ false → P) → OnFalse t P
no_of true P f = tt
no_of false P f = f refl

-- two numbers compared
pub yes_le : (a b : ℕ) → OnTrue (leb a b) (a ≤ b)
yes_le a b = yes_of (leb a b) (a ≤ b) (leb-true a b)

pub no_le : (a b : ℕ) → OnFalse (leb a b) (b < a)
no_le a b = no_of (leb a b) (b < a) (leb-false a b)

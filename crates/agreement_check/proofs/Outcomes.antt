-- What is known of an outcome, carried over.
use Rattle.std.proofs.Common.{◌≡◌, ◌≤◌, ◌↔◌, ◌∙◌, ℕ, Bool, true, false, Bor, IsTrue, List, None, Some, Result, Ok, Err, IfOk, ap, length, refl, slice_get, sym}
use Rattle.std.specs.Bool.{OnFalse, OnTrue}
use Rattle.std.specs.Slice.{IsItemAt}
use Rattle.std.proofs.lemmas.Option.{slice_get-get_or}
use Rattle.std.proofs.lemmas.Bool.{false≢true}

pub ok-map : {A E : Type 0} (r : Result A E) (P Q : A → Type 0) → ((x : A) → P x → Q x) → IfOk r P → IfOk r Q
ok-map (Ok x) P Q f h = f x h
ok-map (Err e) P Q f h = tt

pub on-both : (b : Bool) (P Q R : Type 0) → (P → Q → R) → OnTrue b P → OnTrue b Q → OnTrue b R
on-both true P Q R f p q = f p q
on-both false P Q R f p q = tt

-- a test that decides
pub decided-yes : (b : Bool) (P Q : Type 0) → (IsTrue b ↔ P) → (P → Q) → OnTrue b Q
decided-yes true P Q iff f = f (iff.0 refl)
decided-yes false P Q iff f = tt

pub decided-no : (b : Bool) (P Q : Type 0) → (IsTrue b ↔ P) → ((P → ⊥) → Q) → OnFalse b Q
decided-no true P Q iff f = tt
decided-no false P Q iff f = f (λ p. false≢true (iff.1 p))

-- an item that was looked up
pub got-item : {X : Type 0} (xs : List X) (k : ℕ) (x : Bor X) → IsItemAt xs k (Some x) → slice_get xs k ≡ Some x.now
got-item {X} xs k x at = slice_get-get_or xs k x.now at.3.0 ∙ ap (λ (y : X). Some y) (sym (at.3.1 x.now))

pub got-none : {X : Type 0} (xs : List X) (k : ℕ) → IsItemAt xs k None → length xs ≤ k
got-none xs k at = at.3

pub when-false : (b : Bool) (P : Type 0) → b ≡ false → OnFalse b P → P
when-false true P e h = absurd (cc e)
when-false false P e h = h

-- Steps that may be refused for a reason.
use Rattle.std.specs.Prelude.{Result, Ok, Err}

infixl 10 ◌>>=◌
abbrev pub ◌>>=◌ : {A B R : Type 0} → Result A R → (A → Result B R) → Result B R
Ok value >>= f = f value
Err reason >>= f = Err reason

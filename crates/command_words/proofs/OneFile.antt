-- What a command's name, '--' and a file spell, whatever the file is called.
use Rattle.std.proofs.Common.{◌≡◌, ℕ, List, [], ◌∷◌, Some, None, refl}
use Rattle.std.specs.Prelude.{codes}
use Rattle.command_words.specs.Commands.{Arrange, Compile, Make, Shorten, forms}
use Rattle.command_words.specs.Items.{reading_of}
use Rattle.command_words.specs.Orders.{Best}
use Rattle.command_words.specs.Spelling.{command_of}

pub compiles : (file : List ℕ) → command_of (codes "compile" ∷ codes "--" ∷ file ∷ []) ≡ Some (Make Compile (record { limit = 262144; slot = 144 }) file)
unfolding command_of forms reading_of
compiles file = refl

pub arranges : (file : List ℕ) → command_of (codes "arrange" ∷ codes "--" ∷ file ∷ []) ≡ Some (Make (Arrange Best) (record { limit = 262144; slot = 144 }) file)
unfolding command_of forms reading_of
arranges file = refl

pub shortens : (file : List ℕ) → command_of (codes "shorten" ∷ codes "--" ∷ file ∷ []) ≡ Some (Make (Shorten None) (record { limit = 262144; slot = 144 }) file)
unfolding command_of forms reading_of
shortens file = refl

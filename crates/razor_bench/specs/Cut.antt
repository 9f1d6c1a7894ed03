-- Pieces that are cut from a field one after the other.
use Rattle.std.specs.Prelude.{◌≡◌, ℕ, ◌*◌, ◌≤◌, List, length}
use Rattle.prefix_min.specs.declared.piece.Piece.{Piece}
use Rattle.prefix_min.specs.Pieces.{Follow, reach, weight_from}

-- the pieces are the values below end, and no value's label weighs more than 7
pub record IsCut (weights : List ℕ) (end : ℕ) (pieces : List Piece) : Type 0 where
  pub follow : Follow (length weights) 0 pieces
  pub whole : reach 0 pieces ≡ end
  pub light : weight_from weights 0 pieces ≤ 7 * end

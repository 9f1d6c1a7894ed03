-- Halving finds a shortest cover.
use Rattle.std.proofs.Common.{◌≡◌, ℕ, ◌+◌, ◌-◌, ◌≤◌, Bool, ap, subst, arith}
use Rattle.std.specs.List.{list_any}
use Rattle.field_boxes.specs.Headline.Prefix.{prefix_holds}
use Rattle.range_prefix.specs.Cover.{IsShortestCover}
use Rattle.range_prefix.specs.Shortest.{shortest_below, shortest_cover, shortest_in}
use Rattle.field_boxes.proofs.Aligned.{field_block}
use Rattle.range_prefix.proofs.Chains.{chain-apart, chain-fit, chain-in, chain-rising, exact-in}
use Rattle.range_prefix.proofs.Shortest.{least}

-- the prefix of no bits holds the whole field
pub whole_field : (width : ℕ) (set : ℕ → Bool) → shortest_below width set (record { value = 0; len = 0 }) ≡ shortest_cover width set
unfolding shortest_cover
whole_field width set = let e : width - 0 ≡ width = omega arith in ap (λ n. shortest_in width set n 0) e

pub is-shortest : (width : ℕ) (set : ℕ → Bool) → width ≤ 32 → IsShortestCover width set (shortest_cover width set)
unfolding shortest_cover
is-shortest width set wide =
    let block = field_block width wide in
    let prefixes = shortest_in width set width 0 in
    let chain = chain-in width set width 0 block in
    record {
      cover = record {
        exact = record {
          fit = chain-fit width 0 _ prefixes chain;
          exact = λ v small. let e : 0 + v ≡ v = omega arith in subst (λ x. list_any (λ p. prefix_holds width p x) prefixes ≡ set x) e (exact-in width set width 0 block v small);
        };
        apart = chain-apart width 0 _ prefixes chain;
      };
      rising = chain-rising width 0 _ prefixes chain;
      least = λ others h. least width set others h;
    }

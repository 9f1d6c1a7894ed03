-- How much of a certificate is given while it is read: little more than the limit.
use Rattle.std.proofs.Common.{◌≡◌, ◌++◌, ℕ, ◌+◌, ◌-◌, ◌≤◌, List, [], Bool, length, ap, sym, ◌∙◌, arith, append-nil, append_assoc, length-append}
use Rattle.razor_base.specs.Input.{TakesAtMost}
use Rattle.razor_base.specs.Texts.{MayHave, left_in}
use Rattle.razor_base.proofs.Coming.{takes}

-- so much was given behind what had been: as much as was taken, and so many bytes that weren't yet
pub record IsNear (limit : ℕ) (old given : List ℕ) (room count : ℕ) : Type 0 where
  pub more : List ℕ
  pub grown : given ≡ old ++ more
  pub few : length more + room ≤ limit + count

-- nothing was given yet, but for these
pub near-start : (limit count : ℕ) (old : List ℕ) → IsNear limit old old limit count
near-start limit count old = record { more = []; grown = sym (append-nil old); few = omega arith }

module _ {limit : ℕ} {old given : List ℕ} {room count : ℕ} (h : IsNear limit old given room count) where
  pub near-limit : {text : List ℕ} {ended : Bool} (size : ℕ) → count ≤ size → MayHave given ended text → TakesAtMost (left_in text old) (left_in text given) (limit + size)
  near-limit size short is = takes is old h.more h.grown (limit + size) (omega (arith, h.few, short))

  -- these are taken, and nothing more is given, or a piece
  pub near-kept : (after : List ℕ) → count ≤ room → after ≡ given → IsNear limit old after (room - count) 0
  near-kept after small same = record { more = h.more; grown = same ∙ h.grown; few = omega (arith, h.few, small) }

  pub near-piece : (after piece : List ℕ) (n : ℕ) → count ≤ room → after ≡ given ++ piece → length piece ≤ n → IsNear limit old after (room - count) n
  near-piece after piece n small came short = record {
    more = h.more ++ piece;
    grown = came ∙ ap (λ t. t ++ piece) h.grown ∙ append_assoc old h.more piece;
    few = omega (arith, h.few, small, short, length-append h.more piece);
  }

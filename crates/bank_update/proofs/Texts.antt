-- The texts of lines in parts.
use Rattle.std.proofs.Common.{◌≡◌, ℕ, Bool, List, [], ◌++◌, ap, sym, ◌∙◌, append-nil, append_assoc}
use Rattle.std.specs.Prelude.{codes, if◌then◌else◌}
use Rattle.std.specs.Fmt.{decimal}
use Rattle.bank_update.specs.Lines.{line_end, no_room_line, stage_line}

six : (a b c d e f : List ℕ) → ((((a ++ b) ++ c) ++ d) ++ e) ++ f ≡ a ++ (b ++ (c ++ (d ++ (e ++ f))))
six a b c d e f = simp append_assoc

seven : (a b c d e f g : List ℕ) → (((((a ++ b) ++ c) ++ d) ++ e) ++ f) ++ g ≡ a ++ (b ++ (c ++ (d ++ (e ++ (f ++ g)))))
seven a b c d e f g = simp append_assoc

pub stage-text : (a b done total : ℕ) (end : List ℕ) (back : Bool) → a ≡ done → b ≡ total → end ≡ (if back then codes " back" else []) ++ line_end →
    codes "stage " ++ (decimal a ++ (codes " of " ++ (decimal b ++ (end ++ [])))) ≡ stage_line done total back
stage-text a b done total end back p q r =
    ap (λ n. codes "stage " ++ (decimal n ++ (codes " of " ++ (decimal b ++ (end ++ []))))) p
    ∙ ap (λ n. codes "stage " ++ (decimal done ++ (codes " of " ++ (decimal n ++ (end ++ []))))) q
    ∙ ap (λ t. codes "stage " ++ (decimal done ++ (codes " of " ++ (decimal total ++ t)))) (append-nil end ∙ r)
    ∙ sym (six (codes "stage ") (decimal done) (codes " of ") (decimal total) (if back then codes " back" else []) line_end)

pub no-room-text : (a b c above below wanted : ℕ) → a ≡ above → b ≡ below → c ≡ wanted →
    codes "no room " ++ (decimal a ++ (codes " " ++ (decimal b ++ (codes " " ++ (decimal c ++ line_end))))) ≡ no_room_line above below wanted
no-room-text a b c above below wanted p q r =
    ap (λ n. codes "no room " ++ (decimal n ++ (codes " " ++ (decimal b ++ (codes " " ++ (decimal c ++ line_end)))))) p
    ∙ ap (λ n. codes "no room " ++ (decimal above ++ (codes " " ++ (decimal n ++ (codes " " ++ (decimal c ++ line_end)))))) q
    ∙ ap (λ n. codes "no room " ++ (decimal above ++ (codes " " ++ (decimal below ++ (codes " " ++ (decimal n ++ line_end)))))) r
    ∙ sym (seven (codes "no room ") (decimal above) (codes " ") (decimal below) (codes " ") (decimal wanted) line_end)

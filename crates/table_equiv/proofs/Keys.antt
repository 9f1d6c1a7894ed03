-- Keys of headers, and their order.
use Rattle.std.proofs.Common.{refl, ◌≡◌, ◌∷◌, ℕ, ◌<◌, List, [], inl, inr, arith}
use Rattle.field_boxes.specs.Headline.Fields.{IsHeader}
use Rattle.field_boxes.specs.Fields.{ComesBefore}
use Rattle.ternary_words.specs.Word.{key_of}

pub key-before : (g h : List ℕ) → IsHeader g → IsHeader h → ComesBefore g h → key_of g < key_of h
key-before (a ∷ b ∷ c ∷ d ∷ e ∷ []) (p ∷ q ∷ r ∷ s ∷ t ∷ []) is has (inl less) = omega (arith, less, is.0, is.1.0, is.1.1.0, is.1.1.1.0, is.1.1.1.1.0, has.0)
key-before (a ∷ b ∷ c ∷ d ∷ e ∷ []) (p ∷ q ∷ r ∷ s ∷ t ∷ []) is has (inr (e0, inl less)) = omega (arith, e0, less, is.1.0, is.1.1.0, is.1.1.1.0, is.1.1.1.1.0)
key-before (a ∷ b ∷ c ∷ d ∷ e ∷ []) (p ∷ q ∷ r ∷ s ∷ t ∷ []) is has (inr (e0, inr (e1, inl less))) = omega (arith, e0, e1, less, is.1.1.0, is.1.1.1.0, is.1.1.1.1.0)
key-before (a ∷ b ∷ c ∷ d ∷ e ∷ []) (p ∷ q ∷ r ∷ s ∷ t ∷ []) is has (inr (e0, inr (e1, inr (e2, inl less)))) = omega (arith, e0, e1, e2, less, is.1.1.1.0, is.1.1.1.1.0)
key-before (a ∷ b ∷ c ∷ d ∷ e ∷ []) (p ∷ q ∷ r ∷ s ∷ t ∷ []) is has (inr (e0, inr (e1, inr (e2, inr (e3, inl less))))) = omega (arith, e0, e1, e2, e3, less)
key-before (a ∷ b ∷ c ∷ d ∷ e ∷ []) (p ∷ q ∷ r ∷ s ∷ t ∷ []) is has (inr (e0, inr (e1, inr (e2, inr (e3, inr last))))) = absurd last.1
key-before g h is has before = absurd assumption

pub same_five : (a b c d e p q r s t : ℕ) → a ≡ p → b ≡ q → c ≡ r → d ≡ s → e ≡ t → a ∷ b ∷ c ∷ d ∷ e ∷ [] ≡ p ∷ q ∷ r ∷ s ∷ t ∷ []
same_five a b c d e p q r s t e0 e1 e2 e3 e4 = rw (e0, e1, e2, e3, e4) refl

-- headers with one key are one
pub key-same : (g h : List ℕ) → IsHeader g → IsHeader h → key_of g ≡ key_of h → g ≡ h
key-same (a ∷ b ∷ c ∷ d ∷ e ∷ []) (p ∷ q ∷ r ∷ s ∷ t ∷ []) is has same =
    let e0 : a ≡ p = omega (arith, same, is.1.0, is.1.1.0, is.1.1.1.0, is.1.1.1.1.0, has.1.0, has.1.1.0, has.1.1.1.0, has.1.1.1.1.0) in
    let e1 : b ≡ q = omega (arith, same, e0, is.1.1.0, is.1.1.1.0, is.1.1.1.1.0, has.1.1.0, has.1.1.1.0, has.1.1.1.1.0) in
    let e2 : c ≡ r = omega (arith, same, e0, e1, is.1.1.1.0, is.1.1.1.1.0, has.1.1.1.0, has.1.1.1.1.0) in
    let e3 : d ≡ s = omega (arith, same, e0, e1, e2, is.1.1.1.1.0, has.1.1.1.1.0) in
    let e4 : e ≡ t = omega (arith, same, e0, e1, e2, e3) in
    same_five a b c d e p q r s t e0 e1 e2 e3 e4
key-same g h is has same = absurd assumption

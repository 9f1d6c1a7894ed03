-- Which of two words comes first doesn't matter to their join.
use Rattle.std.proofs.Common.{◌≡◌, ◌∷◌, List, [], arith, ap, refl, sym, ◌∙◌, true, false, Some, None, suc, cond}
use Rattle.ternary_words.specs.Headline.Word.{Trit}
use Rattle.bit_merge.specs.Merge.{same_trit, HaveSameStars, differing, CanJoin, join}

same_trit_comm : (s t : Trit) → same_trit s t ≡ same_trit t s
same_trit_comm None None = refl
same_trit_comm (Some true) (Some false) = refl
same_trit_comm (Some false) (Some true) = refl
same_trit_comm s t = refl

stars_comm : (a b : List Trit) → HaveSameStars a b → HaveSameStars b a
stars_comm [] [] h = tt
stars_comm (s ∷ a) (t ∷ b) h = (sym h.0, stars_comm a b h.1)
stars_comm a b h = h

differing_comm : (a b : List Trit) → HaveSameStars a b → differing a b ≡ differing b a
differing_comm [] [] h = refl
differing_comm (s ∷ a) (t ∷ b) h =
    ap (λ x. cond x (differing a b) (suc (differing a b))) (same_trit_comm s t) ∙ ap (λ n. cond (same_trit t s) n (suc n)) (differing_comm a b h.1)
differing_comm a b h = absurd h

pub can-join-comm : (a b : List Trit) → CanJoin a b → CanJoin b a
can-join-comm a b h = (stars_comm a b h.0, let e = differing_comm a b h.0 in let le = h.1 in omega (arith, e, le))

head_comm : (s t : Trit) → cond (same_trit s t) s (let n : Trit = None in n) ≡ cond (same_trit t s) t (let n : Trit = None in n)
head_comm None None = refl
head_comm (Some true) (Some false) = refl
head_comm (Some false) (Some true) = refl
head_comm s t = refl

pub join-comm : (a b : List Trit) → HaveSameStars a b → join a b ≡ join b a
join-comm [] [] h = refl
join-comm (s ∷ a) (t ∷ b) h = let e = head_comm s t in let f = join-comm a b h.1 in cc
join-comm a b h = absurd h

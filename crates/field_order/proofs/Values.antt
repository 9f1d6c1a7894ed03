-- Values of the fields, as a function of the field.
use Rattle.std.proofs.Common.{◌≡◌, ◌≢◌, ◌∷◌, ℕ, List, [], ◌<◌, ◌^◌, Bool, true, false, map, ap, refl, sym, ◌∙◌, subst, inl, inr}
use Rattle.std.specs.Prelude.{◌&&◌, cond, nat_eq, find, option_map, Some}
use Rattle.std.proofs.lemmas.Bool.Decides.{eqb_tells}
use Rattle.std.proofs.lemmas.Nat.{pow_pos}
use Rattle.field_boxes.specs.Headline.Fields.{width, AreValues}
use Rattle.field_boxes.specs.Headline.Classifier.{Rule, matches, set_holds, source}
use Rattle.field_boxes.specs.Orders.{IsMissing, AreDistinct, Has}
use Rattle.field_order.specs.Fronts.{Fits, without}
use Rattle.field_order.specs.Worth.{IsRearranged}
use Rattle.field_order.proofs.Without as left

-- the values with another one of the field
abbrev pub put : ℕ → ℕ → (ℕ → ℕ) → ℕ → ℕ
put f v h = λ k. cond (nat_eq k f) v (h k)

put_at : (f v k n : ℕ) (h : ℕ → ℕ) (b : Bool) → nat_eq k f ≡ b → v < 2 ^ width f → h k < 2 ^ width k → cond b v (h k) < 2 ^ width k
put_at f v k n h false is low fits = fits
put_at f v k n h true is low fits = elim (eqb_tells k f) [
  | inl t ↦ subst (λ x. v < 2 ^ width x) (sym t.1) low
  | inr t ↦ absurd (let x : false ≡ true = sym t.0 ∙ is in cc)
]

pub put_fits : (f v : ℕ) (h : ℕ → ℕ) → v < 2 ^ width f → Fits h → Fits (put f v h)
put_fits f v h low fits = λ k. put_at f v k 0 h (nat_eq k f) refl low (fits k)

pub put_same : (f v : ℕ) (h : ℕ → ℕ) → put f v h f ≡ v
put_same f v h = elim (eqb_tells f f) [
  | inl t ↦ ap (λ b. cond b v (h f)) t.0
  | inr t ↦ absurd (t.1 refl)
]

pub put_other : (f v k : ℕ) (h : ℕ → ℕ) → k ≢ f → put f v h k ≡ h k
put_other f v k h other = elim (eqb_tells k f) [
  | inl t ↦ absurd (other t.1)
  | inr t ↦ ap (λ b. cond b v (h k)) t.0
]

pub put_map : (f v : ℕ) (h : ℕ → ℕ) (level : List ℕ) → IsMissing f level → map (put f v h) level ≡ map h level
put_map f v h [] m = refl
put_map f v h (k ∷ level) m = ap (λ x. x ∷ map (put f v h) level) (put_other f v k h m.0) ∙ ap (λ xs. h k ∷ xs) (put_map f v h level m.1)

-- values of a level
pub values : (h : ℕ → ℕ) (level : List ℕ) → Fits h → AreValues level (map h level)
values h [] fits = tt
values h (f ∷ level) fits = (fits f, values h level fits)

-- the function that has these values
abbrev pub assigned : List ℕ → List ℕ → ℕ → ℕ
assigned [] vs = λ k. 0
assigned (f ∷ level) [] = λ k. 0
assigned (f ∷ level) (v ∷ vs) = put f v (assigned level vs)

pub assigned_fits : (level vs : List ℕ) → AreValues level vs → Fits (assigned level vs)
assigned_fits [] vs ok = λ k. pow_pos (width k)
assigned_fits (f ∷ level) [] ok = λ k. pow_pos (width k)
assigned_fits (f ∷ level) (v ∷ vs) ok = put_fits f v (assigned level vs) ok.0 (assigned_fits level vs ok.1)

pub assigned_map : (level vs : List ℕ) → AreDistinct level → AreValues level vs → map (assigned level vs) level ≡ vs
assigned_map [] [] d ok = refl
assigned_map (f ∷ level) (v ∷ vs) d ok =
    ap (λ x. x ∷ map (put f v (assigned level vs)) level) (put_same f v (assigned level vs))
    ∙ ap (λ xs. v ∷ xs) (put_map f v (assigned level vs) level d.0 ∙ assigned_map level vs d.1 ok.1)
assigned_map level vs d ok = absurd assumption

-- a rule matches in any order of the fields alike
swap : (a b c : Bool) → (a && (b && c)) ≡ (b && (a && c))
swap true true c = refl
swap true false c = refl
swap false true c = refl
swap false false c = refl

taken_out : {A : Type 0} (f : ℕ) (level : List ℕ) (h : ℕ → ℕ) (r : Rule A) → Has f level → AreDistinct level →
    matches level (map h level) r ≡ (set_holds f (h f) r && matches (without f level) (map h (without f level)) r)
taken_out f [] h r has d = absurd has
taken_out {A} f (g ∷ level) h r (inl e) d =
    ap (λ k. set_holds k (h k) r && matches level (map h level) r) e ∙ ap (λ l. set_holds f (h f) r && matches l (map h l) r) (sym (left.behind f g level e d.0))
taken_out {A} f (g ∷ level) h r (inr has) d =
    ap (λ b. set_holds g (h g) r && b) (taken_out f level h r has d.1)
    ∙ swap (set_holds g (h g) r) (set_holds f (h f) r) (matches (without f level) (map h (without f level)) r)
    ∙ ap (λ l. set_holds f (h f) r && matches l (map h l) r) (sym (left.there f g level (left.other f g level has d.0)))

pub rearranged_matches : {A : Type 0} (order level : List ℕ) (h : ℕ → ℕ) (r : Rule A) → IsRearranged order level → AreDistinct level →
    matches order (map h order) r ≡ matches level (map h level) r
rearranged_matches [] level h r e d = ap (λ l. matches l (map h l) r) (sym e)
rearranged_matches (f ∷ order) level h r e d =
    ap (λ b. set_holds f (h f) r && b) (rearranged_matches order (without f level) h r e.1 (left.distinct f level d)) ∙ sym (taken_out f level h r e.0 d)

found : {A : Type 0} (p q : Rule A → Bool) (rules : List (Rule A)) → ((r : Rule A) → p r ≡ q r) → find p rules ≡ find q rules
found p q [] same = refl
found p q (r ∷ rules) same = ap (λ b. cond b (Some r) (find p rules)) (same r) ∙ ap (λ o. cond (q r) (Some r) o) (found p q rules same)

pub rearranged_source : {A : Type 0} (order level : List ℕ) (h : ℕ → ℕ) (rules : List (Rule A)) → IsRearranged order level → AreDistinct level →
    source order (map h order) rules ≡ source level (map h level) rules
rearranged_source order level h rules e d =
    ap (option_map (λ r. r.decision)) (found (matches order (map h order)) (matches level (map h level)) rules (λ r. rearranged_matches order level h r e d))

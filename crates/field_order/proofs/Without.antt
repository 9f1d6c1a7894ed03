-- Levels without one of their fields.
use Rattle.std.proofs.Common.{◌≡◌, ◌≢◌, ◌∷◌, ◌++◌, ℕ, suc, List, [], ◌+◌, ◌<◌, ◌≤◌, length, get_or, take, ap, arith, refl, sym, ◌∙◌, subst, inl, inr}
use Rattle.std.specs.Prelude.{cond}
use Rattle.std.proofs.lemmas.Bool.Decides.{eqb_tells}
use Rattle.std.proofs.lemmas.List.{append-nil, take_more}
use Rattle.field_boxes.specs.Headline.Fields.{width}
use Rattle.node_store.specs.Levels.{HasField, IsLevel, bits_of}
use Rattle.field_boxes.specs.Orders.{IsMissing, AreDistinct, Has}
use Rattle.field_order.specs.Fronts.{without}
use Rattle.field_order.specs.Worth.{IsRearranged}

-- what holds of a level without a field, by whether the field stands in front
pub by_first : (P : List ℕ → Type 0) (f g : ℕ) (level : List ℕ) → (g ≡ f → P (without f level)) → (g ≢ f → P (g ∷ without f level)) → P (without f (g ∷ level))
by_first P f g level gone kept = elim (eqb_tells g f) [
  | inl t ↦ subst (λ b. P (cond b (without f level) (g ∷ without f level))) (sym t.0) (gone t.1)
  | inr t ↦ subst (λ b. P (cond b (without f level) (g ∷ without f level))) (sym t.0) (kept t.1)
]

pub here : (f g : ℕ) (level : List ℕ) → g ≡ f → without f (g ∷ level) ≡ without f level
here f g level same = by_first (λ l. l ≡ without f level) f g level (λ gone. refl) (λ kept. absurd (kept same))

pub there : (f g : ℕ) (level : List ℕ) → g ≢ f → without f (g ∷ level) ≡ g ∷ without f level
there f g level other = by_first (λ l. l ≡ g ∷ without f level) f g level (λ gone. absurd (other gone)) (λ kept. refl)

-- what isn't there can't be left out
pub none : (f : ℕ) (level : List ℕ) → IsMissing f level → without f level ≡ level
none f [] m = refl
none f (g ∷ level) m = there f g level m.0 ∙ ap (λ l. g ∷ l) (none f level m.1)

-- the level behind the field
pub behind : (f g : ℕ) (level : List ℕ) → g ≡ f → IsMissing g level → without f (g ∷ level) ≡ level
behind f g level same m = here f g level same ∙ none f level (subst (λ k. IsMissing k level) same m)

pub missing : (f : ℕ) (level : List ℕ) → IsMissing f (without f level)
missing f [] = tt
missing f (g ∷ level) = by_first (IsMissing f) f g level (λ gone. missing f level) (λ kept. (kept, missing f level))

-- what is missing is still missing
pub still : (k f : ℕ) (level : List ℕ) → IsMissing k level → IsMissing k (without f level)
still k f [] m = tt
still k f (g ∷ level) m = by_first (IsMissing k) f g level (λ gone. still k f level m.1) (λ kept. (m.0, still k f level m.1))

pub distinct : (f : ℕ) (level : List ℕ) → AreDistinct level → AreDistinct (without f level)
distinct f [] d = tt
distinct f (g ∷ level) d = by_first AreDistinct f g level (λ gone. distinct f level d.1) (λ kept. (still g f level d.0, distinct f level d.1))

-- a field that is there isn't missing
pub not_missing : (f : ℕ) (level : List ℕ) → Has f level → IsMissing f level → ⊥
not_missing f [] h m = h
not_missing f (g ∷ level) (inl e) m = m.0 e
not_missing f (g ∷ level) (inr h) m = not_missing f level h m.1

pub other : (f g : ℕ) (level : List ℕ) → Has f level → IsMissing g level → g ≢ f
other f g level h m = λ e. not_missing f level h (subst (λ k. IsMissing k level) e m)

-- another field is still there
pub has_other : (k f : ℕ) (level : List ℕ) → k ≢ f → Has k level → Has k (without f level)
has_other k f [] apart h = h
has_other k f (g ∷ level) apart (inl e) = by_first (Has k) f g level (λ gone. absurd (apart (sym e ∙ gone))) (λ kept. inl e)
has_other k f (g ∷ level) apart (inr h) = by_first (Has k) f g level (λ gone. has_other k f level apart h) (λ kept. inr (has_other k f level apart h))

pub counted : (f : ℕ) (level : List ℕ) → Has f level → AreDistinct level → length level ≡ suc (length (without f level))
counted f [] h d = absurd h
counted f (g ∷ level) (inl e) d = ap (λ l. suc (length l)) (sym (behind f g level e d.0))
counted f (g ∷ level) (inr h) d = ap suc (counted f level h d.1) ∙ ap (λ l. suc (length l)) (sym (there f g level (other f g level h d.0)))

-- the bits and the count of a level are those of a field of it and of the others
pub record AreParted (f : ℕ) (level : List ℕ) : Type 0 where
  pub bits : bits_of level ≡ width f + bits_of (without f level)
  pub count : length level ≡ suc (length (without f level))
  pub others : IsLevel (without f level)
  pub small : f < 5

pub parted : (f : ℕ) (level : List ℕ) → Has f level → AreDistinct level → IsLevel level → AreParted f level
parted f [] h d is = absurd h
parted f (g ∷ level) (inl e) d is =
    let same = behind f g level e d.0 in record {
      bits = ap (λ k. width k + bits_of level) e ∙ ap (λ l. width f + bits_of l) (sym same);
      count = counted f (g ∷ level) (inl e) d;
      others = subst IsLevel (sym same) is.1;
      small = subst (λ k. k < 5) e is.0.0;
    }
parted f (g ∷ level) (inr h) d is =
    let rest = parted f level h d.1 is.1 in
    let same = there f g level (other f g level h d.0) in
    let count : length (g ∷ without f level) ≡ length level = sym rest.count in
    let bits : width f + bits_of (g ∷ without f level) ≡ bits_of (g ∷ level) = omega (arith, rest.bits) in record {
      bits = sym bits ∙ ap (λ l. width f + bits_of l) (sym same);
      count = counted f (g ∷ level) (inr h) d;
      others = subst IsLevel (sym same) ((is.0.0, omega (arith, bits, is.0.1), omega (arith, count, is.0.2)), rest.others);
      small = rest.small;
    }

pub five : (level : List ℕ) → IsLevel level → length level ≤ 5
five [] is = omega arith
five (g ∷ level) is = omega (arith, is.0.2)

pub bound : (level : List ℕ) → IsLevel level → bits_of level ≤ 104
bound [] is = omega arith
bound (g ∷ level) is = is.0.1

-- the level with the field in front
pub fronted : (f : ℕ) (level : List ℕ) → Has f level → AreDistinct level → IsLevel level → HasField (f ∷ without f level)
fronted f level h d is =
    let p = parted f level h d is in
    ((p.small, omega (arith, p.bits, bound level is), omega (arith, p.count, five level is)), p.others)

-- an order of a level's fields has no field twice, and none that the level hasn't
pub order_missing : (f : ℕ) (order level : List ℕ) → IsRearranged order level → IsMissing f level → IsMissing f order
order_missing f [] level r m = tt
order_missing f (g ∷ order) level r m = ((λ e. other g f level r.0 m (sym e)), order_missing f order (without g level) r.1 (still f g level m))

pub order_distinct : (order level : List ℕ) → IsRearranged order level → AreDistinct order
order_distinct [] level r = tt
order_distinct (f ∷ order) level r = (order_missing f order (without f level) r.1 (missing f level), order_distinct order (without f level) r.1)

-- one field more
without-append : (f : ℕ) (xs ys : List ℕ) → without f (xs ++ ys) ≡ without f xs ++ without f ys
without-append f [] ys = refl
without-append f (x ∷ xs) ys =
    by_first (λ l. without f (x ∷ (xs ++ ys)) ≡ l ++ without f ys) f x xs (λ gone. here f x (xs ++ ys) gone ∙ without-append f xs ys)
    (λ kept. there f x (xs ++ ys) kept ∙ ap (λ l. x ∷ l) (without-append f xs ys))

one_more : (f : ℕ) (level : List ℕ) (i d : ℕ) → i < length level → without f (take (i + 1) level) ≡ without f (take i level) ++ without f (get_or level i d ∷ [])
one_more f level i d h = ap (without f) (take_more level i d h) ∙ without-append f (take i level) (get_or level i d ∷ [])

pub more_kept : (f : ℕ) (level : List ℕ) (i d : ℕ) → i < length level → get_or level i d ≢ f → without f (take (i + 1) level) ≡ without f (take i level) ++ get_or level i d ∷ []
more_kept f level i d h kept = one_more f level i d h ∙ ap (λ l. without f (take i level) ++ l) (there f (get_or level i d) [] kept)

pub more_left : (f : ℕ) (level : List ℕ) (i d : ℕ) → i < length level → get_or level i d ≡ f → without f (take (i + 1) level) ≡ without f (take i level)
more_left f level i d h same = one_more f level i d h ∙ ap (λ l. without f (take i level) ++ l) (here f (get_or level i d) [] same) ∙ append-nil (without f (take i level))

-- two fields left out in either order
either : (f g : ℕ) (level : List ℕ) → without f (without g level) ≡ without g (without f level)
either f g [] = refl
either f g (x ∷ level) =
    by_first (λ l. without f l ≡ without g (without f (x ∷ level))) g x level
    (λ gone. by_first (λ l. without f (without g level) ≡ without g l) f x level (λ e. either f g level) (λ e. either f g level ∙ sym (here g x (without f level) gone)))
    (λ kept. by_first (λ l. without f (x ∷ without g level) ≡ without g l) f x level (λ e. here f x (without g level) e ∙ either f g level)
    (λ e. there f x (without g level) e ∙ ap (λ l. x ∷ l) (either f g level) ∙ sym (there g x (without f level) kept)))

-- a field of the level is one of each order of it
pub order_has : (g : ℕ) (order level : List ℕ) → IsRearranged order level → Has g level → Has g order
order_has g [] level r has = subst (Has g) r has
order_has g (f ∷ order) level r has = elim (eqb_tells f g) [
  | inl t ↦ inl t.1
  | inr t ↦ inr (order_has g order (without f level) r.1 (has_other g f level (λ e. t.1 (sym e)) has))
]

-- with a field left out of both, an order is one of the level
pub order_without : (g : ℕ) (order level : List ℕ) → IsRearranged order level → IsRearranged (without g order) (without g level)
order_without g [] level r = ap (without g) r
order_without g (f ∷ order) level r =
    by_first (λ o. IsRearranged o (without g level)) g f order
    (λ gone. subst (IsRearranged (without g order)) (ap (λ k. without g (without k level)) gone ∙ none g (without g level) (missing g level)) (order_without g order (without f level) r.1))
    (λ kept. (has_other f g level kept r.0, subst (IsRearranged (without g order)) (sym (either f g level)) (order_without g order (without f level) r.1)))

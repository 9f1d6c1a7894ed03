-- The words of covers, one by one.
use Rattle.std.proofs.Common.{◌≡◌, ◌∷◌, ◌++◌, ◌∙◌, ℕ, ◌+◌, ◌<◌, ◌≤◌, List, [], ap, append_assoc, get_or, length, refl, sym, take}
use Rattle.std.specs.List.{flat_map}
use Rattle.std.proofs.lemmas.List.{flat_map_more, take_all, take_more}

-- one item more is put behind a text
pub put-more : {A : Type 0} (f : A → List ℕ) (items : List A) (i : ℕ) (d : A) (first mid after : List ℕ) → i < length items → mid ≡ first ++ flat_map f (take i items) → after ≡ mid ++ f (get_or items i d) →
    after ≡ first ++ flat_map f (take (i + 1) items)
put-more f items i d first mid after less e g =
    g ∙ ap (λ x. x ++ f (get_or items i d)) e ∙ flat_map_more f first (take i items) (get_or items i d) ∙ ap (λ xs. first ++ flat_map f xs) (sym (take_more items i d less))

-- all are, and then an end
pub put-all : {A : Type 0} (f : A → List ℕ) (items : List A) (i : ℕ) (first mid after last : List ℕ) → length items ≤ i → mid ≡ first ++ flat_map f (take i items) → after ≡ mid ++ last → after ≡ first ++ (flat_map f items ++ last)
put-all f items i first mid after last all e g =
    g ∙ ap (λ x. x ++ last) (e ∙ ap (λ xs. first ++ flat_map f xs) (take_all i items all)) ∙ append_assoc first (flat_map f items) last

pub each-put : {A : Type 0} (f : A → List ℕ) (items : List A) (i : ℕ) (first mid : List ℕ) → length items ≤ i → mid ≡ first ++ flat_map f (take i items) → mid ≡ first ++ flat_map f items
each-put f items i first mid all e = e ∙ ap (λ xs. first ++ flat_map f xs) (take_all i items all)

-- the parts of the first line
pub heading-parts : (t0 t1 t2 t3 t4 a n b m rest last : List ℕ) → t1 ≡ t0 ++ (a ++ n) → t2 ≡ t1 ++ (b ++ m) → t3 ≡ t2 ++ rest → t4 ≡ t3 ++ last → t4 ≡ t0 ++ (a ++ (n ++ (b ++ (m ++ (rest ++ last)))))
heading-parts t0 t1 t2 t3 t4 a n b m rest last e1 e2 e3 e4 =
    e4 ∙ ap (λ x. x ++ last) (e3 ∙ ap (λ x. x ++ rest) (e2 ∙ ap (λ x. x ++ (b ++ m)) e1)) ∙ simp append_assoc refl

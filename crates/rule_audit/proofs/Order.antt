-- The order of headers, the values with which they begin, and how many of their fields are read.
use Rattle.std.proofs.Common.{◌≡◌, ◌∷◌, ◌++◌, ℕ, List, [], ◌≤◌, ◌<◌, length, drop, refl, ap, arith, ◌∙◌, inl, inr, ◌⊎◌, suc, ◌^◌, zero, take, get_or, subst}
use Rattle.field_boxes.specs.Headline.Fields.{AreValues, stated, width, IsHeader}
use Rattle.field_boxes.specs.Fields.{ComesBefore, greatest_of}
use Rattle.node_store.specs.Levels.{HasField, top_of}
use Rattle.node_store.proofs.Stated.{has_field, top_is}

pub none_before : (h : List ℕ) → ComesBefore h [] → ⊥
none_before [] b = b
none_before (v ∷ h) b = b

pub before_itself : (h : List ℕ) → ComesBefore h h → ⊥
before_itself [] b = b
before_itself (v ∷ h) (inl less) = omega (arith, less)
before_itself (v ∷ h) (inr b) = before_itself h b.1

pub in_turn : (a b c : List ℕ) → ComesBefore a b → ComesBefore b c → ComesBefore a c
in_turn (x ∷ a) (y ∷ b) [] p q = absurd q
in_turn (x ∷ a) (y ∷ b) (z ∷ c) (inl p) (inl q) = inl (omega (arith, p, q))
in_turn (x ∷ a) (y ∷ b) (z ∷ c) (inl p) (inr q) = inl (omega (arith, p, q.0))
in_turn (x ∷ a) (y ∷ b) (z ∷ c) (inr p) (inl q) = inl (omega (arith, p.0, q))
in_turn (x ∷ a) (y ∷ b) (z ∷ c) (inr p) (inr q) = inr (p.0 ∙ q.0, in_turn a b c p.1 q.1)
in_turn a b c p q = absurd p

-- before some values is before all that begin with them
pub before_more : (h front rest : List ℕ) → ComesBefore h front → ComesBefore h (front ++ rest)
before_more h [] rest b = absurd (none_before h b)
before_more [] (x ∷ front) rest b = b
before_more (v ∷ h) (x ∷ front) rest (inl less) = inl less
before_more (v ∷ h) (x ∷ front) rest (inr b) = inr (b.0, before_more h front rest b.1)

pub by_value : (front : List ℕ) (u v : ℕ) (xs ys : List ℕ) → u < v → ComesBefore (front ++ u ∷ xs) (front ++ v ∷ ys)
by_value [] u v xs ys h = inl h
by_value (x ∷ front) u v xs ys h = inr (refl, by_value front u v xs ys h)

pub before_raised : (front h : List ℕ) (u v : ℕ) → u ≤ v → ComesBefore h (front ++ u ∷ []) → ComesBefore h (front ++ v ∷ [])
before_raised [] (x ∷ h) u v l (inl less) = inl (omega (arith, less, l))
before_raised [] (x ∷ h) u v l (inr b) = absurd (none_before h b.1)
before_raised (x ∷ front) (y ∷ h) u v l (inl less) = inl less
before_raised (x ∷ front) (y ∷ h) u v l (inr b) = inr (b.0, before_raised front h u v l b.1)
before_raised front h u v l b = b

-- none that begins so is before the value 0
pub before_zero : (front h : List ℕ) → ComesBefore h (front ++ 0 ∷ []) → ComesBefore h front
before_zero [] (x ∷ h) (inl less) = absurd (omega (arith, less))
before_zero [] (x ∷ h) (inr b) = absurd (none_before h b.1)
before_zero (x ∷ front) (y ∷ h) (inl less) = inl less
before_zero (x ∷ front) (y ∷ h) (inr b) = inr (b.0, before_zero front h b.1)
before_zero front h b = b

two : (v lo hi : ℕ) → v < suc hi → (v < lo) ⊎ ((lo ≤ v) × (v ≤ hi))
two v lo hi h = grind (arith, h)

-- begins with the values, and goes on with one from lo to hi
pub record Within (front : List ℕ) (lo hi : ℕ) (h : List ℕ) : Type 0 where
  pub value : ℕ
  pub rest : List ℕ
  pub low : lo ≤ value
  pub high : value ≤ hi
  pub is : h ≡ front ++ value ∷ rest

longer : (x y : ℕ) (front h : List ℕ) (lo hi : ℕ) → y ≡ x → Within front lo hi h → Within (x ∷ front) lo hi (y ∷ h)
longer x y front h lo hi e w = record { value = w.value; rest = w.rest; low = w.low; high = w.high; is = ap (λ n. n ∷ h) e ∙ ap (λ xs. x ∷ xs) w.is }

-- what is before the value after hi is before lo, or has a value from lo to hi
pub cut : (front h : List ℕ) (lo hi : ℕ) → ComesBefore h (front ++ suc hi ∷ []) → ComesBefore h (front ++ lo ∷ []) ⊎ Within front lo hi h
cut [] [] lo hi b = absurd b
cut [] (v ∷ rest) lo hi (inl less) = elim (two v lo hi less) [
  | inl below ↦ inl (inl below)
  | inr both ↦ inr (record { value = v; rest = rest; low = both.0; high = both.1; is = refl })
]
cut [] (v ∷ rest) lo hi (inr b) = absurd (none_before rest b.1)
cut (x ∷ front) [] lo hi b = absurd b
cut (x ∷ front) (y ∷ h) lo hi (inl less) = inl (inl less)
cut (x ∷ front) (y ∷ h) lo hi (inr b) = elim (cut front h lo hi b.1) [ inl c ↦ inl (inr (b.0, c)) | inr w ↦ inr (longer x y front h lo hi b.0 w) ]

-- the values after the first ones are those of the fields after them
pub rest_values : (fields front rest : List ℕ) → AreValues fields (front ++ rest) → AreValues (drop (length front) fields) rest
rest_values fields [] rest h = h
rest_values [] (x ∷ front) rest h = absurd h
rest_values (f ∷ fields) (x ∷ front) rest h = rest_values fields front rest h.1

-- five values, each below the power of its field's width
pub header_is : (values : List ℕ) → length values ≡ 5 → ((k : ℕ) → k < 5 → get_or values k 0 < 2 ^ width k) → IsHeader values
header_is (a ∷ b ∷ c ∷ d ∷ v ∷ []) e h = (h 0 (omega arith), (h 1 (omega arith), (h 2 (omega arith), (h 3 (omega arith), (h 4 (omega arith), tt)))))
header_is values e h = absurd (omega arith)

-- the first values of a header, and values of the fields after them
pub values_joined : (fields values rest : List ℕ) (depth : ℕ) → AreValues fields values → AreValues (drop depth fields) rest → AreValues fields (take depth values ++ rest)
values_joined fields values rest zero h r = r
values_joined [] [] rest (suc depth) h r = r
values_joined [] (v ∷ values) rest (suc depth) h r = absurd h
values_joined (f ∷ fields) [] rest (suc depth) h r = absurd h
values_joined (f ∷ fields) (v ∷ values) rest (suc depth) h r = (h.0, values_joined fields values rest depth h.1 r)

-- a lesser value in the place of a value
pub values_lower : (fields front rest : List ℕ) (u v : ℕ) → u ≤ v → AreValues fields (front ++ v ∷ rest) → AreValues fields (front ++ u ∷ rest)
values_lower [] [] rest u v l h = absurd h
values_lower (f ∷ fields) [] rest u v l h = (omega (arith, l, h.0), h.1)
values_lower [] (x ∷ front) rest u v l h = absurd h
values_lower (f ∷ fields) (x ∷ front) rest u v l h = (h.0, values_lower fields front rest u v l h.1)

-- where a field is left to read, there is a value
pub record IsFirstValue (depth : ℕ) (values : List ℕ) : Type 0 where
  pub value : ℕ
  pub rest : List ℕ
  pub is : values ≡ value ∷ rest
  pub within : value ≤ greatest_of depth

first_by : (depth : ℕ) (level values : List ℕ) → HasField level → top_of level ≡ greatest_of depth → AreValues level values → IsFirstValue depth values
first_by depth [] values field top h = absurd field
first_by depth (f ∷ level) [] field top h = absurd h
first_by depth (f ∷ level) (v ∷ values) field top h =
    record { value = v; rest = values; is = refl; within = let b : v ≤ greatest_of f = omega (arith, h.0) in omega (arith, b, top) }

pub first_value : (depth : ℕ) (values : List ℕ) → depth < 5 → AreValues (drop depth stated) values → IsFirstValue depth values
first_value depth values less h = first_by depth (drop depth stated) values (has_field depth less) (top_is depth less) h

pub no_values : (depth : ℕ) (values : List ℕ) → depth ≡ 5 → AreValues (drop depth stated) values → values ≡ []
no_values depth [] e h = refl
no_values depth (v ∷ values) e h = absurd (subst (λ n. AreValues (drop n stated) (v ∷ values)) e h)

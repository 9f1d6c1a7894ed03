-- The columns of a line, and the text behind the first of them.
use Rattle.std.proofs.Common.{◌≡◌, ◌∷◌, ℕ, ◌+◌, ◌≤◌, List, Bool, true, false, [], ap, refl, sym, subst, ◌∙◌, arith, length}
use Rattle.std.specs.Prelude.{if◌then◌else◌}
use Rattle.std.specs.List.{onto_first}
use Rattle.text_lines.specs.Columns.{columns, behind_column, from_first}
use Rattle.text_lines.specs.Headline.Lines.{is_blank}

-- the bytes up to the first blank
abbrev to_blank : List ℕ → List ℕ
to_blank [] = []
to_blank (b ∷ text) = if is_blank b then [] else b ∷ to_blank text

blank_step : (b : ℕ) (text : List ℕ) (t : Bool) → is_blank b ≡ t → length (to_blank text) + length (from_first is_blank text) ≡ length text → length (to_blank (b ∷ text)) + length (from_first is_blank (b ∷ text)) ≡ length (b ∷ text)
blank_step b text true e h = rw e (omega arith)
blank_step b text false e h = rw e (omega (arith, h))

to_blank_fits : (text : List ℕ) → length (to_blank text) + length (from_first is_blank text) ≡ length text
to_blank_fits [] = refl
to_blank_fits (b ∷ text) = blank_step b text (is_blank b) refl (to_blank_fits text)

-- what a text that begins with no blank comes to
abbrev Begun : ℕ → List ℕ → Type 0
Begun b text = columns (b ∷ text) ≡ (b ∷ to_blank text) ∷ columns (from_first is_blank text)

begun_step : (b c : ℕ) (text : List ℕ) (t : Bool) → is_blank b ≡ false → is_blank c ≡ t → (is_blank c ≡ false → Begun c text) → Begun b (c ∷ text)
begun_step b c text true h e more = rw (h, e, e) refl
begun_step b c text false h e more = let rest = rw e at (more e) in rw (h, e) (ap (onto_first b) rest)

begun : (b : ℕ) (text : List ℕ) → is_blank b ≡ false → Begun b text
begun b [] h = rw h refl
begun b (c ∷ text) h = begun_step b c text (is_blank c) h refl (begun c text)

-- the first column of a text, and those behind it
pub record IsCut (text word : List ℕ) (more : List (List ℕ)) : Type 0 where
  pub some : 1 ≤ length word
  pub fits : length word + length (behind_column text) ≤ length text
  pub rest : more ≡ columns (behind_column text)

cut_step : (b : ℕ) (text word : List ℕ) (more : List (List ℕ)) (t : Bool) → is_blank b ≡ t → (columns text ≡ word ∷ more → IsCut text word more) → columns (b ∷ text) ≡ word ∷ more → IsCut (b ∷ text) word more
cut_step b text word more true e h is =
    let cut = h (rw e at is) in
    record { some = cut.some; fits = rw e (omega (arith, cut.fits)); rest = rw e cut.rest }
cut_step b text word more false e h is =
    let same : (b ∷ to_blank text) ∷ columns (from_first is_blank text) ≡ word ∷ more = sym (begun b text e) ∙ is in
    let first : b ∷ to_blank text ≡ word = cc in
    let others : columns (from_first is_blank text) ≡ more = cc in
    record {
      some = subst (λ (w : List ℕ). 1 ≤ length w) first (omega arith);
      fits = rw (e, e) (subst (λ (w : List ℕ). length w + length (from_first is_blank text) ≤ length (b ∷ text)) first (omega (arith, to_blank_fits text)));
      rest = rw (e, e) (sym others);
    }

pub cut : (text word : List ℕ) (more : List (List ℕ)) → columns text ≡ word ∷ more → IsCut text word more
cut [] word more h = absurd (cc)
cut (b ∷ text) word more h = cut_step b text word more (is_blank b) refl (cut text word more) h

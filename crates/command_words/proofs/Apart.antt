-- File words of which no two are equal.
use Rattle.std.proofs.Common.{◌≡◌, ◌≢◌, ◌∷◌, ◌≤◌, ℕ, List, [], Bool, true, false, length, slice_index_or, sym, arith, Bor, map, not, ◌&&◌, bytes_eq}
use Rattle.std.proofs.lemmas.Bool.{and_parts, or_left, or_right}
use Rattle.std.proofs.lemmas.Slice.Eq.{bytes_eq-Decides}
use Rattle.command_words.specs.Files.{all_differ}

none_differ : (s v : Bool) → s ≡ true → (not s && v) ≡ true → ⊥
none_differ true v e h = absurd cc
none_differ false v e h = absurd cc

-- the first two of them
apart_first : (a b : List ℕ) (words : List (List ℕ)) → all_differ (a ∷ b ∷ words) ≡ true → a ≢ b
apart_first a b words h = λ e. none_differ _ _ (or_left (bytes_eq b a) _ ((bytes_eq-Decides b a).1 (sym e))) h

apart_ends : (a b d : List ℕ) (words : List (List ℕ)) → all_differ (a ∷ b ∷ d ∷ words) ≡ true → a ≢ d
apart_ends a b d words h = λ e. none_differ _ _ (or_right (bytes_eq b a) _ (or_left (bytes_eq d a) _ ((bytes_eq-Decides d a).1 (sym e)))) h

apart_later : (a : List ℕ) (words : List (List ℕ)) → all_differ (a ∷ words) ≡ true → all_differ words ≡ true
apart_later a words h = (and_parts _ (all_differ words) h).1

abbrev pub text_at : List (Bor (List ℕ)) → ℕ → List ℕ
text_at files k = (slice_index_or files k (record { ref_ptr = (0, 0); now = [] })).now

pub two_apart : (files : List (Bor (List ℕ))) → 2 ≤ length files → all_differ (map (λ (word : Bor (List ℕ)). word.now) files) ≡ true → text_at files 0 ≢ text_at files 1
two_apart (a ∷ b ∷ files) some h = apart_first a.now b.now (map (λ (word : Bor (List ℕ)). word.now) files) h
two_apart files some h = absurd (omega (arith, some))

pub record AreApart (files : List (Bor (List ℕ))) : Type 0 where
  pub front : text_at files 0 ≢ text_at files 1
  pub ends : text_at files 0 ≢ text_at files 2
  pub back : text_at files 1 ≢ text_at files 2

pub three_apart : (files : List (Bor (List ℕ))) → 3 ≤ length files → all_differ (map (λ (word : Bor (List ℕ)). word.now) files) ≡ true → AreApart files
three_apart (a ∷ b ∷ d ∷ files) some h =
    let rest = map (λ (word : Bor (List ℕ)). word.now) files in
    record {
      front = apart_first a.now b.now (d.now ∷ rest) h;
      ends = apart_ends a.now b.now d.now rest h;
      back = apart_first b.now d.now rest (apart_later a.now (b.now ∷ d.now ∷ rest) h);
    }
three_apart files some h = absurd (omega (arith, some))

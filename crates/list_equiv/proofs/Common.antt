-- Two names are the same exactly where their common numbers are.
use Rattle.std.proofs.Common.{◌≡◌, ◌≢◌, ◌∷◌, ℕ, zero, suc, ◌+◌, ◌<◌, ◌≤◌, List, [], Bool, true, false, cond, Some, None, length, get_or, refl, ap, sym, ◌∙◌, arith, add-one}
use Rattle.std.specs.Prelude.{Option, ◌↔◌, option_map, position, slice_get}
use Rattle.std.specs.Str.{bytes_eq}
use Rattle.std.proofs.lemmas.Bool.{true≢false}
use Rattle.std.proofs.lemmas.Option.{slice_get_within, slice_get-get_or, none-some}
use Rattle.std.proofs.lemmas.Slice.Eq.{bytes_eq-Decides}
use Rattle.field_boxes.specs.Headline.Names.{miss, text_of}
use Rattle.field_boxes.specs.Names.{name_at, number_of, AreDistinct, AreNames}
use Rattle.field_boxes.proofs.FirstSeen.{found}
use Rattle.text_lines.proofs.Positions.{position-cons}
use Rattle.list_equiv.specs.Names.{known_or, common_number}

is_other : (text : List ℕ) (t : Bool) → bytes_eq text miss ≡ t → text ≢ miss → t ≡ false
is_other text true h n = absurd (n ((bytes_eq-Decides text miss).0 h))
is_other text false h n = refl

number_of-other : (names : List (List ℕ)) (text : List ℕ) → text ≢ miss → number_of names text ≡ option_map (λ k. k + 1) (position (bytes_eq text) names)
number_of-other names text n = ap (λ t. cond t (Some 0) (option_map (λ k. k + 1) (position (bytes_eq text) names))) (is_other text (bytes_eq text miss) refl n)

-- where no place is found, the name doesn't stand
none-found : (t : Bool) (o : Option ℕ) → cond t (Some 0) (option_map (λ k. k + 1) o) ≡ None → (t ≡ false) × (o ≡ None)
none-found true o e = absurd (none-some 0 (sym e))
none-found false None e = (refl, refl)
none-found false (Some k) e = absurd (none-some (k + 1) (sym e))

not-there : (names : List (List ℕ)) (text : List ℕ) (k : ℕ) → position (bytes_eq text) names ≡ None → slice_get names k ≢ Some text
not-there [] text k e at = absurd (none-some text at)
not-there (n ∷ names) text zero e at =
    let none = none-found (bytes_eq text n) (position (bytes_eq text) names) (sym (position-cons (bytes_eq text) n names) ∙ e) in
    let same : text ≡ n = cc in
    true≢false (sym ((bytes_eq-Decides text n).1 same) ∙ none.0)
not-there (n ∷ names) text (suc k) e at =
    not-there names text k (none-found (bytes_eq text n) (position (bytes_eq text) names) (sym (position-cons (bytes_eq text) n names) ∙ e)).1 at

-- a name that stands under a number, and one that is found
abbrev IsSame : List (List ℕ) → List ℕ → ℕ → ℕ → Type 0
IsSame names text number j = (number ≡ j + 1) ↔ (Some text ≡ name_at names j)

same-unknown : (names : List (List ℕ)) (text : List ℕ) (d j : ℕ) → position (bytes_eq text) names ≡ None → j ≤ length names → 0 < d → IsSame names text (length names + d + 1) j
same-unknown names text d zero e few some = ((λ h. absurd (omega (arith, h, some))), λ h. absurd (none-some text (sym h)))
same-unknown names text d (suc j) e few some = (
  (λ h. absurd (omega (arith, h, some, few))),
  λ h. absurd (not-there names text j e (sym h)),
)

same-known : (names : List (List ℕ)) (text : List ℕ) (i j : ℕ) → AreDistinct names → position (bytes_eq text) names ≡ Some i → j ≤ length names → IsSame names text (i + 1 + 1) j
same-known names text i j distinct e few =
    let at : slice_get names i ≡ Some text = found names text i e in
    let within = slice_get_within names i text at in
    let named : name_at names (i + 1) ≡ Some text = rw (add-one i) at in (
      (λ h. let same : i + 1 ≡ j = omega (arith, h) in sym named ∙ ap (name_at names) same),
      λ h. let same : i + 1 ≡ j = distinct (i + 1) j (omega (arith, within)) few (named ∙ h) in omega (arith, same),
    )

same-by : (names : List (List ℕ)) (text : List ℕ) (d j : ℕ) (o : Option ℕ) → position (bytes_eq text) names ≡ o → AreDistinct names → j ≤ length names → 0 < d →
    IsSame names text (known_or (length names + d) (option_map (λ k. k + 1) o) + 1) j
same-by names text d j None e distinct few some = same-unknown names text d j e few some
same-by names text d j (Some i) e distinct few some = same-known names text i j distinct e few

none-named : (names : List (List ℕ)) (j : ℕ) → j ≤ length names → (1 ≡ j + 1) ↔ (None ≡ name_at names j)
none-named names zero few = ((λ h. refl), λ h. refl)
none-named names (suc j) few =
    ((λ h. absurd (omega (arith, h))), λ h. absurd (none-some (get_or names j []) (h ∙ slice_get-get_or names j [] (omega (arith, few)))))

pub common : (names others : List (List ℕ)) → AreNames names → AreNames others → (d j : ℕ) → d ≤ length names → j ≤ length others →
    (common_number names others d ≡ j + 1) ↔ (name_at names d ≡ name_at others j)
common ls ts l t zero j within few = none-named ts j few
common ls ts l t (suc d) j within few =
    let at : slice_get ls d ≡ Some (get_or ls d []) = slice_get-get_or ls d [] (omega (arith, within)) in
    let text = get_or ls d [] in
    let other : text ≢ miss = l.named d [] (omega (arith, within)) in
    let number : common_number ls ts (suc d) ≡ known_or (length ts + suc d) (option_map (λ k. k + 1) (position (bytes_eq text) ts)) + 1 =
    ap (λ o. known_or (length ts + suc d) (number_of ts (text_of o)) + 1) at ∙ ap (λ o. known_or (length ts + suc d) o + 1) (number_of-other ts text other) in
    let same = same-by ts text (suc d) j (position (bytes_eq text) ts) refl t.distinct few (omega arith) in
    ((λ h. at ∙ same.0 (sym number ∙ h)), λ h. number ∙ same.1 (sym at ∙ h))

-- among the names themselves it is one more than their number
pub own-number : (names : List (List ℕ)) → AreNames names → (n : ℕ) → n ≤ length names → common_number names names n ≡ n + 1
own-number names are n within = (common names names are are n n within within).1 refl

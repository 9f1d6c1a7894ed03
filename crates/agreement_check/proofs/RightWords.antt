-- The words of covers that hold are read back, and their steps are covers.
use Rattle.std.proofs.Common.{◌≡◌, ◌∷◌, ◌++◌, ◌∙◌, ℕ, suc, ◌+◌, ◌-◌, ◌<◌, ◌≤◌, ◌^◌, List, [], Bool, true, false, Option, Some, None, if◌then◌else◌, option_map, drop, length, map, nat_eq, ap, refl, sym, subst, arith, append_assoc, append-nil}
use Rattle.std.specs.Fmt.{decimal}
use Rattle.std.specs.List.{flat_map, list_all, starts_with}
use Rattle.std.specs.Char.{digit_value}
use Rattle.std.specs.Str.{bytes_eq}
use Rattle.std.proofs.lemmas.Bool.{and_parts, ltb-true, ne_eqb}
use Rattle.std.proofs.lemmas.Fmt.{decimal_nonempty}
use Rattle.std.proofs.lemmas.Str.Parse.{digit_from_value}
use Rattle.text_lines.specs.Headline.Steps.{◌>>=◌}
use Rattle.text_lines.specs.Numbers.{plain_number}
use Rattle.text_lines.proofs.Decimals.{decimal-digits, is_digit, plain_number-decimal}
use Rattle.agreement_check.specs.declared.step.Step.{Step}
use Rattle.agreement_check.specs.declared.step.Step.TheVariants.{InRule, InEntry, Missed, Late, Halved}
use Rattle.agreement_check.specs.declared.step.Terms.{Terms}
use Rattle.word_cover.specs.Cubes.{Cube, one_half, zero_half}
use Rattle.word_cover.proofs.Numbers.{wider-narrow}
use Rattle.agreement_check.specs.Covers.{AreCovered, Claim, IsCover, MissesRuleAt, Sides}
use Rattle.agreement_check.specs.Proofs.{Cover, Holds, halved, in_entry, in_rule, late, missed, steps_in, word_text}
use Rattle.agreement_check.specs.Steps.{are_covers, cover_of, place_in, step_of, steps_of}
use Rattle.agreement_check.proofs.RightLines.{AreWords, IsWord, number-word, spaced}

-- Steps that may stand in a line.

abbrev pub IsWithin : Terms → Step → Type 0
IsWithin t (InRule k) = k < t.rules
IsWithin t (InEntry k) = k < t.entries
IsWithin t Missed = t.missed ≡ true
IsWithin t Late = t.late ≡ true
IsWithin t (Halved bit) = bit < 104

abbrev pub AreWithin : Terms → List Step → Type 0
AreWithin t [] = Unit {0}
AreWithin t (step ∷ steps) = IsWithin t step × AreWithin t steps

pub record AreSmall (t : Terms) : Type 0 where
  pub rules : t.rules < 2 ^ 32
  pub entries : t.entries < 2 ^ 32

-- Words.

not_none : (n k : ℕ) → n ≡ k + 1 → (let o : Option ℕ = if nat_eq n 0 then None else Some (n - 1) in o) ≡ Some k
not_none n k e =
    let less : n - 1 ≡ k = omega (arith, e) in
    rw (ne_eqb n 0 (λ z. omega (arith, z, e))) (ap (λ (m : ℕ). Some m) less)

pub place-back : (count k : ℕ) → count < 2 ^ 32 → k < count → place_in count (decimal (k + 1)) ≡ Some k
unfolding place_in
place-back count k small h =
    ap (λ (o : Option ℕ). o >>= (λ number. if nat_eq number 0 then None else Some (number - 1))) (plain_number-decimal count (k + 1) (omega (arith, small, h)) (omega (arith, h))) ∙ not_none (k + 1) k refl

digits_by : (t : Terms) (word : List ℕ) (bit : ℕ) (a b c d : Bool) → a ≡ false → b ≡ false → c ≡ false → d ≡ false → plain_number 103 word ≡ Some bit →
    (let o : Option Step =
    if a then (if t.missed then Some Missed else None)
    else (if b then (if t.late then Some Late else None)
    else (if c then option_map (λ place. InRule place) (place_in t.rules (drop 1 word))
    else (if d then option_map (λ place. InEntry place) (place_in t.entries (drop 1 word))
    else option_map (λ bit. Halved bit) (plain_number 103 word)))) in o) ≡ Some (Halved bit)
digits_by t word bit true b c d ea eb ec ed e = absurd (cc ea)
digits_by t word bit false true c d ea eb ec ed e = absurd (cc eb)
digits_by t word bit false false true d ea eb ec ed e = absurd (cc ec)
digits_by t word bit false false false true ea eb ec ed e = absurd (cc ed)
digits_by t word bit false false false false ea eb ec ed e = ap (λ (o : Option ℕ). option_map (λ b. Halved b) o) e

other_word : (d c : ℕ) (ds : List ℕ) → nat_eq d c ≡ false → bytes_eq (d ∷ ds) (c ∷ []) ≡ false
other_word d c ds e = rw e refl

other_front : (d c : ℕ) (ds : List ℕ) → nat_eq c d ≡ false → starts_with nat_eq (d ∷ ds) (c ∷ []) ≡ false
other_front d c ds e = rw e refl

digits_back : (t : Terms) (word : List ℕ) (bit : ℕ) → list_all is_digit word ≡ true → 0 < length word → plain_number 103 word ≡ Some bit → step_of t word ≡ Some (Halved bit)
unfolding step_of
digits_back t [] bit digits some e = absurd (omega (arith, some))
digits_back t (d ∷ ds) bit digits some e =
    let parts = and_parts (is_digit d) (list_all is_digit ds) digits in
    let range = digit_from_value d (ltb-true (digit_value d) 10 parts.0) in
    let low = range.0 in
    let high = range.1 in
    digits_by t (d ∷ ds) bit (bytes_eq (d ∷ ds) (45 ∷ [])) (bytes_eq (d ∷ ds) (62 ∷ [])) (starts_with nat_eq (d ∷ ds) (114 ∷ [])) (starts_with nat_eq (d ∷ ds) (101 ∷ []))
    (other_word d 45 ds (ne_eqb d 45 (λ s. omega (arith, low, s)))) (other_word d 62 ds (ne_eqb d 62 (λ s. omega (arith, high, s))))
    (other_front d 114 ds (ne_eqb 114 d (λ s. omega (arith, high, s)))) (other_front d 101 ds (ne_eqb 101 d (λ s. omega (arith, high, s)))) e

step_back : (t : Terms) (step : Step) → AreSmall t → IsWithin t step → step_of t (word_text step) ≡ Some step
unfolding step_of
step_back t (InRule k) small h = ap (λ (o : Option ℕ). let s : Option Step = option_map (λ place. InRule place) o in s) (place-back t.rules k small.rules h)
step_back t (InEntry k) small h = ap (λ (o : Option ℕ). let s : Option Step = option_map (λ place. InEntry place) o in s) (place-back t.entries k small.entries h)
step_back t Missed small h = rw h refl
step_back t Late small h = rw h refl
step_back t (Halved bit) small h =
    digits_back t (decimal bit) bit (decimal-digits bit (omega (arith, h))) (decimal_nonempty bit (omega (arith, h))) (plain_number-decimal 103 bit (omega (arith, h)) (omega (arith, h)))

steps_back : (t : Terms) (steps : List Step) → AreSmall t → AreWithin t steps → steps_of t (map word_text steps) ≡ Some steps
steps_back t [] small h = refl
steps_back t (step ∷ steps) small h = rw (step_back t step small h.0, steps_back t steps small h.1) refl

-- a step's word
step_word : (t : Terms) (step : Step) → AreSmall t → IsWithin t step → IsWord (word_text step)
step_word t (InRule k) small h = let few = small.rules in number-word (k + 1) (omega (arith, h, few))
step_word t (InEntry k) small h = let few = small.entries in number-word (k + 1) (omega (arith, h, few))
step_word t Missed small h = refl
step_word t Late small h = refl
step_word t (Halved bit) small h = number-word bit (omega (arith, h))

pub step-words : (t : Terms) (steps : List Step) → AreSmall t → AreWithin t steps → AreWords (map word_text steps)
step-words t [] small h = tt
step-words t (step ∷ steps) small h = (step_word t step small h.0, step-words t steps small h.1)

pub steps-text : (steps : List Step) → flat_map (λ step. 32 ∷ word_text step) steps ≡ spaced (map word_text steps)
steps-text [] = refl
steps-text (step ∷ steps) = ap (λ (t : List ℕ). 32 ∷ (word_text step ++ t)) (steps-text steps)

-- Trees are covers.

tree_covers : (tree : Cover) (n : ℕ) (more : List Step) → are_covers (suc n) (steps_in tree ++ more) ≡ are_covers n more
tree_covers (in_rule k) n more = refl
tree_covers (in_entry k) n more = refl
tree_covers missed n more = refl
tree_covers late n more = refl
tree_covers (halved bit a b) n more =
    ap (are_covers (suc (suc n))) (append_assoc (steps_in a) (steps_in b) more) ∙ tree_covers a (suc n) (steps_in b ++ more) ∙ tree_covers b n more

one_cover : (tree : Cover) → are_covers 1 (steps_in tree) ≡ true
one_cover tree = ap (are_covers 1) (sym (append-nil (steps_in tree))) ∙ tree_covers tree 0 []

pub cover-back : (t : Terms) (tree : Cover) → AreSmall t → AreWithin t (steps_in tree) → cover_of t (map word_text (steps_in tree)) ≡ Some (steps_in tree)
unfolding cover_of
cover-back t tree small h = rw (steps_back t (steps_in tree) small h, one_cover tree) refl

covered : (s : Sides) (c : Claim) (cube : Cube) (tree : Cover) (cubes : List Cube) (more : List Step) → Holds s c cube tree → AreCovered s c cubes more → AreCovered s c (cube ∷ cubes) (steps_in tree ++ more)
covered s c cube (in_rule k) cubes more h m = (h, m)
covered s c cube (in_entry k) cubes more h m = (h, m)
covered s c cube missed cubes more h m = (h, m)
covered s c cube late cubes more h m = (h, m)
covered s c cube (halved bit a b) cubes more h m =
    let second = covered s c (one_half cube bit) b cubes more h.2 m in
    let both = covered s c (zero_half cube bit) a (one_half cube bit ∷ cubes) (steps_in b ++ more) h.1 second in
    (h.0, subst (AreCovered s c (zero_half cube bit ∷ one_half cube bit ∷ cubes)) (sym (append_assoc (steps_in a) (steps_in b) more)) both)

pub is-cover : (s : Sides) (c : Claim) (tree : Cover) → Holds s c c.cube tree → IsCover s c (steps_in tree)
is-cover s c tree h = subst (AreCovered s c (c.cube ∷ [])) (append-nil (steps_in tree)) (covered s c c.cube tree [] [] h tt)

-- what the terms of a line allow is what a claim may show
pub record Allows (s : Sides) (c : Claim) (t : Terms) : Type 0 where
  pub rules : c.rules ≤ t.rules
  pub entries : c.entries ≤ t.entries
  pub missed_when : (cube : Cube) → MissesRuleAt s.list.rules.items c.of cube → t.missed ≡ true
  pub late_when : (value : ℕ) → value < 2 ^ 104 → s.bound ≤ value → t.late ≡ true

both_within : (t : Terms) (xs ys : List Step) → AreWithin t xs → AreWithin t ys → AreWithin t (xs ++ ys)
both_within t [] ys h k = k
both_within t (x ∷ xs) ys h k = (h.0, both_within t xs ys h.1 k)

pub steps-within : (s : Sides) (c : Claim) (t : Terms) (cube : Cube) (tree : Cover) → Allows s c t → cube.value < 2 ^ 104 → Holds s c cube tree → AreWithin t (steps_in tree)
steps-within s c t cube (in_rule k) allows small h = let less = h.0 in let most = allows.rules in (omega (arith, less, most), tt)
steps-within s c t cube (in_entry k) allows small h = let less = h.0 in let most = allows.entries in (omega (arith, less, most), tt)
steps-within s c t cube missed allows small h = (allows.missed_when cube h, tt)
steps-within s c t cube late allows small h = (allows.late_when cube.value small h, tt)
steps-within s c t cube (halved bit a b) allows small h =
    let low = h.0.0 in
    (low, both_within t (steps_in a) (steps_in b) (steps-within s c t (zero_half cube bit) a allows small h.1) (steps-within s c t (one_half cube bit) b allows (wider-narrow cube.value bit small low) h.2))

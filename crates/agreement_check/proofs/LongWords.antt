-- No line of a proof has a word of 13 bytes or more.
use Rattle.std.proofs.Common.{◌≡◌, ◌∷◌, ◌++◌, ℕ, zero, suc, ◌+◌, ◌-◌, ◌^◌, ◌<◌, ◌≤◌, List, [], Bool, true, false, Option, Some, None, IfSome, if◌then◌else◌, option_map, codes, drop, length, take, nat_eq, bytes_eq, ap, refl, sym, subst, ◌∙◌, arith, length-drop, length-take, take_all}
use Rattle.std.specs.List.{starts_with}
use Rattle.std.proofs.lemmas.Slice.Eq.{bytes_eq-Decides}
use Rattle.text_lines.specs.Headline.Steps.{◌>>=◌}
use Rattle.text_lines.specs.Numbers.{plain_number}
use Rattle.text_lines.proofs.NumberBack.{plain_length, plain_told}
use Rattle.agreement_check.specs.declared.claims.Claims.{Claims}
use Rattle.agreement_check.specs.declared.claims.Stage.{Stage}
use Rattle.agreement_check.specs.declared.claims.Stage.TheVariants as stage
use Rattle.agreement_check.specs.declared.pair.Pair.{Pair}
use Rattle.agreement_check.specs.declared.step.Step.{Step}
use Rattle.agreement_check.specs.declared.step.Step.TheVariants.{InRule, InEntry, Missed, Late, Halved}
use Rattle.agreement_check.specs.declared.step.Terms.{Terms}
use Rattle.agreement_check.specs.Standing.{entry_count, list_in, rule_count, table_in, taken_in}
use Rattle.agreement_check.specs.Steps.{cover_of, place_in, step_of}
use Rattle.agreement_check.specs.Texts.{Due, Line, counts_due, due_at, entry_line, header_due, last_line, number_due, pair_line, rule_line, text_due}
use Rattle.agreement_check.specs.Verdict.{line_in}
use Rattle.agreement_check.proofs.FirstLine.{no-heading}
use Rattle.agreement_check.proofs.Lines.{IsDueIn, NoForm, NoFormBy, Spells, SpellsLast, SpellsPair, if_none, no-step, spelled, terms_at}

none_by : {A : Type 0} (o : Option A) → ((x : A) → o ≡ Some x → ⊥) → o ≡ None
none_by None f = refl
none_by (Some x) f = absurd (f x refl)

false_by : (b : Bool) → (b ≡ true → ⊥) → b ≡ false
false_by true f = absurd (f refl)
false_by false f = refl

small_power : (n greatest : ℕ) → n ≤ greatest → greatest ≤ 4294967295 → n < 10 ^ 10
small_power n greatest h k = omega (arith, h, k)

no_number : (greatest : ℕ) (word : List ℕ) → greatest ≤ 4294967295 → 10 < length word → plain_number greatest word ≡ None
no_number greatest word small long = none_by (plain_number greatest word) (λ n e.
    let told = (plain_told greatest word n (omega (arith, small)) e).1 in
    let few = plain_length greatest word n 9 (omega (arith, small)) e (small_power n greatest told small) in
    omega (arith, few, long))

no_place : (count : ℕ) (word : List ℕ) → count ≤ 4294967295 → 10 < length word → place_in count word ≡ None
unfolding place_in
no_place count word small long = ap (λ (o : Option ℕ). o >>= (λ number. if nat_eq number 0 then None else Some (number - 1))) (no_number count word small long)

no_text : (word text : List ℕ) (n : ℕ) → length text ≡ n → n < length word → bytes_eq word text ≡ false
no_text word text n e long = false_by (bytes_eq word text) (λ same.
    let is = ap length ((bytes_eq-Decides word text).0 same) in
    omega (arith, is, e, long))

-- A word of a cover.

step_by : (terms : Terms) (word : List ℕ) (a b c d : Bool) → a ≡ false → b ≡ false → place_in terms.rules (drop 1 word) ≡ None → place_in terms.entries (drop 1 word) ≡ None → plain_number 103 word ≡ None →
    (let o : Option Step =
    if a then (if terms.missed then Some Missed else None)
    else (if b then (if terms.late then Some Late else None)
    else (if c then option_map (λ place. InRule place) (place_in terms.rules (drop 1 word))
    else (if d then option_map (λ place. InEntry place) (place_in terms.entries (drop 1 word))
    else option_map (λ bit. Halved bit) (plain_number 103 word)))) in o) ≡ None
step_by terms word true b c d ea eb rule entry bit = absurd (cc ea)
step_by terms word false true c d ea eb rule entry bit = absurd (cc eb)
step_by terms word false false true d ea eb rule entry bit = ap (λ (o : Option ℕ). option_map (λ place. InRule place) o) rule
step_by terms word false false false true ea eb rule entry bit = ap (λ (o : Option ℕ). option_map (λ place. InEntry place) o) entry
step_by terms word false false false false ea eb rule entry bit = ap (λ (o : Option ℕ). option_map (λ b. Halved b) o) bit

no_step : (terms : Terms) (word : List ℕ) → terms.rules ≤ 4294967295 → terms.entries ≤ 4294967295 → 12 < length word → step_of terms word ≡ None
unfolding step_of
no_step terms word rules entries long =
    let rest : 10 < length (drop 1 word) = omega (arith, long, length-drop 1 word) in
    step_by terms word (bytes_eq word (45 ∷ [])) (bytes_eq word (62 ∷ [])) (starts_with nat_eq word (114 ∷ [])) (starts_with nat_eq word (101 ∷ [])) (no_text word (45 ∷ []) 1 refl (omega (arith, long))) (no_text word (62 ∷ []) 1 refl (omega (arith, long))) (no_place terms.rules (drop 1 word) rules rest)
    (no_place terms.entries (drop 1 word) entries rest) (no_number 103 word (omega arith) (omega (arith, long)))

-- A word of the first line.

abbrev NoneGives : List Due → List ℕ → Type 0
NoneGives [] word = Unit {0}
NoneGives (due ∷ dues) word = (due word ≡ None) × NoneGives dues word

at_none : (dues : List Due) (place : ℕ) (word : List ℕ) → NoneGives dues word → due_at dues place word ≡ None
at_none [] place word h = refl
at_none (due ∷ dues) zero word h = h.0
at_none (due ∷ dues) (suc place) word h = at_none dues place word h.1

other_text : (text word : List ℕ) (n : ℕ) → length text ≡ n → n < length word → text_due text word ≡ None
other_text text word n e long = ap (λ (b : Bool). let o : Option (Option ℕ) = if b then Some None else None in o) (no_text word text n e long)

other_number : (greatest : ℕ) (word : List ℕ) → greatest ≤ 4294967295 → 10 < length word → number_due greatest word ≡ None
other_number greatest word small long = ap (λ (o : Option ℕ). let r : Option (Option ℕ) = option_map (λ n. Some n) o in r) (no_number greatest word small long)

none_gives : (word : List ℕ) → 12 < length word → NoneGives (counts_due ++ header_due) word
none_gives word long =
    let number : (greatest : ℕ) → greatest ≤ 4294967295 → number_due greatest word ≡ None = λ greatest small. other_number greatest word small (omega (arith, long)) in (
      other_text (codes "proof") word 5 refl (omega (arith, long)),
      (
        other_text (codes "1") word 1 refl (omega (arith, long)),
        (
          other_text (codes "rules") word 5 refl (omega (arith, long)),
          (
            number 4294967295 (omega arith),
            (
              other_text (codes "entries") word 7 refl (omega (arith, long)),
              (
                number 4294967295 (omega arith),
                (
                  other_text (codes "before") word 6 refl (omega (arith, long)),
                  (number 4294967295 (omega arith), (number 4294967295 (omega arith), (number 65535 (omega arith), (number 65535 (omega arith), (number 255 (omega arith), tt))))),
                ),
              ),
            ),
          ),
        ),
      ),
    )

-- A word of a line.

module _ (c : Claims) where
  rules_few : rule_count c + 1 ≤ 4294967295
  rules_few = let few = (list_in c).few in let ok = (list_in c).rules.ok.0 in omega (arith, few, ok)

  entries_few : entry_count c + 1 ≤ 4294967295
  entries_few = let few = (table_in c).few in let ok = (table_in c).entries.ok.0 in omega (arith, few, ok)

  module _ (word : List ℕ) (long : 12 < length word) where
    no_steps : (missed : Bool) (words more : List (List ℕ)) (steps : List Step) → cover_of (terms_at c missed) (words ++ word ∷ more) ≡ Some steps → ⊥
    no_steps missed words more steps e = no-step (terms_at c missed) words word more steps (no_step (terms_at c missed) word rules_few entries_few long) e

    no_pair : (words more : List (List ℕ)) (p : Pair) (steps : List Step) → SpellsPair c (words ++ word ∷ more) p steps → ⊥
    no_pair [] [] p steps s = s
    no_pair [] (j ∷ more) p steps s = let e = sym (no_place (rule_count c + 1) word rules_few (omega (arith, long))) ∙ s.0 in cc e
    no_pair (i ∷ []) more p steps s = let e = sym (no_place (entry_count c + 1) word entries_few (omega (arith, long))) ∙ s.1 in cc e
    no_pair (i ∷ j ∷ words) more p steps s = no_steps true words more steps s.2

    no_last : (words more : List (List ℕ)) (k : ℕ) → SpellsLast (words ++ word ∷ more) k → ⊥
    no_last [] [] k s = let e = sym (no_number 4294967295 word (omega arith) (omega (arith, long))) ∙ s in cc e
    no_last [] (next ∷ more) k s = s
    no_last (w ∷ []) more k s = s
    no_last (w ∷ v ∷ words) more k s = s

    no_later : (kind : List ℕ) (words more : List (List ℕ)) (line : Line) → Spells c kind (words ++ word ∷ more) line → ⊥
    no_later kind words more (entry_line steps) s = no_steps false words more steps s.1
    no_later kind words more (rule_line steps) s = no_steps true words more steps s.1
    no_later kind words more (pair_line p steps) s = no_pair words more p steps s.1
    no_later kind words more (last_line k) s = no_last words more k s.1

    no_kind : (text : List ℕ) (n : ℕ) → length text ≡ n → n < 12 → word ≡ text → ⊥
    no_kind text n is few e = omega (arith, ap length e, is, few, long)

    no_first : (more : List (List ℕ)) (line : Line) → Spells c word more line → ⊥
    no_first more (entry_line steps) s = no_kind (codes "e") 1 refl (omega arith) s.0
    no_first more (rule_line steps) s = no_kind (codes "r") 1 refl (omega arith) s.0
    no_first more (pair_line p steps) s = no_kind (codes "p") 1 refl (omega arith) s.0
    no_first more (last_line k) s = no_kind (codes "pairs") 5 refl (omega arith) s.0

    no_line : (words more : List (List ℕ)) → IfSome (line_in (list_in c) (table_in c) (taken_in c) (words ++ word ∷ more)) (λ line. IsDueIn c line → ⊥)
    no_line [] more = if_none (line_in (list_in c) (table_in c) (taken_in c) (word ∷ more)) (λ line. IsDueIn c line → ⊥) (λ line e d. no_first more line (spelled c word more line e))
    no_line (kind ∷ words) more =
        if_none (line_in (list_in c) (table_in c) (taken_in c) (kind ∷ (words ++ word ∷ more))) (λ line. IsDueIn c line → ⊥) (λ line e d. no_later kind words more line (spelled c kind (words ++ word ∷ more) line e))

    no_form : (words more : List (List ℕ)) (st : Stage) → NoFormBy c (words ++ word ∷ more) st
    no_form words more stage.Fresh = no-heading words word more (at_none (counts_due ++ header_due) (length words) word (none_gives word long))
    no_form words more stage.Begun = no_line words more
    no_form words more stage.Ended = tt

    pub no-long : (words more : List (List ℕ)) → NoForm c (words ++ word ∷ more)
    no-long words more = no_form words more c.stage

-- what is kept of a word says whether it is so long, and else is the word
pub kept-long : (word kept : List ℕ) → kept ≡ take 13 word → 13 ≤ length kept → 12 < length word
kept-long word kept e more = omega (arith, length-take 13 word, ap length e, more)

pub kept-whole : (word kept : List ℕ) → kept ≡ take 13 word → length kept < 13 → kept ≡ word
kept-whole word kept e less = e ∙ take_all 13 word (omega (arith, length-take 13 word, ap length e, less))

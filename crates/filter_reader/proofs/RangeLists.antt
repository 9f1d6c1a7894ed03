-- The ranges of a port column, one after another.
use Rattle.std.proofs.Common.{◌≡◌, ◌∷◌, ◌++◌, ℕ, List, Bool, true, false, cond, [], ap, refl, sym, subst, ◌∙◌, append_assoc, Some, None, Option, unwrap_or, option_map, option_and_then, bytes_eq}
use Rattle.field_boxes.specs.Headline.Classifier.{Interval}
use Rattle.filter_reader.specs.Headline.Ports.{ranges_of, range_of}
use Rattle.filter_reader.specs.Ranges.{first_range, behind_comma, capped_first, capped_range, range_before}

-- ranges in front of those that are left
abbrev pub behind_ranges : List Interval → Option (List Interval × List (List ℕ)) → Option (List Interval × List (List ℕ))
behind_ranges front None = None
behind_ranges front (Some column) = Some (front ++ column.0, column.1)

-- what a first range leaves to the tokens behind it
abbrev pub by_comma : Interval → List (List ℕ) → Option (List (List ℕ)) → Option (List Interval × List (List ℕ))
by_comma range tokens None = Some (range ∷ [], tokens)
by_comma range tokens (Some more) = range_before range (ranges_of more)

abbrev pub by_first : Option (Interval × List (List ℕ)) → Option (List Interval × List (List ℕ))
by_first None = None
by_first (Some parts) = by_comma parts.0 parts.1 (behind_comma parts.1)

one_range : (o : Option Interval) → option_map {U = List Interval × List (List ℕ)} (λ range. (range ∷ [], [])) o ≡ by_first (option_and_then {U = Interval × List (List ℕ)} (λ range. Some (range, [])) o)
one_range None = refl
one_range (Some range) = refl

more_ranges : (next : List ℕ) (tokens : List (List ℕ)) (range : Interval) (t : Bool) →
    cond t (range_before range (ranges_of tokens)) (Some (range ∷ [], next ∷ tokens)) ≡ by_comma range (next ∷ tokens) (cond t (Some tokens) None)
more_ranges next tokens range true = refl
more_ranges next tokens range false = refl

range_then : (next : List ℕ) (tokens : List (List ℕ)) (o : Option Interval) →
    option_and_then {U = List Interval × List (List ℕ)} (λ range. cond (bytes_eq next (44 ∷ [])) (range_before range (ranges_of tokens)) (Some (range ∷ [], next ∷ tokens))) o
    ≡ by_first (option_and_then {U = Interval × List (List ℕ)} (λ range. Some (range, next ∷ tokens)) o)
range_then next tokens None = refl
range_then next tokens (Some range) = more_ranges next tokens range (bytes_eq next (44 ∷ []))

-- the ranges, by the first of them
pub ranges_by_first : (tokens : List (List ℕ)) → ranges_of tokens ≡ by_first (first_range tokens)
unfolding first_range
ranges_by_first (lo ∷ mark ∷ hi ∷ []) = one_range (range_of lo mark hi)
ranges_by_first (lo ∷ mark ∷ hi ∷ next ∷ tokens) = range_then next tokens (range_of lo mark hi)
ranges_by_first tokens = refl

-- one more range is in front of the rest
pub behind_one_more : (front : List Interval) (range : Interval) (o : Option (List Interval × List (List ℕ))) → behind_ranges front (range_before range o) ≡ behind_ranges (front ++ range ∷ []) o
behind_one_more front range None = refl
behind_one_more front range (Some column) = ap {A = List Interval} {B = Option (List Interval × List (List ℕ))} (λ ranges. Some (ranges, column.1)) (sym (append_assoc front (range ∷ []) column.0))

-- no range in front of them
pub behind_nothing : (o : Option (List Interval × List (List ℕ))) → o ≡ behind_ranges [] o
behind_nothing None = refl
behind_nothing (Some column) = refl

none_first : (o : Option (Interval × List (List ℕ))) → None ≡ capped_first o → by_first o ≡ None
none_first None e = refl
none_first (Some parts) e = absurd (cc)

-- where the code finds no range, there is none
pub none_left : (front : List Interval) (tokens : List (List ℕ)) → None ≡ capped_first (first_range tokens) → behind_ranges front (ranges_of tokens) ≡ None
none_left front tokens e = ap (behind_ranges front) (ranges_by_first tokens ∙ none_first (first_range tokens) e)

-- what the code finds of a first range
abbrev pub IsFirst : List (List ℕ) → Interval → List (List ℕ) → Interval → Type 0
IsFirst tokens seen behind range = (seen ≡ capped_range range) × (ranges_of tokens ≡ by_comma range behind (behind_comma behind))

some_first : (tokens : List (List ℕ)) (seen : Interval) (behind : List (List ℕ)) (o : Option (Interval × List (List ℕ))) → ranges_of tokens ≡ by_first o → Some (seen, behind) ≡ capped_first o →
    (range : Interval) × IsFirst tokens seen behind range
some_first tokens seen behind None e h = absurd (cc)
some_first tokens seen behind (Some parts) e h =
    let none : Interval × List (List ℕ) = (seen, behind) in
    let view : seen ≡ capped_range parts.0 = ap (λ (o : Option (Interval × List (List ℕ))). (unwrap_or o none).0) h in
    let same : parts.1 ≡ behind = ap (λ (o : Option (Interval × List (List ℕ))). (unwrap_or o none).1) (sym h) in
    (parts.0, (view, subst (λ (more : List (List ℕ)). ranges_of tokens ≡ by_comma parts.0 more (behind_comma more)) same e))

pub one_left : (tokens : List (List ℕ)) (seen : Interval) (behind : List (List ℕ)) → Some (seen, behind) ≡ capped_first (first_range tokens) → (range : Interval) × IsFirst tokens seen behind range
one_left tokens seen behind e = some_first tokens seen behind (first_range tokens) (ranges_by_first tokens) e

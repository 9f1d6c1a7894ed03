-- A rule whose sets are cut to a box matches the headers of the box that the rule matches.
use Rattle.std.proofs.Common.{◌≡◌, ◌∷◌, ℕ, zero, suc, ◌<◌, List, [], Bool, true, false, refl, ap, ◌∙◌, length, get_or, subst, ◌&&◌, slice_get, slice_index_or, unwrap_or}
use Rattle.std.proofs.lemmas.List.{get_or_default}
use Rattle.field_boxes.specs.declared.rule.Rule as code
use Rattle.field_boxes.specs.declared.span.Span.{Span}
use Rattle.field_boxes.specs.Boxes.{box_of, box_holds}
use Rattle.field_boxes.specs.Headline.Classifier.{Interval, Rule, union_holds, set_holds, matches}
use Rattle.field_boxes.specs.Headline.Fields.{stated}
use Rattle.field_boxes.specs.Rules.{rule_of}
use Rattle.field_boxes.specs.Spans.{interval_of}
use Rattle.fdd_build.specs.Sets.{box_rule}

and-four : (a b c d : Bool) → ((a && b) && (c && d)) ≡ ((a && c) && (b && d))
and-four false b c d = refl
and-four true false false d = refl
and-four true false true d = refl
and-four true true c d = refl

both-match : (p q r : Rule ℕ) (fields values : List ℕ) → ((k v : ℕ) → set_holds k v p ≡ (set_holds k v q && set_holds k v r)) →
    matches fields values p ≡ (matches fields values q && matches fields values r)
both-match p q r (f ∷ fields) (v ∷ values) each =
    ap (λ b. b && matches fields values p) (each f v) ∙ ap (λ b. (set_holds f v q && set_holds f v r) && b) (both-match p q r fields values each)
    ∙ and-four (set_holds f v q) (set_holds f v r) (matches fields values q) (matches fields values r)
both-match p q r fields values each = refl

-- a set has the values that two sets have in common
abbrev pub IsCommon : List Interval → List Interval → List Interval → Type 0
IsCommon a b c = (v : ℕ) → union_holds v a ≡ (union_holds v b && union_holds v c)

each-field : (a0 a1 a2 a3 a4 b0 b1 b2 b3 b4 c0 c1 c2 c3 c4 : List Interval) → IsCommon a0 b0 c0 → IsCommon a1 b1 c1 → IsCommon a2 b2 c2 → IsCommon a3 b3 c3 → IsCommon a4 b4 c4 → (k v : ℕ) →
    union_holds v (unwrap_or (slice_get (a0 ∷ a1 ∷ a2 ∷ a3 ∷ a4 ∷ []) k) [])
    ≡ (union_holds v (unwrap_or (slice_get (b0 ∷ b1 ∷ b2 ∷ b3 ∷ b4 ∷ []) k) []) && union_holds v (unwrap_or (slice_get (c0 ∷ c1 ∷ c2 ∷ c3 ∷ c4 ∷ []) k) []))
each-field a0 a1 a2 a3 a4 b0 b1 b2 b3 b4 c0 c1 c2 c3 c4 h i j k l zero v = h v
each-field a0 a1 a2 a3 a4 b0 b1 b2 b3 b4 c0 c1 c2 c3 c4 h i j k l (suc zero) v = i v
each-field a0 a1 a2 a3 a4 b0 b1 b2 b3 b4 c0 c1 c2 c3 c4 h i j k l (suc (suc zero)) v = j v
each-field a0 a1 a2 a3 a4 b0 b1 b2 b3 b4 c0 c1 c2 c3 c4 h i j k l (suc (suc (suc zero))) v = k v
each-field a0 a1 a2 a3 a4 b0 b1 b2 b3 b4 c0 c1 c2 c3 c4 h i j k l (suc (suc (suc (suc zero)))) v = l v
each-field a0 a1 a2 a3 a4 b0 b1 b2 b3 b4 c0 c1 c2 c3 c4 h i j k l (suc (suc (suc (suc (suc n))))) v = refl

-- the set of ports of a rule
abbrev pub port_at : code.Rule → ℕ → List Interval
port_at rule k = slice_index_or rule.ports k []

-- the rule of the five sets in common with a box
pub cut-match : (a0 a1 a2 a3 a4 : List Interval) (rule : code.Rule) (spans : List Span) (s0 s1 s2 s3 s4 : Span) (values : List ℕ) → s0 ∷ s1 ∷ s2 ∷ s3 ∷ s4 ∷ [] ≡ spans →
    IsCommon a0 (interval_of rule.source ∷ []) (interval_of s0 ∷ []) → IsCommon a1 (interval_of rule.destination ∷ []) (interval_of s1 ∷ []) →
    IsCommon a2 (port_at rule 0) (interval_of s2 ∷ []) → IsCommon a3 (port_at rule 1) (interval_of s3 ∷ []) → IsCommon a4 (interval_of rule.protocol ∷ []) (interval_of s4 ∷ []) →
    matches stated values (box_rule (a0 ∷ a1 ∷ a2 ∷ a3 ∷ a4 ∷ [])) ≡ (matches stated values (rule_of rule) && box_holds (box_of spans) values)
cut-match a0 a1 a2 a3 a4 rule spans s0 s1 s2 s3 s4 values same h i j k l =
    both-match (box_rule (a0 ∷ a1 ∷ a2 ∷ a3 ∷ a4 ∷ [])) (rule_of rule) (box_rule (box_of (s0 ∷ s1 ∷ s2 ∷ s3 ∷ s4 ∷ []))) stated values
    (each-field a0 a1 a2 a3 a4 (interval_of rule.source ∷ []) (interval_of rule.destination ∷ []) (port_at rule 0) (port_at rule 1) (interval_of rule.protocol ∷ [])
    (interval_of s0 ∷ []) (interval_of s1 ∷ []) (interval_of s2 ∷ []) (interval_of s3 ∷ []) (interval_of s4 ∷ []) h i j k l)
    ∙ ap (λ (ss : List Span). matches stated values (rule_of rule) && box_holds (box_of ss) values) same

-- the set of ports that the code reads
pub ports-there : (rule : code.Rule) (k : ℕ) (d a c : List Interval) → k < length rule.ports → IsCommon a (get_or rule.ports k d) c → IsCommon a (port_at rule k) c
ports-there rule k d a c less h = subst (λ p. IsCommon a p c) (get_or_default rule.ports k d [] less) h

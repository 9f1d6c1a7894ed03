-- What adding a rule and taking one out leaves of a list as the code keeps it.
use Rattle.std.proofs.Common.{◌≡◌, ◌∷◌, ◌++◌, ℕ, ◌-◌, ◌<◌, ◌≤◌, List, Bool, true, false, [], ap, sym, ◌∙◌, arith, suc, length, take, drop, Some}
use Rattle.std.proofs.Math.Nat.{le_trans}
use Rattle.std.specs.Prelude.{All, Option, if◌then◌else◌, map}
use Rattle.std.specs.List.{insert, remove}
use Rattle.std.proofs.lemmas.List.{map-append, length-append, take-map, drop-map}
use Rattle.std.proofs.lemmas.List.Elements.{recursion_from_All, All-append, All-cons, All-take, All-drop, All-weaker}
use Rattle.field_boxes.specs.declared.rule.Rule as code
use Rattle.field_boxes.specs.Headline.Classifier.{Interval, Rule}
use Rattle.field_boxes.specs.NamedRules.{IsNumberedBy, named_rule, named_rules}
use Rattle.field_boxes.specs.Headline.Names.{text_of}
use Rattle.field_boxes.specs.Names.{is_known, name_at, with_name}
use Rattle.field_boxes.specs.Rules.{sets_of}
use Rattle.edit_session.specs.Lists.{Listed, rule_named, with_name_alone, with_rule, without_rule}
use Rattle.filter_reader.proofs.SoFar.{same_rules as same_by}

-- the first names keep their numbers
abbrev pub KeepsNames : List (List ℕ) → List (List ℕ) → Type 0
KeepsNames old new = (k : ℕ) → k ≤ length old → name_at new k ≡ name_at old k

-- the names after a name was given a number
pub record IsInterned (old new : List (List ℕ)) (name : List ℕ) (given : ℕ) : Type 0 where
  pub names : new ≡ with_name old name
  pub number : name_at new given ≡ Some name
  pub within : (0 < given) × (given ≤ length new)
  pub kept : KeepsNames old new

longer_by : (names : List (List ℕ)) (name : List ℕ) (t : Bool) → length names ≤ length (if t then names else names ++ name ∷ [])
longer_by names name true = omega arith
longer_by names name false = simp length-append (omega arith)

pub with_name-longer : (names : List (List ℕ)) (name : List ℕ) → length names ≤ length (with_name names name)
with_name-longer names name = longer_by names name (is_known names name)

pub All-insert : {X : Type 0} (P : X → Type 0) (xs : List X) (i : ℕ) (x : X) → All P xs → P x → All P (insert xs i x)
All-insert P xs i x all p = All-append P (take i xs) (x ∷ drop i xs) (All-take P i xs all) (All-cons P x (drop i xs) p (All-drop P i xs all))

pub All-remove : {X : Type 0} (P : X → Type 0) (xs : List X) (i : ℕ) → All P xs → All P (remove xs i)
All-remove P xs i all = All-append P (take i xs) (drop (suc i) xs) (All-take P i xs all) (All-drop P (suc i) xs all)

pub map-insert : {X Y : Type 0} (f : X → Y) (xs : List X) (i : ℕ) (x : X) → map f (insert xs i x) ≡ insert (map f xs) i (f x)
map-insert f xs i x =
    map-append f (take i xs) (x ∷ drop i xs)
    ∙ ap (λ ys. ys ++ f x ∷ map f (drop i xs)) (sym (take-map f i xs))
    ∙ ap (λ ys. take i (map f xs) ++ f x ∷ ys) (sym (drop-map f i xs))

pub map-remove : {X Y : Type 0} (f : X → Y) (xs : List X) (i : ℕ) → map f (remove xs i) ≡ remove (map f xs) i
map-remove f xs i =
    map-append f (take i xs) (drop (suc i) xs)
    ∙ ap (λ ys. ys ++ map f (drop (suc i) xs)) (sym (take-map f i xs))
    ∙ ap (λ ys. take i (map f xs) ++ ys) (sym (drop-map f (suc i) xs))

-- rules keep their names when names are added
pub same_rules : (old new : List (List ℕ)) (rules : List code.Rule) → All (IsNumberedBy old) rules → KeepsNames old new → named_rules new rules ≡ named_rules old rules
same_rules old new rules numbered keeps = same_by old new keeps rules (recursion_from_All (IsNumberedBy old) rules numbered)

-- and each decision stays the number of a name
pub still_numbered : (old new : List (List ℕ)) (name : List ℕ) (rules : List code.Rule) → new ≡ with_name old name → All (IsNumberedBy old) rules → All (IsNumberedBy new) rules
still_numbered old new name rules e numbered =
    let low : length old ≤ length new = rw e (with_name-longer old name) in
    All-weaker (IsNumberedBy old) (IsNumberedBy new) (λ x p. (p.0, le_trans p.1 low)) rules numbered

-- a list in which a name was given a number
pub name_added : {old new : List (List ℕ)} {name : List ℕ} {given : ℕ} (rules : List code.Rule) → IsInterned old new name given → All (IsNumberedBy old) rules →
    let after : Listed = record { rules = named_rules new rules; names = new } in
    after ≡ with_name_alone (record { rules = named_rules old rules; names = old }) name
name_added {old} {new} {name} {given} rules h numbered =
    ap (λ (rs : List (Rule (List ℕ))). let after : Listed = record { rules = rs; names = new } in after) (same_rules old new rules numbered h.kept)
    ∙ ap (λ (names : List (List ℕ)). let after : Listed = record { rules = named_rules old rules; names = names } in after) h.names

-- a list to which a rule was added
pub rule_added : {old new : List (List ℕ)} {name : List ℕ} {given : ℕ} (rules : List code.Rule) (place : ℕ) (rule r : code.Rule) → IsInterned old new name given → All (IsNumberedBy old) rules →
    sets_of r ≡ sets_of rule → r.decision ≡ given →
    let after : Listed = record { rules = named_rules new (insert rules (place - 1) r); names = new } in
    after ≡ with_rule (record { rules = named_rules old rules; names = old }) place (rule_named name rule)
rule_added {old} {new} {name} {given} rules place rule r h numbered sets decides =
    let named : named_rule new r ≡ rule_named name rule =
    ap (λ (n : ℕ). let x : Rule (List ℕ) = record { sets = sets_of r; decision = text_of (name_at new n) } in x) decides
    ∙ ap (λ (o : Option (List ℕ)). let x : Rule (List ℕ) = record { sets = sets_of r; decision = text_of o } in x) h.number
    ∙ ap (λ (sets : List (List Interval)). let x : Rule (List ℕ) = record { sets = sets; decision = name } in x) sets in
    ap (λ (rs : List (Rule (List ℕ))). let after : Listed = record { rules = rs; names = new } in after)
    (map-insert (named_rule new) rules (place - 1) r
    ∙ ap (λ (rs : List (Rule (List ℕ))). insert rs (place - 1) (named_rule new r)) (same_rules old new rules numbered h.kept)
    ∙ ap (λ (x : Rule (List ℕ)). insert (named_rules old rules) (place - 1) x) named)
    ∙ ap (λ (names : List (List ℕ)). let after : Listed = record { rules = insert (named_rules old rules) (place - 1) (rule_named name rule); names = names } in after) h.names

-- a list of which a rule was taken out
pub rule_taken_out : (names : List (List ℕ)) (rules : List code.Rule) (place : ℕ) →
    let after : Listed = record { rules = named_rules names (remove rules (place - 1)); names = names } in
    after ≡ without_rule (record { rules = named_rules names rules; names = names }) place
rule_taken_out names rules place =
    ap (λ (rs : List (Rule (List ℕ))). let after : Listed = record { rules = rs; names = names } in after) (map-remove (named_rule names) rules (place - 1))

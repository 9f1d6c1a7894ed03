-- Rules that are kept where they were put, and the order in which they stand.
use Rattle.std.specs.Prelude.{ℕ, ◌<◌, List, [], ◌∷◌, length, map, All, Option, Some, None, IfSome, slice_index_or}
use Rattle.std.specs.Global.{Vec}
use Rattle.std.proofs.Common.{leb-true, refl}
use Rattle.field_boxes.specs.SpanLists.{filling}
use Rattle.field_boxes.specs.declared.rule.Rule.{Rule}
use Rattle.edit_session.specs.declared.ordered.Ordered.TheInside.{Inside}

-- what is read where no rule is kept
abbrev pub no_rule : Rule
no_rule = record { source = filling; destination = filling; ports = [] ∷ [] ∷ []; protocol = filling; decision = 0; inside = leb-true 0 255 refl }

-- the rules at these places
abbrev pub gathered : List Rule → List ℕ → List Rule
gathered kept places = map (λ place. slice_index_or kept place no_rule) places

-- at each of the places a rule is kept
abbrev pub AreWithin : List Rule → List ℕ → Type 0
AreWithin kept places = All (λ place. place < length kept) places

-- the rules in their order: as they are kept, until they are numbered
abbrev pub in_order : List Rule → Option (Vec ℕ) → List Rule
in_order kept None = kept
in_order kept (Some places) = gathered kept places.items

abbrev pub ordered : Inside → List Rule
ordered o = in_order o.kept.items o.places

-- the numbers of the order are those of rules
abbrev pub IsOrdered : Inside → Type 0
IsOrdered o = IfSome o.places (λ places. AreWithin o.kept.items places.items)

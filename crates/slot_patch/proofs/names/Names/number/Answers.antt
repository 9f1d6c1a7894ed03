use Rattle.std.proofs.Common.{◌≡◌, refl, sym, ◌∙◌, ap}
use Rattle.std.specs.Prelude.{map}
use Rattle.std.specs.List.{list_any}
use Rattle.std.specs.Str.{bytes_eq}
use Rattle.std.specs.String.{string_bytes}
use Rattle.field_boxes.specs.Names.{with_name}
use Rattle.field_boxes.proofs.FirstSeen.{list_any-map, seen, number_found, number_stored, with_name-map}
use Rattle.slot_patch.proofs.names.Names.number.Goals as goal
use Rattle.slot_patch.proofs.names.Names.number.Goals.{In_ok-place}

pub returns-in-Some-clause-names : goal.returns-in-Some-clause-names
returns-in-Some-clause-names c =
    rw (← c.self.view_is) (seen (map string_bytes c.self.inside.names.keys) c.args.name.now (list_any-map (bytes_eq c.args.name.now) string_bytes c.self.inside.names.keys ∙ sym c.in-Some.ensures.found))

pub returns-in-Some-clause-number : goal.returns-in-Some-clause-number
returns-in-Some-clause-number c =
    rw (← c.self.view_is) (number_found string_bytes c.self.inside.names.keys c.args.name.now c.in-Some.place c.in-Some.ensures.index)

-- the names after the new one is inserted
names-after : (c : In_ok-place) → map string_bytes c.insert_full.new.self.keys ≡ with_name c.args.self.now c.args.name.now
names-after c =
    let inserted : map string_bytes c.insert_full.new.self.keys ≡ with_name (map string_bytes c.self.inside.names.keys) (string_bytes c.in_ok-owned.owned) =
    ap (map string_bytes) c.in_ok-place.ensures.keys ∙ with_name-map string_bytes c.self.inside.names.keys c.in_ok-owned.owned (list_any (λ x. bytes_eq (string_bytes c.in_ok-owned.owned) (string_bytes x)) c.self.inside.names.keys) refl in
    inserted ∙ ap (λ names. with_name names (string_bytes c.in_ok-owned.owned)) c.self.view_is ∙ ap (with_name c.args.self.now) c.in_ok-owned.ensures.ok

pub returns-clause-names : goal.returns-clause-names
returns-clause-names c = names-after (goal.at.returns-clause-names c).In_ok-place

pub returns-clause-number : goal.returns-clause-number
returns-clause-number c =
    let stored = c.in_ok-place.ensures.stored in
    let same = ap (λ name. bytes_eq name (string_bytes stored.0)) (sym c.in_ok-owned.ensures.ok) ∙ stored.2 in
    number_stored string_bytes c.insert_full.new.self.keys c.args.name.now c.in_ok-place.place stored.0 stored.1 same

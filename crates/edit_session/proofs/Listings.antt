-- A list as the code keeps it, after an edit.
use Rattle.std.proofs.Common.{◌≡◌, ℕ, ◌-◌, ◌≤◌, List, Bool, true, ap, refl, sym, subst, ◌∙◌, arith, length, Result, Ok, Err, inl, inr}
use Rattle.std.specs.Prelude.{[], All, IfErr, IsErrAnd, if◌then◌else◌, slice_index_or}
use Rattle.std.specs.List.{insert, remove}
use Rattle.std.proofs.lemmas.List.{length-append, length-drop, length-map, length-take}
use Rattle.std.proofs.lemmas.List.Edits.{length-insert}
use Rattle.field_boxes.specs.declared.rule.Rule as code
use Rattle.field_boxes.specs.Headline.Classifier.{Rule}
use Rattle.field_boxes.specs.NamedRules.{IsNumberedBy, named_rule, named_rules}
use Rattle.field_boxes.specs.Names.{with_name}
use Rattle.field_boxes.specs.Rules.{sets_of}
use Rattle.field_boxes.specs.Ports.{ArePorts}
use Rattle.field_boxes.specs.FilterRules.{IsFilterRule}
use Rattle.field_boxes.specs.Prefixes.{IsPrefix}
use Rattle.field_boxes.specs.Protocols.{IsProtocol}
use Rattle.edit_session.specs.declared.listing.Listing.TheInside.{Inside}
use Rattle.edit_session.specs.declared.refusal.PlaceRefusal.{PlaceRefusal}
use Rattle.edit_session.specs.declared.refusal.PlaceRefusal.TheVariants as places
use Rattle.edit_session.specs.Editing.{IsAddRefused}
use Rattle.edit_session.specs.Kept.{IsListing, IsPut, listed}
use Rattle.edit_session.specs.Lists.{Listed, add_answer, is_within, rule_named, taken_out, with_name_alone, with_rule, without_rule}
use Rattle.edit_session.proofs.Edits.{All-insert, All-remove, IsInterned, name_added, rule_added, rule_taken_out, still_numbered}
use Rattle.edit_session.proofs.Places.{Fits, fits, placed}

-- the same rules and names
pub same-listing : (a b : Inside) → a.rules ≡ b.rules → a.names ≡ b.names → IsListing b → IsListing a
same-listing a b items names h = record {
  few = subst (λ (rs : List code.Rule). length rs ≤ 65536) (sym items) h.few;
  spelled = subst (All IsFilterRule) (sym items) h.spelled;
  numbered = subst (λ (ns : List (List ℕ)). All (IsNumberedBy ns) a.rules) (sym names) (subst (All (IsNumberedBy b.names)) (sym items) h.numbered);
}

shorter : (rs : List code.Rule) (i : ℕ) → length (remove rs i) ≤ length rs
shorter rs i = simp (length-append, length-take, length-drop) (omega arith)

-- a rule was taken out
pub removed-listing : (a b : Inside) (i : ℕ) → a.rules ≡ remove b.rules i → a.names ≡ b.names → IsListing b → IsListing a
removed-listing a b i items names h =
    let less = shorter b.rules i in
    let few = h.few in
    record {
      few = subst (λ (rs : List code.Rule). length rs ≤ 65536) (sym items) (omega (arith, less, few));
      spelled = subst (All IsFilterRule) (sym items) (All-remove IsFilterRule b.rules i h.spelled);
      numbered = subst (λ (ns : List (List ℕ)). All (IsNumberedBy ns) a.rules) (sym names)
          (subst (All (IsNumberedBy b.names)) (sym items) (All-remove (IsNumberedBy b.names) b.rules i h.numbered));
    }

abbrev list_of : List (List ℕ) → List code.Rule → Listed
list_of names rules = record { rules = named_rules names rules; names = names }

pub removed-list : (a b : Inside) (list : Listed) (place count : ℕ) → listed b ≡ list → a.rules ≡ remove b.rules (place - 1) → a.names ≡ b.names →
    count ≡ length list.rules → is_within place count ≡ true → listed a ≡ taken_out list place
removed-list a b list place count seen items names counted within =
    let there : is_within place (length list.rules) ≡ true = ap (is_within place) (sym counted) ∙ within in
    ap (list_of a.names) items ∙ ap (λ (ns : List (List ℕ)). list_of ns (remove b.rules (place - 1))) names
    ∙ rule_taken_out b.names b.rules place
    ∙ ap (λ (l : Listed). without_rule l place) seen
    ∙ ap (λ (t : Bool). if t then without_rule list place else list) (sym there)

-- a name was given a number
pub named-listing : (a b : Inside) (name : List ℕ) → a.rules ≡ b.rules → a.names ≡ with_name b.names name → IsListing b → IsListing a
named-listing a b name items names h = record {
  few = subst (λ (rs : List code.Rule). length rs ≤ 65536) (sym items) h.few;
  spelled = subst (All IsFilterRule) (sym items) h.spelled;
  numbered = subst (All (IsNumberedBy a.names)) (sym items) (still_numbered b.names a.names name b.rules names h.numbered);
}

pub named-list : (a b : Inside) (list : Listed) (name : List ℕ) (given : ℕ) → listed b ≡ list → a.rules ≡ b.rules → IsInterned b.names a.names name given → IsListing b →
    listed a ≡ with_name_alone list name
named-list a b list name given seen items interned h =
    ap (list_of a.names) items ∙ name_added b.rules interned h.numbered ∙ ap (λ (l : Listed). with_name_alone l name) seen

-- memory was refused before the name was given a number
pub list-stays : (list new : Listed) (place count : ℕ) (name : List ℕ) (r : Result ℕ PlaceRefusal) → IsErrAnd r (λ e. e ≡ places.Memory) → add_answer list place ≡ Ok count → new ≡ list →
    IfErr r (λ e. IsAddRefused list new place name e)
list-stays list new place count name (Ok n) is answer same = absurd is
list-stays list new place count name (Err e) is answer same = subst (λ (x : PlaceRefusal). IsAddRefused list new place name x) (sym is) (placed list place count answer, inl same)

-- memory was refused after the name was given its number
pub name-stays : (a b : Inside) (list : Listed) (place count : ℕ) (name : List ℕ) (given : ℕ) (r : Result ℕ PlaceRefusal) → IsErrAnd r (λ e. e ≡ places.Memory) → listed b ≡ list → a.rules ≡ b.rules →
    IsInterned b.names a.names name given → IsListing b → add_answer list place ≡ Ok count → IfErr r (λ e. IsAddRefused list (listed a) place name e)
name-stays a b list place count name given (Ok n) is seen items interned h answer = absurd is
name-stays a b list place count name given (Err e) is seen items interned h answer =
    subst (λ (x : PlaceRefusal). IsAddRefused list (listed a) place name x) (sym is) (placed list place count answer, inr (named-list a b list name given seen items interned h))

-- a rule was put into the list with the parts of another
pub is-put : (old new : List code.Rule) (index decision : ℕ) (rule put : code.Rule) → new ≡ insert old index put → put.source ≡ rule.source → put.destination ≡ rule.destination → put.ports ≡ rule.ports →
    put.protocol ≡ rule.protocol → put.decision ≡ decision → IsFilterRule rule → IsPut old new index rule decision
is-put old new index decision rule put items source destination ports protocol decides spelled = record {
  put = put;
  items = items;
  sets = cc;
  decides = decides;
  spelled = record {
    source = subst (IsPrefix 32) (sym source) spelled.source;
    destination = subst (IsPrefix 32) (sym destination) spelled.destination;
    source_ports = subst (λ sets. ∥ ArePorts (slice_index_or sets 0 []) ∥₁) (sym ports) spelled.source_ports;
    destination_ports = subst (λ sets. ∥ ArePorts (slice_index_or sets 1 []) ∥₁) (sym ports) spelled.destination_ports;
    protocol = subst IsProtocol (sym protocol) spelled.protocol;
  };
}

-- the place is one of the list's, or the one behind them
pub place-inside : (b : Inside) (list : Listed) (place count : ℕ) → listed b ≡ list → add_answer list place ≡ Ok count → place - 1 ≤ length b.rules
place-inside b list place count seen answer =
    let fit : Fits place (length list.rules) count = fits list place count answer in
    let same : length list.rules ≡ length b.rules = ap (λ (l : Listed). length l.rules) (sym seen) ∙ length-map b.rules (named_rule b.names) in
    let high = fit.high in
    omega (arith, high, same)

-- a rule was added
pub added-listing : (a b : Inside) (list : Listed) (place count : ℕ) (name : List ℕ) (rule r : code.Rule) → listed b ≡ list → a.rules ≡ insert b.rules (place - 1) r → IsInterned b.names a.names name r.decision →
    IsFilterRule r → add_answer list place ≡ Ok count → IsListing b → IsListing a
added-listing a b list place count name rule r seen items interned filter answer h =
    let fit : Fits place (length list.rules) count = fits list place count answer in
    let same : length list.rules ≡ length b.rules = ap (λ (l : Listed). length l.rules) (sym seen) ∙ length-map b.rules (named_rule b.names) in
    let few = h.few in
    let room = fit.room in
    let long = length-insert b.rules (place - 1) r (place-inside b list place count seen answer) in
    record {
      few = subst (λ (rs : List code.Rule). length rs ≤ 65536) (sym items) (omega (arith, long, few, room, same));
      spelled = subst (All IsFilterRule) (sym items) (All-insert IsFilterRule b.rules (place - 1) r h.spelled filter);
      numbered = subst (All (IsNumberedBy a.names)) (sym items)
          (All-insert (IsNumberedBy a.names) b.rules (place - 1) r (still_numbered b.names a.names name b.rules interned.names h.numbered) interned.within);
    }

pub added-list : (a b : Inside) (list : Listed) (place : ℕ) (name : List ℕ) (rule r : code.Rule) → listed b ≡ list → a.rules ≡ insert b.rules (place - 1) r → IsInterned b.names a.names name r.decision →
    sets_of r ≡ sets_of rule → IsListing b → listed a ≡ with_rule list place (rule_named name rule)
added-list a b list place name rule r seen items interned sets h =
    ap (list_of a.names) items ∙ rule_added b.rules place rule r interned h.numbered sets refl ∙ ap (λ (l : Listed). with_rule l place (rule_named name rule)) seen

-- the rules come one behind the other in their order
pub settled-listing : (a : Inside) (list : Listed) (rules : List code.Rule) → a.rules ≡ rules → a.names ≡ list.names → All (IsNumberedBy list.names) rules → All IsFilterRule rules → length rules ≤ 65536 → IsListing a
settled-listing a list rules items names numbered spelled few = record {
  few = subst (λ (rs : List code.Rule). length rs ≤ 65536) (sym items) few;
  spelled = subst (All IsFilterRule) (sym items) spelled;
  numbered = subst (λ (ns : List (List ℕ)). All (IsNumberedBy ns) a.rules) (sym names) (subst (All (IsNumberedBy list.names)) (sym items) numbered);
}

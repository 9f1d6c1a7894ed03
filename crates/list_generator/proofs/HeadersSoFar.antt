-- The headers that were drawn so far, and one more.
use Rattle.std.proofs.Common.{◌≡◌, ◌∷◌, ◌++◌, ℕ, suc, List, [], ap, append-nil, append_assoc, map, subst, sym, ◌∙◌}
use Rattle.std.proofs.lemmas.List.{map-append}
use Rattle.field_boxes.specs.declared.header.Header.{Header}
use Rattle.list_generator.specs.Draws.{state_after}
use Rattle.list_generator.specs.DrawnHeaders.{drawn_header, drawn_headers}

abbrev pub values : List Header → List (List ℕ)
values headers = map (λ h. h.values) headers

pub one_more : (left next state after : ℕ) (headers : List Header) (header : Header) (all : List (List ℕ)) → left ≡ suc next → header.values ≡ drawn_header state → after ≡ state_after 5 state →
    values headers ++ drawn_headers left state ≡ all → values (headers ++ header ∷ []) ++ drawn_headers next after ≡ all
one_more left next state after headers header all e is turned whole =
    ap (λ (hs : List (List ℕ)). hs ++ drawn_headers next after) (map-append (λ (h : Header). h.values) headers (header ∷ []))
    ∙ append_assoc (values headers) (header.values ∷ []) (drawn_headers next after)
    ∙ ap (λ (v : List ℕ). values headers ++ v ∷ drawn_headers next after) is
    ∙ ap (λ (s : ℕ). values headers ++ drawn_header state ∷ drawn_headers next s) turned
    ∙ subst (λ (n : ℕ). values headers ++ drawn_headers n state ≡ all) e whole

pub all_drawn : (left state : ℕ) (headers : List (List ℕ)) (all : List (List ℕ)) → left ≡ 0 → headers ++ drawn_headers left state ≡ all → headers ≡ all
all_drawn left state headers all none whole = sym (append-nil headers) ∙ subst (λ (n : ℕ). headers ++ drawn_headers n state ≡ all) none whole

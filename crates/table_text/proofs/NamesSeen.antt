-- The names of decisions that were read.
use Rattle.std.proofs.Common.{◌≡◌, ◌∷◌, ◌++◌, ℕ, List, Bool, true, false, cond, [], Some, None, All, IsTrue, ◌||◌, bytes_eq}
use Rattle.std.proofs.lemmas.Bool.{cond_both}
use Rattle.std.specs.List.{list_any}
use Rattle.std.proofs.lemmas.List.Elements.{All-push}
use Rattle.field_boxes.specs.Headline.Names.{miss}
use Rattle.field_boxes.specs.Names.{is_decision_word}
use Rattle.table_text.specs.Names.{decided, is_decision, is_name, is_rule_name}
use Rattle.table_text.specs.Seen.{with_decided}

abbrev Named : List (List ℕ) → Type 0
Named names = All (λ name. IsTrue (is_name name)) names

with_text : (names : List (List ℕ)) (text : List ℕ) (t : Bool) → Named names → t || is_decision_word text || is_rule_name text ≡ true → Named (with_decided names (cond t None (Some text)))
with_text names text true named h = named
with_text names text false named h =
    cond_both (list_any (bytes_eq text) names) names (names ++ text ∷ []) Named (λ e. named) (λ e. All-push (λ x. IsTrue (is_name x)) names text named h)

-- with a decision that was read, each name can be spelled
pub decision_named : (names : List (List ℕ)) (text : List ℕ) → Named names → is_decision text ≡ true → Named (with_decided names (decided text))
decision_named names text named h = with_text names text (bytes_eq text miss) named h

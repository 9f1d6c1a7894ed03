-- A line that adds a rule has at least 40 bytes.
use Rattle.std.proofs.Common.{◌≡◌, ◌∷◌, ℕ, ◌+◌, ◌*◌, ◌≤◌, List, Bool, true, false, cond, [], ap, refl, subst, arith, length, Some, None, Ok, Err}
use Rattle.std.specs.Prelude.{Option, Result, codes, ok_or}
use Rattle.std.specs.Result.{result_ok}
use Rattle.std.specs.Str.{bytes_eq}
use Rattle.std.proofs.lemmas.Option.{option_and_then_some}
use Rattle.std.proofs.lemmas.Slice.Eq.{bytes_eq-Decides}
use Rattle.field_boxes.specs.Headline.Classifier.{Rule}
use Rattle.filter_reader.specs.Headline.RuleLine.{rule_line}
use Rattle.filter_reader.specs.declared.reason.Reason.{Reason}
use Rattle.text_lines.specs.Columns.{columns, first_column, behind_column}
use Rattle.bank_update.specs.Script.{values_of}
use Rattle.edit_session.specs.declared.reason.SessionReason.{SessionReason}
use Rattle.edit_session.specs.declared.reason.SessionReason.TheVariants.{Arguments}
use Rattle.edit_session.specs.SessionText.{SessionEvent, TakeOut, Commit, Step, Abort, Look, Stage, add_of, event_behind, event_named, event_of_line, is_add, look_of, other_named, place_column, rule_of, take_out_of, when_done}
use Rattle.edit_session.proofs.Behind.{cut}
use Rattle.edit_session.proofs.RuleBytes.{rule_bytes}

spelled_ok : {A : Type 0} (r : Result A Reason) (x : A) → result_ok r ≡ Some x → r ≡ Ok x
spelled_ok (Ok y) x h = cc
spelled_ok (Err e) x h = absurd (cc)

rule_text : (text : List ℕ) (rule : Rule (List ℕ)) → rule_of text ≡ Some rule → 36 ≤ length text
unfolding rule_of
rule_text text rule h = option_and_then_some _ (result_ok (rule_line 0 text)) rule h (λ spelled es hs. rule_bytes 0 text spelled (spelled_ok (rule_line 0 text) spelled es))

no_place : {P : Type 0} (place : ℕ × List (List ℕ)) → place_column [] ≡ Some place → P
unfolding place_column
no_place place h = absurd (cc)

-- what was read where a rule is added
added : {P : Type 0} (p : Option (ℕ × List (List ℕ))) (r : Option (Rule (List ℕ))) (event : SessionEvent) → add_of p r ≡ Ok event → ((place : ℕ × List (List ℕ)) (rule : Rule (List ℕ)) → p ≡ Some place → r ≡ Some rule → P) → P
added None r event h k = absurd (cc)
added (Some place) None event h k = absurd (cc)
added (Some place) (Some rule) event h k = k place rule refl refl

place_text : (text : List ℕ) (cs : List (List ℕ)) (place : ℕ × List (List ℕ)) → columns text ≡ cs → place_column cs ≡ Some place → 1 + length (behind_column text) ≤ length text
place_text text [] place e h = no_place place h
place_text text (word ∷ more) place e h = let at = cut text word more e in omega (arith, at.some, at.fits)

add_text : (text : List ℕ) (event : SessionEvent) → add_of (place_column (columns text)) (rule_of (behind_column text)) ≡ Ok event → 37 ≤ length text
add_text text event h =
    added (place_column (columns text)) (rule_of (behind_column text)) event h (λ place rule ep er.
    omega (arith, place_text text (columns text) place refl ep, rule_text (behind_column text) rule er))

-- the commands that add no rule
done : (event : SessionEvent) (cs : List (List ℕ)) → is_add event ≡ false → (e : SessionEvent) → when_done event cs ≡ Some e → is_add e ≡ false
done event [] other e h = let same : event ≡ e = cc in subst (λ (x : SessionEvent). is_add x ≡ false) same other
done event (c ∷ cs) other e h = absurd (cc)

took_out : (cs : List (List ℕ)) (e : SessionEvent) → take_out_of cs ≡ Some e → is_add e ≡ false
unfolding take_out_of
took_out cs e h = option_and_then_some _ (place_column cs) e h (λ place ep hp. done (TakeOut place.0) place.1 refl e hp)

looked : (cs : List (List ℕ)) (e : SessionEvent) → look_of cs ≡ Some e → is_add e ≡ false
unfolding look_of
looked cs e h =
    option_and_then_some _ (values_of cs) e h (λ values ev hv. done (Look values.0) values.1 refl e hv)

-- one command or the others
either : (t : Bool) (o : Option SessionEvent) (r : Result SessionEvent SessionReason) (e : SessionEvent) → ((x : SessionEvent) → o ≡ Some x → is_add x ≡ false) → (r ≡ Ok e → is_add e ≡ false) → cond t (ok_or o Arguments) r ≡ Ok e → is_add e ≡ false
either true None r e this others h = absurd (cc)
either true (Some x) r e this others h = let same : x ≡ e = cc in subst (λ (y : SessionEvent). is_add y ≡ false) same (this x refl)
either false o r e this others h = others h

other_adds_none : (word : List ℕ) (cs : List (List ℕ)) (e : SessionEvent) → other_named word cs ≡ Ok e → is_add e ≡ false
unfolding other_named
other_adds_none word cs e h =
    either (bytes_eq word (codes "drop")) (take_out_of cs) _ e (λ x is. took_out cs x is)
    (either (bytes_eq word (codes "commit")) (when_done Commit cs) _ e (λ x is. done Commit cs refl x is)
    (either (bytes_eq word (codes "step")) (when_done Step cs) _ e (λ x is. done Step cs refl x is)
    (either (bytes_eq word (codes "abort")) (when_done Abort cs) _ e (λ x is. done Abort cs refl x is)
    (either (bytes_eq word (codes "look")) (look_of cs) _ e (λ x is. looked cs x is)
    (either (bytes_eq word (codes "stage")) (when_done Stage cs) _ e (λ x is. done Stage cs refl x is)
    (λ unknown. absurd (cc))))))) h

-- 1 for a command that adds a rule
abbrev pub adds : SessionEvent → ℕ
adds event = cond (is_add event) 1 0

adds_le : (event : SessionEvent) (t : Bool) → is_add event ≡ t → adds event ≤ 1
adds_le event true h = rw h (omega arith)
adds_le event false h = rw h (omega arith)

adds_none : (event : SessionEvent) (n : ℕ) → is_add event ≡ false → 40 * adds event ≤ n
adds_none event n h = rw h (omega arith)

named_bytes : (line word : List ℕ) (event : SessionEvent) (t : Bool) → bytes_eq word (codes "add") ≡ t → length word + length (behind_column line) ≤ length line → event_named word (behind_column line) ≡ Ok event → 40 * adds event ≤ length line
named_bytes line word event true e fits h =
    let named = rw e at h in
    let text = add_text (behind_column line) event named in
    let three : length word ≡ 3 = ap (λ (w : List ℕ). length w) ((bytes_eq-Decides word (codes "add")).0 e) in
    let one = adds_le event (is_add event) refl in
    omega (arith, text, three, one, fits)
named_bytes line word event false e fits h = let named = rw e at h in adds_none event (length line) (other_adds_none word (columns (behind_column line)) event named)

line_step : (line : List ℕ) (cs : List (List ℕ)) (event : SessionEvent) → columns line ≡ cs → event_behind (first_column cs) (behind_column line) ≡ Ok event → 40 * adds event ≤ length line
line_step line [] event e h = absurd (cc)
line_step line (word ∷ more) event e h = named_bytes line word event (bytes_eq word (codes "add")) refl (cut line word more e).fits h

pub line_bytes : (line : List ℕ) (event : SessionEvent) → event_of_line line ≡ Ok event → 40 * adds event ≤ length line
line_bytes line event h = line_step line (columns line) event refl h

-- A command of a session adds one name at most, and only where it adds a rule.
use Rattle.std.proofs.Common.{◌≡◌, ℕ, ◌+◌, ◌≤◌, ◌<◌, Bool, true, false, cond, List, [], ◌∷◌, ◌++◌, Result, Ok, Err, refl, sym, ap, ◌∙◌, length, take, drop, take-append-drop, arith}
use Rattle.std.specs.Prelude.{if◌then◌else◌, IsTrue}
use Rattle.std.proofs.lemmas.List.{length-append}
use Rattle.std.proofs.lemmas.List.Sums.{sum_by-append}
use Rattle.field_boxes.specs.Headline.Classifier.{Rule}
use Rattle.field_boxes.specs.Names.{is_known}
use Rattle.bank_update.specs.Runs.{step_fails}
use Rattle.edit_session.specs.Lists.{Listed, add_answer, added_by, is_within, without_rule}
use Rattle.edit_session.specs.Machine.{IsCommit, SessionState, stepped}
use Rattle.edit_session.specs.SessionEnds.{adds_of}
use Rattle.edit_session.specs.SessionRuns.{IsTurn}
use Rattle.edit_session.specs.SessionText.{SessionEvent, Add, TakeOut, Commit, Step, Abort, Look, Stage, is_add}
use Rattle.edit_session.specs.declared.refusal.CommitRefusal.{CommitRefusal}
use Rattle.edit_session.specs.declared.refusal.CommitRefusal.TheVariants as commits
use Rattle.edit_session.specs.declared.refusal.PlaceRefusal.{PlaceRefusal}

-- how many names there are
abbrev count_of : SessionState → ℕ
count_of s = length s.list.names

one_more : (names : List (List ℕ)) (name : List ℕ) (t : Bool) → length (if t then names else names ++ name ∷ []) ≤ length names + 1
one_more names name true = omega arith
one_more names name false = simp length-append (omega arith)

add_by : (r : Result ℕ PlaceRefusal) (list : Listed) (place : ℕ) (rule : Rule (List ℕ)) → length (added_by r list place rule).names ≤ length list.names + 1
add_by (Ok count) list place rule = one_more list.names rule.decision (is_known list.names rule.decision)
add_by (Err refusal) list place rule = omega arith

out_by : (t : Bool) (list : Listed) (place : ℕ) → (if t then without_rule list place else list).names ≡ list.names
out_by true list place = refl
out_by false list place = refl

step_by : (t : Bool) (s : SessionState) → count_of (if t then s else stepped s) ≡ count_of s
step_by true s = refl
step_by false s = refl

commit_by : (s new : SessionState) (r : Result ℕ CommitRefusal) → IsCommit s new r → count_of new ≡ count_of s
commit_by s new (Ok total) h = ap count_of h.session
commit_by s new (Err commits.Busy) h = ap count_of h.1
commit_by s new (Err (commits.TooMany needed limit)) h = ap count_of h.1
commit_by s new (Err (commits.NoRoom above below wanted)) h = ap count_of h.1
commit_by s new (Err (commits.NoSlots needed slots)) h = ap count_of h.1
commit_by s new (Err commits.Memory) h = ap count_of h.1

pub turn-names : (s new : SessionState) (event : SessionEvent) (fails : Bool) (line : List ℕ) → IsTurn s event fails new line → count_of new ≤ count_of s + cond (is_add event) 1 0
turn-names s new (Add place rule) fails line turn = omega (arith, ap count_of turn.0, add_by (add_answer s.list place) s.list place rule)
turn-names s new (TakeOut place) fails line turn = omega (arith, ap count_of turn.0, ap (λ (ns : List (List ℕ)). length ns) (out_by (is_within place (length s.list.rules)) s.list place))
turn-names s new Commit fails line turn = omega (arith, commit_by s new turn.answer turn.commit)
turn-names s new Step fails line turn = omega (arith, ap count_of turn.0, step_by (step_fails s.state fails) s)
turn-names s new Abort fails line turn = omega (arith, ap count_of turn.0)
turn-names s new (Look values) fails line turn = omega (arith, ap count_of turn.0)
turn-names s new Stage fails line turn = omega (arith, ap count_of turn.0)

-- the commands up to the next one add so many rules
pub adds-next : (session : List SessionEvent) (i : ℕ) (event : SessionEvent) → take (i + 1) session ≡ take i session ++ event ∷ [] →
    (adds_of (take (i + 1) session) ≡ adds_of (take i session) + cond (is_add event) 1 0) × (adds_of (take (i + 1) session) ≤ adds_of session)
adds-next session i event is =
    let one : SessionEvent → ℕ = λ e. cond (is_add e) 1 0 in
    let whole : adds_of session ≡ adds_of (take (i + 1) session) + adds_of (drop (i + 1) session) =
    ap adds_of (sym (take-append-drop (i + 1) session)) ∙ sum_by-append one (take (i + 1) session) (drop (i + 1) session) in
    let first : adds_of (event ∷ []) ≡ cond (is_add event) 1 0 = omega arith in
    (ap adds_of is ∙ sum_by-append one (take i session) (event ∷ []) ∙ ap (λ n. adds_of (take i session) + n) first, omega (arith, whole))

-- there is room for the name of the next command, where all the names of the session have room
pub wants-room : (start s : SessionState) (session : List SessionEvent) (i : ℕ) (event : SessionEvent) → take (i + 1) session ≡ take i session ++ event ∷ [] →
    count_of s ≤ count_of start + adds_of (take i session) → count_of start + adds_of session < 262144 → IsTrue (is_add event) → count_of s < 262144
wants-room start s session i event is so_far room add =
    let next = adds-next session i event is in
    let one : ◌≡◌ {A = ℕ} (cond (is_add event) 1 0) 1 = ap (λ (t : Bool). cond {A = ℕ} t 1 0) add in
    let more = next.0 in
    let most = next.1 in
    omega (arith, so_far, room, more, most, one)

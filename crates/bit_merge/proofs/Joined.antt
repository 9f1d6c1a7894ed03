-- Joining two entries keeps the answers.
use Rattle.std.proofs.Common.{◌≡◌, ◌∷◌, ◌++◌, ℕ, List, [], ap, refl, sym, ◌∙◌, Bool, true, false, Some, Option, cond, ◌||◌, find, option_and_then}
use Rattle.ternary_words.specs.Headline.Word.{header_bits}
use Rattle.ternary_words.specs.Headline.Table.{Entry, entry_matches, answer}
use Rattle.bit_merge.specs.Merge.{CanJoin, AllDecide, Pair, IsPair, joint, joined}
use Rattle.bit_merge.proofs.Words.{join-agrees}

-- what the first match decides
abbrev pub decided : Option Entry → Option (List ℕ)
decided found = option_and_then (λ e. e.decision) found

behind_step : (t : Bool) (e : Entry) (m n : Option Entry) → decided m ≡ decided n → decided (cond t (Some e) m) ≡ decided (cond t (Some e) n)
behind_step true e m n h = refl
behind_step false e m n h = h

-- the same entries in front of tables that answer alike
pub behind : (before xs ys : List Entry) (key : List ℕ) → answer xs key ≡ answer ys key → answer (before ++ xs) key ≡ answer (before ++ ys) key
behind [] xs ys key h = h
behind (e ∷ before) xs ys key h =
    behind_step (entry_matches key e) e (find (entry_matches key) (before ++ xs)) (find (entry_matches key) (before ++ ys)) (behind before xs ys key h)

run_step : (t : Bool) (e : Entry) (m : Option Entry) (d : Option (List ℕ)) → e.decision ≡ d → decided m ≡ d → decided (cond t (Some e) m) ≡ d
run_step true e m d h k = h
run_step false e m d h k = k

-- entries of one decision in front of a table that answers it
pub run_answer : (d : Option (List ℕ)) (entries xs : List Entry) (key : List ℕ) → AllDecide d entries → answer xs key ≡ d → answer (entries ++ xs) key ≡ d
run_answer d [] xs key all h = h
run_answer d (e ∷ entries) xs key all h =
    run_step (entry_matches key e) e (find (entry_matches key) (entries ++ xs)) d all.0 (run_answer d entries xs key all.1 h)

-- the first entry matches, or doesn't
pub matching : (e : Entry) (xs : List Entry) (key : List ℕ) → entry_matches key e ≡ true → answer (e ∷ xs) key ≡ e.decision
matching e xs key h = rw h refl

pub passing : (e : Entry) (xs : List Entry) (key : List ℕ) → entry_matches key e ≡ false → answer (e ∷ xs) key ≡ answer xs key
passing e xs key h = rw h refl

joint_step : (x y : Entry) (between after : List Entry) (key : List ℕ) (s t : Bool) → entry_matches key x ≡ s → entry_matches key y ≡ t →
    entry_matches key (joint x y) ≡ (s || t) → AllDecide x.decision between → y.decision ≡ x.decision →
    answer (joint x y ∷ between ++ after) key ≡ answer (x ∷ between ++ (y ∷ after)) key
joint_step x y between after key true t p q r all d = matching (joint x y) (between ++ after) key r ∙ sym (matching x (between ++ (y ∷ after)) key p)
joint_step x y between after key false true p q r all d =
    matching (joint x y) (between ++ after) key r
    ∙ sym (passing x (between ++ (y ∷ after)) key p ∙ run_answer x.decision between (y ∷ after) key all (matching y after key q ∙ d))
joint_step x y between after key false false p q r all d =
    passing (joint x y) (between ++ after) key r ∙ behind between after (y ∷ after) key (sym (passing y after key q))
    ∙ sym (passing x (between ++ (y ∷ after)) key p)

pub joint-alike : (before : List Entry) (x : Entry) (between : List Entry) (y : Entry) (after : List Entry) (key : List ℕ) →
    AllDecide x.decision between → y.decision ≡ x.decision → CanJoin x.word y.word →
    answer (before ++ (joint x y ∷ between ++ after)) key ≡ answer (before ++ (x ∷ between ++ (y ∷ after))) key
joint-alike before x between y after key all d j =
    behind before (joint x y ∷ between ++ after) (x ∷ between ++ (y ∷ after)) key
    (joint_step x y between after key (entry_matches key x) (entry_matches key y) refl refl (join-agrees x.word y.word (header_bits key) j) all d)

pub joined-alike : (entries : List Entry) (p : Pair) (key : List ℕ) → IsPair entries p → answer (joined p) key ≡ answer entries key
joined-alike entries p key h =
    joint-alike p.before p.first p.between p.second p.after key h.between h.second h.joinable ∙ ap (λ es. answer es key) (sym h.parts)

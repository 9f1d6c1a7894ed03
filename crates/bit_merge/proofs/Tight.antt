-- Joining two entries of a tight table leaves a tight table.
use Rattle.std.proofs.Common.{◌≡◌, ◌∷◌, ◌++◌, ℕ, List, [], ap, refl, sym, ◌∙◌, subst, Bool, true, false, Some, Option, inl, inr, ◌≢◌, cond, find, append_assoc}
use Rattle.ternary_words.specs.Headline.Table.{Entry, entry_matches, answer}
use Rattle.bit_merge.specs.Merge.{CanJoin, AllDecide, Pair, IsPair, joint, joined}
use Rattle.bit_merge.proofs.Splits.{InFirst, InSecond, in_parts}
use Rattle.bit_merge.proofs.Joined.{decided, behind, run_answer, matching, passing, joint-alike}

-- each entry alone, left out, changes the answer of some key
abbrev pub IsTight : (List ℕ → Type 0) → List Entry → Type 0
IsTight IsKey entries = (before : List Entry) (e : Entry) (after : List Entry) → entries ≡ before ++ (e ∷ after) →
    (key : List ℕ) × IsKey key × (answer (before ++ after) key ≢ answer entries key)

-- some key has another answer in the first table than in the second one
abbrev Changes : (List ℕ → Type 0) → List Entry → List Entry → Type 0
Changes IsKey xs ys = (key : List ℕ) × IsKey key × (answer xs key ≢ answer ys key)

alter : (IsKey : List ℕ → Type 0) (us vs xs ys : List Entry) → ((key : List ℕ) → answer xs key ≡ answer ys key → answer us key ≡ answer vs key) → Changes IsKey us vs → Changes IsKey xs ys
alter IsKey us vs xs ys f c = (c.0, c.1, λ e. c.2 (f c.0 e))

all-left : (d : Option (List ℕ)) (xs : List Entry) (e : Entry) (ys : List Entry) → AllDecide d (xs ++ (e ∷ ys)) → AllDecide d (xs ++ ys)
all-left d [] e ys all = all.1
all-left d (x ∷ xs) e ys all = (all.0, all-left d xs e ys all.1)

-- a table in which two entries can be joined
record IsTwo (x : Entry) (between : List Entry) (y : Entry) : Type 0 where
  all : AllDecide x.decision between
  second : y.decision ≡ x.decision
  joinable : CanJoin x.word y.word

abbrev two : Entry → List Entry → Entry → List Entry → List Entry
two x between y after = x ∷ between ++ (y ∷ after)

abbrev one : Entry → List Entry → Entry → List Entry → List Entry
one x between y after = joint x y ∷ between ++ after

alike : (before : List Entry) (x : Entry) (between : List Entry) (y : Entry) (after : List Entry) (key : List ℕ) → IsTwo x between y →
    answer (before ++ one x between y after) key ≡ answer (before ++ two x between y after) key
alike before x between y after key is = joint-alike before x between y after key is.all is.second is.joinable

-- where the answer stays without both entries, it stays without the first one
without_second : (between : List Entry) (y : Entry) (after : List Entry) (key : List ℕ) (d : Option (List ℕ)) (t : Bool) → entry_matches key y ≡ t →
    AllDecide d between → y.decision ≡ d → answer (between ++ after) key ≡ d → answer (between ++ (y ∷ after)) key ≡ d
without_second between y after key d true q all e h = run_answer d between (y ∷ after) key all (matching y after key q ∙ e)
without_second between y after key d false q all e h = behind between (y ∷ after) after key (passing y after key q) ∙ h

without_here : (x : Entry) (between : List Entry) (y : Entry) (after : List Entry) (key : List ℕ) (t : Bool) → entry_matches key x ≡ t → IsTwo x between y →
    answer (between ++ after) key ≡ answer (two x between y after) key → answer (between ++ (y ∷ after)) key ≡ answer (two x between y after) key
without_here x between y after key true p is h =
    let m = matching x (between ++ (y ∷ after)) key p in
    without_second between y after key x.decision (entry_matches key y) refl is.all is.second (h ∙ m) ∙ sym m
without_here x between y after key false p is h = sym (passing x (between ++ (y ∷ after)) key p)

without_step : (t : Bool) (e : Entry) (l m n : Option Entry) → (decided l ≡ decided n → decided m ≡ decided n) →
    decided (cond t (Some e) l) ≡ decided (cond t (Some e) n) → decided (cond t (Some e) m) ≡ decided (cond t (Some e) n)
without_step true e l m n f h = refl
without_step false e l m n f h = f h

without_both : (before : List Entry) (x : Entry) (between : List Entry) (y : Entry) (after : List Entry) (key : List ℕ) → IsTwo x between y →
    answer (before ++ (between ++ after)) key ≡ answer (before ++ two x between y after) key →
    answer (before ++ (between ++ (y ∷ after))) key ≡ answer (before ++ two x between y after) key
without_both [] x between y after key is h = without_here x between y after key (entry_matches key x) refl is h
without_both (b ∷ before) x between y after key is h =
    without_step (entry_matches key b) b (find (entry_matches key) (before ++ (between ++ after))) (find (entry_matches key) (before ++ (between ++ (y ∷ after))))
    (find (entry_matches key) (before ++ two x between y after)) (without_both before x between y after key is) h

module _ (IsKey : List ℕ → Type 0) (before : List Entry) (x : Entry) (between : List Entry) (y : Entry) (after : List Entry) (is : IsTwo x between y) where
  -- any other entry, where the table without it has the same two to join
  other_case : (us xs : List Entry) → ((key : List ℕ) → answer us key ≡ answer xs key) → Changes IsKey xs (before ++ two x between y after) → Changes IsKey us (before ++ one x between y after)
  other_case us xs f c =
      alter IsKey xs (before ++ two x between y after) us (before ++ one x between y after)
      (λ key h. sym (f key) ∙ h ∙ alike before x between y after key is) c

  module _ (t : IsTight IsKey (before ++ two x between y after)) where
    -- the join
    joint_case : Changes IsKey (before ++ (between ++ after)) (before ++ one x between y after)
    joint_case =
        alter IsKey (before ++ (between ++ (y ∷ after))) (before ++ two x between y after) (before ++ (between ++ after)) (before ++ one x between y after)
        (λ key h. without_both before x between y after key is (h ∙ alike before x between y after key is))
        (t before x (between ++ (y ∷ after)) refl)

    before_case : (b : List Entry) (e : Entry) (a : List Entry) → InFirst before (one x between y after) b e a → Changes IsKey (b ++ a) (before ++ one x between y after)
    before_case b e a i =
        let X = two x between y after in
        other_case (b ++ a) (b ++ (i.rest ++ X))
        (λ key. ap (λ l. answer (b ++ l) key) i.then ∙ behind b (i.rest ++ one x between y after) (i.rest ++ X) key (alike i.rest x between y after key is))
        (t b e (i.rest ++ X) (ap (λ l. l ++ X) i.first ∙ append_assoc b (e ∷ i.rest) X))

    between_case : (start : List Entry) (e : Entry) (a : List Entry) → InFirst between after start e a → Changes IsKey (before ++ (joint x y ∷ start ++ a)) (before ++ one x between y after)
    between_case start e a i =
        other_case (before ++ (joint x y ∷ start ++ a)) (before ++ (x ∷ start ++ (i.rest ++ (y ∷ after))))
        (λ key.
        ap (λ l. answer (before ++ (joint x y ∷ start ++ l)) key) i.then
        ∙ ap (λ l. answer (before ++ (joint x y ∷ l)) key) (sym (append_assoc start i.rest after))
        ∙ alike before x (start ++ i.rest) y after key record { all = all-left x.decision start e i.rest (subst (AllDecide x.decision) i.first is.all); second = is.second; joinable = is.joinable }
        ∙ ap (λ l. answer (before ++ (x ∷ l)) key) (append_assoc start i.rest (y ∷ after)))
        (subst (λ l. Changes IsKey l (before ++ two x between y after)) (append_assoc before (x ∷ start) (i.rest ++ (y ∷ after)))
        (t (before ++ (x ∷ start)) e (i.rest ++ (y ∷ after))
        (ap (λ l. before ++ (x ∷ l ++ (y ∷ after))) i.first ∙ ap (λ l. before ++ (x ∷ l)) (append_assoc start (e ∷ i.rest) (y ∷ after))
        ∙ sym (append_assoc before (x ∷ start) (e ∷ i.rest ++ (y ∷ after))))))

    after_case : (start : List Entry) (e : Entry) (a : List Entry) → InSecond between after start e a → Changes IsKey (before ++ (joint x y ∷ start ++ a)) (before ++ one x between y after)
    after_case start e a i =
        other_case (before ++ (joint x y ∷ start ++ a)) (before ++ two x between y (i.start ++ a))
        (λ key.
        ap (λ l. answer (before ++ (joint x y ∷ l ++ a)) key) i.first
        ∙ ap (λ l. answer (before ++ (joint x y ∷ l)) key) (append_assoc between i.start a)
        ∙ alike before x between y (i.start ++ a) key is)
        (subst (λ l. Changes IsKey l (before ++ two x between y after)) (append_assoc before (two x between y i.start) a ∙ ap (λ l. before ++ (x ∷ l)) (append_assoc between (y ∷ i.start) a))
        (t (before ++ two x between y i.start) e a
        (ap (λ l. before ++ two x between y l) i.then ∙ ap (λ l. before ++ (x ∷ l)) (sym (append_assoc between (y ∷ i.start) (e ∷ a)))
        ∙ sym (append_assoc before (two x between y i.start) (e ∷ a)))))

    later_case : (start : List Entry) (e : Entry) (a : List Entry) → one x between y after ≡ start ++ (e ∷ a) → Changes IsKey (before ++ (start ++ a)) (before ++ one x between y after)
    later_case [] e a h =
        let k : between ++ after ≡ a = cc h in subst (λ l. Changes IsKey (before ++ l) (before ++ one x between y after)) k joint_case
    later_case (s ∷ start) e a h =
        let k : between ++ after ≡ start ++ (e ∷ a) = cc h in
        let m : joint x y ≡ s = cc h in
        subst (λ l. Changes IsKey (before ++ (l ∷ start ++ a)) (before ++ one x between y after)) m
        (elim (in_parts between after start e a k) [ inl i ↦ between_case start e a i | inr i ↦ after_case start e a i ])

pub joined-tight : (IsKey : List ℕ → Type 0) (entries : List Entry) (p : Pair) → IsPair entries p → IsTight IsKey entries → IsTight IsKey (joined p)
joined-tight IsKey entries p h t b e a k =
    let is : IsTwo p.first p.between p.second = record { all = h.between; second = h.second; joinable = h.joinable } in
    let u = subst (IsTight IsKey) h.parts t in
    elim (in_parts p.before (one p.first p.between p.second p.after) b e a k) [
      | inl i ↦ before_case IsKey p.before p.first p.between p.second p.after is u b e a i
      | inr i ↦ subst (λ l. Changes IsKey l (joined p))
          (sym (append_assoc p.before i.start a) ∙ ap (λ l. l ++ a) (sym i.first))
          (later_case IsKey p.before p.first p.between p.second p.after is u i.start e a i.then)
    ]

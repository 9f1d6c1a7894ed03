-- A cover, step by step.
use Rattle.std.proofs.Common.{◌≡◌, ◌∷◌, ◌++◌, ℕ, zero, suc, ◌+◌, ◌-◌, ◌<◌, List, [], Bool, true, false, max, min, length, ap, refl, sym, subst, ◌∙◌, arith, append_assoc}
use Rattle.std.specs.Bool.{OnFalse, OnTrue}
use Rattle.std.proofs.Math.Nat.{zero-max}
use Rattle.partition_check.proofs.Outcomes.{on_false}
use Rattle.ternary_words.specs.declared.word.Word.{Word}
use Rattle.agreement_check.specs.declared.step.Step.{Step}
use Rattle.agreement_check.specs.declared.step.Step.TheVariants.{InRule, InEntry, Missed, Late, Halved}
use Rattle.agreement_check.specs.Covering.{Breaks, Follows, GoesOn, StandsFor, cubes_before, cubes_left, due_after}
use Rattle.agreement_check.specs.Covers.{Sides, Claim, IsCover, Shows, entries_named, rules_named}
use Rattle.word_cover.specs.Cubes.{Cube, IsOpen, cube_of, one_half, zero_half}
use Rattle.agreement_check.specs.Steps.{are_covers}
use Rattle.agreement_check.specs.Views.{claim_of}
use Rattle.agreement_check.specs.declared.cover.Cover.{Cover}
use Rattle.agreement_check.proofs.Outcomes.{on-both}

-- one word more, as cubes
before_push : (words : List Word) (w : Word) (cubes : List Cube) → cubes_before (words ++ w ∷ []) cubes ≡ cube_of w ∷ cubes_before words cubes
before_push [] w cubes = refl
before_push (x ∷ words) w cubes = before_push words w (cube_of x ∷ cubes)

pub left-push : (words : List Word) (w : Word) → cubes_left (words ++ w ∷ []) ≡ cube_of w ∷ cubes_left words
left-push words w = before_push words w []

-- a step that says alone why the next cube is covered, or doesn't
abbrev pub IsAlone : Step → Type 0
IsAlone (Halved bit) = ⊥
IsAlone step = Unit {0}

pub shown-follows : (s : Sides) (c : Claim) (cube : Cube) (cubes : List Cube) (step : Step) → Shows s c cube step → Follows s c step (cube ∷ cubes) cubes
shown-follows s c cube cubes (InRule k) h = record { enough = λ more t. (h, t); needed = λ more t. t.1 }
shown-follows s c cube cubes (InEntry k) h = record { enough = λ more t. (h, t); needed = λ more t. t.1 }
shown-follows s c cube cubes Missed h = record { enough = λ more t. (h, t); needed = λ more t. t.1 }
shown-follows s c cube cubes Late h = record { enough = λ more t. (h, t); needed = λ more t. t.1 }
shown-follows s c cube cubes (Halved bit) h = absurd h

pub unshown-breaks : (s : Sides) (c : Claim) (cube : Cube) (cubes : List Cube) (step : Step) → IsAlone step → (Shows s c cube step → ⊥) → Breaks s c step (cube ∷ cubes)
unshown-breaks s c cube cubes (InRule k) is not more t = not t.0
unshown-breaks s c cube cubes (InEntry k) is not more t = not t.0
unshown-breaks s c cube cubes Missed is not more t = not t.0
unshown-breaks s c cube cubes Late is not more t = not t.0
unshown-breaks s c cube cubes (Halved bit) is not more t = is

-- a cube that is halved, or can't be
pub halved-follows : (s : Sides) (c : Claim) (cube : Cube) (cubes : List Cube) (bit : ℕ) → IsOpen cube bit → Follows s c (Halved bit) (cube ∷ cubes) (zero_half cube bit ∷ one_half cube bit ∷ cubes)
halved-follows s c cube cubes bit h = record { enough = λ more t. (h, t); needed = λ more t. t.1 }

pub unhalved-breaks : (s : Sides) (c : Claim) (cube : Cube) (cubes : List Cube) (bit : ℕ) → (IsOpen cube bit → ⊥) → Breaks s c (Halved bit) (cube ∷ cubes)
unhalved-breaks s c cube cubes bit not more t = not t.0

-- how many covers are to come
pub due-step : (n : ℕ) (step : Step) (more : List Step) → 0 < n → are_covers n (step ∷ more) ≡ are_covers (due_after n step) more
due-step zero step more h = absurd (omega (arith, h))
due-step (suc n) (InRule k) more h = ap (λ m. are_covers m more) (let e : n ≡ suc n - 1 = omega arith in e)
due-step (suc n) (InEntry k) more h = ap (λ m. are_covers m more) (let e : n ≡ suc n - 1 = omega arith in e)
due-step (suc n) Missed more h = ap (λ m. are_covers m more) (let e : n ≡ suc n - 1 = omega arith in e)
due-step (suc n) Late more h = ap (λ m. are_covers m more) (let e : n ≡ suc n - 1 = omega arith in e)
due-step (suc n) (Halved bit) more h = ap (λ m. are_covers m more) (let e : suc (suc n) ≡ suc n + 1 = omega arith in e)

-- what steps name, and what one more names
max_more : (a b c : ℕ) → max a (max b c) ≡ max (max a b) c
max_more a b c = omega arith

pub rules-more : (steps more : List Step) → rules_named (steps ++ more) ≡ max (rules_named steps) (rules_named more)
rules-more [] more = sym (zero-max (rules_named more))
rules-more (InRule k ∷ steps) more = ap (max (suc k)) (rules-more steps more) ∙ max_more (suc k) (rules_named steps) (rules_named more)
rules-more (InEntry k ∷ steps) more = rules-more steps more
rules-more (Missed ∷ steps) more = rules-more steps more
rules-more (Late ∷ steps) more = rules-more steps more
rules-more (Halved bit ∷ steps) more = rules-more steps more

pub entries-more : (steps more : List Step) → entries_named (steps ++ more) ≡ max (entries_named steps) (entries_named more)
entries-more [] more = sym (zero-max (entries_named more))
entries-more (InEntry k ∷ steps) more = ap (max (suc k)) (entries-more steps more) ∙ max_more (suc k) (entries_named steps) (entries_named more)
entries-more (InRule k ∷ steps) more = entries-more steps more
entries-more (Missed ∷ steps) more = entries-more steps more
entries-more (Late ∷ steps) more = entries-more steps more
entries-more (Halved bit ∷ steps) more = entries-more steps more

-- a step that isn't a bit
pub alone-of : (step : Step) → ((bit : ℕ) → step ≡ Halved bit → ⊥) → IsAlone step
alone-of (InRule k) f = tt
alone-of (InEntry k) f = tt
alone-of Missed f = tt
alone-of Late f = tt
alone-of (Halved bit) f = f bit refl

pub due-alone : (n : ℕ) (step : Step) → IsAlone step → due_after n step ≡ n - 1
due-alone n (InRule k) is = refl
due-alone n (InEntry k) is = refl
due-alone n Missed is = refl
due-alone n Late is = refl
due-alone n (Halved bit) is = absurd is

-- What is kept of a cover, behind one step more.

capped : (a b c d m : ℕ) → a ≡ max c (min d m) → c ≡ min b m → a ≡ min (max b d) m
capped a b c d m e f = omega (arith, e, f)

one_more : (s : Sides) (c : Claim) (steps : List Step) (step : Step) (old new : Cover) → GoesOn s c steps old → Follows s c step (cubes_left old.left.items) (cubes_left new.left.items) →
    length new.left.items ≡ due_after (length old.left.items) step → new.due ≡ due_after old.due step → new.rules ≡ max old.rules (min (rules_named (step ∷ [])) 4294967295) →
    new.entries ≡ max old.entries (min (entries_named (step ∷ [])) 4294967295) → GoesOn s c (steps ++ step ∷ []) new
one_more s c steps step old new g f count due rules entries = record {
  enough = λ more t. subst (IsCover s c) (sym (append_assoc steps (step ∷ []) more)) (g.enough (step ∷ more) (f.enough more t));
  needed = λ more t. f.needed more (g.needed (step ∷ more) (subst (IsCover s c) (append_assoc steps (step ∷ []) more) t));
  each_due = due ∙ ap (λ n. due_after n step) g.each_due ∙ sym count;
  rules = capped new.rules (rules_named steps) old.rules (rules_named (step ∷ [])) 4294967295 rules g.rules ∙ ap (λ n. min n 4294967295) (sym (rules-more steps (step ∷ [])));
  entries = capped new.entries (entries_named steps) old.entries (entries_named (step ∷ [])) 4294967295 entries g.entries ∙ ap (λ n. min n 4294967295) (sym (entries-more steps (step ∷ [])));
}

form_more : (steps : List Step) (step : Step) (old new : ℕ) → 0 < old → new ≡ due_after old step → ((more : List Step) → are_covers 1 (steps ++ more) ≡ are_covers old more) →
    (more : List Step) → are_covers 1 ((steps ++ step ∷ []) ++ more) ≡ are_covers new more
form_more steps step old new some due form more =
    ap (are_covers 1) (append_assoc steps (step ∷ []) more) ∙ form (step ∷ more) ∙ due-step old step more some ∙ ap (λ n. are_covers n more) (sym due)

fallen : (s : Sides) (c : Claim) (steps : List Step) (step : Step) → ((more : List Step) → IsCover s c (steps ++ more) → ⊥) → (more : List Step) → IsCover s c ((steps ++ step ∷ []) ++ more) → ⊥
fallen s c steps step none more t = none (step ∷ more) (subst (IsCover s c) (append_assoc steps (step ∷ []) more) t)

no_yes : (b : Bool) (P : Type 0) → b ≡ false → OnTrue b P
no_yes true P e = absurd (cc e)
no_yes false P e = tt

in_case : (b : Bool) (P : Type 0) → b ≡ false → OnFalse b P → P
in_case true P e h = absurd (cc e)
in_case false P e h = h

in_yes : (b : Bool) (P : Type 0) → b ≡ true → OnTrue b P → P
in_yes true P e h = h
in_yes false P e h = absurd (cc e)

as_no : (b : Bool) (P : Type 0) → P → OnFalse b P
as_no true P h = tt
as_no false P h = h

-- it had fallen
pub stands-fallen : (s : Sides) (c : Claim) (steps : List Step) (step : Step) (old new : Cover) → new.task ≡ old.task → 0 < old.due → new.due ≡ due_after old.due step → old.holds ≡ false → new.holds ≡ false →
    StandsFor s c steps old → StandsFor s c (steps ++ step ∷ []) new
stands-fallen s c steps step old new task some due was is st = record {
  claim = ap claim_of task ∙ st.claim;
  form = form_more steps step old.due new.due some due st.form;
  holds = no_yes new.holds (GoesOn s c (steps ++ step ∷ []) new) is;
  fails = as_no new.holds _ (fallen s c steps step (in_case old.holds _ was st.fails));
}

-- it held
pub stands-further : (s : Sides) (c : Claim) (steps : List Step) (step : Step) (old new : Cover) → new.task ≡ old.task → 0 < old.due → new.due ≡ due_after old.due step → old.holds ≡ true →
    OnTrue new.holds (Follows s (claim_of old.task) step (cubes_left old.left.items) (cubes_left new.left.items)) → OnFalse new.holds (Breaks s (claim_of old.task) step (cubes_left old.left.items)) →
    OnTrue new.holds (length new.left.items ≡ due_after (length old.left.items) step) → new.rules ≡ max old.rules (min (rules_named (step ∷ [])) 4294967295) →
    new.entries ≡ max old.entries (min (entries_named (step ∷ [])) 4294967295) → StandsFor s c steps old → StandsFor s c (steps ++ step ∷ []) new
stands-further s c steps step old new task some due was held broken count rules entries st =
    let goes : GoesOn s c steps old = in_yes old.holds (GoesOn s c steps old) was st.holds in
    record {
      claim = ap claim_of task ∙ st.claim;
      form = form_more steps step old.due new.due some due st.form;
      holds = on-both new.holds _ _ _ (λ f n. one_more s c steps step old new goes (subst (λ (x : Claim). Follows s x step (cubes_left old.left.items) (cubes_left new.left.items)) st.claim f) n due rules entries) held count;
      fails = on_false new.holds _ _ (λ b. λ more t.
          subst (λ (x : Claim). Breaks s x step (cubes_left old.left.items)) st.claim b more (goes.needed (step ∷ more) (subst (IsCover s c) (append_assoc steps (step ∷ []) more) t))) broken;
    }

-- Steps that cover cubes, as covers of these.
use Rattle.std.proofs.Common.{◌≡◌, ◌∷◌, ◌++◌, ◌∙◌, ℕ, List, [], ap, refl, subst, sym, append_assoc, append-nil}
use Rattle.std.specs.List.{flat_map}
use Rattle.agreement_check.specs.declared.step.Step.{Step}
use Rattle.agreement_check.specs.declared.step.Step.TheVariants.{InRule, InEntry, Missed, Late, Halved}
use Rattle.agreement_check.specs.Covers.{Sides, Claim, AreCovered, IsCover, Shows}
use Rattle.word_cover.specs.Cubes.{Cube, IsOpen, one_half, zero_half}
use Rattle.agreement_check.specs.Proofs.{Cover, Holds, halved, in_entry, in_rule, late, missed, steps_in}
use Rattle.agreement_proof.specs.Showing.{AreStepsOf}

-- a cover for each cube
HoldAll : Sides → Claim → List Cube → List Cover → Type 0
HoldAll s c [] [] = Unit {0}
HoldAll s c [] (cover ∷ covers) = ⊥
HoldAll s c (cube ∷ cubes) [] = ⊥
HoldAll s c (cube ∷ cubes) (cover ∷ covers) = Holds s c cube cover × HoldAll s c cubes covers

record AreCoversOf (s : Sides) (c : Claim) (cubes : List Cube) (steps : List Step) : Type 0 where
  covers : List Cover
  hold : HoldAll s c cubes covers
  are : steps ≡ flat_map steps_in covers

joined : (s : Sides) (c : Claim) (cube : Cube) (cubes : List Cube) (bit : ℕ) (steps : List Step) (covers : List Cover) → IsOpen cube bit →
    HoldAll s c (zero_half cube bit ∷ one_half cube bit ∷ cubes) covers → steps ≡ flat_map steps_in covers → AreCoversOf s c (cube ∷ cubes) (Halved bit ∷ steps)
unfolding HoldAll
joined s c cube cubes bit steps [] free h e = absurd h
joined s c cube cubes bit steps (z ∷ []) free h e = absurd h.1
joined s c cube cubes bit steps (z ∷ o ∷ covers) free h e = record {
  covers = halved bit z o ∷ covers;
  hold = ((free, h.0, h.1.0), h.1.1);
  are = ap (λ xs. Halved bit ∷ xs) (e ∙ sym (append_assoc (steps_in z) (steps_in o) (flat_map steps_in covers)));
}

covers_of : (s : Sides) (c : Claim) (cubes : List Cube) (steps : List Step) → AreCovered s c cubes steps → AreCoversOf s c cubes steps
unfolding HoldAll
covers_of s c [] [] h = record { covers = []; hold = tt; are = refl }
covers_of s c [] (step ∷ steps) h = absurd h
covers_of s c (cube ∷ cubes) [] h = absurd h
covers_of s c (cube ∷ cubes) (InRule k ∷ steps) h =
    let t = covers_of s c cubes steps h.1 in record { covers = in_rule k ∷ t.covers; hold = (h.0, t.hold); are = ap (λ xs. InRule k ∷ xs) t.are }
covers_of s c (cube ∷ cubes) (InEntry k ∷ steps) h =
    let t = covers_of s c cubes steps h.1 in record { covers = in_entry k ∷ t.covers; hold = (h.0, t.hold); are = ap (λ xs. InEntry k ∷ xs) t.are }
covers_of s c (cube ∷ cubes) (Missed ∷ steps) h =
    let t = covers_of s c cubes steps h.1 in record { covers = missed ∷ t.covers; hold = (h.0, t.hold); are = ap (λ xs. Missed ∷ xs) t.are }
covers_of s c (cube ∷ cubes) (Late ∷ steps) h =
    let t = covers_of s c cubes steps h.1 in record { covers = late ∷ t.covers; hold = (h.0, t.hold); are = ap (λ xs. Late ∷ xs) t.are }
covers_of s c (cube ∷ cubes) (Halved bit ∷ steps) h =
    let t = covers_of s c (zero_half cube bit ∷ one_half cube bit ∷ cubes) steps h.1 in joined s c cube cubes bit steps t.covers h.0 t.hold t.are

single : (s : Sides) (c : Claim) (cube : Cube) (steps : List Step) (covers : List Cover) → HoldAll s c (cube ∷ []) covers → steps ≡ flat_map steps_in covers → AreStepsOf s c cube steps
unfolding HoldAll
single s c cube steps [] h e = absurd h
single s c cube steps (cover ∷ []) h e = record { cover = cover; holds = h.0; are = e ∙ append-nil (steps_in cover) }
single s c cube steps (cover ∷ other ∷ covers) h e = absurd h.1

pub cover-steps : (s : Sides) (c : Claim) (steps : List Step) → IsCover s c steps → AreStepsOf s c c.cube steps
cover-steps s c steps h = let t = covers_of s c (c.cube ∷ []) steps h in single s c c.cube steps t.covers t.hold t.are

-- the same claim
pub steps-as : (s : Sides) (c d : Claim) (steps : List Step) → c ≡ d → AreStepsOf s c c.cube steps → AreStepsOf s d d.cube steps
steps-as s c d steps e h = subst (λ (x : Claim). AreStepsOf s x x.cube steps) e h

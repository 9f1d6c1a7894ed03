-- Contexts that stand for others of the same fields.
use Rattle.field_boxes.specs.Headline.Fields.{AreValues}
use Rattle.std.proofs.Common.{◌≡◌, ◌∷◌, ℕ, List, [], ◌<◌, false, refl, ap, arith, sym, inl}
use Rattle.std.specs.Prelude.{◌||◌}
use Rattle.redundancy_laws.specs.Marks.{Mark}
use Rattle.redundancy_laws.specs.Contexts.{Contexts, IsRight, StandsFor, AreMerged}
use Rattle.redundancy_laws.proofs.Alike.{keep-self, MatchAlike, IsLike, right-alike}

pub match-self : (values : List ℕ) (marks : List Mark) → MatchAlike values values marks marks
match-self values [] = tt
match-self values (m ∷ marks) = (refl, match-self values marks)

like : (level : List ℕ) (cs ds : Contexts) (marks : List Mark) (c d : ℕ) (values : List ℕ) → AreValues level values → StandsFor level cs ds c d → IsLike level level cs ds [] [] marks marks c values d values
like level cs ds marks c d values ok h = (ap (λ b. b || false) (sym (h.met values ok)), sym (h.after values ok), match-self values marks)

pub merged : (level : List ℕ) (cs ds : Contexts) (to : ℕ → ℕ) (marks : List Mark) (inner out : ℕ → List ℕ → ℕ) → AreMerged level cs ds to → IsRight level ds marks inner →
    ((c : ℕ) → c < cs.count → (values : List ℕ) → AreValues level values → out c values ≡ inner (to c) values) → IsRight level cs marks out
merged level cs ds to marks inner out merge right h =
    right-alike level level cs ds marks marks inner out (keep-self marks)
    (λ c less values ok. let s = merge.covered c less in inl (to c, values, s.0, ok, like level cs ds marks c (to c) values ok s.1, h c less values ok))
    (λ d less values ok. let g = merge.reached d less in inl (g.0, values, g.1, ok, like level cs ds marks g.0 d values ok g.2)) right

-- contexts that say the same, by number
pub same-contexts : (level : List ℕ) (cs ds : Contexts) (marks : List Mark) (inner out : ℕ → List ℕ → ℕ) → cs.count ≡ ds.count → ((c : ℕ) → c < cs.count → StandsFor level cs ds c c) →
    IsRight level ds marks inner → ((c : ℕ) → c < cs.count → (values : List ℕ) → AreValues level values → out c values ≡ inner c values) → IsRight level cs marks out
same-contexts level cs ds marks inner out e stand right h =
    merged level cs ds (λ c. c) marks inner out
    (record { covered = λ c less. (omega (arith, e, less), stand c less); reached = λ d less. let l : d < cs.count = omega (arith, e, less) in (d, l, stand d l) })
    right h

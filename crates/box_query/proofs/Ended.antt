-- How a query ends, by what was written of the boxes.
use Rattle.std.proofs.Common.{◌≡◌, ℕ, List, Option, Result, Ok, Err, refl, sym, subst, IsErrAnd, IfErr, length}
use Rattle.razor_base.specs.Headline.Outcomes.{CallOutcome, Extends}
use Rattle.razor_base.specs.Output.{AreRefused, Writes}
use Rattle.razor_base.proofs.Writing.{made-none}
use Rattle.field_boxes.specs.Headline.Classifier.{Interval, Rule}
use Rattle.box_query.specs.Boxes.{AreBoxesOf}
use Rattle.box_query.specs.BoxText.{boxes_text}
use Rattle.box_query.specs.Outcome.{AreWritesOf, Ends, IsWritten}
use Rattle.box_query.specs.declared.error.QueryError.{QueryError}
use Rattle.box_query.specs.declared.error.QueryError.TheVariants.{Fault, Memory}

-- memory was refused before anything was written
pub refused : {U : Type 0} (rules : List (Rule (List ℕ))) (box : List Interval) (name : Option (List ℕ)) (a : List CallOutcome) (r : Result U QueryError) →
    IsErrAnd r (λ e. e ≡ Memory) → IfErr r (λ error. Ends rules box name a a error)
refused rules box name a (Ok x) h = absurd h
refused rules box name a (Err e) h = subst (λ x. Ends rules box name a a x) (sym h) refl

-- a write failed
pub cut-off : {S T U E : Type 0} (w : S → List CallOutcome) (f : S → ℕ) (a b : S) (e : E) (rules : List (Rule (List ℕ))) (box : List Interval) (name : Option (List ℕ)) (boxes : List (List Interval))
    (r : Result U QueryError) → AreBoxesOf rules box name boxes → Writes {T = T} {E = E} w f a b (boxes_text boxes) (Err e) → IsErrAnd r (λ x. x ≡ Fault) →
    IfErr r (λ error. Ends rules box name (w a) (w b) error)
cut-off w f a b e rules box name boxes (Ok x) right put h = absurd h
cut-off w f a b e rules box name boxes (Err y) right put h = subst (λ x. Ends rules box name (w a) (w b) x) (sym h) (record { boxes = boxes; right = right; appended = put.err })

-- all was written
pub all-written : {S T E : Type 0} (w : S → List CallOutcome) (f : S → ℕ) (a b : S) (x : T) (n : ℕ) (rules : List (Rule (List ℕ))) (box : List Interval) (name : Option (List ℕ)) (boxes : List (List Interval)) →
    AreBoxesOf rules box name boxes → Writes {T = T} {E = E} w f a b (boxes_text boxes) (Ok x) → n ≡ length boxes → IsWritten rules box name (w a) (w b) n
all-written w f a b x n rules box name boxes right put e = record { boxes = boxes; right = right; appended = put.ok; counted = e }

-- memory was refused before any write was made
pub unwritten : {U : Type 0} (writes : List CallOutcome) (r : Result U QueryError) → IsErrAnd r (λ e. e ≡ Memory) → Extends writes writes (AreWritesOf r)
unwritten writes (Ok x) h = absurd h
unwritten {U = U} writes (Err e) h = subst (λ (s : QueryError). Extends writes writes (AreWritesOf {T = U} (Err s))) (sym h) (made-none writes)

-- the last write failed
pub last-failed : {U : Type 0} (old after : List CallOutcome) (r : Result U QueryError) → IsErrAnd r (λ e. e ≡ Fault) → Extends old after AreRefused → Extends old after (AreWritesOf r)
last-failed old after (Ok x) h tries = absurd h
last-failed {U = U} old after (Err e) h tries = subst (λ (s : QueryError). Extends old after (AreWritesOf {T = U} (Err s))) (sym h) tries

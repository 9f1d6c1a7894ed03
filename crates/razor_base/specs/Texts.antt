-- What reads gave of an input, and the texts that it may have by that.
use Rattle.std.specs.Prelude.{◌≡◌, ℕ, List, [], ◌++◌, Bool, true, ◌==◌, Result, MatchResult, length, take, drop}
use Rattle.razor_base.specs.Headline.Readings.{Reading, ended, given}

-- a read with room gave the front of the piece, and met the end where that is none; a failed one gave nothing
abbrev pub Gives : {E : Type 0} → List ℕ → List ℕ → Bool → Bool → Result ℕ E → List ℕ → Type 0
Gives before after ended_before ended result piece = MatchResult result
    (λ n. (after ≡ before ++ take n piece) × (ended ≡ (n == 0)))
    (λ _. (after ≡ before) × (ended ≡ ended_before))

-- nothing came under the name, and its end was not met
abbrev pub StaysUnread : List Reading → List Reading → List ℕ → Type 0
StaysUnread before after name = (given after name ≡ given before name) × (ended after name ≡ ended before name)

-- an input of which this was given, and whose end was met or not, may have this text: it begins so, and is no longer where its end was met
pub record MayHave (given : List ℕ) (ended : Bool) (text : List ℕ) : Type 0 where
  pub rest : List ℕ
  pub parts : text ≡ given ++ rest
  pub whole : ended ≡ true → rest ≡ []

-- a name may have this text after these reads
abbrev pub MayHold : List Reading → List ℕ → List ℕ → Type 0
MayHold reads name text = MayHave (given reads name) (ended reads name) text

-- what of such a text is left behind what was given
abbrev pub left_in : List ℕ → List ℕ → List ℕ
left_in text given = drop (length given) text

-- and of the texts of all names, behind what these reads gave
abbrev pub left_of : {D : Type 0} → (D → List Reading) → (List ℕ → List ℕ) → D → List ℕ → List ℕ
left_of reads texts desk name = left_in (texts name) (given (reads desk) name)

-- An input in memory has its text.
use Rattle.std.proofs.Common.{◌≡◌, ℕ, List, [], Bool, false, Some, None, refl, sym, ap, ◌∙◌, subst, length, ◌++◌, take-append-drop}
use Rattle.std.specs.Prelude.{Option, unwrap_or}
use Rattle.std.proofs.lemmas.Bool.{leb-true}
use Rattle.std.proofs.lemmas.List.{drop_all}
use Rattle.razor_base.specs.Texts.{MayHave}
use Rattle.razor_base.specs.Standing.{AreTold, Standing, all_at, left_over}

pub has_text : (s : Standing) (given : List ℕ) (ended : Bool) → AreTold false (Some s) given ended → MayHave given ended s.all
has_text s given ended told = record {
  rest = left_over s;
  parts = sym (ap (λ (bytes : List ℕ). bytes ++ left_over s) told.0 ∙ take-append-drop s.start s.all);
  whole = λ e. drop_all s.start s.all (leb-true (length s.all) s.start (told.1 e));
}

pub text_at : (missing : Bool) (o : Option Standing) (given : List ℕ) (ended : Bool) (text : List ℕ) → AreTold missing o given ended → all_at o ≡ Some text → MayHave given ended text
text_at missing None given ended text told e = absurd cc
text_at missing (Some s) given ended text told e = let is : s.all ≡ text = cc in subst (MayHave given ended) is (has_text s given ended told)

pub text_or_none : (missing : Bool) (o : Option Standing) (given : List ℕ) (ended : Bool) → AreTold missing o given ended → MayHave given ended (unwrap_or (all_at o) [])
text_or_none missing None given ended told = record { rest = []; parts = sym (ap (λ (bytes : List ℕ). bytes ++ []) told.0); whole = λ e. refl }
text_or_none missing (Some s) given ended told = has_text s given ended told

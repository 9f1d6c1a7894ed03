-- Names in a list that grows.
use Rattle.std.proofs.Common.{◌≡◌, ℕ, List, true, false, ap, refl, sym, subst, Some, Ok, Err, Result, bytes_eq}
use Rattle.std.specs.Prelude.{OnOk, OnErr}
use Rattle.field_boxes.specs.Headline.Names.{miss}
use Rattle.field_boxes.specs.Names.{with_name}
use Rattle.slot_patch.specs.Naming.{Grow}
use Rattle.slot_patch.proofs.Renaming.{grow-none, grow-on, grow-with}
use Rattle.table_text.specs.Names.{decided, is_decision}
use Rattle.table_text.specs.Seen.{with_decided}
use Rattle.table_text.proofs.NamesSeen.{decision_named}
use Rattle.memory_text.specs.Kept.{AreSpelled, Extends}

abbrev Names : Type 0
Names = List (List ℕ)

pub extends_as : (old new : Names) → new ≡ old → Extends old new
extends_as old new e = record {
  grow = subst (Grow old) (sym e) (grow-none old);
  spelled = λ named. subst AreSpelled (sym e) named;
}

-- with a decision's name
with_text : (text name : List ℕ) → bytes_eq text miss ≡ false → decided text ≡ Some text
with_text text name other = rw other refl

pub extends_with : (old : Names) (text : List ℕ) → bytes_eq text miss ≡ false → is_decision text ≡ true → Extends old (with_name old text)
extends_with old text other named =
    let same : with_decided old (decided text) ≡ with_name old text = ap (with_decided old) (with_text text text other) in
    record { grow = grow-with old text; spelled = λ spelled. subst AreSpelled same (decision_named old text spelled named) }

-- the list after a name was to be put into it
pub extends_result : {T E : Type 0} (old new : Names) (text : List ℕ) (r : Result T E) → bytes_eq text miss ≡ false → is_decision text ≡ true → OnOk r (new ≡ with_name old text) → OnErr r (new ≡ old) → Extends old new
extends_result old new text (Ok n) other named ok err = subst (Extends old) (sym ok) (extends_with old text other named)
extends_result old new text (Err e) other named ok err = extends_as old new err

-- The words of prefixes match what the prefixes hold.
use Rattle.std.proofs.Common.{◌≡◌, ◌∷◌, ◌++◌, ℕ, zero, suc, ◌+◌, ◌-◌, ◌^◌, ◌<◌, ◌≤◌, List, [], Bool, true, false, Some, None, length, replicate, map, take, ap, refl, sym, ◌∙◌, arith}
use Rattle.std.specs.Prelude.{◌&&◌}
use Rattle.std.proofs.lemmas.List.{length-append, length-map, length-replicate, length-take-le}
use Rattle.field_boxes.specs.Headline.Bits.{bits}
use Rattle.field_boxes.specs.Bits.{begins}
use Rattle.field_boxes.specs.Headline.Fields.{width, AreValues}
use Rattle.field_boxes.specs.Headline.Prefix.{FitsWidth, prefix_holds}
use Rattle.field_boxes.specs.Prefix.{prefix_bits}
use Rattle.field_boxes.specs.declared.prefix.Prefix.{Prefix}
use Rattle.field_boxes.proofs.Bits.{length-bits, begins_at}
use Rattle.ternary_words.specs.Headline.Word.{Trit, agrees, field_bits}
use Rattle.ternary_words.specs.Word.{trit_agrees}
use Rattle.ternary_words.specs.Prefixes.{prefix_trits, fields_trits, FitFields, all_hold}

agrees-none : (k : ℕ) (cs : List Bool) → agrees (replicate k None) cs ≡ true
agrees-none zero cs = refl
agrees-none (suc k) [] = refl
agrees-none (suc k) (c ∷ cs) = agrees-none k cs

agrees-front : (bs cs : List Bool) (k : ℕ) → length cs ≡ length bs + k → agrees (map (λ b. Some b) bs ++ replicate k None) cs ≡ begins bs cs
agrees-front [] cs k h = agrees-none k cs
agrees-front (b ∷ bs) [] k h = absurd (omega arith)
agrees-front (true ∷ bs) (true ∷ cs) k h = agrees-front bs cs k (omega arith)
agrees-front (false ∷ bs) (false ∷ cs) k h = agrees-front bs cs k (omega arith)
agrees-front (true ∷ bs) (false ∷ cs) k h = refl
agrees-front (false ∷ bs) (true ∷ cs) k h = refl

length-front : (w l p : ℕ) → l ≤ w → length (take l (bits w p)) ≡ l
length-front w l p h = length-take-le l (bits w p) (let e = length-bits w p in omega (arith, e))

-- one field
agrees-prefix : (w : ℕ) (p : Prefix) (v : ℕ) → FitsWidth w p → v < 2 ^ w → agrees (prefix_trits w p) (bits w v) ≡ prefix_holds w p v
agrees-prefix w p v fits small =
    let le = fits.len in
    let whole : p.len + (w - p.len) ≡ w = omega arith in
    let front = length-front w p.len p.value le in
    let all = length-bits w v in
    agrees-front (prefix_bits w p) (bits w v) (w - p.len) (omega (arith, front, all)) ∙ begins_at w p.len (w - p.len) p.value v whole fits.small small

length-prefix : (w : ℕ) (p : Prefix) → FitsWidth w p → length (prefix_trits w p) ≡ w
length-prefix w p fits =
    let le = fits.len in
    let front = length-front w p.len p.value le in
    simp (length-append, length-map, length-replicate) (omega (arith, front))

first_and : (a b c d : Bool) → d ≡ b && c → a && d ≡ a && b && c
first_and true b c d h = h
first_and false b c d h = refl

agrees-append : (ts us : List Trit) (bs cs : List Bool) → length ts ≡ length bs → agrees (ts ++ us) (bs ++ cs) ≡ agrees ts bs && agrees us cs
agrees-append [] us [] cs h = refl
agrees-append [] us (b ∷ bs) cs h = absurd (omega arith)
agrees-append (t ∷ ts) us [] cs h = absurd (omega arith)
agrees-append (t ∷ ts) us (b ∷ bs) cs h = first_and (trit_agrees t b) (agrees ts bs) (agrees us cs) (agrees (ts ++ us) (bs ++ cs)) (agrees-append ts us bs cs (omega arith))

-- field by field
pub agrees-fields : (fs : List ℕ) (ps : List Prefix) (vs : List ℕ) → FitFields fs ps → AreValues fs vs → agrees (fields_trits fs ps) (field_bits fs vs) ≡ all_hold fs ps vs
agrees-fields [] ps vs fits are = refl
agrees-fields (f ∷ fs) [] vs fits are = refl
agrees-fields (f ∷ fs) (p ∷ ps) [] fits are = absurd are
agrees-fields (f ∷ fs) (p ∷ ps) (v ∷ vs) fits are =
    let same : length (prefix_trits (width f) p) ≡ length (bits (width f) v) = length-prefix (width f) p fits.0 ∙ sym (length-bits (width f) v) in
    agrees-append (prefix_trits (width f) p) (fields_trits fs ps) (bits (width f) v) (field_bits fs vs) same
    ∙ ap (λ t. t && agrees (fields_trits fs ps) (field_bits fs vs)) (agrees-prefix (width f) p v fits.0 are.0)
    ∙ ap (λ t. prefix_holds (width f) p v && t) (agrees-fields fs ps vs fits.1 are.1)

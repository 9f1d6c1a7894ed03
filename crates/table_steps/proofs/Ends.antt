-- The last entries that two tables share.
use Rattle.std.proofs.Common.{◌≡◌, ◌∷◌, ◌++◌, ℕ, List, [], Bool, true, false, cond, ◌+◌, ◌<◌, ◌-◌, ap, refl, sym, ◌∙◌, arith, length, get_or, take, drop, suc, eqb}
use Rattle.std.specs.Prelude.{◌&&◌}
use Rattle.std.proofs.Math.Seq.{drop-cons}
use Rattle.std.proofs.lemmas.Bool.{eqb-true}
use Rattle.std.proofs.lemmas.List.{drop_all, take-append-drop}
use Rattle.field_boxes.specs.Alike.{AreAlike}
use Rattle.field_boxes.specs.Headline.Bits.{bits}
use Rattle.ternary_words.specs.declared.entry.Entry.{Entry}
use Rattle.ternary_words.specs.Entries.{matches, answer}
use Rattle.ternary_words.specs.Headline.Word.{agrees, header_bits}
use Rattle.ternary_words.specs.Word.{trits}
use Rattle.table_steps.specs.Exchange.{AreSame, IsCommonEnd}

-- the same entry
both_true : (s t : Bool) → s && t ≡ true → (s ≡ true) × (t ≡ true)
both_true true t h = (refl, h)
both_true false t h = absurd (cc h)

pub same-from : (one other : Entry) (t : Bool) → t ≡ ((eqb one.word.value other.word.value && eqb one.word.mask other.word.mask) && eqb one.decision other.decision) → t ≡ true → AreSame one other
same-from one other t is e =
    let all = both_true (eqb one.word.value other.word.value && eqb one.word.mask other.word.mask) (eqb one.decision other.decision) (sym is ∙ e) in
    let word = both_true (eqb one.word.value other.word.value) (eqb one.word.mask other.word.mask) all.0 in record {
      value = eqb-true one.word.value other.word.value word.0;
      mask = eqb-true one.word.mask other.word.mask word.1;
      decision = eqb-true one.decision other.decision all.1;
    }

matches_same : (h : List ℕ) (one other : Entry) → AreSame one other → matches h one.word ≡ matches h other.word
matches_same h one other same =
    ap (λ v. agrees (trits (bits 104 one.word.mask) (bits 104 v)) (header_bits h)) same.value ∙ ap (λ m. agrees (trits (bits 104 m) (bits 104 other.word.value)) (header_bits h)) same.mask

answer_same : (h : List ℕ) (one other : Entry) (xs ys : List Entry) → AreSame one other → answer xs h ≡ answer ys h → answer (one ∷ xs) h ≡ answer (other ∷ ys) h
answer_same h one other xs ys same rest =
    ap (λ t. cond t one.decision (answer xs h)) (matches_same h one other same) ∙ ap (λ d. cond (matches h other.word) d (answer xs h)) same.decision ∙ ap (λ d. cond (matches h other.word) other.decision d) rest

pub end-start : (table new : List Entry) → IsCommonEnd table new 0
end-start table new = record {
  in_table = omega arith;
  in_new = omega arith;
  alike = λ h is. ap (λ es. answer es h) (drop_all (length new - 0) new (omega arith) ∙ sym (drop_all (length table - 0) table (omega arith)));
}

-- the end with one entry more
one_end : (xs : List Entry) (k : ℕ) (e : Entry) → k < length xs → e ≡ get_or xs (length xs - 1 - k) e → drop (length xs - (k + 1)) xs ≡ e ∷ drop (length xs - k) xs
one_end xs k e less is =
    let at : length xs - (k + 1) ≡ length xs - 1 - k = omega arith in
    let next : suc (length xs - 1 - k) ≡ length xs - k = omega (arith, less) in
    let within : length xs - 1 - k < length xs = omega (arith, less) in
    ap (λ i. drop i xs) at ∙ drop-cons xs (length xs - 1 - k) e within ∙ ap (λ (x : Entry). x ∷ drop (suc (length xs - 1 - k)) xs) (sym is) ∙ ap (λ i. e ∷ drop i xs) next

pub end-next : (table new : List Entry) (k : ℕ) (one other : Entry) → k < length table → k < length new →
    one ≡ get_or table (length table - 1 - k) one → other ≡ get_or new (length new - 1 - k) other → AreSame one other → IsCommonEnd table new k → IsCommonEnd table new (k + 1)
end-next table new k one other in_table in_new is too same so = record {
  in_table = omega (arith, in_table);
  in_new = omega (arith, in_new);
  alike = λ h header. ap (λ es. answer es h) (one_end new k other in_new too)
      ∙ sym (answer_same h one other (drop (length table - k) table) (drop (length new - k) new) same (sym (so.alike h header))) ∙ ap (λ es. answer es h) (sym (one_end table k one in_table is));
}

-- the new table is what stands before the end, and the end
pub answer_behind : (xs ys zs : List Entry) (h : List ℕ) → answer ys h ≡ answer zs h → answer (xs ++ ys) h ≡ answer (xs ++ zs) h
answer_behind [] ys zs h same = same
answer_behind (x ∷ xs) ys zs h same = ap (λ d. cond (matches h x.word) x.decision d) (answer_behind xs ys zs h same)

pub end-whole : (table new : List Entry) (k : ℕ) → IsCommonEnd table new k → AreAlike (answer (take (length new - k) new ++ drop (length table - k) table)) (answer table) →
    AreAlike (answer new) (answer table)
end-whole table new k end alike h header =
    ap (λ es. answer es h) (sym (take-append-drop (length new - k) new))
    ∙ answer_behind (take (length new - k) new) (drop (length new - k) new) (drop (length table - k) table) h (end.alike h header) ∙ alike h header

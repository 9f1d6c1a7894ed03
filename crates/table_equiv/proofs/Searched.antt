-- What a search of a cube finds.
use Rattle.std.proofs.Common.{◌≡◌, ◌⊎◌, ℕ, ◌<◌, ◌≤◌, List, Bool, ap, sym, subst, ◌∙◌, arith, inl, inr, Option, Some, None, option_map}
use Rattle.field_boxes.specs.declared.header.Header.{Header}
use Rattle.field_boxes.specs.declared.rule_list.RuleList.{RuleList}
use Rattle.ternary_words.specs.declared.table.Table.{Table}
use Rattle.ternary_words.specs.declared.word.Word.{Word}
use Rattle.ternary_words.specs.Word.{key_of}
use Rattle.field_boxes.specs.Names.{name_at}
use Rattle.partition_check.specs.Agreement.{AgreeOn}
use Rattle.partition_check.proofs.Soundness.{FirstAnswers}
use Rattle.agreement_check.specs.declared.pair.Pair.{Pair}
use Rattle.agreement_check.specs.Claims.{DecideAlike, entry_decides, rule_decides}
use Rattle.agreement_check.specs.Covers.{Sides}
use Rattle.word_cover.specs.Cubes.{IsOpen, cube_of}
use Rattle.word_cover.proofs.Members.{key-small}
use Rattle.agreement_check.proofs.Sound.{agree-alike, alike-agree, first_entry, first_rule}
use Rattle.table_equiv.specs.Cubes.{IsIn}
use Rattle.table_equiv.specs.Firsts.{first_of, decided_at, DecideSame, KeepDecided, KeepAlike}
use Rattle.table_equiv.specs.Found.{limit, IsApart, IsSearched, IsFound}
use Rattle.table_equiv.proofs.Keys.{key-before, key-same}
use Rattle.table_equiv.proofs.Bits.{one-key, open-in, value-least}

-- list and table agree on a header that they decide as a rule and an entry do which decide alike, and only then
pub agree-decided : FirstAnswers → (s : Sides) (h : List ℕ) (p : Pair) → rule_decides s.list.rules.items (first_rule s h) ≡ rule_decides s.list.rules.items p.rule →
    entry_decides s.table.entries.items (first_entry s h) ≡ entry_decides s.table.entries.items p.entry → DecideAlike s p → AgreeOn s.list s.table h
agree-decided law s h p e f alike = alike-agree law s h (ap (name_at s.list.names) e ∙ alike ∙ sym (ap (name_at s.table.names) f))

pub decided-alike : FirstAnswers → (s : Sides) (h : List ℕ) (p : Pair) → rule_decides s.list.rules.items (first_rule s h) ≡ rule_decides s.list.rules.items p.rule →
    entry_decides s.table.entries.items (first_entry s h) ≡ entry_decides s.table.entries.items p.entry → AgreeOn s.list s.table h → DecideAlike s p
decided-alike law s h p e f agree = sym (ap (name_at s.list.names) e) ∙ agree-alike law s h agree ∙ ap (name_at s.table.names) f

-- nothing in the cube comes before the best one
pub late-searched : (list : RuleList) (table : Table) (w : Word) (best : Option Header) → limit best ≤ w.value → IsApart list table best → IsSearched list table w best best
late-searched list table w best late apart = record {
  agree = λ header at less. absurd (omega (arith, late, less, value-least header w at));
  lower = omega arith;
  apart = apart;
}

-- they agree on all of the cube
pub agree-searched : (list : RuleList) (table : Table) (w : Word) (best : Option Header) → ((header : List ℕ) → IsIn w header → AgreeOn list table header) → IsApart list table best → IsSearched list table w best best
agree-searched list table w best agree apart = record { agree = λ header at less. agree header at; lower = omega arith; apart = apart }

-- they don't agree on the least header of the cube
pub found-searched : (list : RuleList) (table : Table) (w : Word) (best : Option Header) (header : Header) → IsIn w header.values → key_of header.values ≡ w.value → w.value < limit best →
    (AgreeOn list table header.values → ⊥) → IsSearched list table w best (Some header)
found-searched list table w best header at e early apart = record {
  agree = λ other is less. absurd (omega (arith, e, less, value-least other w is));
  lower = omega (arith, e, early);
  apart = (at.is, apart);
}

-- a cube of one header
pub alone-agree : (list : RuleList) (table : Table) (w : Word) (header : List ℕ) → ((bit : ℕ) → IsOpen (cube_of w) bit → ⊥) → IsIn w header → AgreeOn list table header →
    (other : List ℕ) → IsIn w other → AgreeOn list table other
alone-agree list table w header closed at agree other is =
    subst (AgreeOn list table) (key-same header other at.is is.is (one-key w header closed at ∙ sym (one-key w other closed is))) agree

-- one half after the other
pub halves-searched : (list : RuleList) (table : Table) (w zero one : Word) (best mid after : Option Header) → ((header : List ℕ) → IsIn w header → IsIn zero header ⊎ IsIn one header) →
    IsSearched list table zero best mid → IsSearched list table one mid after → IsSearched list table w best after
halves-searched list table w zero one best mid after covers a b = record {
  agree = λ header at less. elim (covers header at) [
    | inl h ↦ a.agree header h (omega (arith, less, b.lower))
    | inr h ↦ b.agree header h less
  ];
  lower = omega (arith, a.lower, b.lower);
  apart = b.apart;
}

-- all headers
pub whole-found : (list : RuleList) (table : Table) (w : Word) (after : Option Header) → w.mask ≡ 0 → IsSearched list table w None after → IsFound list table after
whole-found list table w None e s = λ header is. s.agree header (open-in header w is e) (key-small header is)
whole-found list table w (Some found) e s = record {
  in_fields = s.apart.0;
  differ = s.apart.1;
  least = λ other is before. s.agree other (open-in other w is e) (key-before other found.values is s.apart.0 before);
}

-- of the places that were kept for a cube the first one decides as the first item, on each header of a half
pub kept-in : {A : Type 0} (has : List ℕ → A → Bool) (d : A → ℕ) (items seen : List A) (places kept given : List ℕ) (w half : Word) → KeepDecided has d items places w → KeepAlike has d seen kept places w →
    seen ≡ items → given ≡ kept → ((header : List ℕ) → IsIn half header → IsIn w header) → KeepDecided has d items given half
kept-in has d items seen places kept given w half decided alike e g inside header at =
    let own = inside header at in
    ap (λ ks. option_map (decided_at d items) (first_of (has header) items ks)) g
    ∙ subst (λ xs. DecideSame (decided_at d xs) (first_of (has header) xs kept) (first_of (has header) xs places)) e (alike header own)
    ∙ decided header own

pub halves-at : (list : RuleList) (table : Table) (w zero one z o : Word) (best mid after : Option Header) → ((header : List ℕ) → IsIn w header → IsIn zero header ⊎ IsIn one header) → z ≡ zero → o ≡ one →
    IsSearched list table z best mid → IsSearched list table o mid after → IsSearched list table w best after
halves-at list table w zero one z o best mid after covers e f a b =
    halves-searched list table w zero one best mid after covers (subst (λ x. IsSearched list table x best mid) e a) (subst (λ x. IsSearched list table x mid after) f b)

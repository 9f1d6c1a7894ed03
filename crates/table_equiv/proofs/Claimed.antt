-- Which claims are true.
use Rattle.std.proofs.Common.{◌≡◌, ◌∙◌, ℕ, ◌<◌, List, true, Option, Some, None, ap, arith, bit_and, bit_or, bit_xor, inl, inr, refl, slice_get, subst}
use Rattle.std.specs.Option.{option_map_or}
use Rattle.std.proofs.lemmas.Bool.{cases_lt}
use Rattle.std.proofs.lemmas.Nat.{and_comm, or_comm, xor_comm}
use Rattle.field_boxes.specs.Headline.Fields.{IsHeader}
use Rattle.ternary_words.specs.Word.{key_of}
use Rattle.ternary_words.specs.declared.entry.Entry.{Entry}
use Rattle.word_cover.proofs.Numbers.{fits-part}
use Rattle.partition_check.specs.Agreement.{AgreeOn}
use Rattle.partition_check.specs.Claims.{entry_matches, rule_matches}
use Rattle.partition_check.proofs.Soundness.{FirstAnswers}
use Rattle.agreement_check.specs.declared.pair.Pair.{Pair}
use Rattle.agreement_check.specs.Claims.{DecideAlike, pair_claim}
use Rattle.agreement_check.specs.Covers.{Sides, entry_word, rule_word}
use Rattle.word_cover.specs.Cubes.{Cube, Meet, all_headers, cube_of, meet_of}
use Rattle.agreement_check.proofs.First.{first-passes, none-before}
use Rattle.word_cover.proofs.Members.{Has, IsMasked, has-word, masked-all, masked-word}
use Rattle.agreement_check.proofs.Sound.{agree-alike, first_entry, first_pair, first_rule, rule_has}
use Rattle.table_equiv.specs.Claimed.{HoldsOf}

-- what lies in the meet of two cubes that meet lies in the second
in_second : (a b : Cube) (h : List ℕ) → IsMasked a → IsMasked b → Meet a b → Has (meet_of a b) h → Has b h
in_second a b h p q meet has =
    let k = key_of h in
    let other : bit_and (bit_xor b.value a.value) (bit_and b.mask a.mask) ≡ 0 =
    ap (λ m. bit_and (bit_xor b.value a.value) m) (and_comm b.mask a.mask) ∙ ap (λ x. bit_and x (bit_and a.mask b.mask)) (xor_comm b.value a.value) ∙ meet in
    let both : bit_and (bit_xor k (bit_or b.value a.value)) (bit_or b.mask a.mask) ≡ 0 =
    ap (λ m. bit_and (bit_xor k (bit_or b.value a.value)) m) (or_comm b.mask a.mask) ∙ ap (λ v. bit_and (bit_xor k v) (bit_or a.mask b.mask)) (or_comm b.value a.value) ∙ has in
    fits-part k b.value b.mask a.value a.mask q.masked p.masked other both

entry_masked : (o : Option Entry) → IsMasked (option_map_or (λ (e : Entry). cube_of e.word) o all_headers)
entry_masked None = masked-all
entry_masked (Some e) = masked-word e.word

entry_passes : (o : Option Entry) (h : List ℕ) → IsHeader h → Has (option_map_or (λ (e : Entry). cube_of e.word) o all_headers) h → option_map_or (entry_matches h) o true ≡ true
entry_passes None h is has = refl
entry_passes (Some e) h is has = has-word h e.word is has

same_pair : (s : Sides) (h : List ℕ) (p : Pair) → first_rule s h ≡ p.rule → first_entry s h ≡ p.entry → DecideAlike s (first_pair s h) → DecideAlike s p
same_pair s h p e f alike =
    subst (λ j. DecideAlike s (record { rule = p.rule; entry = j })) f (subst (λ i. DecideAlike s (record { rule = i; entry = first_entry s h })) e alike)

-- where list and table agree below the bound, what is claimed of a rule and an entry that decide by other names is true
pub pair-holds : FirstAnswers → (s : Sides) (p : Pair) → ((h : List ℕ) → IsHeader h → key_of h < s.bound → AgreeOn s.list s.table h) → (DecideAlike s p → ⊥) →
    Meet (rule_word s.list.rules.items p.rule) (entry_word s.table.entries.items p.entry) → HoldsOf s (pair_claim s p) (pair_claim s p).cube
pair-holds law s p agree apart meet h asked has =
    let entries = s.table.entries.items in
    let w = rule_word s.list.rules.items p.rule in
    let x = entry_word entries p.entry in
    let lies = in_second w x h (rule_has s p.rule h asked.is asked.of).masked (entry_masked (slice_get entries p.entry)) meet has in
    let passes = entry_passes (slice_get entries p.entry) h asked.is lies in
    elim (cases_lt (first_rule s h) p.rule) [
      | inl less ↦ inl (record { place = first_rule s h; before = less; has = first-passes (rule_matches h) s.list.rules.items })
      | inr late ↦ elim (cases_lt (first_entry s h) p.entry) [
        | inl less ↦ inr (record { place = first_entry s h; before = less; has = first-passes (entry_matches h) entries })
        | inr later ↦ elim (cases_lt p.rule (first_rule s h)) [
          | inl before ↦ absurd (none-before (rule_matches h) s.list.rules.items p.rule before asked.of)
          | inr no_rule ↦ elim (cases_lt p.entry (first_entry s h)) [
            | inl before ↦ absurd (none-before (entry_matches h) entries p.entry before passes)
            | inr no_entry ↦ absurd (apart (same_pair s h p (omega (arith, late, no_rule)) (omega (arith, later, no_entry)) (agree-alike law s h (agree h asked.is asked.before))))
          ]
        ]
      ]
    ]

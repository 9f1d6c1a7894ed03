-- Slots after writes, and the writes of a table that is spread.
use Rattle.std.proofs.Common.{◌≡◌, ◌∷◌, ◌++◌, ℕ, suc, ◌+◌, ◌*◌, ◌<◌, ◌≤◌, List, [], ap, refl, sym, ◌∙◌, arith, length, map, take, get_or, Some, Option, set, subst, ◌^◌, mul_comm, option_map}
use Rattle.std.proofs.Math.Nat.{div-lt_iff_lt-mul, mul-le-mul, mul-lt-mul_of_pos_right}
use Rattle.std.proofs.lemmas.List.{map-append, length-map, length-take-le, take_more}
use Rattle.ternary_words.specs.declared.entry.Entry as code_entry
use Rattle.ternary_words.specs.Headline.Table.{Entry}
use Rattle.ternary_words.specs.Views.{entry_of}
use Rattle.bank_update.specs.declared.write.Put.{Put}
use Rattle.memory_text.specs.Memory.{Write, after}
use Rattle.memory_text.specs.Spreading.{even_slot, even_writes}
use Rattle.memory_text.specs.Views.{write_of, writes_of}

pub after-append : (slots : List (Option Entry)) (ws vs : List Write) → after slots (ws ++ vs) ≡ after (after slots ws) vs
after-append slots [] vs = refl
after-append slots (w ∷ ws) vs = after-append (set slots w.slot w.entry) ws vs

even-append : (slots many i : ℕ) (xs ys : List Entry) → even_writes slots many i (xs ++ ys) ≡ even_writes slots many i xs ++ even_writes slots many (i + length xs) ys
even-append slots many i [] ys = ap (λ n. even_writes slots many n ys) (let e : i ≡ i + 0 = omega arith in e)
even-append slots many i (x ∷ xs) ys =
    let w : Write = record { slot = even_slot slots many i; entry = Some x } in
    ap (λ ws. w ∷ ws) (even-append slots many (suc i) xs ys)
    ∙ ap (λ n. w ∷ even_writes slots many (suc i) xs ++ even_writes slots many n ys) (let e : suc i + length xs ≡ i + suc (length xs) = omega arith in e)

-- one entry more is spread
pub even-more : {A : Type 0} (f : A → Entry) (slots many : ℕ) (es : List A) (k : ℕ) (d : A) → k < length es →
    even_writes slots many 0 (map f (take (k + 1) es)) ≡ even_writes slots many 0 (map f (take k es)) ++ record { slot = even_slot slots many k; entry = Some (f (get_or es k d)) } ∷ []
even-more f slots many es k d lt =
    let front = take k es in
    let size : 0 + length (map f front) ≡ k = omega (arith, length-map front f, length-take-le k es (omega (arith, lt))) in
    ap (λ xs. even_writes slots many 0 (map f xs)) (take_more es k d lt)
    ∙ ap (even_writes slots many 0) (map-append f front (get_or es k d ∷ []))
    ∙ even-append slots many 0 (map f front) (f (get_or es k d) ∷ [])
    ∙ ap (λ n. even_writes slots many 0 (map f front) ++ even_writes slots many n (f (get_or es k d) ∷ [])) size

-- the slot of an entry is one of these
pub even_within : (slots many place : ℕ) → place < many → 0 < slots → even_slot slots many place < slots
even_within slots many place lt some =
    let ahead : (2 * place + 1) * slots < (2 * many) * slots = mul-lt-mul_of_pos_right (let e : 2 * place + 1 < 2 * many = omega (arith, lt) in e) some in
    let k : 0 < 2 * many = omega (arith, lt) in
    (div-lt_iff_lt-mul k).1 (subst (λ n. (2 * place + 1) * slots < n) (mul_comm (2 * many) slots) ahead)

-- one write more
pub after_more : (names : List (List ℕ)) (slots : List (Option Entry)) (puts : List Put) (k : ℕ) (p : Put) → p ≡ get_or puts k p → k < length puts →
    set (after slots (writes_of names (take k puts))) p.slot (option_map (entry_of names) p.entry) ≡ after slots (writes_of names (take (k + 1) puts))
after_more names slots puts k p is lt =
    let w = write_of names (get_or puts k p) in
    ap (λ (q : Put). set (after slots (writes_of names (take k puts))) q.slot (option_map (entry_of names) q.entry)) is
    ∙ sym (ap (λ xs. after slots (writes_of names xs)) (take_more puts k p lt)
    ∙ ap (after slots) (map-append (write_of names) (take k puts) (get_or puts k p ∷ []))
    ∙ after-append slots (writes_of names (take k puts)) (w ∷ []))

-- one entry more is spread over slots
pub spread_more : (names : List (List ℕ)) (base : List (Option Entry)) (slots many : ℕ) (es : List code_entry.Entry) (k : ℕ) (d : code_entry.Entry) → k < length es →
    set (after base (even_writes slots many 0 (map (entry_of names) (take k es)))) (even_slot slots many k) (Some (entry_of names (get_or es k d))) ≡ after base (even_writes slots many 0 (map (entry_of names) (take (k + 1) es)))
spread_more names base slots many es k d lt =
    let w : Write = record { slot = even_slot slots many k; entry = Some (entry_of names (get_or es k d)) } in
    sym (ap (after base) (even-more (entry_of names) slots many es k d lt) ∙ after-append base (even_writes slots many 0 (map (entry_of names) (take k es))) (w ∷ []))

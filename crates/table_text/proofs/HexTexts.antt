-- Columns in hexadecimal are read as they are written.
use Rattle.std.proofs.Common.{◌≡◌, ◌∷◌, ◌++◌, ℕ, zero, suc, ◌+◌, ◌*◌, ◌/◌, ◌%◌, ◌^◌, ◌<◌, Bool, true, ap, refl, ◌∙◌, arith, length, fold, nat_lt, nat_eq, Some}
use Rattle.std.specs.List.{list_all}
use Rattle.std.specs.Char.{digit_value}
use Rattle.std.proofs.lemmas.Bool.{agree_below, agree_below_at, and_from, eq-eqb, eqb-true, lt-ltb, le-leb}
use Rattle.std.proofs.lemmas.Nat.{mod-pow-add, mod_below, pow-add, pow_pos}
use Rattle.table_text.specs.Headline.Hexadecimal.{hex_digit}
use Rattle.table_text.proofs.ColumnTexts.{hex_of}
use Rattle.text_lines.specs.Headline.Numbers.{is_number, number_of, number_within}
use Rattle.text_lines.proofs.Joins.{is_other, split_once-joined}
use Rattle.table_text.specs.Columns.{hex_number, masked_of}

-- what holds of each of the sixteen digits holds of all
pub hex_all : (p : ℕ → Bool) → agree_below (λ d. p (hex_digit d)) (λ d. true) 16 ≡ true → (k n : ℕ) → list_all p (hex_of k n) ≡ true
hex_all p table zero n = refl
hex_all p table (suc k) n =
    and_from (p (hex_digit (n / 2 ^ (4 * k) % 16))) (list_all p (hex_of k n)) (agree_below_at (λ d. p (hex_digit d)) (λ d. true) 16 (n / 2 ^ (4 * k) % 16) table (omega arith)) (hex_all p table k n)

length-hex : (k n : ℕ) → length (hex_of k n) ≡ k
length-hex zero n = refl
length-hex (suc k) n = ap suc (length-hex k n)

digit_back : (d : ℕ) → d < 16 → digit_value (hex_digit d) ≡ d
digit_back d h = eqb-true (digit_value (hex_digit d)) d (agree_below_at (λ e. nat_eq (digit_value (hex_digit e)) e) (λ e. true) 16 d refl h)

regroup : (k n acc : ℕ) → (acc * 16 + n / 2 ^ (4 * k) % 16) * 2 ^ (4 * k) + n % 2 ^ (4 * k) ≡ acc * 2 ^ (4 * suc k) + n % 2 ^ (4 * suc k)
regroup k n acc =
    let wide : 4 * suc k ≡ 4 + 4 * k = omega arith in
    let power : 2 ^ (4 + 4 * k) ≡ 16 * 2 ^ (4 * k) = pow-add 2 4 (4 * k) in
    let low : n % 2 ^ (4 + 4 * k) ≡ (n / 2 ^ (4 * k) % 16) * 2 ^ (4 * k) + n % 2 ^ (4 * k) = mod-pow-add n 4 (4 * k) in
    rw (wide, low, power) (omega arith)

hex_fold : (k n acc : ℕ) → fold (λ a b. a * 16 + digit_value b) acc (hex_of k n) ≡ acc * 2 ^ (4 * k) + n % 2 ^ (4 * k)
hex_fold zero n acc = omega arith
hex_fold (suc k) n acc =
    let d = n / 2 ^ (4 * k) % 16 in
    ap (λ x. fold (λ a b. a * 16 + digit_value b) (acc * 16 + x) (hex_of k n)) (digit_back d (omega arith)) ∙ hex_fold k n (acc * 16 + d) ∙ regroup k n acc

hex_value : (k n : ℕ) → number_of 16 (hex_of k n) ≡ n % 2 ^ (4 * k)
hex_value k n = hex_fold k n 0 ∙ (let e : 0 * 2 ^ (4 * k) + n % 2 ^ (4 * k) ≡ n % 2 ^ (4 * k) = omega arith in e)

hex_is_number : (k n : ℕ) → 0 < k → is_number 16 (hex_of k n) ≡ true
hex_is_number k n some =
    let size = length-hex k n in
    and_from (nat_lt 0 (length (hex_of k n))) (list_all (λ b. nat_lt (digit_value b) 16) (hex_of k n)) (lt-ltb 0 (length (hex_of k n)) (omega (arith, size))) (hex_all (λ b. nat_lt (digit_value b) 16) refl k n)

hex_within : (k greatest n : ℕ) → 0 < k → greatest + 1 ≡ 2 ^ (4 * k) → number_within 16 greatest (hex_of k n) ≡ Some (n % 2 ^ (4 * k))
unfolding number_within
hex_within k greatest n some top =
    let below = mod_below n (2 ^ (4 * k)) (pow_pos (4 * k)) in
    rw (hex_is_number k n some, hex_value k n, le-leb (n % 2 ^ (4 * k)) greatest (omega (arith, below, top))) refl

hex_read : (k greatest n : ℕ) → 0 < k → greatest + 1 ≡ 2 ^ (4 * k) → hex_number k greatest (hex_of k n) ≡ Some (n % 2 ^ (4 * k))
unfolding hex_number
hex_read k greatest n some top = rw (eq-eqb (length (hex_of k n)) k (length-hex k n)) (hex_within k greatest n some top)

-- the value and the mask of a column
pub masked-read : (k greatest v m : ℕ) → 0 < k → greatest + 1 ≡ 2 ^ (4 * k) →
    masked_of k greatest (hex_of k v ++ 47 ∷ hex_of k m) ≡ Some (record { value = v % 2 ^ (4 * k); mask = m % 2 ^ (4 * k) })
unfolding masked_of
masked-read k greatest v m some top =
    rw (split_once-joined 47 (hex_of k v) (hex_of k m) (hex_all (is_other 47) refl k v), hex_read k greatest v some top, hex_read k greatest m some top) refl

-- The bank after the first writes of a swap is two blocks.
use Rattle.std.proofs.Common.{◌≡◌, ℕ, zero, suc, ◌+◌, ◌-◌, ◌≤◌, ◌<◌, Bool, true, false, cond, nat_lt, None, length, replicate, ◌++◌, set, slice_get, refl, ap, sym, ◌∙◌, arith, ltb-true, ltb-false}
use Rattle.std.proofs.lemmas.Option.{slice_get_past}
use Rattle.bank_update.specs.Banks.{alone}
use Rattle.bank_update.specs.Writes.{Layout, IsBeside, write_count, target, written, erased, bank_after}
use Rattle.bank_update.proofs.Front.{front, front-all, front-put, front-clear}
use Rattle.bank_update.proofs.Blocks.{blocks, set-new, set-old, old-alone, new-alone}

-- how many old entries are left after so many writes
abbrev pub kept : {E : Type 0} → Layout E → ℕ → ℕ
kept s d = length s.old - (d - length s.new)

same_old : {E : Type 0} (below : Bool) (s : Layout E) (i k j : ℕ) → i ≡ k → blocks below s i j ≡ blocks below s k j
same_old below s i k j e = ap (λ n. blocks below s n j) e

same_new : {E : Type 0} (below : Bool) (s : Layout E) (i j k : ℕ) → length s.new ≤ j → length s.new ≤ k → blocks below s i j ≡ blocks below s i k
same_new true s i j k h l =
    ap (λ r. replicate s.a None ++ (front i s.old ++ (r ++ replicate (s.slots - s.b - length s.new) None))) (front-all j s.new h ∙ sym (front-all k s.new l))
same_new false s i j k h l =
    ap (λ r. replicate s.b None ++ (r ++ (front i s.old ++ replicate (s.slots - s.a - length s.old) None))) (front-all j s.new h ∙ sym (front-all k s.new l))

-- a write takes the blocks of one stage to those of the next
step_case : {E : Type 0} (below : Bool) (s : Layout E) (d : ℕ) (t : Bool) → nat_lt d (length s.new) ≡ t → IsBeside below s → d < write_count s →
    set (blocks below s (kept s d) d) (cond t (s.b + d) (s.a + (write_count s - suc d))) (written s d) ≡ blocks below s (kept s (suc d)) (suc d)
step_case below s d true is h small =
    let less = ltb-true d (length s.new) is in
    set-new below s (kept s d) d (suc d) d (written s d) h less (front-put d s.new) ∙ same_old below s (kept s d) (kept s (suc d)) (suc d) (omega (arith, less))
step_case below s d false is h small =
    let most = ltb-false d (length s.new) is in
    let k = write_count s - suc d in
    ap (λ v. set (blocks below s (kept s d) d) (s.a + k) v) (slice_get_past s.new d most)
    ∙ ap (λ n. set (blocks below s n d) (s.a + k) None) (let f : kept s d ≡ suc k = omega (arith, most, small) in f)
    ∙ set-old below s (suc k) d k k None h (omega (arith, most, small)) (front-clear k s.old (omega (arith, most, small)))
    ∙ same_old below s k (kept s (suc d)) d (omega (arith, most, small)) ∙ same_new below s (kept s (suc d)) d (suc d) most (omega (arith, most))

pub stage : {E : Type 0} (below : Bool) (s : Layout E) (d : ℕ) → IsBeside below s → d ≤ write_count s → bank_after s d ≡ blocks below s (kept s d) d
stage below s zero h small = sym (old-alone below s (kept s zero) h (omega arith))
stage below s (suc d) h small =
    ap (λ bank. set bank (target s d) (written s d)) (stage below s d h (omega (arith, small)))
    ∙ step_case below s d (nat_lt d (length s.new)) refl h (omega (arith, small))

pub last : {E : Type 0} (below : Bool) (s : Layout E) → IsBeside below s → bank_after s (write_count s) ≡ alone s.slots s.b s.new
last below s h =
    stage below s (write_count s) h (omega arith) ∙ same_old below s (kept s (write_count s)) 0 (write_count s) (omega arith) ∙ new-alone below s (write_count s) h (omega arith)

undo_case : {E : Type 0} (below : Bool) (s : Layout E) (d : ℕ) (t : Bool) → nat_lt d (length s.new) ≡ t → IsBeside below s → d < write_count s →
    set (blocks below s (kept s (suc d)) (suc d)) (cond t (s.b + d) (s.a + (write_count s - suc d))) (cond t None (slice_get s.old (write_count s - suc d))) ≡ blocks below s (kept s d) d
undo_case below s d true is h small =
    let less = ltb-true d (length s.new) is in
    set-new below s (kept s (suc d)) (suc d) d d None h less (front-clear d s.new less) ∙ same_old below s (kept s (suc d)) (kept s d) d (omega (arith, less))
undo_case below s d false is h small =
    let most = ltb-false d (length s.new) is in
    let k = write_count s - suc d in
    ap (λ n. set (blocks below s n (suc d)) (s.a + k) (slice_get s.old k)) (let f : kept s (suc d) ≡ k = omega (arith, most, small) in f)
    ∙ set-old below s k (suc d) (suc k) k (slice_get s.old k) h (omega (arith, most, small)) (front-put k s.old)
    ∙ same_old below s (suc k) (kept s d) (suc d) (omega (arith, most, small)) ∙ same_new below s (kept s d) (suc d) d (omega (arith, most)) most

pub undone : {E : Type 0} (below : Bool) (s : Layout E) (d : ℕ) → IsBeside below s → d < write_count s → set (bank_after s (suc d)) (target s d) (erased s d) ≡ bank_after s d
undone below s d h small =
    ap (λ bank. set bank (target s d) (erased s d)) (stage below s (suc d) h (omega (arith, small)))
    ∙ undo_case below s d (nat_lt d (length s.new)) refl h small ∙ sym (stage below s d h (omega (arith, small)))

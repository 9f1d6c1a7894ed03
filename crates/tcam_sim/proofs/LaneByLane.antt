-- Operations on vectors of eight numbers, lane by lane.
use Rattle.std.proofs.Common.{◌≡◌, ℕ, ◌+◌, ◌≤◌, List, length, get_or, replicate, ap, sym, ◌∙◌, arith}
use Rattle.std.specs.Prelude.{bit_and, bit_or, bit_xor}
use Rattle.std.specs.Simd.Lanes.{chunk, zip2}
use Rattle.std.proofs.lemmas.List.{get_or-replicate, length-replicate}
use Rattle.std.proofs.lemmas.Simd.{length-chunk, get_or-chunk, length-zip2, get_or-zip2}
use Rattle.tcam_sim.specs.Vectors.{AreLanes}

pub lanes_of_splat : (x : ℕ) → AreLanes (replicate 8 x) (λ _. x)
lanes_of_splat x = record { eight = length-replicate 8 x; each = λ i h. get_or-replicate 8 i x 0 h }

pub lanes_of_chunk : (start : ℕ) (xs : List ℕ) → start + 8 ≤ length xs → AreLanes (chunk start 8 xs) (λ i. get_or xs (start + i) 0)
lanes_of_chunk start xs room = record { eight = length-chunk start 8 xs room; each = λ i h. get_or-chunk start 8 xs i 0 h }

-- lanes that were loaded from a column that is another
pub lanes_at : (lanes xs ys : List ℕ) (start : ℕ) → xs ≡ ys → AreLanes lanes (λ i. get_or xs (start + i) 0) → AreLanes lanes (λ i. get_or ys (start + i) 0)
lanes_at lanes xs ys start same loaded = record { eight = loaded.eight; each = λ i h. loaded.each i h ∙ ap (λ zs. get_or zs (start + i) 0) same }

pub lanes_of_zip2 : (op : ℕ → ℕ → ℕ) (xs ys : List ℕ) (f g : ℕ → ℕ) → AreLanes xs f → AreLanes ys g → AreLanes (zip2 op xs ys) (λ i. op (f i) (g i))
lanes_of_zip2 op xs ys f g x y = record {
  eight = length-zip2 op xs ys (x.eight ∙ sym y.eight) ∙ x.eight;
  each = λ i h. get_or-zip2 op xs ys i 0 0 0 (omega (arith, h, x.eight)) (omega (arith, h, y.eight)) ∙ ap (λ a. op a (get_or ys i 0)) (x.each i h) ∙ ap (op (f i)) (y.each i h);
}

-- where two numbers differ from five columns
pub differing_lanes : (kh kl : ℕ) (vh mh vl ml a : List ℕ) (f g h k d : ℕ → ℕ) → AreLanes vh f → AreLanes mh g → AreLanes vl h → AreLanes ml k → AreLanes a d →
    AreLanes (zip2 bit_or (zip2 bit_or (zip2 bit_and (zip2 bit_xor (replicate 8 kh) vh) mh) (zip2 bit_and (zip2 bit_xor (replicate 8 kl) vl) ml)) a)
    (λ i. bit_or (bit_or (bit_and (bit_xor kh (f i)) (g i)) (bit_and (bit_xor kl (h i)) (k i))) (d i))
differing_lanes kh kl vh mh vl ml a f g h k d vhf mhg vlh mlk ad =
    let high = lanes_of_zip2 bit_and _ _ _ _ (lanes_of_zip2 bit_xor _ _ _ _ (lanes_of_splat kh) vhf) mhg in
    let low = lanes_of_zip2 bit_and _ _ _ _ (lanes_of_zip2 bit_xor _ _ _ _ (lanes_of_splat kl) vlh) mlk in
    lanes_of_zip2 bit_or _ _ _ _ (lanes_of_zip2 bit_or _ _ _ _ high low) ad

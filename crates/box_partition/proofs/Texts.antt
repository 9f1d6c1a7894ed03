-- The lines of rows, group by group, and how many rows there are.
use Rattle.std.proofs.Common.{◌≡◌, ◌∷◌, ◌++◌, ℕ, ◌+◌, ◌<◌, ◌≤◌, List, [], length, get_or, take, map, refl, ap, sym, ◌∙◌, arith, append_assoc, append-nil, length-append, flat_map}
use Rattle.std.proofs.lemmas.List.{take_more, length-map}
use Rattle.std.proofs.lemmas.List.Concat.{flat_map-append}
use Rattle.field_boxes.specs.Headline.Classifier.{Interval}
use Rattle.partition_check.specs.Checking.{Statement}
use Rattle.partition_check.specs.Partition.{Group, rows_of}
use Rattle.partition_check.specs.RowText.{row_line, row_text}
use Rattle.partition_check.specs.Good.{last_text, certificate_text}
use Rattle.box_partition.specs.Coarsest.{put_interval}
use Rattle.box_partition.specs.Rows.{put_front, rows_text, group_text}

front-interval : (front : List Interval) (i : Interval) (s : Statement) → put_front front (put_interval i s) ≡ put_front (front ++ i ∷ []) s
front-interval front i s = ap (λ (b : List Interval). let t : Statement = record { box = b; rule = s.rule; entry = s.entry } in t) (sym (append_assoc front (i ∷ []) s.box))

group-lines : (front : List Interval) (i : Interval) (rows : List Statement) → rows_text front (map (put_interval i) rows) ≡ rows_text (front ++ i ∷ []) rows
group-lines front i [] = refl
group-lines front i (s ∷ rows) = ap (λ t. row_line t ++ rows_text front (map (put_interval i) rows)) (front-interval front i s) ∙ ap (λ t. row_line (put_front (front ++ i ∷ []) s) ++ t) (group-lines front i rows)

-- the lines of the rows of groups are those of the groups
pub groups-lines : (front : List Interval) (groups : List (Group Statement)) → flat_map (group_text front) groups ≡ rows_text front (rows_of put_interval groups)
groups-lines front [] = refl
groups-lines front (x ∷ groups) =
    ap (λ t. group_text front x ++ t) (groups-lines front groups) ∙ ap (λ t. t ++ rows_text front (rows_of put_interval groups)) (sym (group-lines front x.first x.rest))
    ∙ sym (flat_map-append (λ s. row_line (put_front front s)) (map (put_interval x.first) x.rest) (rows_of put_interval groups))

rows-append : (xs ys : List (Group Statement)) → rows_of put_interval (xs ++ ys) ≡ rows_of put_interval xs ++ rows_of put_interval ys
rows-append [] ys = refl
rows-append (x ∷ xs) ys =
    ap (λ rows. map (put_interval x.first) x.rest ++ rows) (rows-append xs ys) ∙ sym (append_assoc (map (put_interval x.first) x.rest) (rows_of put_interval xs) (rows_of put_interval ys))

-- as many rows as the groups so far have
abbrev pub count_before : List (Group Statement) → ℕ → ℕ
count_before groups k = length (rows_of put_interval (take k groups))

one-group : (x : Group Statement) → length (rows_of put_interval (x ∷ [])) ≡ length x.rest
one-group x = ap length (append-nil (map (put_interval x.first) x.rest)) ∙ length-map x.rest (put_interval x.first)

pub count-next : (groups : List (Group Statement)) (k n m : ℕ) (d : Group Statement) → k < length groups → n ≡ count_before groups k → m ≡ length (get_or groups k d).rest → n + m ≡ count_before groups (k + 1)
count-next groups k n m d less e f =
    let all : count_before groups (k + 1) ≡ count_before groups k + length (get_or groups k d).rest =
    ap (λ xs. length (rows_of put_interval xs)) (take_more groups k d less) ∙ ap length (rows-append (take k groups) (get_or groups k d ∷ []))
    ∙ length-append (rows_of put_interval (take k groups)) (rows_of put_interval (get_or groups k d ∷ [])) ∙ ap (λ c. count_before groups k + c) (one-group (get_or groups k d)) in
    omega (arith, all, e, f)

-- rows with nothing in front
lines-alone : (rows : List Statement) → rows_text [] rows ≡ flat_map row_line rows
lines-alone [] = refl
lines-alone (s ∷ rows) = ap (λ t. row_line s ++ t) (lines-alone rows)

-- the lines of all rows and the last line are the text of the certificate
pub certificate-lines : (rows : List Statement) (n : ℕ) → n ≡ length rows → rows_text [] rows ++ (last_text n ++ 10 ∷ []) ≡ certificate_text rows
certificate-lines rows n e =
    ap (λ m. rows_text [] rows ++ (last_text m ++ 10 ∷ [])) e ∙ ap (λ t. t ++ (last_text (length rows) ++ 10 ∷ [])) (lines-alone rows)
    ∙ sym (append_assoc (flat_map row_line rows) (last_text (length rows)) (10 ∷ []))

-- a text has as many bytes as it has rows
line-some : (s : Statement) → 1 ≤ length (row_line s)
line-some s = let n = length-append (row_text s) (10 ∷ []) in omega (arith, n)

lines-many : (rows : List Statement) → length rows ≤ length (flat_map row_line rows)
lines-many [] = omega arith
lines-many (s ∷ rows) = let n = length-append (row_line s) (flat_map row_line rows) in let one = line-some s in let more = lines-many rows in omega (arith, n, one, more)

pub text-many : (rows : List Statement) → length rows ≤ length (certificate_text rows)
text-many rows =
    let all = length-append (flat_map row_line rows ++ last_text (length rows)) (10 ∷ []) in
    omega (arith, lines-many rows, length-append (flat_map row_line rows) (last_text (length rows)), all)

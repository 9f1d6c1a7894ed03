-- What the walk needs of the parts of a field: where they begin and end, to which nodes they lead, and how many rows they can have.
use Rattle.std.proofs.Common.{◌≡◌, ◌∷◌, ◌++◌, ℕ, zero, suc, ◌+◌, ◌*◌, ◌^◌, ◌<◌, ◌≤◌, List, [], length, get_or, set, drop, take, map, refl, ap, sym, subst, ◌∙◌, arith, add-one, append-nil, min, mul-le-mul_right, suc-mul, Option, unwrap_or, flat_map}
use Rattle.std.proofs.lemmas.List.{take_all, length-map, get_or-map, get_or_default}
use Rattle.field_boxes.specs.Alike.{AreAlikeOver}
use Rattle.field_boxes.specs.declared.span.Span.{Span}
use Rattle.field_boxes.specs.Headline.Classifier.{Interval}
use Rattle.field_boxes.specs.Headline.Fields.{stated}
use Rattle.field_boxes.specs.Fields.{greatest_of}
use Rattle.node_store.specs.Levels.{IsLevel, next, top_of}
use Rattle.node_store.proofs.Stated.{next_is, top_is, is_level}
use Rattle.field_boxes.specs.Spans.{interval_of, intervals_of}
use Rattle.node_store.specs.declared.edge.Edge.{Edge}
use Rattle.node_store.specs.declared.split.Part.{Part}
use Rattle.node_store.specs.Diagram.{Node, level_of, edges_of, decision_of, answer}
use Rattle.node_store.specs.Edges.{AreFull}
use Rattle.node_store.specs.Split.{IsSplit, to_left, to_right}
use Rattle.node_store.specs.Store.{LeadTo}
use Rattle.node_store.proofs.Edges as edges
use Rattle.field_boxes.specs.Boxes.{LiesIn}
use Rattle.partition_check.specs.Checking.{Statement}
use Rattle.partition_check.specs.Partition.{Group}
use Rattle.partition_check.specs.RowText.{row_line}
use Rattle.box_partition.specs.Coarsest.{Claims, claims_of}
use Rattle.box_partition.specs.Firsts.{number_answered, node_claims}
use Rattle.box_partition.specs.Rows.{AreRowsOf, ArePaired, begins_at, put_front, rows_text, group_text, headers_from}
use Rattle.box_partition.proofs.Coarse.{AreRight, claimed-right}
use Rattle.field_boxes.proofs.SameValues.{same_interval}
use Rattle.box_partition.proofs.Pairing.{HasGroups, has-groups, begins_from, begins-next, begins-zero}
use Rattle.box_partition.proofs.Texts.{groups-lines}
use Rattle.field_boxes.proofs.Orders.{field_few}

-- What is said of a node's level, said of the stated order.

pub top-split : (nodes : List Node) (level : ℕ) (left right : List Edge) (parts : List Part) (a : ℕ) → level < 5 → level_of nodes a ≡ drop level stated →
    IsSplit (top_of (level_of nodes a)) left right parts → IsSplit (greatest_of level) left right parts
top-split nodes level left right parts a less at split = subst (λ g. IsSplit g left right parts) (ap top_of at ∙ top_is level less) split

pub next-lead : (nodes : List Node) (level : ℕ) (edges : List Edge) (a : ℕ) → level < 5 → level_of nodes a ≡ drop level stated →
    LeadTo nodes (next (level_of nodes a)) edges → LeadTo nodes (drop (suc level) stated) edges
next-lead nodes level edges a less at lead = subst (λ k. LeadTo nodes k edges) (ap next at ∙ next_is level less) lead

-- The groups of the rows of two nodes of a level, by what the calls of the walk say.

pub groups-of : (nodes : List Node) (level a b : ℕ) (rows : List Statement) (parts items : List Part) → level < 5 → level_of nodes a ≡ drop level stated →
    ((k : List ℕ) (m n : ℕ) → IsLevel k → level_of nodes m ≡ k → level_of nodes n ≡ k → AreAlikeOver k (answer nodes m) (answer nodes n) → m ≡ n) →
    IsSplit (top_of (level_of nodes a)) (edges_of nodes a) (edges_of nodes b) items → LeadTo nodes (next (level_of nodes a)) (map to_left items) →
    LeadTo nodes (next (level_of nodes a)) (map to_right items) → parts ≡ items → AreRowsOf nodes level a b rows → HasGroups nodes (suc level) rows parts
groups-of nodes level a b rows parts items less at same split left right is h =
    has-groups nodes level a b rows parts less (λ m n lm ln alike. same (drop (suc level) stated) m n (is_level (suc level)) lm ln alike)
    (subst (λ ps. IsSplit (greatest_of level) (edges_of nodes a) (edges_of nodes b) ps) (sym is) (top-split nodes level (edges_of nodes a) (edges_of nodes b) items a less at split))
    (subst (λ (ps : List Part). LeadTo nodes (drop (suc level) stated) (map to_left ps)) (sym is) (next-lead nodes level (map to_left items) a less at left))
    (subst (λ (ps : List Part). LeadTo nodes (drop (suc level) stated) (map to_right ps)) (sym is) (next-lead nodes level (map to_right items) a less at right))
    h

-- the lines of its groups are those of the rows
pub grouped-lines : (nodes : List Node) (level : ℕ) (rows : List Statement) (parts : List Part) (front : List Interval) (h : HasGroups nodes level rows parts) → flat_map (group_text front) h.groups ≡ rows_text front rows
grouped-lines nodes level rows parts front h = groups-lines front h.groups ∙ ap (rows_text front) (sym h.rows_are)

-- The row of two leaves.

leaf-row : (nodes : List Node) (a b : ℕ) (rows : List Statement) → AreRowsOf nodes 5 a b rows →
    (s : Statement) × (rows ≡ s ∷ []) × (s.box ≡ []) × (claims_of s ≡ node_claims nodes a b [])
leaf-row nodes a b rows h =
    let one = h.coarsest in
    let right = subst (AreRight (node_claims nodes a b)) one.2 (claimed-right (node_claims nodes a b) rows h.claimed) in
    (one.0, one.2, one.1, sym (right.0 [] (subst (λ box. LiesIn box []) (sym one.1) tt)))

statement-is : (s : Statement) (box : List Interval) (rule entry : Option ℕ) (front : List Interval) → front ++ s.box ≡ box → s.rule ≡ rule → s.entry ≡ entry →
    (let t : Statement = record { box = box; rule = rule; entry = entry } in t) ≡ put_front front s
statement-is s box rule entry front b r e =
    ap (λ (x : List Interval). let t : Statement = record { box = x; rule = rule; entry = entry } in t) (sym b)
    ∙ ap (λ (x : Option ℕ). let t : Statement = record { box = front ++ s.box; rule = x; entry = entry } in t) (sym r)
    ∙ ap (λ (x : Option ℕ). let t : Statement = record { box = front ++ s.box; rule = s.rule; entry = x } in t) (sym e)

pub leaf-line : (nodes : List Node) (a b : ℕ) (rows : List Statement) (spans : List Span) (rule entry d e : Option ℕ) → AreRowsOf nodes 5 a b rows → length spans ≡ 5 →
    rule ≡ number_answered (unwrap_or d 0) → d ≡ decision_of nodes a → entry ≡ number_answered (unwrap_or e 0) → e ≡ decision_of nodes b →
    row_line (record { box = intervals_of spans; rule = rule; entry = entry }) ≡ rows_text (take 5 (intervals_of spans)) rows
leaf-line nodes a b rows spans rule entry d e h five r at_a s at_b =
    let row = leaf-row nodes a b rows h in
    let front = take 5 (intervals_of spans) in
    let whole : front ≡ intervals_of spans = take_all 5 (intervals_of spans) (let n = length-map spans interval_of in omega (arith, n, five)) in
    let same = statement-is row.0 (intervals_of spans) rule entry front (ap (λ box. front ++ box) row.2 ∙ append-nil front ∙ whole)
    (ap (λ (c : Claims). c.0) row.3 ∙ ap (λ o. number_answered (unwrap_or o 0)) (sym at_a) ∙ sym r) (ap (λ (c : Claims). c.1) row.3 ∙ ap (λ o. number_answered (unwrap_or o 0)) (sym at_b) ∙ sym s) in
    ap row_line same ∙ sym (append-nil (row_line (put_front front row.0))) ∙ ap (rows_text front) (sym row.1)

-- Where the parts begin and end.

rise-at : (g lo : ℕ) (parts : List Part) → edges.Rise g lo (map to_left parts) → (k : ℕ) (d : Part) → k < length parts → (begins_from lo parts k ≤ (get_or parts k d).hi) × ((get_or parts k d).hi ≤ g)
rise-at g lo [] h k d less = absurd h
rise-at g lo (p ∷ ps) h zero d less = edges.bounded g lo (to_left p) (map to_left ps) h
rise-at g lo (p ∷ []) h (suc k) d less = absurd (omega (arith, less))
rise-at g lo (p ∷ q ∷ ps) h (suc k) d less =
    let r = rise-at g (suc p.hi) (q ∷ ps) h.1 k d (omega (arith, less)) in
    (subst (λ n. n ≤ (get_or (q ∷ ps) k d).hi) (begins-next lo p (q ∷ ps) k) r.0, r.1)

pub part-ends : (g : ℕ) (parts : List Part) → AreFull g (map to_left parts) → (k : ℕ) (d : Part) → k < length parts → (begins_at parts k ≤ (get_or parts k d).hi) × ((get_or parts k d).hi ≤ g)
part-ends g parts full k d less =
    let r = rise-at g 0 parts (edges.rise_of g (map to_left parts) full) k d less in
    (subst (λ n. n ≤ (get_or parts k d).hi) (begins-zero parts k) r.0, r.1)

rise-end : (g lo : ℕ) (parts : List Part) → edges.Rise g lo (map to_left parts) → begins_from lo parts (length parts) ≡ suc g
rise-end g lo [] h = absurd h
rise-end g lo (p ∷ []) h = ap suc h.1
rise-end g lo (p ∷ q ∷ ps) h = sym (begins-next lo p (q ∷ ps) (length (q ∷ ps))) ∙ rise-end g (suc p.hi) (q ∷ ps) h.1

pub parts-end : (g : ℕ) (parts : List Part) → AreFull g (map to_left parts) → begins_at parts (length parts) ≡ suc g
parts-end g parts full = sym (begins-zero parts (length parts)) ∙ rise-end g 0 parts (edges.rise_of g (map to_left parts) full)

-- the part after one begins behind it
pub begins-behind : (parts : List Part) (k : ℕ) (d : Part) → k < length parts → begins_at parts (k + 1) ≡ suc (get_or parts k d).hi
begins-behind parts k d less = rw (add-one k) (ap (λ (p : Part). suc p.hi) (get_or_default parts k (record { hi = 0; left = record { 0 = 0 }; right = record { 0 = 0 } }) d less))

-- where the next part begins, as the code adds it up
pub next-begins : (level : ℕ) (parts : List Part) (k : ℕ) (part : Part) (n : ℕ) → level < 5 → AreFull (greatest_of level) (map to_left parts) → part ≡ get_or parts k part →
    n ≡ min (part.hi + 1) 4294967295 → k + 1 < length parts → n ≡ begins_at parts (k + 1)
next-begins level parts k part n five full is e less =
    let next = part-ends (greatest_of level) parts full (k + 1) part less in
    let behind = begins-behind parts k part (omega (arith, less)) ∙ ap (λ (p : Part). suc p.hi) (sym is) in
    omega (arith, e, behind, next.0, next.1, field_few level five)

-- the nodes to which a part leads
pub leads-left : (nodes : List Node) (level : List ℕ) (parts : List Part) (k : ℕ) (d : Part) → LeadTo nodes level (map to_left parts) → k < length parts → level_of nodes (get_or parts k d).left.0 ≡ level
leads-left nodes level parts k d h less =
    ap (λ (e : Edge). level_of nodes e.to.0) (sym (get_or-map to_left parts k d (to_left d) less)) ∙ h k (to_left d) (let n = length-map parts to_left in omega (arith, n, less))

pub leads-right : (nodes : List Node) (level : List ℕ) (parts : List Part) (k : ℕ) (d : Part) → LeadTo nodes level (map to_right parts) → k < length parts → level_of nodes (get_or parts k d).right.0 ≡ level
leads-right nodes level parts k d h less =
    ap (λ (e : Edge). level_of nodes e.to.0) (sym (get_or-map to_right parts k d (to_right d) less)) ∙ h k (to_right d) (let n = length-map parts to_right in omega (arith, n, less))

-- How many rows there can be.

pub headers-field : (level : ℕ) → level < 5 → suc (greatest_of level) * headers_from (suc level) ≡ headers_from level
headers-field (suc (suc (suc (suc (suc level))))) h = absurd (omega (arith, h))
headers-field level h = refl

headers-small : (level : ℕ) → level < 5 → headers_from level ≤ 2 ^ 104
headers-small (suc (suc (suc (suc (suc level))))) h = absurd (omega (arith, h))
headers-small level h = omega arith

times-more : (a b c m n : ℕ) → n ≤ a * c → m ≤ c → suc a ≤ b → n + m ≤ b * c
times-more a b c m n h k less =
    let step : suc a * c ≤ b * c = mul-le-mul_right c less in
    let one : suc a * c ≡ a * c + c = suc-mul a c in
    omega (arith, h, k, step, one)

-- with one part more, the rows so far and those of the part are no more than the headers so far
pub few-next : (level : ℕ) (parts : List Part) (k : ℕ) (d : Part) (n m : ℕ) → AreFull (greatest_of level) (map to_left parts) → k < length parts →
    n ≤ begins_at parts k * headers_from (suc level) → m ≤ headers_from (suc level) → n + m ≤ begins_at parts (k + 1) * headers_from (suc level)
few-next level parts k d n m full less before here =
    let ends = part-ends (greatest_of level) parts full k d less in
    let behind = begins-behind parts k d less in
    times-more (begins_at parts k) (begins_at parts (k + 1)) (headers_from (suc level)) m n before here (omega (arith, ends.0, behind))

few-within : (level : ℕ) (a n : ℕ) → level < 5 → a ≤ suc (greatest_of level) → n ≤ a * headers_from (suc level) → n ≤ headers_from level
few-within level a n five top h =
    let step : a * headers_from (suc level) ≤ suc (greatest_of level) * headers_from (suc level) = mul-le-mul_right (headers_from (suc level)) top in
    omega (arith, h, step, headers-field level five)

-- so their number is one of 128 bits
pub few-enough : (level : ℕ) (parts : List Part) (k : ℕ) (d : Part) (n m : ℕ) → level < 5 → AreFull (greatest_of level) (map to_left parts) → k < length parts →
    n ≤ begins_at parts k * headers_from (suc level) → m ≤ headers_from (suc level) → n + m < 2 ^ 128
few-enough level parts k d n m five full less before here =
    let ends = part-ends (greatest_of level) parts full k d less in
    let behind = begins-behind parts k d less in
    let within = few-within level (begins_at parts (k + 1)) (n + m) five (omega (arith, behind, ends.1)) (few-next level parts k d n m full less before here) in
    omega (arith, within, headers-small level five)

pub few-all : (level : ℕ) (parts : List Part) (k n : ℕ) → level < 5 → AreFull (greatest_of level) (map to_left parts) → k ≡ length parts → n ≤ begins_at parts k * headers_from (suc level) → n ≤ headers_from level
few-all level parts k n five full e h =
    let end : begins_at parts k ≡ suc (greatest_of level) = ap (begins_at parts) e ∙ parts-end (greatest_of level) parts full in
    few-within level (begins_at parts k) n five (omega (arith, end)) h

-- The spans in front of a row.

front-more : (spans : List Span) (level : ℕ) (s : Span) → level < length spans → take (suc level) (intervals_of (set spans level s)) ≡ take level (intervals_of spans) ++ interval_of s ∷ []
front-more [] level s h = absurd (omega (arith, h))
front-more (x ∷ spans) zero s h = refl
front-more (x ∷ spans) (suc level) s h = ap (λ is. interval_of x ∷ is) (front-more spans level s (omega (arith, h)))

-- the lines of a group, where its interval is set behind those in front
pub group-line : (nodes : List Node) (below level : ℕ) (groups : List (Group Statement)) (parts : List Part) (k n : ℕ) (d : Group Statement) (part : Part) (spans : List Span) (s : Span) →
    ArePaired nodes below groups parts → n ≡ level → k < length parts → part ≡ get_or parts k part → level < length spans → s.lo ≡ begins_at parts k → s.hi ≡ part.hi →
    rows_text (take (level + 1) (intervals_of (set spans n s))) (get_or groups k d).rest ≡ group_text (take level (intervals_of spans)) (get_or groups k d)
group-line nodes below level groups parts k n d part spans s paired e less is within lo hi =
    let p = paired.each k d part less in
    let same : interval_of s ≡ (get_or groups k d).first = same_interval (interval_of s) (get_or groups k d).first (lo ∙ sym p.low) (hi ∙ ap (λ (x : Part). x.hi) is ∙ sym p.high) in
    ap (λ m. rows_text (take (level + 1) (intervals_of (set spans m s))) (get_or groups k d).rest) e
    ∙ ap (λ m. rows_text (take m (intervals_of (set spans level s))) (get_or groups k d).rest) (add-one level)
    ∙ ap (λ is. rows_text is (get_or groups k d).rest) (front-more spans level s within)
    ∙ ap (λ (i : Interval). rows_text (take level (intervals_of spans) ++ i ∷ []) (get_or groups k d).rest) same

-- the rows of a group are those of the nodes to which its part leads
pub group-rows : (nodes : List Node) (level : ℕ) (groups : List (Group Statement)) (parts : List Part) (k : ℕ) (d : Group Statement) (part : Part) → ArePaired nodes (suc level) groups parts → k < length parts → part ≡ get_or parts k part →
    AreRowsOf nodes (level + 1) part.left.0 part.right.0 (get_or groups k d).rest
group-rows nodes level groups parts k d part paired less is =
    subst (λ n. AreRowsOf nodes n part.left.0 part.right.0 (get_or groups k d).rest) (sym (add-one level))
    (subst (λ (p : Part). AreRowsOf nodes (suc level) p.left.0 p.right.0 (get_or groups k d).rest) (sym is) (paired.each k d part less).rows)

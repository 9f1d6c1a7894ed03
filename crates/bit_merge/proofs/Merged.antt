-- What a merged table is like.
use Rattle.std.proofs.Common.{◌≡◌, ◌≤◌, ℕ, List, length, arith}
use Rattle.field_boxes.specs.Alike.{IsTight}
use Rattle.field_boxes.specs.Headline.Fields.{IsHeader}
use Rattle.ternary_words.specs.Headline.Table.{Entry, answer}
use Rattle.bit_merge.specs.Merge.{IsClosed, IsMerged}
use Rattle.bit_merge.proofs.Alone.{tight-places, places-tight}
use Rattle.bit_merge.proofs.Outcome.{some-merged, one-merged, merged-closed, merged-shorter, merged-alike, merged-tight}

pub has_merged : (entries : List Entry) → (out : List Entry) × IsMerged entries out
has_merged entries = let m = some-merged entries in (m.1, (m.0, m.2))

pub has_one : (entries xs ys : List Entry) → IsMerged entries xs → IsMerged entries ys → xs ≡ ys
has_one entries xs ys h k = (one-merged h.0 k.0 entries xs ys h.1 k.1).1

pub is_closed : (entries out : List Entry) → IsMerged entries out → IsClosed out
is_closed entries out h = merged-closed h.0 entries out h.1

pub is_fewer : (entries out : List Entry) → IsMerged entries out → length out ≤ length entries
is_fewer entries out h = omega (arith, merged-shorter h.0 entries out h.1)

pub is_alike : (entries out : List Entry) (values : List ℕ) → IsMerged entries out → answer out values ≡ answer entries values
is_alike entries out values h = merged-alike h.0 entries out values h.1

pub is_tight : (entries out : List Entry) → IsMerged entries out → IsTight answer entries → IsTight answer out
is_tight entries out h t = tight-places IsHeader out (merged-tight IsHeader h.0 entries out h.1 (places-tight IsHeader entries t))

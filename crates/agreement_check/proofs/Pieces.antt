-- A proof that is read piece by piece: what is taken of the pieces is what is taken of the whole.
use Rattle.std.proofs.Common.{◌≡◌, ◌∷◌, ◌++◌, ℕ, ◌+◌, ◌-◌, ◌<◌, ◌≤◌, List, [], Result, Ok, Err, IsErrAnd, IsErrOf, length, take, drop, ap, refl, sym, subst, ◌∙◌, arith, inl, inr, append_assoc, append-nil, length-append, length-take, take_all, take_at, take-append-drop, take-take}
use Rattle.std.proofs.Math.Seq.{take-append-add}
use Rattle.razor_base.specs.Headline.Outcomes.{Extends}
use Rattle.razor_base.specs.Headline.Readings.{Reading}
use Rattle.razor_base.specs.Input.{TakesAtMost, TakesFront}
use Rattle.razor_base.proofs.Input.{TakesFront-kept, TakesFront-trans}
use Rattle.razor_base.specs.Turns.{ArePieces, IsUnfailed, IsWholeTurn}
use Rattle.field_boxes.specs.declared.rule_list.RuleList.{RuleList}
use Rattle.ternary_words.specs.declared.table.Table.{Table}
use Rattle.partition_check.specs.CertificateText.{lines_of}
use Rattle.agreement_check.specs.declared.reader.Reader.{Reader}
use Rattle.agreement_check.specs.declared.reader.Refusal.{Refusal}
use Rattle.agreement_check.specs.declared.reader.Refusal.TheVariants as refusals
use Rattle.agreement_check.specs.declared.stream.Stop.{Stop}
use Rattle.agreement_check.specs.declared.stream.Stop.TheVariants as stops
use Rattle.agreement_check.specs.declared.valid.Valid.{Valid}
use Rattle.agreement_check.specs.declared.wrong.Wrong.{Wrong}
use Rattle.agreement_check.specs.Standing.{IfWrong, IsAfter, reading_in}
use Rattle.agreement_check.specs.Stops.{stop_of}
use Rattle.agreement_check.specs.Streams.{IsTurnOfProof, ReadsTooMuch, ReadsUpTo, ReadsValid, ReadsWrong, UnlessFault}
use Rattle.agreement_check.specs.Verdict.{FindsWrong, HasNoWrongLine, IsUnended, IsValid, started}
use Rattle.agreement_check.proofs.Reading.{wrong-later, wrong-map}

-- The bytes that the reader took, and those that were read and not taken yet: what stands before in the text was read before.
pub record IsRead (list : RuleList) (table : Table) (limit : ℕ) (start before now : List ℕ) (room : ℕ) (pending : List ℕ) (r : Reader) : Type 0 where
  pub seen : List ℕ
  pub moved : TakesFront start now (seen ++ pending)
  pub room_is : room + length seen ≡ limit
  pub after : IsAfter list table seen r
  pub taken : List ℕ
  pub came : TakesFront before now taken
  pub few : length taken + room ≤ limit + length pending

-- none was taken yet
pub read-none : (list : RuleList) (table : Table) (limit : ℕ) (front now : List ℕ) (r : Reader) → IsAfter list table [] r → IsRead list table limit (front ++ now) now now limit front r
read-none list table limit front now r h = record { seen = []; moved = refl; room_is = omega arith; after = h; taken = []; came = refl; few = omega arith }

-- the first so many bytes of a text that goes on
front_of : (limit : ℕ) (front rest : List ℕ) → length front ≤ limit → take limit (front ++ rest) ≡ front ++ take (limit - length front) rest
front_of limit front rest h =
    let e : length front + (limit - length front) ≡ limit = omega (arith, h) in
    ap (λ m. take m (front ++ rest)) (sym e) ∙ take-append-add front rest (limit - length front)

module _ {list : RuleList} {table : Table} {limit : ℕ} {start before now : List ℕ} {room : ℕ} {pending : List ℕ} {r : Reader} (h : IsRead list table limit start before now room pending r) where
  -- at most a piece more than the limit was read
  pub near : (after : List ℕ) (most : ℕ) → after ≡ now → length pending ≤ most → TakesAtMost before after (limit + most)
  near after most same short = (h.taken, TakesFront-kept before now after h.taken h.came same, omega (arith, h.few, short))

  -- more than the limit was read: the first bytes of the piece fill it
  module _ (bytes : List ℕ) (cut : bytes ≡ take room pending) (longer : room < length pending) where
    full : length (h.seen ++ bytes) ≡ limit
    full = omega (arith, length-append h.seen bytes, ap length cut, length-take room pending, h.room_is, longer)

    filled : take limit start ≡ h.seen ++ bytes
    filled =
        let parts : start ≡ (h.seen ++ bytes) ++ (drop room pending ++ now) =
        h.moved ∙ ap (λ t. (h.seen ++ t) ++ now) (sym (take-append-drop room pending)) ∙ ap (λ t. (h.seen ++ (t ++ drop room pending)) ++ now) (sym cut)
        ∙ ap (λ t. t ++ now) (sym (append_assoc h.seen bytes (drop room pending))) ∙ append_assoc (h.seen ++ bytes) (drop room pending) now in
        ap (take limit) parts ∙ take_at (h.seen ++ bytes) (drop room pending ++ now) limit full

    pub cut-wrong : (w : Wrong) → FindsWrong list table started (lines_of (h.seen ++ bytes)).whole w → ReadsWrong list table limit start w
    cut-wrong w f = inl (subst (λ (t : List ℕ). FindsWrong list table started (lines_of t).whole w) (sym filled) f)

    pub cut-past : (next : Reader) → IsAfter list table (h.seen ++ bytes) next → ReadsTooMuch list table limit start
    cut-past next a = record {
      longer = omega (arith, ap length h.moved, length-append (h.seen ++ pending) now, length-append h.seen pending, h.room_is, longer);
      right = subst (λ (t : List ℕ). HasNoWrongLine list table t) (sym filled) (reading_in next.claims, a.takes);
    }

  -- the piece lies within the limit
  module _ (bytes : List ℕ) (all : bytes ≡ pending) (short : length pending ≤ room) where
    within : length (h.seen ++ bytes) ≤ limit
    within = omega (arith, length-append h.seen bytes, ap length all, h.room_is, short)

    moved : TakesFront start now (h.seen ++ bytes)
    moved = h.moved ∙ ap (λ t. (h.seen ++ t) ++ now) (sym all)

    pub piece-wrong : (w : Wrong) → FindsWrong list table started (lines_of (h.seen ++ bytes)).whole w → ReadsWrong list table limit start w
    piece-wrong w f =
        let cut : take limit start ≡ (h.seen ++ bytes) ++ take (limit - length (h.seen ++ bytes)) now = ap (take limit) moved ∙ front_of limit (h.seen ++ bytes) now within in
        inl (subst (λ (t : List ℕ). FindsWrong list table started (lines_of t).whole w) (sym cut) (wrong-later list table (h.seen ++ bytes) (take (limit - length (h.seen ++ bytes)) now) w f))

    -- the reader took it
    module _ (next : Reader) (a : IsAfter list table (h.seen ++ bytes) next) where
      -- and then a read failed
      pub faulted : (after : List ℕ) → after ≡ now → ReadsUpTo list table limit start after
      faulted after same = record { front = h.seen ++ bytes; parts = moved ∙ ap (λ t. (h.seen ++ bytes) ++ t) (sym same); within = within; right = (reading_in next.claims, a.takes) }

      -- or gave a piece more
      pub goes-on : (after piece : List ℕ) (count : ℕ) → length pending ≡ count → TakesFront now after piece → IsRead list table limit start before after (room - count) piece next
      goes-on after piece count long more = record {
        seen = h.seen ++ bytes;
        moved = moved ∙ ap (λ t. (h.seen ++ bytes) ++ t) more ∙ sym (append_assoc (h.seen ++ bytes) piece after);
        room_is = omega (arith, length-append h.seen bytes, ap length all, h.room_is, short, long);
        after = a;
        taken = h.taken ++ piece;
        came = TakesFront-trans before now after h.taken piece h.came more;
        few = omega (arith, length-append h.taken piece, h.few, short, long);
      }

      -- or met the end
      module _ (after : List ℕ) (same : after ≡ now) (none : after ≡ []) where
        whole : start ≡ h.seen ++ bytes
        whole = moved ∙ ap (λ t. (h.seen ++ bytes) ++ t) (sym same ∙ none) ∙ append-nil (h.seen ++ bytes)

        whole_within : length start ≤ limit
        whole_within = omega (arith, ap length whole, within)

        pub end-valid : (v : Valid) → IsValid list table (h.seen ++ bytes) v → ReadsValid list table limit start after v
        end-valid v valid = record { valid = subst (λ (t : List ℕ). IsValid list table t v) (sym whole) valid; within = whole_within; whole = none }

        pub end-wrong : (w : Wrong) → IsUnended list table (h.seen ++ bytes) w → ReadsWrong list table limit start w
        end-wrong w u = inr (whole_within, subst (λ (t : List ℕ). IsUnended list table t w) (sym whole) u)

-- What a refusal says.

pub told : {T : Type 0} (result : Result T Stop) (e : Refusal) (P : Wrong → Type 0) → IsErrAnd result (λ s. s ≡ stop_of e) → IfWrong e P → (w : Wrong) → result ≡ Err (stops.Wrong w) → P w
told (Ok x) e P is holds w same = absurd is
told (Err s) (refusals.Wrong v) P is holds w same = let wrong : stops.Wrong v ≡ stops.Wrong w = sym is ∙ (cc) in let one : v ≡ w = cc in subst P one holds
told (Err s) refusals.Memory P is holds w same = let clash : stops.Memory ≡ stops.Wrong w = sym is ∙ (cc) in absurd (cc)

-- How the reads end.

-- a refusal before the end
pub broke-off : (T : Type 0) (name : List ℕ) (old after : List Reading) (e : Refusal) (result : Result T Stop) → IsErrAnd result (λ s. s ≡ stop_of e) → Extends old after (ArePieces name) →
    Extends old after (λ added. IsTurnOfProof name result added)
broke-off T name old after e (Ok value) is turn = absurd is
broke-off T name old after e (Err (stops.Wrong wrong)) is turn = (turn.0, turn.1, inr turn.2)
broke-off T name old after (refusals.Wrong wrong) (Err stops.ReadFault) is turn = absurd (cc is)
broke-off T name old after refusals.Memory (Err stops.ReadFault) is turn = absurd (cc is)
broke-off T name old after e (Err stops.TooLong) is turn = turn
broke-off T name old after e (Err stops.Memory) is turn = turn

-- or at it
pub ended-wrong : (T : Type 0) (name : List ℕ) (old after : List Reading) (e : Refusal) (result : Result T Stop) → (e ≡ refusals.Memory → ⊥) → IsErrAnd result (λ s. s ≡ stop_of e) → Extends old after (IsWholeTurn name) →
    Extends old after (λ added. IsTurnOfProof name result added)
ended-wrong T name old after e (Ok value) not is turn = absurd is
ended-wrong T name old after refusals.Memory result not is turn = absurd (not refl)
ended-wrong T name old after (refusals.Wrong wrong) (Err (stops.Wrong w)) not is turn = (turn.0, turn.1, inl turn.2)
ended-wrong T name old after (refusals.Wrong wrong) (Err stops.ReadFault) not is turn = absurd (cc is)
ended-wrong T name old after (refusals.Wrong wrong) (Err stops.TooLong) not is turn = absurd (cc is)
ended-wrong T name old after (refusals.Wrong wrong) (Err stops.Memory) not is turn = absurd (cc is)

-- it is no failed read, nor the limit
pub not-other : {T : Type 0} (result : Result T Stop) (e : Refusal) (s : Stop) → IsErrAnd result (λ x. x ≡ stop_of e) → IsErrOf result s → stop_of e ≡ s
not-other (Ok value) e s is of = absurd is
not-other (Err x) e s is of = let same : x ≡ s = cc of in sym is ∙ same

pub no-fault : (e : Refusal) → stop_of e ≡ stops.ReadFault → ⊥
no-fault (refusals.Wrong wrong) e = cc e
no-fault refusals.Memory e = cc e

pub no-limit : (e : Refusal) → stop_of e ≡ stops.TooLong → ⊥
no-limit (refusals.Wrong wrong) e = cc e
no-limit refusals.Memory e = cc e

pub unless-fault : {T : Type 0} (result : Result T Stop) (P : Type 0) → P → UnlessFault result P
unless-fault (Ok value) P h = h
unless-fault (Err (stops.Wrong wrong)) P h = h
unless-fault (Err stops.ReadFault) P h = tt
unless-fault (Err stops.TooLong) P h = h
unless-fault (Err stops.Memory) P h = h

-- A buffer of which the first bytes are not taken yet.

pub buffer-cut : (room count : ℕ) (buffer : List ℕ) → room < count → take room buffer ≡ take room (take count buffer)
buffer-cut room count buffer less = sym (take-take room count buffer (omega (arith, less)))

pub buffer-long : (count : ℕ) (buffer : List ℕ) → count ≤ length buffer → length (take count buffer) ≡ count
buffer-long count buffer fits = omega (arith, length-take count buffer, fits)

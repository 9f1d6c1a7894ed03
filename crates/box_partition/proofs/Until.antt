-- How what is put joins where memory may be refused besides.
use Rattle.std.proofs.Common.{◌≡◌, ℕ, ◌+◌, ◌<◌, List, [], ◌∷◌, ◌++◌, Result, Ok, Err, refl, sym, ap, subst, ◌∙◌, append_assoc, append-nil, length, take, drop, get_or, arith, flat_map, IsErr, IsErrAnd}
use Rattle.std.proofs.lemmas.List.{take_more}
use Rattle.std.proofs.lemmas.List.Concat.{flat_map-append}
use Rattle.razor_base.specs.Headline.Outcomes.{CallOutcome, Extends}
use Rattle.razor_base.specs.Output.{AreTaken, LeavesOut, Puts, Writes}
use Rattle.razor_base.proofs.Output.{leaves_out-then, leaves_out-all, leaves_out-appends, appends_front-none, appends_front-longer, appends_front-rest, appends_front-then}
use Rattle.box_partition.specs.declared.stop.Stop.{Stop}
use Rattle.box_partition.specs.declared.stop.Stop.TheVariants.{Fault, Memory}
use Rattle.box_partition.specs.Output.{AreStopped, PutsUntil}
use Rattle.razor_base.proofs.Writing.{made-none, refused-then, rose-later, taken-then, texts_rest}

-- all that was to be put so far was put
abbrev pub HasPutSo : {S : Type 0} → (S → List CallOutcome) → (S → ℕ) → S → S → List ℕ → List ℕ → List ℕ → Type 0
HasPutSo w f a b waited waits text = PutsUntil {T = Unit {0}} w f a b waited waits text (Ok tt)

-- what was put without a failure
pub until-put : {S T U E : Type 0} {w : S → List CallOutcome} {f : S → ℕ} {a b : S} {waited waits text : List ℕ} {x : T} {y : U} →
    Puts {T = T} {E = E} w f a b waited waits text (Ok x) → PutsUntil {T = U} w f a b waited waits text (Ok y)
until-put p = record { ok = p.ok; err = tt; tries = p.tries; failed = tt; refused = tt; calm = p.calm; counts = p.counts }

pub until-ok : {S T U : Type 0} {w : S → List CallOutcome} {f : S → ℕ} {a b : S} {waited waits text : List ℕ} {x : T} {y : U} →
    PutsUntil {T = T} w f a b waited waits text (Ok x) → PutsUntil {T = U} w f a b waited waits text (Ok y)
until-ok p = record { ok = p.ok; err = tt; tries = p.tries; failed = tt; refused = tt; calm = p.calm; counts = p.counts }

fault-or_memory : (stop : Stop) → stop ≡ Fault → stop ≡ Memory → ⊥
fault-or_memory stop fault memory = let same : Memory ≡ Fault = sym memory ∙ fault in absurd cc

-- a call stops, behind writes that took all
stopped-then : (a b c : List CallOutcome) (stop : Stop) → Extends a b AreTaken → Extends b c (AreStopped stop) → Extends a c (AreStopped stop)
stopped-then a b c Fault p q = refused-then a b c p q
stopped-then a b c Memory p q = taken-then a b c p q

-- it stops as the other does
stopped-so : (a b : List CallOutcome) (stop other : Stop) → other ≡ stop → Extends a b (AreStopped stop) → Extends a b (AreStopped other)
stopped-so a b stop other same p = subst (λ (s : Stop). Extends a b (AreStopped s)) (sym same) p

-- a write failed
pub until-failed : {S T U E : Type 0} {w : S → List CallOutcome} {f : S → ℕ} {a b : S} {waited waits text : List ℕ} {e : E} {r : Result U Stop} →
    IsErrAnd r (λ stop. stop ≡ Fault) → Puts {T = T} {E = E} w f a b waited waits text (Err e) → PutsUntil w f a b waited waits text r
until-failed {r = Ok y} h p = absurd h
until-failed {w = w} {a = a} {b = b} {r = Err y} h p = record {
  ok = tt;
  err = p.err;
  tries = stopped-so (w a) (w b) Fault y h p.tries;
  failed = λ is. p.failed;
  refused = λ is. absurd (fault-or_memory y h is);
  calm = tt;
  counts = p.counts;
}

-- memory was refused, before anything was put
pub until-refused : {S U : Type 0} {w : S → List CallOutcome} {f : S → ℕ} {a : S} {waited waits text : List ℕ} {r : Result U Stop} →
    IsErrAnd r (λ stop. stop ≡ Memory) → PutsUntil w f a a waited waits text r
until-refused {r = Ok y} h = absurd h
until-refused {w = w} {a = a} {waited = waited} {text = text} {r = Err y} h = record {
  ok = tt;
  err = appends_front-none (w a) (waited ++ text);
  tries = stopped-so (w a) (w a) Memory y h (made-none (w a));
  failed = λ is. absurd (fault-or_memory y is h);
  refused = λ is. refl;
  calm = tt;
  counts = omega arith;
}

-- a call stopped, and its caller hands that on
pub until-stop : {S T U : Type 0} {w : S → List CallOutcome} {f : S → ℕ} {a b : S} {waited waits text : List ℕ} {e : Stop} {r : Result U Stop} →
    IsErrAnd r (λ stop. stop ≡ e) → PutsUntil {T = T} w f a b waited waits text (Err e) → PutsUntil w f a b waited waits text r
until-stop {r = Ok y} h p = absurd h
until-stop {w = w} {a = a} {b = b} {e = e} {r = Err y} h p = record {
  ok = tt;
  err = p.err;
  tries = stopped-so (w a) (w b) e y h p.tries;
  failed = λ is. p.failed (sym h ∙ is);
  refused = λ is. p.refused (sym h ∙ is);
  calm = tt;
  counts = p.counts;
}

-- one call puts a text, the next puts more
pub until-then : {S T U : Type 0} {w : S → List CallOutcome} {f : S → ℕ} {a b c : S} {waited waits left text more : List ℕ} {x : T} {r : Result U Stop} →
    PutsUntil {T = T} w f a b waited waits text (Ok x) → PutsUntil w f b c waits left more r → PutsUntil w f a c waited left (text ++ more) r
until-then {w = w} {f = f} {a = a} {b = b} {c = c} {waited = waited} {waits = waits} {left = left} {text = text} {more = more} {r = Ok y} p q = record {
  ok = rw (← append_assoc waited text more) (leaves_out-then (w a) (w b) (w c) (waited ++ text) more waits left p.ok q.ok);
  err = tt;
  tries = taken-then (w a) (w b) (w c) p.tries q.tries;
  failed = tt;
  refused = tt;
  calm = q.calm ∙ p.calm;
  counts = omega (arith, p.counts, q.counts);
}
until-then {w = w} {f = f} {a = a} {b = b} {c = c} {waited = waited} {waits = waits} {left = left} {text = text} {more = more} {r = Err e} p q = record {
  ok = tt;
  err = rw (← append_assoc waited text more) (appends_front-then (w a) (w b) (w c) (waited ++ text) more waits p.ok q.err);
  tries = stopped-then (w a) (w b) (w c) e p.tries q.tries;
  failed = λ is. rose-later (f a) (f b) (f c) p.counts (q.failed is);
  refused = λ is. q.refused is ∙ p.calm;
  calm = tt;
  counts = omega (arith, p.counts, q.counts);
}

-- a call stopped: so has a call that puts more behind that
pub until-more : {S T : Type 0} {w : S → List CallOutcome} {f : S → ℕ} {a b : S} {waited waits text : List ℕ} {e : Stop} (more : List ℕ) →
    PutsUntil {T = T} w f a b waited waits text (Err e) → PutsUntil {T = T} w f a b waited waits (text ++ more) (Err e)
until-more {w = w} {a = a} {b = b} {waited = waited} {text = text} more p = record {
  ok = tt;
  err = rw (← append_assoc waited text more) (appends_front-longer (w a) (w b) (waited ++ text) more p.err);
  tries = p.tries;
  failed = p.failed;
  refused = p.refused;
  calm = tt;
  counts = p.counts;
}

-- the text that was put is this one
pub until-is : {S T : Type 0} {w : S → List CallOutcome} {f : S → ℕ} {a b : S} {waited waits text whole : List ℕ} {r : Result T Stop} →
    PutsUntil w f a b waited waits text r → text ≡ whole → PutsUntil w f a b waited waits whole r
until-is {w = w} {f = f} {a = a} {b = b} {waited = waited} {waits = waits} {r = r} p e = subst (λ t. PutsUntil w f a b waited waits t r) e p

texts_more : {X : Type 0} (line : X → List ℕ) (items : List X) (i : ℕ) (d : X) → i < length items → flat_map line (take i items) ++ line (get_or items i d) ≡ flat_map line (take (i + 1) items)
texts_more line items i d lt =
    ap (λ t. flat_map line (take i items) ++ t) (sym (append-nil (line (get_or items i d))))
    ∙ sym (flat_map-append line (take i items) (get_or items i d ∷ [])) ∙ ap (flat_map line) (sym (take_more items i d lt))

-- the text of the next item is put behind those of the items so far
pub until-next : {X S T U : Type 0} {w : S → List CallOutcome} {f : S → ℕ} {a b c : S} {waited waits left : List ℕ} {x : T} {r : Result U Stop}
    (line : X → List ℕ) (items : List X) (i : ℕ) (d : X) → i < length items →
    PutsUntil {T = T} w f a b waited waits (flat_map line (take i items)) (Ok x) → PutsUntil w f b c waits left (line (get_or items i d)) r →
    PutsUntil w f a c waited left (flat_map line (take (i + 1) items)) r
until-next line items i d lt p q = until-is (until-then p q) (texts_more line items i d lt)

-- the text of the next item isn't put whole, and nothing that was to come
pub until-next_cut : {X S T U V : Type 0} {w : S → List CallOutcome} {f : S → ℕ} {a b c : S} {waited waits left : List ℕ} {x : T} {e : Stop} {r : Result V Stop}
    (line : X → List ℕ) (items : List X) (i : ℕ) (d : X) → i < length items → IsErrAnd r (λ stop. stop ≡ e) →
    PutsUntil {T = T} w f a b waited waits (flat_map line (take i items)) (Ok x) → PutsUntil {T = U} w f b c waits left (line (get_or items i d)) (Err e) →
    PutsUntil w f a c waited left (flat_map line items) r
until-next_cut line items i d lt h p q =
    until-is (until-stop h (until-more (flat_map line (drop (i + 1) items)) (until-next line items i d lt p q))) (texts_rest line items (i + 1))

err_of : {T : Type 0} (P : Stop → Type 0) (r : Result T Stop) → IsErrAnd r P → IsErr r
err_of P (Ok y) h = absurd h
err_of P (Err y) h = refl

-- where a call stops, nothing is said of what waits
pub until-lost : {S T : Type 0} {w : S → List CallOutcome} {f : S → ℕ} {a b : S} {waited waits other text : List ℕ} {r : Result T Stop} →
    IsErr r → PutsUntil w f a b waited waits text r → PutsUntil w f a b waited other text r
until-lost {r = Ok y} h p = absurd cc
until-lost {r = Err y} h p = record { ok = tt; err = p.err; tries = p.tries; failed = p.failed; refused = p.refused; calm = tt; counts = p.counts }

-- A whole text: two parts that are put behind nothing, and a flush.

pub whole-first_cut : {S T U : Type 0} {w : S → List CallOutcome} {f : S → ℕ} {a b : S} {waited waits text : List ℕ} {e : Stop} {r : Result U Stop} (more whole : List ℕ) →
    IsErrAnd r (λ stop. stop ≡ e) → waited ≡ [] → PutsUntil {T = T} w f a b waited waits text (Err e) → text ++ more ≡ whole → PutsUntil w f a b [] [] whole r
whole-first_cut {w = w} {f = f} {a = a} {b = b} {waited = waited} {waits = waits} {e = e} {r = r} more whole h none p is =
    until-lost (err_of (λ stop. stop ≡ e) r h) (subst (λ ws. PutsUntil w f a b ws waits whole r) none (until-is (until-stop h (until-more more p)) is))

pub whole-second_cut : {S T U E V : Type 0} {w : S → List CallOutcome} {f : S → ℕ} {a b c : S} {waited waits left text more : List ℕ} {x : T} {e : E} {r : Result U Stop} (whole : List ℕ) →
    IsErrAnd r (λ stop. stop ≡ Fault) → waited ≡ [] → PutsUntil {T = T} w f a b waited waits text (Ok x) → Puts {T = V} {E = E} w f b c waits left more (Err e) → text ++ more ≡ whole → PutsUntil w f a c [] [] whole r
whole-second_cut {w = w} {f = f} {a = a} {c = c} {waited = waited} {left = left} {r = r} whole h none p q is =
    until-lost (err_of (λ stop. stop ≡ Fault) r h) (subst (λ ws. PutsUntil w f a c ws left whole r) none (until-is (until-then p (until-failed h q)) is))

pub whole-third_cut : {S T U V W E F : Type 0} {w : S → List CallOutcome} {f : S → ℕ} {a b c d : S} {waited waits left text more : List ℕ} {x : T} {y : V} {e : F} {r : Result U Stop} (whole : List ℕ) →
    IsErrAnd r (λ stop. stop ≡ Fault) → waited ≡ [] → PutsUntil {T = T} w f a b waited waits text (Ok x) → Puts {T = V} {E = E} w f b c waits left more (Ok y) → Writes {T = W} {E = F} w f c d left (Err e) →
    text ++ more ≡ whole → PutsUntil w f a d [] [] whole r
whole-third_cut {r = Ok z} whole h none p q k is = absurd h
whole-third_cut {w = w} {f = f} {a = a} {b = b} {c = c} {d = d} {waited = waited} {waits = waits} {left = left} {text = text} {more = more} {x = x} {y = y} {r = Err z} whole h none p q k is =
    let both = until-is (until-then p (until-put {y = x} q)) is in record {
      ok = tt;
      err = appends_front-rest (w a) (w c) (w d) whole left (subst (λ ws. LeavesOut (w a) (w c) (ws ++ whole) left) none both.ok) k.err;
      tries = stopped-so (w a) (w d) Fault z h (refused-then (w a) (w c) (w d) both.tries k.tries);
      failed = λ said. rose-later (f a) (f c) (f d) both.counts k.failed;
      refused = λ said. absurd (fault-or_memory z h said);
      calm = tt;
      counts = omega (arith, both.counts, k.counts);
    }

pub whole-written : {S T U V W E F : Type 0} {w : S → List CallOutcome} {f : S → ℕ} {a b c d : S} {waited waits left text more : List ℕ} {x : T} {y : V} {z : W} {u : U} (whole : List ℕ) →
    waited ≡ [] → PutsUntil {T = T} w f a b waited waits text (Ok x) → Puts {T = V} {E = E} w f b c waits left more (Ok y) → Writes {T = W} {E = F} w f c d left (Ok z) →
    text ++ more ≡ whole → PutsUntil {T = U} w f a d [] [] whole (Ok u)
whole-written {w = w} {f = f} {a = a} {b = b} {c = c} {d = d} {waited = waited} {waits = waits} {left = left} {text = text} {more = more} {x = x} whole none p q k is =
    let both = until-is (until-then p (until-put {y = x} q)) is in record {
      ok = leaves_out-all (w a) (w d) whole (leaves_out-appends (w a) (w c) (w d) whole left (subst (λ ws. LeavesOut (w a) (w c) (ws ++ whole) left) none both.ok) k.ok);
      err = tt;
      tries = taken-then (w a) (w c) (w d) both.tries k.tries;
      failed = tt;
      refused = tt;
      calm = k.calm ∙ both.calm;
      counts = omega (arith, both.counts, k.counts);
    }

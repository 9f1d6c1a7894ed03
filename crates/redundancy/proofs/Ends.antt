-- What was kept of a block by its kind, with contexts behind a cover.
use Rattle.std.proofs.Common.{◌≡◌, ◌∷◌, ◌++◌, ℕ, List, [], ◌<◌, ◌+◌, length, refl, arith, ap, sym, ◌∙◌, subst}
use Rattle.node_store.specs.declared.edge.NodeId.{NodeId}
use Rattle.node_store.specs.Levels.{IsLevel}
use Rattle.node_store.specs.Diagram.{Node, level_of}
use Rattle.node_store.specs.Store.{Grows}
use Rattle.redundancy_laws.specs.declared.context.Context.{Context}
use Rattle.redundancy_laws.specs.Sifted.{no_context, context_at, AreContexts, IsUnion, IsBehind, node_at, AreNodes, IsSifted}
use Rattle.redundancy_laws.proofs.Kept.{union-stays, two-sifted, sifted-stays, pairs-stay}
use Rattle.redundancy.proofs.Numbers.{number_stays, pushed_to}
use Rattle.node_store.proofs.Growth.{twice}
use Rattle.redundancy_laws.specs.declared.sifted.Sifted.{Sifted}
use Rattle.redundancy_laws.specs.Rows.{Row}
use Rattle.redundancy.specs.declared.blocks.Cover.{Cover}
use Rattle.redundancy.specs.Blocks.{HasCover}
use Rattle.redundancy.proofs.BlockRows.{cover_stays}

module _ (base old new : List Node) (level : List ℕ) (cover met : NodeId) (pairs behind longer : List Context) (n : ℕ) where
  abbrev AreBehind : List Node → List Context → ℕ → Type 0
  AreBehind nodes items k = (c : ℕ) → c < k → IsBehind nodes level cover (context_at pairs c) (context_at items c)

  pub behind_next : IsLevel level → Grows base old → Grows old new → level_of base cover.0 ≡ level → AreContexts base level pairs → n < length pairs → length behind ≡ n → AreContexts old level behind → AreBehind old behind n →
      level_of new met.0 ≡ level → IsUnion new level (context_at pairs n).met.0 cover.0 met.0 → (let p : Context = record { after = (context_at pairs n).after; met = met } in longer ≡ behind ++ p ∷ []) →
      (length longer ≡ n + 1) × AreContexts new level longer × AreBehind new longer (n + 1)
  behind_next five first g in_cover are less count so each number union longer_is =
      let p = pushed_to
      (λ c (q : Context). (level_of new q.after.0 ≡ level) × (level_of new q.met.0 ≡ level) × IsBehind new level cover (context_at pairs c) q)
      no_context behind longer (record { after = (context_at pairs n).after; met = met }) n longer_is count
      (λ c small.
      let l : c < length pairs = omega (arith, small, less) in
      let e = each c small in
      let k = so c (omega (arith, small, count)) in
      let o = are c l in (
        number_stays old new _ level five g k.0,
        number_stays old new _ level five g k.1,
        (e.0, union-stays old new level (context_at pairs c).met.0 cover.0 (context_at behind c).met.0 five g (number_stays base old _ level five first o.1) (number_stays base old _ level five first in_cover) k.1 e.1),
      ))
      (number_stays old new _ level five g (number_stays base old _ level five first (are n less).0), number, (refl, union)) in
      (p.0, λ c small. let l : c < n + 1 = omega (arith, small, p.0) in let q = p.1 c l in (q.0, q.1), λ c small. (p.1 c small).2)

pub moved : (nodes : List Node) (level wide : List ℕ) (rows others : List Row) (pairs : List Context) (s : Sifted) → wide ≡ level → others ≡ rows → IsSifted nodes level rows pairs s → IsSifted nodes wide others pairs s
moved nodes level wide rows others pairs s e k h = subst (λ w. IsSifted nodes w others pairs s) (sym e) (subst (λ rs. IsSifted nodes level rs pairs s) (sym k) h)

-- two blocks, by the stores at which each step was worked out
pub two_end : (first_store second_store third_store nodes : List Node) (first second : List Row) (pairs behind before behind_now before_now : List Context) (cover read : Cover) (wide : List ℕ) (later earlier s : Sifted) →
    Grows first_store second_store → Grows second_store third_store → Grows third_store nodes → AreContexts first_store cover.level.now pairs → HasCover first_store cover first → read ≡ cover → wide ≡ cover.level.now →
    behind_now ≡ behind → before_now ≡ before → length behind ≡ length pairs → length before ≡ length pairs → AreContexts second_store read.level.now behind →
    ((c : ℕ) → c < length pairs → IsBehind second_store read.level.now read.set (context_at pairs c) (context_at behind c)) →
    ((c : ℕ) → c < length pairs → (context_at before c).after ≡ node_at later.after.items c) → ((c : ℕ) → c < length pairs → (context_at before c).met ≡ (context_at pairs c).met) →
    IsSifted third_store wide second behind_now later → IsSifted nodes cover.level.now first before_now earlier →
    s.kept.items ≡ earlier.kept.items ++ later.kept.items → s.after.items ≡ earlier.after.items → IsSifted nodes cover.level.now (first ++ second) pairs s
two_end s0 s1 s2 nodes first second pairs behind before behind_now before_now cover read wide later earlier s g h k are covers is same bn wn cb cw so each after_is met_is l e kept after =
    let five = covers.within in
    let late = twice s1 s2 nodes h k in
    let behind_in : AreContexts s1 cover.level.now behind = subst (λ (r : Cover). AreContexts s1 r.level.now behind) is so in
    two-sifted nodes cover.level.now first second pairs behind before cover.set later earlier s (cover_stays s0 nodes cover first (twice s0 s1 nodes g late) covers).set cb cw
    (λ c less.
    let b : IsBehind s1 cover.level.now cover.set (context_at pairs c) (context_at behind c) = subst (λ (r : Cover). IsBehind s1 r.level.now r.set (context_at pairs c) (context_at behind c)) is (each c less) in (
      b.0,
      union-stays s1 nodes cover.level.now (context_at pairs c).met.0 cover.set.0 (context_at behind c).met.0 five late (number_stays s0 s1 _ cover.level.now five g (are c less).1) (number_stays s0 s1 _ cover.level.now five g covers.level)
          (behind_in c (omega (arith, less, cb))).1 b.1,
    ))
    after_is met_is
    (sifted-stays s2 nodes cover.level.now second behind later five k (pairs-stay s1 s2 cover.level.now behind five h behind_in)
    (subst (λ w. IsSifted s2 w second behind later) same (subst (λ ps. IsSifted s2 wide second ps later) bn l)))
    (subst (λ ps. IsSifted nodes cover.level.now first ps earlier) wn e) kept after

-- contexts before answers
pub before_pairs : (old nodes : List Node) (level wide : List ℕ) (pairs before before_now : List Context) (answers : List NodeId) (later : Sifted) → IsLevel level → Grows old nodes → AreContexts old level pairs → wide ≡ level →
    AreNodes nodes wide later.after.items → length later.after.items ≡ length pairs → answers ≡ later.after.items → length before ≡ length pairs → ((c : ℕ) → c < length pairs → (context_at before c).after ≡ node_at answers c) →
    ((c : ℕ) → c < length pairs → (context_at before c).met ≡ (context_at pairs c).met) → before_now ≡ before → AreContexts nodes level before_now
before_pairs old nodes level wide pairs before before_now answers later five g are same numbers count an cb after_is met_is bn =
    subst (AreContexts nodes level) (sym bn)
    (λ c less.
    let l : c < length pairs = omega (arith, less, cb) in (
      ap (λ (i : NodeId). level_of nodes i.0) (after_is c l ∙ ap (λ ids. node_at ids c) an) ∙ numbers c (omega (arith, l, count)) ∙ same,
      ap (λ (i : NodeId). level_of nodes i.0) (met_is c l) ∙ number_stays old nodes (context_at pairs c).met.0 level five g (are c l).1,
    ))

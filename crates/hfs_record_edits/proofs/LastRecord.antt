-- The last record of a fork, and one that comes behind it.
use Rattle.std.proofs.Common.{◌≡◌, ℕ, ◌+◌, ◌-◌, ◌*◌, ◌<◌, true, eqb, List, [], ◌∷◌, ◌++◌, length, take, drop, refl, sym, ap, ◌∙◌, subst, arith}
use Rattle.std.proofs.lemmas.Bool.{eqb-true, and_parts}
use Rattle.std.proofs.lemmas.List.{append-nil, append_assoc, length-append, take_at, take-take}
use Rattle.std.proofs.lemmas.List.Concat.{flat_map-append}
use Rattle.hfs_fields.specs.declared.extent.Extent.{Extent}
use Rattle.hfs_fields.specs.Keys.{ext_cmp}
use Rattle.hfs_fields.specs.Each.{Each}
use Rattle.hfs_fields.proofs.ElementLemmas.{each-left, each-right}
use Rattle.hfs_btree.specs.Tree.{Store}
use Rattle.hfs_btree.specs.Pairs.{lookup}
use Rattle.hfs_btree_edits.specs.Conditions.{IsThere}
use Rattle.hfs_btree_edits.specs.Edits.{with_replaced}
use Rattle.hfs_space.specs.Extents.{Overflow, block_total, record_extents}
use Rattle.hfs_space.specs.Runs.{is_of_fork}
use Rattle.hfs_space.specs.TreeKeys.{overflow_of}
use Rattle.hfs_space.proofs.RunSteps.{Record}
use Rattle.hfs_record_edits.specs.Records.{of_fork}
use Rattle.hfs_record_edits.specs.Whole.{HasExtents, LastMayChange, HasRecordBehind, HasRecordSet, IsRecordAt, AreBefore, key_at}
use Rattle.hfs_record_edits.proofs.OwnRecords.{set-last, last-there}
use Rattle.hfs_record_edits.proofs.ThreeLemmas.{total-append, take-more}
use Rattle.hfs_record_edits.proofs.Chains.{extents_of, IsLink, IsChain, ends, IsForkChain, has-chain, chain-has, own-each, ends-total, chain-left, chain-right, chain-append, chain-before, three-of, chain-length, last-of}

pub drop-at : {X : Type 0} → (p q : List X) (n : ℕ) → length p ≡ n → drop n (p ++ q) ≡ q
drop-at {X = X} p q n long = ap (λ (k : ℕ). drop k (p ++ q)) (sym long) ∙ by p
  where
    by : (p : List X) → drop (length p) (p ++ q) ≡ q
    by [] = refl
    by (x ∷ p) = by p

key-is : (file fork block : ℕ) (r : Record) → is_of_fork file fork r ≡ true → r.0.block ≡ block → r.0 ≡ key_at file fork block
key-is file fork block r own begins =
    let parts = and_parts (eqb r.0.file file) (eqb r.0.fork fork) own in
    let f = eqb-true r.0.file file parts.0 in
    let k = eqb-true r.0.fork fork parts.1 in
    λ i. record { fork = k i; file = f i; block = begins i }

one-more : (others : Overflow) (r : Record) → extents_of (others ++ r ∷ []) ≡ extents_of others ++ record_extents r.1
one-more others r = flat_map-append (λ (x : Record). record_extents x.1) others (r ∷ []) ∙ ap (λ (l : List Extent). extents_of others ++ l) (append-nil (record_extents r.1))

module _ (file fork : ℕ) where
  abbrev pub own : Store → Overflow
  own nodes = of_fork file fork (overflow_of nodes)

  -- how many records there are
  pub count-records : (first all : List Extent) (nodes : Store) → length first ≡ 3 → IsForkChain file fork first all nodes → length all ≡ 3 + 3 * length (own nodes)
  count-records first all nodes three h =
      let whole = ap (λ (l : List Extent). length l) h.extents in
      let parts = length-append first (extents_of (own nodes)) in
      let count = chain-length (block_total first) (own nodes) h.chain in
      omega (arith, whole, parts, count, three)

  -- where the chain ends
  pub end-is : (first all : List Extent) (nodes : Store) → IsForkChain file fork first all nodes → ends (block_total first) (own nodes) ≡ block_total all
  end-is first all nodes h =
      ends-total (block_total first) (own nodes) ∙ sym (total-append first (extents_of (own nodes))) ∙ ap block_total h.extents

  -- ---- the last one

  pub record IsLast (first all : List Extent) (nodes : Store) : Type 0 where
    pub others : Overflow
    pub last : Record
    pub is : own nodes ≡ others ++ last ∷ []
    pub front : first ++ extents_of others ≡ take (length all - 3) all
    pub behind : record_extents last.1 ≡ drop (length all - 3) all
    pub chain : IsChain (block_total first) others
    pub link : IsLink (ends (block_total first) others) last

  pub last-record : (first all : List Extent) (nodes : Store) → length first ≡ 3 → IsForkChain file fork first all nodes → 3 < length all → IsLast first all nodes
  last-record first all nodes three h some =
      let count = count-records first all nodes three h in
      let l = last-of (own nodes) (omega (arith, count, some)) in
      let chain : IsChain (block_total first) (l.others ++ l.last ∷ []) = subst (λ (rs : Overflow). IsChain (block_total first) rs) l.is h.chain in
      let link = chain-right (block_total first) l.others (l.last ∷ []) chain in
      let front = first ++ extents_of l.others in
      let is : all ≡ front ++ record_extents l.last.1 =
      sym h.extents ∙ ap (λ (rs : Overflow). first ++ extents_of rs) l.is ∙ ap (λ (es : List Extent). first ++ es) (one-more l.others l.last) ∙ sym (append_assoc first (extents_of l.others) (record_extents l.last.1)) in
      let parts = length-append front (record_extents l.last.1) in
      let tail : length (record_extents l.last.1) ≡ 3 = ap (λ (es : List Extent). length es) (three-of l.last link.0.some) in
      let whole = ap (λ (es : List Extent). length es) is in
      let long : length front ≡ length all - 3 = omega (arith, parts, tail, whole) in
      record {
        others = l.others;
        last = l.last;
        is = l.is;
        front = sym (ap (take (length all - 3)) is ∙ take_at front (record_extents l.last.1) (length all - 3) long);
        behind = sym (ap (drop (length all - 3)) is ∙ drop-at front (record_extents l.last.1) (length all - 3) long);
        chain = chain-left (block_total first) l.others (l.last ∷ []) chain;
        link = link.0;
      }

  -- ---- one that comes behind them

  pub all-before : (first all : List Extent) (nodes : Store) (block : ℕ) → HasExtents file fork first all nodes → block ≡ block_total all → AreBefore file fork block nodes
  all-before first all nodes block h is =
      let c = has-chain file fork first all nodes h in
      subst (λ (b : ℕ). Each (λ (r : Record). r.0.block < b) (own nodes)) (end-is first all nodes c ∙ sym is) (chain-before (block_total first) (own nodes) c.chain)

  pub comes-behind : (first all three : List Extent) (block : ℕ) (old new : Store) → HasExtents file fork first all old → HasRecordBehind file fork block three old new → block ≡ block_total all → block < 65536
      → 0 < block_total three → HasExtents file fork first (all ++ three) new
  comes-behind first all three block old new h a is short some =
      let c = has-chain file fork first all old h in
      let key = key_at file fork block in
      let link : IsLink (ends (block_total first) (own old)) (key, a.body) = record {
        begins = is ∙ sym (end-is first all old c);
        short = subst (λ (b : ℕ). b < 65536) (is ∙ sym (end-is first all old c)) short;
        some = subst (λ (es : List Extent). 0 < block_total es) (sym a.holds) some;
      } in
      chain-has file fork first (all ++ three) new
      (record {
        chain = subst (λ (rs : Overflow). IsChain (block_total first) rs) (sym a.is) (chain-append (block_total first) (own old) ((key, a.body) ∷ []) c.chain (link, tt));
        extents =
            ap (λ (rs : Overflow). first ++ extents_of rs) a.is ∙ ap (λ (es : List Extent). first ++ es) (one-more (own old) (key, a.body)) ∙ sym (append_assoc first (extents_of (own old)) (record_extents a.body))
            ∙ (λ i. c.extents i ++ a.holds i);
      })

  -- ---- the last one changes

  module _ (first extents : List Extent) (places : ℕ) (old : Store) (three : length first ≡ 3) (m : LastMayChange file fork first extents places old) where
    chained : IsForkChain file fork first m.all old
    chained = has-chain file fork first m.all old m.has

    -- the fork has no record
    pub none-changes : places ≡ 3 → HasExtents file fork (take 3 extents) (take places extents) old
    none-changes is =
        let count = count-records first m.all old three chained in
        let long = m.long in
        let none : own old ≡ [] = empty (own old) (omega (arith, count, long, is)) in
        chain-has file fork (take 3 extents) (take places extents) old
        (record {
          chain = subst (λ (rs : Overflow). IsChain (block_total (take 3 extents)) rs) (sym none) tt;
          extents = ap (λ (rs : Overflow). take 3 extents ++ extents_of rs) none ∙ append-nil (take 3 extents) ∙ ap (λ (k : ℕ). take k extents) (sym is);
        })
      where
        empty : (rs : Overflow) → length rs ≡ 0 → rs ≡ []
        empty [] e = refl
        empty (r ∷ rs) e = absurd (omega (arith, e))

    module _ (more : 3 < places) where
      some-more : 3 < length m.all
      some-more = (let long = m.long in omega (arith, long, more))

      at : IsLast first m.all old
      at = last-record first m.all old three chained some-more

      abbrev block : ℕ
      block = block_total (take (places - 3) extents)

      front : first ++ extents_of at.others ≡ take (places - 3) extents
      front = at.front ∙ ap (λ (k : ℕ). take (k - 3) m.all) m.long ∙ m.same

      end : ends (block_total first) at.others ≡ block
      end = ends-total (block_total first) at.others ∙ sym (total-append first (extents_of at.others)) ∙ ap block_total front

      all-own : Each (λ (r : Record). is_of_fork file fork r ≡ true) (at.others ++ at.last ∷ [])
      all-own = subst (λ (rs : Overflow). Each (λ (r : Record). is_of_fork file fork r ≡ true) rs) at.is (own-each file fork (overflow_of old))

      last-key : at.last.0 ≡ key_at file fork block
      last-key = key-is file fork block at.last (each-right (λ (r : Record). is_of_fork file fork r ≡ true) at.others (at.last ∷ []) all-own).0 (at.link.begins ∙ end)

      pub last-is_there : IsRecordAt file fork block old
      last-is_there = subst (λ (rs : Overflow). IsThere (lookup ext_cmp (key_at file fork block) rs)) (sym at.is) (last-there (key_at file fork block) [] at.others at.last last-key)

      first-same : first ≡ take 3 extents
      first-same =
          let count = count-records first m.all old three chained in
          let long = m.long in
          sym (take_at first (extents_of at.others) 3 three) ∙ ap (take 3) front ∙ take-take 3 (places - 3) extents (omega (arith, count, long, more))

      pub last-changes : (new : Store) → HasRecordSet file fork block (take 3 (drop (places - 3) extents)) old new → HasExtents file fork (take 3 extents) (take places extents) new
      last-changes new s =
          let key = key_at file fork block in
          let before = subst (λ (b : ℕ). Each (λ (r : Record). r.0.block < b) at.others) end (chain-before (block_total first) at.others at.chain) in
          let is : own new ≡ at.others ++ (key, s.body) ∷ [] =
          s.is ∙ ap (with_replaced ext_cmp key s.body) at.is
          ∙ set-last key s.body at.others at.last last-key (each-left (λ (r : Record). is_of_fork file fork r ≡ true) at.others (at.last ∷ []) all-own) before in
          let link : IsLink (ends (block_total first) at.others) (key, s.body) = record {
            begins = sym end;
            short = subst (λ (b : ℕ). b < 65536) (sym end) m.few;
            some = subst (λ (es : List Extent). 0 < block_total es) (sym s.holds) (m.some more);
          } in
          let made = chain-has file fork first (take places extents) new
          (record {
            chain = subst (λ (rs : Overflow). IsChain (block_total first) rs) (sym is) (chain-append (block_total first) at.others ((key, s.body) ∷ []) at.chain (link, tt));
            extents =
                ap (λ (rs : Overflow). first ++ extents_of rs) is ∙ ap (λ (es : List Extent). first ++ es) (one-more at.others (key, s.body)) ∙ sym (append_assoc first (extents_of at.others) (record_extents s.body))
                ∙ (λ i. front i ++ s.holds i) ∙ sym (take-more extents (places - 3) 3) ∙ ap (λ (k : ℕ). take k extents) (let e : places - 3 + 3 ≡ places = omega (arith, more) in e);
          }) in
          subst (λ (es : List Extent). HasExtents file fork es (take places extents) new) first-same made

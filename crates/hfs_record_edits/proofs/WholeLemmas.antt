-- A whole fork to which pieces come, and what its extents are by threes.
use Rattle.std.proofs.Common.{◌≡◌, ℕ, ◌-◌, ◌/◌, ◌<◌, ◌≤◌, inl, inr, List, [], length, take, drop, refl, sym, ap, ◌∙◌, subst, arith}
use Rattle.std.proofs.lemmas.Bool.{cases_lt}
use Rattle.std.proofs.lemmas.List.{length-drop, drop_all}
use Rattle.hfs_fields.specs.declared.extent.Extent.{Extent}
use Rattle.hfs_btree.specs.Tree.{Store}
use Rattle.hfs_space.specs.Extents.{block_total, extent_blocks, fork_extents}
use Rattle.hfs_space.specs.TreeKeys.{overflow_of}
use Rattle.hfs_record_edits.specs.Need.{HasNodesFor}
use Rattle.hfs_record_edits.specs.Lengthened.{used_places}
use Rattle.hfs_record_edits.specs.Threes.{AreThrees}
use Rattle.hfs_record_edits.specs.Whole.{IsWhole, HasExtents, EditsFork, LastMayChange}
use Rattle.hfs_record_edits.specs.Growing.{grown, records_coming, HasRoomFor, HasGrown}
use Rattle.hfs_record_edits.proofs.AddLemmas.{HaveBlocks, used_places-used, lengthened-blocks}
use Rattle.hfs_record_edits.proofs.ThreeLemmas.{total-front, total-parts, threes-few, three-at}
use Rattle.hfs_record_edits.proofs.Chains.{blocks_in, IsForkChain, has-chain, chain-threes, three-of}
use Rattle.hfs_record_edits.proofs.GrowLemmas.{grown-long, grown-threes, grown-front, grown-total, used-behind}
use Rattle.hfs_record_edits.proofs.LastRecord.{own, count-records, drop-at, IsLast, last-record}

-- ---- by threes

module _ (file fork : ℕ) (first all : List Extent) (nodes : Store) (three : length first ≡ 3) (has : HasExtents file fork first all nodes) where
  chained : IsForkChain file fork first all nodes
  chained = has-chain file fork first all nodes has

  pub whole-some : 3 ≤ length all
  whole-some = (let count = count-records file fork first all nodes three chained in omega (arith, count))

  pub whole-threes : AreThrees (drop 3 all)
  whole-threes =
      subst (λ (es : List Extent). AreThrees es) (sym (ap (drop 3) (sym chained.extents) ∙ drop-at first (Rattle.hfs_record_edits.proofs.Chains.extents_of (own file fork nodes)) 3 three))
      (chain-threes (block_total first) (own file fork nodes) chained.chain)

-- ---- pieces that come

module _ (file fork : ℕ) (first pieces all : List Extent) (old : Store) (three : length first ≡ 3) (has : HasExtents file fork first all old) (some : HaveBlocks pieces) (room : HasRoomFor all pieces) where
  abbrev new : List Extent
  new = grown all pieces

  pub grown-within : length all ≤ length new
  grown-within = grown-long pieces all (used_places all)

  pub grown-some : 3 ≤ length all
  grown-some = whole-some file fork first all old three has

  pub grown-few : block_total new ≤ 65535
  grown-few = (let sums = grown-total pieces all some in omega (arith, sums, room))

  pub grown-rest : AreThrees (drop (length all) new)
  grown-rest =
      let nothing : drop (length all) all ≡ [] = drop_all (length all) all (omega arith) in
      grown-threes pieces all (used_places all) (length all) (omega arith) some (subst (λ (es : List Extent). AreThrees es) (sym nothing) tt)

  pub grown-coming : length (drop (length all) new) / 3 ≡ records_coming all pieces
  grown-coming = ap (λ (n : ℕ). n / 3) (length-drop (length all) new)

  pub coming-small : records_coming all pieces < 4294967296
  coming-small =
      let count = threes-few (drop (length all) new) grown-rest in
      let long = length-drop (length all) new in
      let parts = total-parts new (length all) in
      let few = grown-few in
      omega (arith, count, long, parts, few)

  module _ (more : 3 < length all) where
    last : IsLast file fork first all old
    last = last-record file fork first all old three (has-chain file fork first all old has) more

    last-three : AreThrees (drop (length all - 3) all)
    last-three =
        let is = three-of last.last last.link.some in
        subst (λ (es : List Extent). AreThrees es) (sym is ∙ last.behind) (subst (λ (es : List Extent). 0 < block_total es) is last.link.some, tt)

    pub front-same : take (length all - 3) all ≡ take (length all - 3) new
    front-same =
        sym (grown-front pieces all (used_places all) (length all - 3) (used_places-used all) some
        (used-behind all (length all - 3) (subst (λ (es : List Extent). 0 < block_total es) last.behind last.link.some)))

    pub last-has : 0 < block_total (take 3 (drop (length all - 3) new))
    last-has =
        let within = grown-within in
        (three-at new (length all - 3) (grown-threes pieces all (used_places all) (length all - 3) (omega arith) some last-three) (omega (arith, within, more))).some

  front-any : take (length all - 3) all ≡ take (length all - 3) new
  front-any = elim (cases_lt 3 (length all)) [
    | inl more ↦ front-same more
    | inr most ↦ (let none : length all - 3 ≡ 0 = omega (arith, most) in ap (λ (k : ℕ). take k all) none ∙ sym (ap (λ (k : ℕ). take k new) none))
  ]

  pub may-grow : LastMayChange file fork first new (length all) old
  may-grow = record {
    all = all;
    has = has;
    long = refl;
    same = front-any;
    some = last-has;
    few = (let part = total-front new (length all - 3) in let few = grown-few in omega (arith, part, few));
  }

pub has-grown : (file fork : ℕ) (first now pieces : List Extent) (old last : Store) → IsWhole file fork first old → HaveBlocks pieces → EditsFork file fork old last
    → HasExtents file fork now (grown (fork_extents (overflow_of old) file fork first) pieces) last
    → HasNodesFor (records_coming (fork_extents (overflow_of old) file fork first) pieces) old → HasGrown file fork first now pieces old last
has-grown file fork first now pieces old last whole some edits has enough =
    let all = fork_extents (overflow_of old) file fork first in
    record {
      edits = edits;
      has = has;
      blocks = ap (λ (es : List Extent). extent_blocks es) has.extents ∙ lengthened-blocks pieces all (used_places all) (used_places-used all) some;
      enough = enough;
    }

-- ---- the same, by what the code has of them

module _ (file fork : ℕ) (first pieces all es : List Extent) (places : ℕ) (old : Store) (three : length first ≡ 3) (whole : HasExtents file fork first all old) (some : HaveBlocks pieces) (room : HasRoomFor all pieces)
    (is : es ≡ grown all pieces) (so : places ≡ length all) where
  pub es-long : places ≤ length es
  es-long = (let long = ap (λ (l : List Extent). length l) is in let within = grown-within file fork first pieces all old three whole some room in omega (arith, long, within, so))

  pub es-some : 3 ≤ places
  es-some = (let least = grown-some file fork first pieces all old three whole some room in omega (arith, least, so))

  pub es-few : block_total es ≤ 65535
  es-few = (let same = ap block_total is in let few = grown-few file fork first pieces all old three whole some room in omega (arith, same, few))

  pub es-threes : AreThrees (drop places es)
  es-threes = subst (λ (l : List Extent). AreThrees l) (sym (λ i. drop (so i) (is i))) (grown-rest file fork first pieces all old three whole some room)

  pub es-last : LastMayChange file fork first es places old
  es-last =
      subst (λ (l : List Extent). LastMayChange file fork first l places old) (sym is)
      (subst (λ (n : ℕ). LastMayChange file fork first (grown all pieces) n old) (sym so) (may-grow file fork first pieces all old three whole some room))

  pub es-coming : (length es - places) / 3 ≡ records_coming all pieces
  es-coming = λ i. (length (is i) - so i) / 3

  pub es-small : (length es - places) / 3 < 4294967296
  es-small = (let same = es-coming in let small = coming-small file fork first pieces all old three whole some room in omega (arith, same, small))

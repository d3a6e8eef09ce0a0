-- The writes of a leaf that begins with a new record, one after the other.
use Rattle.std.proofs.Common.{◌≡◌, ◌≢◌, ℕ, suc, ◌+◌, ◌<◌, ◌≤◌, List, [], ◌∷◌, length, refl, sym, ap, ◌∙◌, subst, arith}
use Rattle.std.specs.Prelude.{true, false, Ok, Result, insert}
use Rattle.hfs_btree.specs.declared.node.Node.{Node}
use Rattle.hfs_btree.specs.declared.fault.NodeFault.{NodeFault}
use Rattle.hfs_btree.specs.declared.header.Header.{Header}
use Rattle.hfs_btree.specs.declared.key.Key.{Ghosts}
use Rattle.hfs_fields.specs.Each.{Each}
use Rattle.hfs_fields.proofs.ElementLemmas.{each-right}
use Rattle.hfs_btree.specs.Tree.{Store, node_in, records_in, records_of, reads_at, first_of}
use Rattle.hfs_btree.specs.Header.{header_in, record_in}
use Rattle.hfs_btree.specs.Sound.{IsOther, HasStructure, HasHeader, HasMap, IsSound, IsRight, IsStray}
use Rattle.hfs_btree.proofs.DescentLemmas.{IsOnWay, way-node}
use Rattle.hfs_btree_edits.specs.Stored.{HasStored, HasHeaderPut}
use Rattle.hfs_btree_edits.proofs.HeadLemmas.{header-new, head-kept, header-kept, map-kept}
use Rattle.hfs_btree_edits.proofs.OwnLemmas.{head-then}
use Rattle.hfs_btree_insertion.specs.Begun.{HasBehind, HasBegunAt}
use Rattle.hfs_btree_insertion.specs.Cut.{IsCut, IsParted, IsBranch, child_at}
use Rattle.hfs_btree_insertion.specs.Stored.{HasRecordPut, HasLinked}
use Rattle.hfs_btree_insertion.proofs.Cuts.{bn, hn, zero-above, m-others, forward-is}
use Rattle.hfs_btree_insertion.proofs.Cutting.{child-way, cut}
use Rattle.hfs_btree_insertion.proofs.PutWhole.{head-long}
use Rattle.hfs_btree_insertion.proofs.SplitWrites.{IsEntry, AreParts, p-n, part-writes, heads-writes, count-writes}

-- ---- one record more is counted

module _ {K : Type 0} (g : Ghosts K) (old mid new : Store) (i k p n m q : ℕ) (us ws : List (List ℕ)) (s : IsParted g old mid i k p n m q us ws) (structure : HasStructure g old)
    (h : HasHeaderPut (record (header_in mid) { records = (header_in mid).records + 1 }) mid new) where
  abbrev fields : Header
  fields = record (header_in mid) { records = (header_in mid).records + 1 }

  pub head : header_in new ≡ record (header_in mid) { records = (header_in mid).records + 1 }
  head = header-new fields mid new h refl

  pub p-zero : p ≢ 0
  p-zero = (each-right (IsOther 0) s.cut.before (p ∷ s.cut.behind) (zero-above g old i k p n m q s.cut structure).0).0

  pub n-zero : n ≢ 0
  n-zero = (each-right (IsOther 0) (bn g old i k p n m q s.cut structure) (n ∷ hn g old i k p n m q s.cut structure) (zero-above g old i k p n m q s.cut structure).1).0

  pub m-zero : m ≢ 0
  m-zero e = (m-others g old i k p n m q s.cut structure).0 (sym e)

  abbrev pub parted-counted : IsParted g old new i k p n m q us ws
  parted-counted = record {
    cut = s.cut;
    entry = s.entry;
    index = s.index;
    names = s.names;
    is_above = h.stored.rest p p-zero ∙ s.is_above;
    is_first = h.stored.rest n n-zero ∙ s.is_first;
    is_second = h.stored.rest m m-zero ∙ s.is_second;
    firsts = s.firsts;
    seconds = s.seconds;
    firsts_read = s.firsts_read;
    seconds_read = s.seconds_read;
    below = s.below;
    is_right = λ next some was. h.stored.rest s.cut.node.forward some ∙ s.is_right next some was;
    rest = λ x zero' vp vn vm vr. h.stored.rest x zero' ∙ s.rest x zero' vp vn vm vr;
    bytes = λ x zero' vp vn vm vr. h.stored.bytes x zero' ∙ s.bytes x zero' vp vn vm vr;
    root = ap (λ (x : Header). x.root) head ∙ s.root;
    depth = ap (λ (x : Header). x.depth) head ∙ s.depth;
    first_leaf = ap (λ (x : Header). x.first_leaf) head ∙ s.first_leaf;
    last_leaf = λ bottom none. ap (λ (x : Header). x.last_leaf) head ∙ s.last_leaf bottom none;
    same_last = λ other. ap (λ (x : Header). x.last_leaf) head ∙ s.same_last other;
    free = ap (λ (x : Header). x.free_nodes) head ∙ s.free;
    head = head-then old mid new s.head (head-kept fields mid new h refl);
  }

  pub records-counted : (header_in mid).records ≡ (header_in old).records → (header_in new).records ≡ (header_in old).records + 1
  records-counted same = ap (λ (x : Header). x.records) head ∙ ap (λ (x : ℕ). x + 1) same

  pub header-counted : HasHeader g mid → HasHeader g new
  header-counted is = header-kept fields mid new h refl g refl refl is.shallow is

  pub map-counted : HasMap mid → HasMap new
  map-counted is = map-kept fields mid new h refl is

-- ---- the writes

module _ {K : Type 0} (g : Ghosts K) (old : Store) (sound : IsSound g old) (p q : ℕ) (b : IsBranch g old 0 p q) (n : ℕ) (is : n ≡ child_at g old p q) (m : ℕ) (stray : IsStray g old m) (above entry : List ℕ) (x : Store)
    (put : HasRecordPut p (q + 1) above old x) (leaf : g.is_leaf entry ≡ true) (index : g.is_index above ≡ true) (names : g.child above ≡ m) (w : Store) (behind : HasBehind n m entry x w) where
  abbrev nn : ℕ
  nn = child_at g old p q

  abbrev way : IsOnWay g old 0 nn
  way = child-way g old sound 0 p q b

  abbrev spot : (l : ℕ) × IsRight g old (record { left = l; n = nn; right = first_of way.behind; above = 0 })
  spot = way-node g old 0 nn way

  abbrev early : IsCut g old b.i 0 p nn m q
  early = cut g old sound 0 p q b put.node spot.1.value put.was spot.1.decodes m stray

  same-child : node_in x nn ≡ node_in old nn
  same-child = put.stored.rest nn (λ e. p-n g old b.i 0 p nn m q early sound.structure (sym e))

  abbrev h : HasBehind nn m entry x w
  h = subst (λ j. HasBehind j m entry x w) is behind

  was : node_in old nn ≡ Ok h.node
  was = sym same-child ∙ h.was

  abbrev a : IsCut g old b.i 0 p nn m q
  a = cut g old sound 0 p q b put.node h.node put.was was m stray

  abbrev us : List (List ℕ)
  us = records_in old nn

  abbrev ws : List (List ℕ)
  ws = entry ∷ []

  parts : AreParts g old b.i 0 p nn m q a sound.structure us ws
  parts =
      let R : Result Node NodeFault → Type 0 = λ r. Each (λ e. reads_at g 0 e ≡ true) (records_of r) in
      let L : Result Node NodeFault → Type 0 = λ r. 1 ≤ length (records_of r) in
      record {
        firsts = subst L (sym spot.1.decodes) spot.1.some;
        seconds = omega arith;
        firsts_read = subst R (sym spot.1.decodes) spot.1.whole;
        seconds_read = (leaf, tt);
        below = λ j up. absurd (omega (arith, up));
      }

  pub upper-leaves : (j : ℕ) → true ≡ false → j ≢ 0
  upper-leaves j e z = cc

  entered : IsEntry g old b.i 0 p nn m q a sound.structure above
  entered = record { index = index; names = names }

  put-first : HasStored p (record put.node { records = insert put.node.records (suc q) above }) old x
  put-first =
      let one : q + 1 ≡ suc q = omega arith in
      let S : ℕ → Type 0 = λ j. HasStored p (record put.node { records = insert put.node.records j above }) old x in
      subst S one put.stored

  first-stored : HasStored nn (record h.node { forward = m; records = us }) x h.cut
  first-stored =
      let F : List (List ℕ) → Type 0 = λ xs. HasStored nn (record h.node { forward = m; records = xs }) x h.cut in
      subst F (sym (ap records_of was)) h.first

  linked : HasLinked (first_of (hn g old b.i 0 p nn m q a sound.structure)) m true h.both w
  linked = let L : ℕ → Type 0 = λ r. HasLinked r m true h.both w in subst L (forward-is g old b.i 0 p nn m q a sound.structure) h.linked

  pub heads : HasHeader g w × HasMap w
  heads = heads-writes g old b.i 0 p nn m q a sound.structure us ws parts above entered x h.cut h.both put-first first-stored h.second w true linked

  pub counted : (header_in w).records ≡ (header_in old).records
  counted = count-writes g old b.i 0 p nn m q a sound.structure us ws parts above entered x h.cut h.both put-first first-stored h.second w true linked

  abbrev named : (s : IsParted g old w b.i 0 p nn m q us ws) × (s.entry ≡ above)
  named = part-writes g old b.i 0 p nn m q a sound.structure us ws parts above entered x h.cut h.both put-first first-stored h.second w true (λ _. refl) (upper-leaves 0) linked

  pub long-after : (0 < length w) × (30 ≤ length (record_in w 0 0))
  long-after = head-long g w heads.0

  pub few-after : (header_in old).records + 1 < 4294967296 → (header_in w).records + 1 < 4294967296
  few-after few = let same = counted in omega (arith, few, same)

  pub begun-at : (key : K) → g.index_key above ≡ key → (new : Store) → HasHeaderPut (record (header_in w) { records = (header_in w).records + 1 }) w new → HasBegunAt g key entry p q m old new
  begun-at key keyed new h' = record {
    i = b.i;
    parts = parted-counted g old w new b.i 0 p nn m q us ws named.0 sound.structure h';
    keyed = ap g.index_key named.1 ∙ keyed;
    counted = records-counted g old w new b.i 0 p nn m q us ws named.0 sound.structure h' counted;
    header = header-counted g old w new b.i 0 p nn m q us ws named.0 sound.structure h' heads.0;
    map = map-counted g old w new b.i 0 p nn m q us ws named.0 sound.structure h' heads.1;
  }

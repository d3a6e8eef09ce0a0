-- Cuts on the way to a key, one level after the other.
use Rattle.std.proofs.Common.{◌≡◌, ℕ, zero, suc, ◌+◌, ◌-◌, ◌<◌, ◌≤◌, List, ◌∷◌, ◌++◌, length, get_or, [], refl, sym, ap, ◌∙◌, subst, arith, inl, inr}
use Rattle.std.specs.Prelude.{true}
use Rattle.std.proofs.lemmas.Bool.{cases_eq, cases_lt}
use Rattle.hfs_btree.specs.Node.{size_of}
use Rattle.hfs_btree.specs.declared.key.Key.{Ghosts}
use Rattle.hfs_fields.specs.Each.{Each}
use Rattle.hfs_fields.proofs.ElementLemmas.{each-at, each-append, each-left, each-right}
use Rattle.hfs_btree.specs.Tree.{Store, records_in}
use Rattle.hfs_btree.specs.Header.{header_in, depth_of, own_nodes, free_nodes, tree_nodes}
use Rattle.hfs_btree.specs.Sound.{IsOther, IsSound, KeepsFrame}
use Rattle.hfs_btree.proofs.DescentLemmas.{index-entries, way-some}
use Rattle.hfs_btree_edits.specs.Edits.{KeepsTree, level_above, node_for}
use Rattle.hfs_btree_edits.proofs.KeptKeyLemmas.{own-keys}
use Rattle.hfs_btree_insertion.specs.Growth.{len_at, HasRoom, AreFull, IsLow, NodesStay, HasRaised, HasCutLevel}
use Rattle.hfs_btree_insertion.specs.Steps.{AreCuttable, HasCutDown}
use Rattle.hfs_btree_insertion.proofs.WayTo.{at-level}
use Rattle.hfs_btree_insertion.proofs.CutKeys.{stay-then, keys-then}

-- ---- steps that follow on each other

module _ {K : Type 0} (g : Ghosts K) (old mid new : Store) where
  pub frame-then : KeepsFrame g old mid → KeepsFrame g mid new → KeepsFrame g old new
  frame-then a b = record {
    file = b.file ∙ a.file;
    nodes = b.nodes ∙ a.nodes;
    map = b.map ∙ a.map;
    map_length = b.map_length ∙ a.map_length;
    stray = λ x. (λ s. (a.stray x).0 ((b.stray x).0 s), λ s. (b.stray x).1 ((a.stray x).1 s));
  }

  pub keeps-then : KeepsTree g old mid → KeepsTree g mid new → NodesStay g mid new → KeepsTree g old new
  keeps-then a b stay =
      let first = a.free in
      let second = b.free in
      record {
        sound = b.sound;
        exact = λ e. b.exact (a.exact e);
        frame = frame-then a.frame b.frame;
        free = omega (arith, first, second);
        rest = λ x other.
            (let own = each-left (IsOther x) (own_nodes old) (tree_nodes g old ++ tree_nodes g new) other in
            let trees = each-right (IsOther x) (own_nodes old) (tree_nodes g old ++ tree_nodes g new) other in
            let was = each-left (IsOther x) (tree_nodes g old) (tree_nodes g new) trees in
            let now = each-right (IsOther x) (tree_nodes g old) (tree_nodes g new) trees in
            let between = stay x now in
            let P : List ℕ → Type 0 = λ xs. Each (IsOther x) (0 ∷ xs) in
            let own' : Each (IsOther x) (own_nodes mid) = subst P (sym a.frame.map) own in
            b.rest x (each-append (IsOther x) (own_nodes mid) (tree_nodes g mid ++ tree_nodes g new) own' (each-append (IsOther x) (tree_nodes g mid) (tree_nodes g new) between now))
            ∙ a.rest x (each-append (IsOther x) (own_nodes old) (tree_nodes g old ++ tree_nodes g mid) own (each-append (IsOther x) (tree_nodes g old) (tree_nodes g mid) was between)));
      }

-- nothing has changed
module _ {K : Type 0} (g : Ghosts K) (old : Store) where
  pub keeps-same : IsSound g old → KeepsTree g old old
  keeps-same sound = record {
    sound = sound;
    exact = λ e. e;
    frame = record { file = refl; nodes = refl; map = refl; map_length = refl; stray = λ x. (λ s. s, λ s. s) };
    free = refl;
    rest = λ x other. refl;
  }

-- ---- the loop over the levels

pub room-index : {K : Type 0} (g : Ghosts K) (len k size : ℕ) → 0 < k → size + (g.INDEX_KEY_LEN + 5 + 2) ≤ 496 → size + (len_at g len k + 2) ≤ 496
room-index g len zero size some room = absurd (omega (arith, some))
room-index g len (suc k) size some room = room

-- above the leaves an index record comes
pub index-room : {K : Type 0} (g : Ghosts K) (len k size : ℕ) → 0 < k → size + (len_at g len k + 2) ≤ 496 → size + (g.INDEX_KEY_LEN + 5 + 2) ≤ 496
index-room g len zero size some room = absurd (omega (arith, some))
index-room g len (suc k) size some room = room

module _ {K : Type 0} (g : Ghosts K) (key : K) (len full : ℕ) (old : Store) where
  -- before the first cut
  pub down-init : IsSound g old → IsLow g old key → HasCutDown g key len full full old old
  down-init sound low = record {
    keeps = keeps-same g old sound;
    others = λ x other. other;
    keys = own-keys g old;
    content = refl;
    depth = refl;
    free = refl;
    above = λ k lt le. refl;
    below = λ k lt. refl;
    grown = λ k le lt. absurd (omega (arith, le, lt));
    way = λ k lt. refl;
    records = λ k lt. refl;
    room = λ lt. absurd (omega (arith, lt));
    none = λ le. refl;
    low = low;
  }

  module _ (c : AreCuttable g old key full) (a b : ℕ) (mid : Store) (some : 0 < a) (most : a ≤ full) (next : b ≡ a - 1) (h : HasCutDown g key len a full old mid) where
    -- what the next cut asks for
    pub next-deep : b + 1 < depth_of mid
    next-deep = let d = h.depth in let w = c.within in omega (arith, d, w, some, most, next)

    -- where the node above was cut just before, it has room for one record more
    pub next-room : HasRoom mid (g.INDEX_KEY_LEN + 5) (node_for g mid key (b + 1))
    next-room =
        let at : b + 1 ≡ a = omega (arith, some, next) in
        let P : ℕ → Type 0 = λ j. HasRoom mid (g.INDEX_KEY_LEN + 5) (node_for g mid key j) in
        subst P (sym at)
        (elim (cases_lt a full) [
          | inl less ↦ index-room g len a (size_of (records_in mid (node_for g mid key a))) some (h.room less)
          | inr same ↦
              (let is : full ≡ a = omega (arith, same, most) in
              let F : ℕ → Type 0 = λ j. HasRoom old (g.INDEX_KEY_LEN + 5) (node_for g old key j) in
              let S : Store → Type 0 = λ s. HasRoom s (g.INDEX_KEY_LEN + 5) (node_for g s key a) in
              subst S (sym (h.none (omega (arith, same)))) (subst F is (c.room (omega (arith, is, some)))))
        ])

    -- and what it makes
    pub down-next : (new : Store) → HasCutLevel g key (len_at g len b) b mid new → HasCutDown g key len b full old new
    down-next new cut =
        let w = c.within in
        let d = h.depth in
        let f = h.free in
        let e = cut.free in
        record {
          keeps = keeps-then g old mid new h.keeps cut.keeps cut.others;
          others = stay-then g old mid new h.others cut.others;
          keys = keys-then g old mid new h.keys cut.keys;
          content = cut.content ∙ h.content;
          depth = cut.depth ∙ h.depth;
          free = omega (arith, f, e, some, next);
          above = λ k lt le. cut.levels k (omega (arith, lt, d)) (λ is. absurd (omega (arith, is, le, some, most, next))) ∙ h.above k lt le;
          below = λ k lt. cut.levels k (omega (arith, lt, w, d, most, next, some)) (λ is. absurd (omega (arith, is, lt))) ∙ h.below k (omega (arith, lt, next));
          grown = λ k le lt. elim (cases_eq k b) [
            | inl is ↦
                (let P : ℕ → Type 0 = λ j. length (level_above g new j) ≡ length (level_above g old j) + 1 in
                subst P (sym is) (cut.grown ∙ ap (λ (ns : List ℕ). length ns + 1) (h.below b (omega (arith, some, next)))))
            | inr other ↦
                (let more : a ≤ k = omega (arith, le, other, next, some) in
                ap (λ (ns : List ℕ). length ns) (cut.levels k (omega (arith, lt, w, d)) other) ∙ h.grown k more lt)
          ];
          way = λ k lt. cut.way k lt ∙ h.way k (omega (arith, lt, next));
          records = λ k lt.
              (let up : k < a = omega (arith, lt, next) in
              ap (records_in new) (sym (h.way k up)) ∙ cut.records k lt ∙ ap (records_in mid) (h.way k up) ∙ h.records k up);
          room = λ lt. cut.room;
          none = λ le. absurd (omega (arith, le, some, most, next));
          low = cut.low;
        }

-- ---- which trees can be cut

module _ {K : Type 0} (g : Ghosts K) (key : K) (len full : ℕ) (index_len : (e : List ℕ) → g.is_index e ≡ true → length e ≡ g.INDEX_KEY_LEN + 5)
    (index_small : (e : List ℕ) → g.is_index e ≡ true → length e ≤ 42) where
  -- the keys of a tree with a level above the leaves are short
  pub keys-short : (nodes : Store) → IsSound g nodes → 1 < depth_of nodes → g.INDEX_KEY_LEN ≤ 37
  keys-short nodes sound deep =
      let at = at-level g nodes key 1 sound.structure deep in
      let n = node_for g nodes key 1 in
      let some = way-some g nodes 1 n at.way in
      let is = each-at (λ e. g.is_index e ≡ true) (records_in nodes n) 0 [] (index-entries g nodes 1 n (omega arith) at.way) some in
      let long = index_len (get_or (records_in nodes n) 0 []) is in
      let small = index_small (get_or (records_in nodes n) 0 []) is in
      omega (arith, long, small)

  -- what comes to a level is short
  pub len-short : (k : ℕ) → len ≤ 140 → (0 < k → g.INDEX_KEY_LEN ≤ 37) → len_at g len k ≤ 140
  len-short zero short small = short
  len-short (suc k) short small = let i = small (omega arith) in omega (arith, i)

  over-at : (k size : ℕ) → len ≤ 140 → (0 < k → g.INDEX_KEY_LEN ≤ 37) → 496 < size + (len_at g len k + 2) → 354 < size
  over-at zero size short small big = omega (arith, short, big)
  over-at (suc k) size short small big = let i = small (omega arith) in omega (arith, i, big)

  -- the full nodes on the way, where the root isn't one of them
  pub cuttable-full : (nodes : Store) → IsSound g nodes → AreFull g nodes key len full → full < depth_of nodes → len ≤ 140 → AreCuttable g nodes key full
  cuttable-full nodes sound f less short = record {
    within = less;
    over = λ k lt. over-at k (size_of (records_in nodes (node_for g nodes key k))) short (λ some. keys-short nodes sound (omega (arith, less, lt, some))) (f.each k lt);
    room = λ some. index-room g len full (size_of (records_in nodes (node_for g nodes key full))) some (f.room less);
  }

  -- all of them, where a new root stands above
  pub cuttable-raised : (old new : Store) → IsSound g new → AreFull g old key len full → full ≡ depth_of old → HasRaised g old new → len ≤ 140 → 0 < full → AreCuttable g new key full
  cuttable-raised old new sound f all r short some =
      let deep = r.depth in
      let small : g.INDEX_KEY_LEN ≤ 37 = keys-short new sound (omega (arith, deep, all, some)) in
      let is : 0 ≡ depth_of new - 1 - full = omega (arith, deep, all) in
      let root = ap (λ (j : ℕ). size_of (records_in new (Rattle.hfs_btree.specs.Search.leaf_under g new key j (header_in new).root))) (sym is) in
      let size = r.root in
      record {
        within = omega (arith, deep, all);
        over = λ k lt.
            (let was = over-at k (size_of (records_in old (node_for g old key k))) short (λ _. small) (f.each k lt) in
            let same = r.levels.size key k (omega (arith, lt, all)) in
            let way = ap (λ (x : ℕ). size_of (records_in new x)) (r.levels.way key k (omega (arith, lt, all))) in
            omega (arith, was, same, way));
        room = λ _. omega (arith, root, size, small);
      }

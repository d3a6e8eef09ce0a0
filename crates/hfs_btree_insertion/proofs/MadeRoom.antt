-- Room for a new record on the way to its key, from the steps that make it.
use Rattle.std.proofs.Common.{◌≡◌, ℕ, zero, suc, ◌+◌, ◌-◌, ◌<◌, ◌≤◌, List, length, sym, ap, ◌∙◌, subst, arith, inl, inr}
use Rattle.std.specs.Prelude.{true}
use Rattle.std.specs.Cmp.{IsTotalOrder}
use Rattle.std.specs.List.{prefix_len}
use Rattle.std.proofs.lemmas.Bool.{cases_lt}
use Rattle.hfs_btree.specs.declared.header.Header.{Header}
use Rattle.hfs_btree.specs.declared.key.Key.{Ghosts}
use Rattle.hfs_btree.specs.Pairs.{Pairs}
use Rattle.hfs_btree.specs.Node.{size_of}
use Rattle.hfs_btree.specs.Tree.{Store, records_in, level_below}
use Rattle.hfs_btree.specs.Header.{header_in, depth_of, root_level, free_nodes, tree_content}
use Rattle.hfs_btree.specs.Sound.{IsSound}
use Rattle.hfs_btree.specs.Search.{is_not_above, child_for, leaf_under, IsLowWay}
use Rattle.hfs_btree.proofs.DescentLemmas.{root-way, way-some}
use Rattle.hfs_btree_edits.specs.Edits.{IsAboveFirst, level_above, node_for, IsFullFor}
use Rattle.hfs_btree_insertion.specs.Growth.{len_at, HasRoom, AreFull, IsLow, HasRaised}
use Rattle.hfs_btree_insertion.specs.Steps.{AreCuttable, HasCutDown}
use Rattle.hfs_btree_insertion.specs.Room.{HasGrownFor, HasMadeRoom}
use Rattle.hfs_btree_insertion.proofs.CutKeys.{stay-then, keys-then}
use Rattle.hfs_btree_insertion.proofs.Steps.{keeps-then, room-index, cuttable-full, cuttable-raised}
use Rattle.hfs_btree_insertion.proofs.ExactWays.{root-low}
use Rattle.hfs_btree_insertion.proofs.FirstKeys.{first-low}
use Rattle.hfs_btree_insertion.proofs.LowerSteps.{some-levels_above}

-- ---- the way, where no index node on it has all of its keys above the key

pub low-way : {K : Type 0} (g : Ghosts K) (nodes : Store) (key : K) (k n : ℕ) → ((j : ℕ) → j < k → 0 < prefix_len (is_not_above g key) (records_in nodes (leaf_under g nodes key j n))) → IsLowWay g nodes key k n
low-way g nodes key zero n h = tt
low-way g nodes key (suc k) n h = (h 0 (omega arith), low-way g nodes key k (child_for g key (records_in nodes n)) (λ j lt. h (suc j) (omega (arith, lt))))

pub low-whole : {K : Type 0} (g : Ghosts K) (nodes : Store) (key : K) → IsLow g nodes key → IsLowWay g nodes key (depth_of nodes - 1) (header_in nodes).root
low-whole g nodes key low = low-way g nodes key (depth_of nodes - 1) (header_in nodes).root (λ j lt. low j (omega (arith, lt)))

module _ {K : Type 0} (g : Ghosts K) (total : IsTotalOrder g.compare) (key : K) (len : ℕ) (old : Store) (sound : IsSound g old) (first : IsAboveFirst g.compare key (tree_content g old)) (short : len ≤ 140)
    (low : IsLow g old key) (full : ℕ) (f : AreFull g old key len full) where
  some : 0 < depth_of old
  some = some-levels_above g key old first

  -- ---- where the root isn't cut

  module _ (less : full < depth_of old) (a : ℕ) (least : a ≤ full) (new : Store) (h : HasCutDown g key len a full old new) where
    cut-level : (k : ℕ) → a ≤ k → k < depth_of old → HasGrownFor g key len a old new k
    cut-level k le lt =
        elim (cases_lt k full) [
          | inl is ↦
              (let more = h.grown k le is in
              record {
                least = omega (arith, more);
                most = omega (arith, more);
                full = λ up. f.each k is;
                below = λ j from next up. (let one = h.grown j from (omega (arith, is, next)) in omega (arith, one));
              })
          | inr not' ↦
              (let same = ap (λ (ns : List ℕ). length ns) (h.above k lt (omega (arith, not'))) in
              record {
                least = omega (arith, same);
                most = omega (arith, same);
                full = λ up. absurd (omega (arith, same, up));
                below = λ j from next up. absurd (omega (arith, same, up));
              })
        ]

    cut-room : HasRoom new (len_at g len a) (node_for g new key a)
    cut-room =
        elim (cases_lt a full) [
          | inl any ↦ h.room any
          | inr none ↦
              (let is : full ≡ a = omega (arith, none, least) in
              let F : ℕ → Type 0 = λ j. HasRoom old (len_at g len j) (node_for g old key j) in
              let S : Store → Type 0 = λ s. HasRoom s (len_at g len a) (node_for g s key a) in
              subst S (sym (h.none (omega (arith, none)))) (subst F is (f.room less)))
        ]

    pub made-cut : HasMadeRoom g key len a old new
    made-cut =
        let d = h.depth in
        record {
          keeps = h.keeps;
          others = h.others;
          keys = h.keys;
          content = h.content;
          levels = cut-level;
          below = λ k lt in'. h.below k lt;
          least = omega (arith, d);
          most = omega (arith, d);
          split = λ some' up. absurd (omega (arith, d, up));
          deep = omega (arith, d, less, least);
          free = λ enough. (let left = h.free in omega (arith, left, enough, less));
          low = h.low;
          room = cut-room;
          records = λ k lt in'. ap (records_in new) (h.way k lt) ∙ h.records k lt;
        }

  -- ---- where it is

  module _ (all : full ≡ depth_of old) (mid : Store) (r : HasRaised g old mid) where
    first-mid : IsAboveFirst g.compare key (tree_content g mid)
    first-mid = let P : Pairs K → Type 0 = λ ps. IsAboveFirst g.compare key ps in subst P (sym r.content) first

    -- the new root's key isn't above the key, since it is at most all others
    pub raised-low : IsLow g mid key
    raised-low zero less =
        let up = r.depth in
        let deep : depth_of mid ≡ suc (suc (depth_of old - 1)) = omega (arith, up, some) in
        let root = (header_in mid).root in
        first-low g key (records_in mid root) (way-some g mid (depth_of mid - 1) root (root-way g mid r.keeps.sound.structure (omega (arith, up))))
        (root-low g total mid (suc (depth_of old - 1)) deep r.keeps.sound key first-mid)
    raised-low (suc j) less =
        let up = r.depth in
        let k = depth_of old - 1 - j in
        let lt : depth_of old - 1 - j < depth_of old = omega (arith, some) in
        let at-mid : depth_of mid - 1 - (depth_of old - 1 - j) ≡ suc j = omega (arith, less, up) in
        let at-old : j ≡ depth_of old - 1 - (depth_of old - 1 - j) = omega (arith, less, up) in
        let P : ℕ → Type 0 = λ x. 0 < prefix_len (is_not_above g key) (records_in mid x) in
        let Q : List (List ℕ) → Type 0 = λ xs. 0 < prefix_len (is_not_above g key) xs in
        let to : node_for g old key k ≡ leaf_under g mid key (suc j) (header_in mid).root =
        sym (r.levels.way key k lt) ∙ ap (λ (i : ℕ). leaf_under g mid key i (header_in mid).root) at-mid in
        let was : 0 < prefix_len (is_not_above g key) (records_in old (node_for g old key k)) =
        (let R : ℕ → Type 0 = λ i. 0 < prefix_len (is_not_above g key) (records_in old (leaf_under g old key i (header_in old).root)) in subst R at-old (low j (omega (arith, less, up)))) in
        subst P to (subst Q (sym (r.levels.records key k lt)) was)

    module _ (a : ℕ) (least : a ≤ full) (new : Store) (h : HasCutDown g key len a full mid new) where
      raised-level : (k : ℕ) → a ≤ k → k < depth_of old → HasGrownFor g key len a old new k
      raised-level k le lt =
          let is : k < full = omega (arith, lt, all) in
          let more = h.grown k le is in
          let same = ap (λ (ns : List ℕ). length ns) (r.levels.levels k lt) in
          record {
            least = omega (arith, more, same);
            most = omega (arith, more, same);
            full = λ up. f.each k is;
            below = λ j from next up.
                (let one = h.grown j from (omega (arith, is, next)) in
                let same' = ap (λ (ns : List ℕ). length ns) (r.levels.levels j (omega (arith, lt, next))) in
                omega (arith, one, same'));
          }

      root-two : a < depth_of old → length (level_above g new (depth_of old - 1)) ≡ 2
      root-two deep =
          let k = depth_of old - 1 in
          let lt : depth_of old - 1 < depth_of old = omega (arith, some) in
          let more = h.grown k (omega (arith, deep)) (omega (arith, some, all)) in
          let same = ap (λ (ns : List ℕ). length ns) (r.levels.levels k lt) in
          let top : depth_of old - 1 - (depth_of old - 1) ≡ 0 = omega arith in
          let one : length (level_above g old (depth_of old - 1)) ≡ 1 = ap (λ (j : ℕ). length (level_below g old j (root_level old))) top in
          omega (arith, more, same, one)

      -- where no node was cut, the new root has room
      raised-room : AreCuttable g mid key full → HasRoom new (len_at g len a) (node_for g new key a)
      raised-room can =
          elim (cases_lt a full) [
            | inl any ↦ h.room any
            | inr none ↦
                (let is : full ≡ a = omega (arith, none, least) in
                let up : 0 < full = omega (arith, all, some) in
                let F : ℕ → Type 0 = λ j. HasRoom mid (len_at g len j) (node_for g mid key j) in
                let S : Store → Type 0 = λ s. HasRoom s (len_at g len a) (node_for g s key a) in
                subst S (sym (h.none (omega (arith, none)))) (subst F is (room-index g len full (size_of (records_in mid (node_for g mid key full))) up (can.room up))))
          ]

      pub made-raised : AreCuttable g mid key full → HasMadeRoom g key len a old new
      made-raised can =
          let d = h.depth in
          let up = r.depth in
          record {
            keeps = keeps-then g old mid new r.keeps h.keeps h.others;
            others = stay-then g old mid new r.others h.others;
            keys = keys-then g old mid new r.keys h.keys;
            content = h.content ∙ r.content;
            levels = raised-level;
            below = λ k lt in'. h.below k lt ∙ r.levels.levels k in';
            least = omega (arith, d, up);
            most = omega (arith, d, up);
            split = λ deep more. root-two deep;
            deep = omega (arith, d, up, all, least);
            free = λ enough. (let left = h.free in let taken = r.free in omega (arith, left, taken, enough, all));
            low = h.low;
            room = raised-room can;
            records = λ k lt in'.
                ap (records_in new) (h.way k lt) ∙ h.records k lt ∙ ap (records_in mid) (r.levels.way key k in') ∙ r.levels.records key k in';
          }

-- ---- what the calls ask for

-- a full leaf is counted
pub least-full : {K : Type 0} (g : Ghosts K) (key : K) (len : ℕ) (old : Store) (full least : ℕ) → AreFull g old key len full → 0 < depth_of old → least ≤ 1 → (0 < least → IsFullFor old len (node_for g old key 0)) → least ≤ full
least-full g key len old full least f some most over =
    elim (cases_lt full least) [
      | inr ge ↦ omega (arith, ge)
      | inl lt ↦
          (let zero' : full ≡ 0 = omega (arith, lt, most) in
          let R : ℕ → Type 0 = λ j. HasRoom old (len_at g len j) (node_for g old key j) in
          let room : HasRoom old len (node_for g old key 0) = subst R zero' (f.room (omega (arith, lt, most, some))) in
          let big = over (omega (arith, lt)) in
          absurd (omega (arith, room, big)))
    ]

module _ {K : Type 0} (g : Ghosts K) (key : K) (len : ℕ) (old : Store) (sound : IsSound g old) (index_len : (e : List ℕ) → g.is_index e ≡ true → length e ≡ g.INDEX_KEY_LEN + 5)
    (index_small : (e : List ℕ) → g.is_index e ≡ true → length e ≤ 42) (short : len ≤ 140) (full : ℕ) (f : AreFull g old key len full) (h : Header) (is : h ≡ header_in old) where
  pub less-full : full < h.depth → full < depth_of old
  less-full lt = let same = ap (λ (x : Header). x.depth) is in omega (arith, lt, same)

  pub all-full : h.depth ≤ full → full ≡ depth_of old
  all-full ge = let same = ap (λ (x : Header). x.depth) is in let most = f.most in omega (arith, ge, same, most)

  pub can-cut : full < h.depth → AreCuttable g old key full
  can-cut lt = cuttable-full g key len full index_len index_small old sound f (less-full lt) short

  pub can-cut_raised : h.depth ≤ full → 0 < depth_of old → (mid : Store) → HasRaised g old mid → AreCuttable g mid key full
  can-cut_raised ge some mid r = let all = all-full ge in cuttable-raised g key len full index_len index_small old mid r.keeps.sound f all r short (omega (arith, all, some))

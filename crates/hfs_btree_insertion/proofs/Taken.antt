-- A free node that was claimed, and then taken into the levels.
use Rattle.std.proofs.Common.{◌≡◌, ◌≢◌, ℕ, ◌+◌, ◌<◌, ◌≤◌, List, ◌∷◌, ◌++◌, length, map, sym, ap, ◌∙◌, subst, arith, inl, inr}
use Rattle.std.specs.Prelude.{not, ◌↔◌}
use Rattle.std.specs.List.{count_by}
use Rattle.std.proofs.lemmas.Bool.{cases_eq}
use Rattle.hfs_btree.specs.declared.header.Header.{Header}
use Rattle.hfs_btree.specs.declared.key.Key.{Ghosts}
use Rattle.hfs_fields.specs.Each.{Each}
use Rattle.hfs_fields.proofs.ElementLemmas.{each-mono, each-left}
use Rattle.hfs_btree.specs.Tree.{Store, Spot, node_in, records_of}
use Rattle.hfs_btree.specs.Header.{header_in, depth_of, own_nodes, free_nodes, tree_turn, tree_nodes, tree_content}
use Rattle.hfs_btree.specs.Sound.{IsOther, IsSound, IsExact, IsStray}
use Rattle.hfs_btree_edits.specs.Stored.{HasClaimed, KeepsHead, bytes_in}
use Rattle.hfs_btree_edits.specs.Edits.{KeepsTree}
use Rattle.hfs_btree_insertion.specs.Growth.{KeepsLevels}
use Rattle.hfs_btree_edits.proofs.ApartLemmas.{marked-within}
use Rattle.hfs_btree_edits.proofs.LevelPartLemmas.{KeepsAt}
use Rattle.hfs_btree_insertion.proofs.LevelWays.{same-tree}

-- a stray node was taken into the levels
pub record HasTaken {K : Type 0} (g : Ghosts K) (m : ℕ) (old new : Store) : Type 0 where
  pub sound : IsSound g new
  pub exact : IsExact g old → IsExact g new
  pub head : KeepsHead old new
  pub gone : IsStray g new m → ⊥
  pub same : (x : ℕ) → x ≢ m → IsStray g new x ↔ IsStray g old x
  pub rest : (x : ℕ) → Each (IsOther x) (own_nodes old ++ (tree_nodes g old ++ tree_nodes g new)) → bytes_in new x ≡ bytes_in old x
  pub more : length (tree_nodes g new) ≡ length (tree_nodes g old) + 1

pub free-same : (old new : Store) → KeepsHead old new → free_nodes new ≡ free_nodes old
unfolding free_nodes
free-same old new head = ap (count_by not) head.marks

module _ {K : Type 0} (g : Ghosts K) (m : ℕ) (old mid new : Store) (c : HasClaimed g m old mid) where
  pub claimed-keep : Each (KeepsAt g old mid) (tree_turn g old)
  claimed-keep = each-mono (λ (x : Spot). node_in mid x.n ≡ node_in old x.n) (KeepsAt g old mid) (tree_turn g old) (λ x e. ap records_of e) c.nodes

  pub claimed-depth : depth_of mid ≡ depth_of old
  claimed-depth = ap (λ (h : Header). h.depth) c.header

  pub claimed-root : (header_in mid).root ≡ (header_in old).root
  claimed-root = ap (λ (h : Header). h.root) c.header

  pub claimed-count : (header_in mid).nodes ≡ (header_in old).nodes
  claimed-count = ap (λ (h : Header). h.nodes) c.header

  pub claimed-levels : IsSound g old → KeepsLevels g old mid
  claimed-levels sound = same-tree g old mid sound.structure claimed-keep claimed-depth claimed-root

  -- the node is one of the file's, where all of the tree's are
  pub stray-there : (header_in old).nodes ≤ length old → m < length mid
  stray-there file =
      let lt = marked-within mid m c.stray.marked in
      let count = claimed-count in
      let len = c.len in
      omega (arith, lt, count, len, file)

  module _ (t : HasTaken g m mid new) where
    pub taken-free : free_nodes new + 1 ≡ free_nodes old
    taken-free = ap (λ (f : ℕ). f + 1) (free-same mid new t.head) ∙ c.free

    pub taken-keeps : KeepsTree g old new
    taken-keeps =
        let turned = ap (λ (ss : List Spot). length (map (λ (s : Spot). s.n) ss)) c.turn in
        let more = t.more in
        let free = taken-free in
        record {
          sound = t.sound;
          exact = λ e. t.exact (c.exact e);
          frame = record {
            file = t.head.file ∙ c.len;
            nodes = t.head.count ∙ claimed-count;
            map = t.head.map ∙ c.map;
            map_length = ap (λ (bs : List ℕ). length bs) t.head.bytes ∙ c.map_length;
            stray = λ x. elim (cases_eq x m) [
              | inl is ↦
                  (let N : ℕ → Type 0 = λ y. IsStray g new y in
                  let O : ℕ → Type 0 = λ y. IsStray g old y in
                  (λ s. absurd (t.gone (subst N is s)), λ s. absurd (c.fresh (subst O is s))))
              | inr other ↦ (λ s. (c.strays x other).0 ((t.same x other).0 s), λ s. (t.same x other).1 ((c.strays x other).1 s))
            ];
          };
          free = omega (arith, turned, more, free);
          rest = λ x other.
              (let P : List ℕ → Type 0 = λ xs. Each (IsOther x) xs in
              let own = ap (λ (xs : List ℕ). 0 ∷ xs) (sym c.map) in
              let tree = ap (λ (ss : List Spot). map (λ (s : Spot). s.n) ss) (sym c.turn) in
              let same = ap (λ (xs : List ℕ). xs ++ (tree_nodes g old ++ tree_nodes g new)) own ∙ ap (λ (xs : List ℕ). own_nodes mid ++ (xs ++ tree_nodes g new)) tree in
              t.rest x (subst P same other) ∙ c.bytes x (each-left (IsOther x) (own_nodes old) (tree_nodes g old ++ tree_nodes g new) other));
        }

    pub taken-content : tree_content g new ≡ tree_content g mid → tree_content g new ≡ tree_content g old
    taken-content same = same ∙ c.content

-- Roots that give way, one after the other.
use Rattle.std.proofs.Common.{◌≡◌, ◌≢◌, ℕ, ◌+◌, ◌-◌, ◌<◌, ◌≤◌, List, [], length, get_or, refl, sym, ap, ◌∙◌, subst, arith}
use Rattle.hfs_btree.specs.Node.{node_of}
use Rattle.hfs_btree.specs.declared.header.Header.{Header}
use Rattle.hfs_btree.specs.declared.key.Key.{Ghosts}
use Rattle.hfs_btree_removal.specs.Removal.{KeepsSound, GainsNothing}
use Rattle.hfs_btree_removal.proofs.Gains.{gains-none, gains-then}
use Rattle.hfs_btree.specs.Header.{header_in, depth_of, free_nodes, tree_content}
use Rattle.hfs_btree_removal.specs.Removal.{HasLowered}
use Rattle.hfs_btree.specs.Sound.{IsSound}
use Rattle.hfs_btree.specs.Tree.{Store, records_in, records_of}
use Rattle.hfs_btree.proofs.DecodedLemmas.{records-read}
use Rattle.hfs_btree.proofs.DescentLemmas.{root-way, way-some, way-within}
use Rattle.hfs_btree_removal.proofs.Composed.{keeps-then}

module _ {K : Type 0} (g : Ghosts K) where
  pub lowered-none : (nodes : Store) → IsSound g nodes → HasLowered g nodes nodes
  lowered-none nodes sound = record {
    keeps = record {
      sound = sound;
      exact = λ e. e;
      frame = record { file = refl; nodes = refl; map = refl; map_length = refl; stray = λ m. (λ s. s, λ s. s) };
      free = refl;
    };
    gains = gains-none g nodes;
    content = refl;
    depth = omega arith;
    free = omega arith;
  }

  pub lowered-more : (old mid new : Store) → IsSound g old → HasLowered g old mid → KeepsSound g mid new → GainsNothing g mid new → tree_content g new ≡ tree_content g mid → depth_of new + 1 ≡ depth_of mid → free_nodes new ≡ free_nodes mid + 1 → HasLowered g old new
  lowered-more old mid new sound a keeps gains content depth free = record {
    keeps = keeps-then g old mid new a.keeps keeps;
    gains = gains-then g old mid new sound a.keeps.frame.map a.gains gains;
    content = content ∙ a.content;
    depth = let d = a.depth in omega arith;
    free = let f = a.free in omega arith;
  }

  module _ (old nodes : Store) (low : HasLowered g old nodes) (h : Header) (is : h ≡ header_in nodes) (deep : 1 < h.depth) where
    levels : 2 ≤ depth_of nodes
    levels = let e = ap (λ (x : Header). x.depth) is in omega arith

    pub lower-levels : 2 ≤ depth_of nodes
    lower-levels = levels

    pub lower-within : h.root < length nodes
    lower-within =
        let P : ℕ → Type 0 = λ n. n < length nodes in
        let some = levels in
        subst P (sym (ap (λ (x : Header). x.root) is)) (way-within g nodes _ _ (root-way g nodes low.keeps.sound.structure (omega arith)))

    module _ (bytes : List ℕ) (read : bytes ≡ get_or nodes h.root []) (count : ℕ) (count-is : count ≡ length (records_of (node_of bytes))) where
      pub lower-count : count ≡ length (records_in nodes (header_in nodes).root)
      lower-count = count-is ∙ ap (λ (rs : List (List ℕ)). length rs) (records-read nodes (header_in nodes).root bytes (read ∙ ap (λ (x : Header). get_or nodes x.root []) is))

      pub lower-wide : count ≢ 1 → 2 ≤ length (records_in nodes (header_in nodes).root)
      lower-wide ne =
          let deep' = levels in
          let some = way-some g nodes (depth_of nodes - 1) (header_in nodes).root (root-way g nodes low.keeps.sound.structure (omega arith)) in
          let c = lower-count in
          omega arith

  pub lower-shallow : (nodes : Store) (h : Header) → h ≡ header_in nodes → h.depth ≤ 1 → 2 ≤ depth_of nodes → 2 ≤ length (records_in nodes (header_in nodes).root)
  lower-shallow nodes h is few some = absurd (let e = ap (λ (x : Header). x.depth) is in omega arith)

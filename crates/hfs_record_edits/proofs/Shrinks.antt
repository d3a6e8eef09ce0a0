-- A tree from which records were taken, one after the other.
use Rattle.std.proofs.Common.{◌≡◌, ℕ, ◌+◌, ◌<◌, List, [], ◌∷◌, ◌++◌, length, map, drop, refl, ap, ◌∙◌, subst, arith, inl, inr, length-append}
use Rattle.std.specs.List.{flat_map}
use Rattle.std.proofs.lemmas.Bool.{cases_eq}
use Rattle.std.proofs.lemmas.List.{length-map}
use Rattle.hfs_btree.specs.declared.key.Key.{Ghosts}
use Rattle.hfs_btree.specs.Pairs.{Pairs}
use Rattle.hfs_btree.specs.Tree.{Store, Spot, records_in, pair_of, pairs, turn}
use Rattle.hfs_btree.specs.Header.{header_in, depth_of, free_nodes, own_nodes, tree_nodes, tree_content}
use Rattle.hfs_btree.specs.Sound.{IsSound, IsOther, IsStray}
use Rattle.hfs_fields.proofs.ElementLemmas.{each-append, each-left, each-right}
use Rattle.hfs_fields.specs.Members.{In}
use Rattle.hfs_btree_edits.proofs.BehindLemmas.{nodes-behind}
use Rattle.hfs_btree_edits.proofs.KeptKeyLemmas.{own-keys, keys-hold}
use Rattle.hfs_btree_edits.specs.KeptKeys.{tree_keys}
use Rattle.hfs_btree_edits.specs.Stored.{bytes_in}
use Rattle.hfs_btree_edits.specs.Edits.{KeepsTree, HasRemoved, level_above}
use Rattle.hfs_btree_insertion.proofs.Steps.{frame-then}
use Rattle.hfs_record_edits.specs.Dropped.{HasShrunk}
use Rattle.hfs_record_edits.specs.Edge.{edge}
use Rattle.hfs_record_edits.proofs.EdgeLemmas.{edge-some, edge-leaves}

module _ {K : Type 0} (g : Ghosts K) where
  pub shrunk-none : (nodes : Store) → IsSound g nodes → HasShrunk g nodes nodes
  shrunk-none nodes sound = record {
    sound = sound;
    exact = λ e. e;
    frame = record { file = refl; nodes = refl; map = refl; map_length = refl; stray = λ m. (λ s. s, λ s. s) };
    keys = own-keys g nodes;
    nodes = refl;
    free = omega arith;
    depth = omega arith;
    stray = λ n is. refl;
    behind = refl;
  }

  -- a stray node is of no level before or afterwards
  stray-stays : (mid new : Store) → KeepsTree g mid new → (n : ℕ) → IsStray g mid n → bytes_in new n ≡ bytes_in mid n
  stray-stays mid new keeps n is =
      let was = is.other in
      let still = ((keeps.frame.stray n).1 is).other in
      keeps.rest n
      (each-append (IsOther n) (own_nodes mid) (tree_nodes g mid ++ tree_nodes g new) (each-left (IsOther n) (own_nodes mid) (tree_nodes g mid) was)
      (each-append (IsOther n) (tree_nodes g mid) (tree_nodes g new) (each-right (IsOther n) (own_nodes mid) (tree_nodes g mid) was)
      (each-right (IsOther n) (own_nodes new) (tree_nodes g new) still)))

  pub shrunk-more : (key : K) (old mid new : Store) → HasShrunk g old mid → HasRemoved g key mid new → HasShrunk g old new
  shrunk-more key old mid new a b =
      let behind : drop (header_in old).nodes new ≡ drop (header_in old).nodes mid =
      subst (λ (n : ℕ). drop n new ≡ drop n mid) a.frame.nodes (nodes-behind g mid new a.sound b.keeps) in
      let nodes = a.nodes in
      let more = b.keeps.free in
      let free = a.free in
      let freed = b.free in
      let depth = a.depth in
      let less = b.depth in
      record {
        sound = b.keeps.sound;
        exact = λ e. b.keeps.exact (a.exact e);
        frame = frame-then g old mid new a.frame b.keeps.frame;
        keys = keys-hold g mid new b.keys (λ k. In k (tree_keys g old)) a.keys;
        nodes = more ∙ nodes;
        free = omega (arith, free, freed);
        depth = omega (arith, depth, less);
        stray = λ n is. stray-stays mid new b.keeps n ((a.frame.stray n).1 is) ∙ a.stray n is;
        behind = behind ∙ a.behind;
      }

  -- ---- no pair left

  -- a tree without pairs has no levels
  pub none-depth : (nodes : Store) → IsSound g nodes → tree_content g nodes ≡ [] → depth_of nodes ≡ 0
  none-depth nodes sound none =
      elim (cases_eq (depth_of nodes) 0) [
        | inl zero' ↦ zero'
        | inr more ↦
            absurd (let some : 0 < depth_of nodes = omega (arith, more) in
            let is = ap (λ (ns : List ℕ). length (flat_map (pairs g nodes) ns)) (edge-leaves g nodes sound.structure some) in
            let first = edge-some g nodes sound.structure 0 some in
            let count = length-map (records_in nodes (edge g nodes 0)) (pair_of g) in
            let parts = length-append (pairs g nodes (edge g nodes 0)) (flat_map (pairs g nodes) (drop 1 (level_above g nodes 0))) in
            let empty = ap (λ (ps : Pairs K). length ps) none in
            omega (arith, is, first, count, parts, empty))
      ]

  -- and all of its nodes are free again
  pub none-free : (old new : Store) → HasShrunk g old new → depth_of new ≡ 0 → free_nodes new ≡ free_nodes old + length (tree_nodes g old)
  none-free old new h none =
      let left = ap (λ (d : ℕ). length (map (λ (s : Spot). s.n) (turn g new d ((header_in new).root ∷ [])))) none in
      let nodes = h.nodes in
      omega (arith, left, nodes)

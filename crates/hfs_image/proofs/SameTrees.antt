-- Trees whose needed blocks are the same in two volumes agree on their marked nodes.
use Rattle.std.proofs.Common.{◌≡◌, ℕ, zero, suc, Bool, true, false, List, [], ◌∷◌, ◌++◌, map, get_or, refl, sym, ap, subst, true≢false}
use Rattle.std.proofs.lemmas.List.{take-map}
use Rattle.hfs_fields.specs.declared.mdb.Mdb.{Mdb}
use Rattle.hfs_fields.specs.declared.extent.Extent.{Extent}
use Rattle.hfs_blocks.specs.Blocks.{nodes_in}
use Rattle.hfs_fields.specs.Each.{Each}
use Rattle.hfs_fields.proofs.ElementLemmas.{each-left, each-right, each-mono, each-unmap}
use Rattle.hfs_btree.specs.Node.{node_of}
use Rattle.hfs_btree.specs.declared.key.Key.{Ghosts}
use Rattle.hfs_btree.specs.Tree.{Store, node_in}
use Rattle.hfs_btree.specs.Header.{marks, is_marked}
use Rattle.hfs_btree_checks.specs.Shape.{has_header, has_map}
use Rattle.hfs_space.specs.ForkLaws.{block_numbers}
use Rattle.hfs_space.specs.TreeFiles.{node_count, tree_nodes, tree_blocks}
use Rattle.hfs_check.specs.Parts.{Blocks}
use Rattle.hfs_image.specs.Marked.{where_right, map_chain, marked_of, needed_of_map, needed_of_tree, IsSameNode, AgreeOnMarked, TreesAnswerSame}
use Rattle.hfs_image.specs.Needed.{AgreeOn}
use Rattle.hfs_image.proofs.MarkedLaw.{trees-same}

-- the nodes of a tree's file are the blocks of these numbers
pub nodes-map : (blocks : Blocks) (mdb : Mdb) (extents : List Extent) (size : ℕ) → tree_nodes blocks mdb extents size ≡ map blocks (tree_blocks mdb extents size)
unfolding tree_nodes tree_blocks nodes_in
nodes-map blocks mdb extents size = take-map blocks (node_count size) (block_numbers mdb extents)

module _ (old new : Blocks) where
  -- a node whose block is the same
  pub node-at : (numbers : List ℕ) (n : ℕ) → new (get_or numbers n 0) ≡ old (get_or numbers n 0) → get_or (map new numbers) n [] ≡ get_or (map old numbers) n []
  node-at [] n e = refl
  node-at (x ∷ xs) zero e = e
  node-at (x ∷ xs) (suc n) e = node-at xs n e

  -- a marked one
  marked-at : (ms : List Bool) (numbers : List ℕ) (n : ℕ) → get_or ms n false ≡ true → AgreeOn (marked_of ms numbers) old new
      → get_or (map new numbers) n [] ≡ get_or (map old numbers) n []
  marked-at [] numbers n e h = absurd (true≢false (sym e))
  marked-at (m ∷ ms) [] n e h = refl
  marked-at (true ∷ ms) (x ∷ xs) zero e h = h.0
  marked-at (true ∷ ms) (x ∷ xs) (suc n) e h = marked-at ms xs n e h.1
  marked-at (false ∷ ms) (x ∷ xs) zero e h = absurd (true≢false (sym e))
  marked-at (false ∷ ms) (x ∷ xs) (suc n) e h = marked-at ms xs n e h

  right-part : (test : Bool) (numbers : List ℕ) → test ≡ true → AgreeOn (where_right test numbers) old new → AgreeOn numbers old new
  right-part test numbers e h = subst (λ (t : Bool). AgreeOn (where_right t numbers) old new) e h

  module _ {K : Type 0} (g : Ghosts K) (size : ℕ) (numbers : List ℕ) where
    node-same : (n : ℕ) → get_or (map new numbers) n [] ≡ get_or (map old numbers) n [] → IsSameNode (map old numbers) (map new numbers) n
    unfolding node_in
    node-same n e = ap node_of e

    module _ (h : AgreeOn (needed_of_tree g size (map old numbers) numbers) old new) where
      head-part : new (get_or numbers 0 0) ≡ old (get_or numbers 0 0)
      unfolding needed_of_tree
      head-part = h.0

      module _ (right : has_header g size (map old numbers) ≡ true) where
        both : AgreeOn (map (λ n. get_or numbers n 0) (map_chain (map old numbers))
            ++ where_right (has_map (map old numbers)) (marked_of (marks (map old numbers)) numbers)) old new
        unfolding needed_of_tree needed_of_map
        both = right-part (has_header g size (map old numbers)) (needed_of_map (map old numbers) numbers) right h.1

        chain-part : Each (IsSameNode (map old numbers) (map new numbers)) (map_chain (map old numbers))
        chain-part =
            each-mono (λ n. new (get_or numbers n 0) ≡ old (get_or numbers n 0)) (IsSameNode (map old numbers) (map new numbers)) (map_chain (map old numbers))
            (λ n e. node-same n (node-at numbers n e))
            (each-unmap (λ n. new n ≡ old n) (λ n. get_or numbers n 0) (map_chain (map old numbers))
            (each-left (λ n. new n ≡ old n) (map (λ n. get_or numbers n 0) (map_chain (map old numbers)))
            (where_right (has_map (map old numbers)) (marked_of (marks (map old numbers)) numbers)) both))

        marked-part : has_map (map old numbers) ≡ true → (n : ℕ) → is_marked (map old numbers) n ≡ true → IsSameNode (map old numbers) (map new numbers) n
        marked-part mapped n e =
            node-same n (marked-at (marks (map old numbers)) numbers n e
            (right-part (has_map (map old numbers)) (marked_of (marks (map old numbers)) numbers) mapped
            (each-right (λ n. new n ≡ old n) (map (λ n. get_or numbers n 0) (map_chain (map old numbers)))
            (where_right (has_map (map old numbers)) (marked_of (marks (map old numbers)) numbers)) both)))

      agree-on-marked : AgreeOnMarked g size (map old numbers) (map new numbers)
      agree-on-marked = record { header = node-same 0 (node-at numbers 0 head-part); chain = chain-part; marked = marked-part }

      pub by-numbers : TreesAnswerSame g size (map old numbers) (map new numbers)
      by-numbers = trees-same g size (map old numbers) (map new numbers) agree-on-marked

    -- whatever makes lists of these blocks
    pub by-nodes : (before now : Store) → before ≡ map old numbers → now ≡ map new numbers → AgreeOn (needed_of_tree g size before numbers) old new
        → TreesAnswerSame g size before now
    by-nodes before now e f h =
        subst (λ (s : Store). TreesAnswerSame g size s now) (sym e)
        (subst (λ (s : Store). TreesAnswerSame g size (map old numbers) s) (sym f)
        (by-numbers (subst (λ (s : Store). AgreeOn (needed_of_tree g size s numbers) old new) e h)))

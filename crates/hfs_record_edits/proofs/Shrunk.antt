-- Records that leave a tree one after the other.
use Rattle.std.proofs.Common.{◌≡◌, ℕ, ◌++◌, drop, refl, ◌∙◌, subst, arith}
use Rattle.hfs_btree.specs.declared.key.Key.{Ghosts}
use Rattle.hfs_btree.specs.Tree.{Store}
use Rattle.hfs_btree.specs.Header.{header_in, own_nodes, tree_nodes}
use Rattle.hfs_btree.specs.Sound.{IsSound, IsOther, IsStray, KeepsFrame}
use Rattle.hfs_fields.proofs.ElementLemmas.{each-append, each-left, each-right}
use Rattle.hfs_fields.specs.Members.{In}
use Rattle.hfs_btree_edits.proofs.BehindLemmas.{nodes-behind}
use Rattle.hfs_btree_edits.proofs.KeptKeyLemmas.{own-keys, keys-hold}
use Rattle.hfs_btree_edits.specs.KeptKeys.{tree_keys}
use Rattle.hfs_btree_edits.specs.Stored.{bytes_in}
use Rattle.hfs_btree_edits.specs.Edits.{KeepsTree, HasRemoved}
use Rattle.hfs_record_edits.specs.Dropped.{HasShrunk}

module _ {K : Type 0} (g : Ghosts K) where
  pub shrunk-none : (nodes : Store) → IsSound g nodes → HasShrunk g nodes nodes
  shrunk-none nodes sound = record {
    sound = sound;
    exact = λ e. e;
    frame = record { file = refl; nodes = refl; map = refl; map_length = refl; stray = λ m. (λ s. s, λ s. s) };
    keys = own-keys g nodes;
    nodes = refl;
    free = omega arith;
    depth = omega arith;
    stray = λ n is. refl;
    behind = refl;
  }

  frame-more : (old mid new : Store) → KeepsFrame g old mid → KeepsFrame g mid new → KeepsFrame g old new
  frame-more old mid new a b = record {
    file = b.file ∙ a.file;
    nodes = b.nodes ∙ a.nodes;
    map = b.map ∙ a.map;
    map_length = b.map_length ∙ a.map_length;
    stray = λ n. (λ s. (a.stray n).0 ((b.stray n).0 s), λ s. (b.stray n).1 ((a.stray n).1 s));
  }

  -- a stray node is of no level before or afterwards
  stray-stays : (mid new : Store) → KeepsTree g mid new → (n : ℕ) → IsStray g mid n → bytes_in new n ≡ bytes_in mid n
  stray-stays mid new keeps n is =
      let was = is.other in
      let still = ((keeps.frame.stray n).1 is).other in
      keeps.rest n
      (each-append (IsOther n) (own_nodes mid) (tree_nodes g mid ++ tree_nodes g new) (each-left (IsOther n) (own_nodes mid) (tree_nodes g mid) was)
      (each-append (IsOther n) (tree_nodes g mid) (tree_nodes g new) (each-right (IsOther n) (own_nodes mid) (tree_nodes g mid) was)
      (each-right (IsOther n) (own_nodes new) (tree_nodes g new) still)))

  pub shrunk-more : (key : K) (old mid new : Store) → HasShrunk g old mid → HasRemoved g key mid new → HasShrunk g old new
  shrunk-more key old mid new a b =
      let behind : drop (header_in old).nodes new ≡ drop (header_in old).nodes mid =
      subst (λ (n : ℕ). drop n new ≡ drop n mid) a.frame.nodes (nodes-behind g mid new a.sound b.keeps) in
      let nodes = a.nodes in
      let more = b.keeps.free in
      let free = a.free in
      let freed = b.free in
      let depth = a.depth in
      let less = b.depth in
      record {
        sound = b.keeps.sound;
        exact = λ e. b.keeps.exact (a.exact e);
        frame = frame-more old mid new a.frame b.keeps.frame;
        keys = keys-hold g mid new b.keys (λ k. In k (tree_keys g old)) a.keys;
        nodes = more ∙ nodes;
        free = omega (arith, free, freed);
        depth = omega (arith, depth, less);
        stray = λ n is. stray-stays mid new b.keeps n ((a.frame.stray n).1 is) ∙ a.stray n is;
        behind = behind ∙ a.behind;
      }

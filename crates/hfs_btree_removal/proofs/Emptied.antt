-- A tree of one leaf that has become empty; the leaf stays behind as a stray node.
use Rattle.std.proofs.Common.{◌≡◌, ◌≢◌, ℕ, List, [], ◌∷◌, ◌++◌, length, map, sym, ap, ◌∙◌, subst, append-nil}
use Rattle.std.specs.Prelude.{◌↔◌}
use Rattle.std.specs.List.{flat_map}
use Rattle.hfs_btree.specs.declared.key.Key.{Ghosts}
use Rattle.hfs_btree.specs.Pairs.{Pairs, Rises}
use Rattle.hfs_fields.specs.Each.{Each}
use Rattle.hfs_fields.proofs.ElementLemmas.{each-left, each-append}
use Rattle.hfs_btree.specs.Tree.{Store, Spot, first_of, last_of, turn, last_level, pairs}
use Rattle.hfs_btree.specs.Header.{header_in, root_level, leaves, own_nodes, tree_content, tree_turn, tree_nodes}
use Rattle.hfs_btree.specs.Sound.{IsOther, IsDistinct, IsRight, IsSound, IsExact, IsStray, AreKeysInOrder, AreKeysExact}
use Rattle.hfs_btree_edits.proofs.DistinctLemmas.{distinct-left, other-before}
use Rattle.hfs_btree_edits.specs.KeptKeys.{tree_keys, EachKey}
use Rattle.hfs_btree_removal.proofs.KeysKept.{HaveKeys}
use Rattle.hfs_fields.specs.Members.{In}
use Rattle.hfs_btree_edits.proofs.HeadedLemmas.{own_nodes-is, marked-on, marked-back, free-is, has_header, has_map}
pub use Rattle.hfs_btree_removal.proofs.RemovalLemmas.{IsEmptied}

module _ {K : Type 0} (g : Ghosts K) (old new : Store) (d : IsEmptied g old new) (sound : IsSound g old) where
  abbrev r : ℕ
  r = (header_in old).root

  no-turn : tree_turn g new ≡ []
  no-turn = ap (λ (n : ℕ). turn g new n (root_level new)) d.depth

  no-leaves : leaves g new ≡ []
  no-leaves = ap (λ (n : ℕ). last_level g new n (root_level new)) d.depth

  pub no-content : tree_content g new ≡ []
  no-content = ap (flat_map (pairs g new)) no-leaves

  pub old-nodes : tree_nodes g old ≡ r ∷ []
  old-nodes = ap (λ (n : ℕ). map (λ (s : Spot). s.n) (turn g old n (root_level old))) d.one

  pub new-nodes : tree_nodes g new ≡ []
  new-nodes = ap (map (λ (s : Spot). s.n)) no-turn

  -- it has no key
  pub emptied-keys : EachKey g (λ x. In x (tree_keys g old)) new
  emptied-keys = let P : List Spot → Type 0 = λ ss. Each (HaveKeys g (λ x. In x (tree_keys g old)) new) ss in subst P (sym no-turn) tt

  new-all : own_nodes new ++ tree_nodes g new ≡ own_nodes old ++ []
  new-all = ap (λ (ns : List ℕ). ns ++ tree_nodes g new) (own_nodes-is g old new d.head) ∙ ap (λ (ns : List ℕ). own_nodes old ++ ns) new-nodes

  old-all : own_nodes old ++ tree_nodes g old ≡ own_nodes old ++ r ∷ []
  old-all = ap (λ (ns : List ℕ). own_nodes old ++ ns) old-nodes

  pub emptied-sound : IsSound g new
  emptied-sound =
      let P : List Spot → Type 0 = λ ss. Each (IsRight g new) ss in
      let Q : List ℕ → Type 0 = λ ns. IsDistinct ns in
      let R : Pairs K → Type 0 = λ ps. Rises g.compare ps in
      let S : List Spot → Type 0 = λ ss. Each (λ s. AreKeysInOrder g new s.above s.n) ss in
      record {
        structure = record {
          header = has_header g old new d.head sound.structure.header;
          map = has_map g old new d.head sound.structure.map;
          levels = record {
            each = subst P (sym no-turn) tt;
            different = subst Q (sym (append-nil (own_nodes old)) ∙ sym new-all) (distinct-left (own_nodes old) (tree_nodes g old) sound.structure.levels.different);
          };
          ends = record { first = d.first ∙ sym (ap first_of no-leaves); last = d.last ∙ sym (ap last_of no-leaves); empty = λ none. d.root };
        };
        counts = record {
          records = d.records ∙ sym (ap (λ (ps : Pairs K). length ps) no-content);
          free = d.free ∙ sound.counts.free ∙ sym (free-is g old new d.head);
        };
        ordered = record { rises = subst R (sym no-content) tt; keys = subst S (sym no-turn) tt };
      }

  pub emptied-exact : IsExact g new
  emptied-exact = let P : List Spot → Type 0 = λ ss. Each (λ s. AreKeysExact g new s.above s.n) ss in subst P (sym no-turn) tt

  pub emptied-stray : (m : ℕ) → m ≢ r → IsStray g new m ↔ IsStray g old m
  emptied-stray m ne =
      let P : List ℕ → Type 0 = λ xs. Each (IsOther m) xs in (
        λ s.
            (let o = subst P new-all s.other in
            record {
              marked = marked-back g old new d.head m s.marked;
              other = subst P (sym old-all) (each-append (IsOther m) (own_nodes old) (r ∷ []) (each-left (IsOther m) (own_nodes old) [] o) (λ e. ne (sym e), tt));
            }),
        λ s.
            (let o = subst P old-all s.other in
            record {
              marked = marked-on g old new d.head m s.marked;
              other = subst P (sym new-all) (each-append (IsOther m) (own_nodes old) [] (each-left (IsOther m) (own_nodes old) (r ∷ []) o) tt);
            }),
      )

  -- the root was marked, and other than header and map nodes
  pub emptied-root : IsStray g new r
  emptied-root =
      let P : List ℕ → Type 0 = λ xs. Each (IsOther r) xs in
      let Q : List ℕ → Type 0 = λ xs. IsDistinct xs in
      let R : ℕ → Type 0 = λ n. Each (IsRight g old) (turn g old n (root_level old)) in
      let right = (subst R d.one sound.structure.levels.each).0 in
      let others = other-before (own_nodes old) r [] (subst Q old-all sound.structure.levels.different) in
      record {
        marked = marked-on g old new d.head r right.marked;
        other = subst P (sym (append-nil (own_nodes old)) ∙ sym new-all) others;
      }

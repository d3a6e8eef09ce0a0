-- A tree whose header record counts otherwise.
use Rattle.std.proofs.Common.{◌≡◌, ◌≢◌, ℕ, ◌≤◌, List, [], ◌∷◌, ◌++◌, map, sym, ap, ◌∙◌, subst, arith}
use Rattle.std.specs.Prelude.{◌↔◌}
use Rattle.std.specs.List.{flat_map}
use Rattle.hfs_btree.specs.declared.key.Key.{Ghosts}
use Rattle.hfs_fields.specs.Each.{Each}
use Rattle.hfs_fields.proofs.ElementLemmas.{each-mono}
use Rattle.hfs_btree.specs.Tree.{Store, Spot, first_of, last_of, turn, last_level, pairs}
use Rattle.hfs_btree.specs.Header.{depth_of, root_level, leaves, own_nodes, tree_content, tree_turn, tree_nodes}
use Rattle.hfs_btree.specs.Sound.{IsOther, IsDistinct, IsRight, IsExact, IsStray, HasStructure, AreKeysInOrder, AreKeysExact}
use Rattle.hfs_btree_edits.proofs.HeadedLemmas.{own_nodes-is, marked-on, marked-back, has_header, has_map}
use Rattle.hfs_btree_edits.proofs.UnchangedLemmas.{IsUnchanged, turn-unchanged, last-unchanged, rights-unchanged, keyed-unchanged, exact-unchanged, content-unchanged}
use Rattle.hfs_btree_edits.proofs.StoredLemmas.{IsRecounted}

module _ {K : Type 0} (g : Ghosts K) (old new : Store) (d : IsRecounted g old new) (structure : HasStructure g old) where
  not-zero : (n : ℕ) → 1 ≤ n → n ≢ 0
  not-zero n some e = omega arith

  same : Each (IsUnchanged old new) (tree_turn g old)
  same =
      each-mono (IsRight g old) (IsUnchanged old new) (tree_turn g old)
      (λ s h. record { same = d.rest s.n (not-zero s.n h.within.0); marked = marked-on g old new d.head s.n h.marked }) structure.levels.each

  turn-is : tree_turn g new ≡ turn g new (depth_of old) (root_level old)
  turn-is = ap (λ (n : ℕ). turn g new n (root_level new)) d.depth ∙ ap (λ (n : ℕ). turn g new (depth_of old) (n ∷ [])) d.root

  pub recounted-turn : tree_turn g new ≡ tree_turn g old
  recounted-turn = turn-is ∙ turn-unchanged g old new (depth_of old) (root_level old) same

  new-leaves : leaves g new ≡ leaves g old
  new-leaves =
      ap (λ (n : ℕ). last_level g new n (root_level new)) d.depth ∙ ap (λ (n : ℕ). last_level g new (depth_of old) (n ∷ [])) d.root
      ∙ last-unchanged g old new (depth_of old) (root_level old) same

  pub recounted-content : tree_content g new ≡ tree_content g old
  recounted-content =
      ap (λ (n : ℕ). flat_map (pairs g new) (last_level g new n (root_level new))) d.depth
      ∙ ap (λ (n : ℕ). flat_map (pairs g new) (last_level g new (depth_of old) (n ∷ []))) d.root
      ∙ content-unchanged g old new (depth_of old) (root_level old) same

  pub recounted-all : own_nodes new ++ tree_nodes g new ≡ own_nodes old ++ tree_nodes g old
  recounted-all =
      ap (λ (ns : List ℕ). ns ++ tree_nodes g new) (own_nodes-is g old new d.head) ∙ ap (λ (ss : List Spot). own_nodes old ++ map (λ (s : Spot). s.n) ss) recounted-turn

  pub recounted-structure : HasStructure g new
  recounted-structure =
      let P : List Spot → Type 0 = λ ss. Each (IsRight g new) ss in
      let Q : List ℕ → Type 0 = λ ns. IsDistinct ns in
      record {
        header = has_header g old new d.head structure.header;
        map = has_map g old new d.head structure.map;
        levels = record {
          each = subst P (sym turn-is) (rights-unchanged g old new (depth_of old) (root_level old) same d.head.nodes structure.levels.each);
          different = subst Q (sym recounted-all) structure.levels.different;
        };
        ends = record {
          first = d.first ∙ structure.ends.first ∙ sym (ap first_of new-leaves);
          last = d.last ∙ structure.ends.last ∙ sym (ap last_of new-leaves);
          empty = λ none. d.root ∙ structure.ends.empty (sym d.depth ∙ none);
        };
      }

  pub recounted-keys : Each (λ s. AreKeysInOrder g old s.above s.n) (tree_turn g old) → Each (λ s. AreKeysInOrder g new s.above s.n) (tree_turn g new)
  recounted-keys h =
      let P : List Spot → Type 0 = λ ss. Each (λ s. AreKeysInOrder g new s.above s.n) ss in
      subst P (sym turn-is) (keyed-unchanged g old new (depth_of old) (root_level old) same h)

  pub recounted-stray : (m : ℕ) → IsStray g new m ↔ IsStray g old m
  recounted-stray m =
      let P : List ℕ → Type 0 = λ ns. Each (IsOther m) ns in (
        λ s. record { marked = marked-back g old new d.head m s.marked; other = subst P recounted-all s.other },
        λ s. record { marked = marked-on g old new d.head m s.marked; other = subst P (sym recounted-all) s.other },
      )

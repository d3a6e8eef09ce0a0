-- A sound tree stays sound where the mark of a node that it doesn't have is written.
use Rattle.std.proofs.Common.{◌≡◌, ◌≢◌, ℕ, Bool, false, List, [], ◌∷◌, ◌++◌, length, map, get_or, sym, ap, ◌∙◌, subst, arith}
use Rattle.std.specs.Prelude.{◌↔◌}
use Rattle.std.specs.List.{flat_map}
use Rattle.std.proofs.lemmas.List.{get_or-set_other}
use Rattle.hfs_btree.specs.declared.header.Header.{Header}
use Rattle.hfs_btree.specs.declared.key.Key.{Ghosts}
use Rattle.hfs_btree.specs.Pairs.{Pairs, Rises}
use Rattle.hfs_fields.specs.Each.{Each}
use Rattle.hfs_fields.proofs.ElementLemmas.{each-mono, each-left, each-right, each-both, each-unmap}
use Rattle.hfs_btree.specs.Tree.{Store, Spot, node_in, first_of, last_of, turn, last_level, pairs}
use Rattle.hfs_btree.specs.Header.{header_in, depth_of, root_level, own_nodes, marks, free_nodes, leaves, tree_content, tree_turn, tree_nodes}
use Rattle.hfs_btree.specs.Sound.{IsOther, IsDistinct, IsRight, IsMapNode, IsMarked, IsSound, IsExact, IsStray, HasMap, AreKeysInOrder, AreKeysExact}
use Rattle.hfs_btree_edits.proofs.ReleasedLemmas.{apart}
use Rattle.hfs_btree_edits.proofs.RemarkedLemmas.{IsRemarked}
use Rattle.hfs_btree_edits.proofs.UnchangedLemmas.{IsUnchanged, turn-unchanged, last-unchanged, rights-unchanged, keyed-unchanged, exact-unchanged, content-unchanged}

module _ {K : Type 0} (g : Ghosts K) (n : ℕ) (b : Bool) (free : ℕ) (old new : Store) (d : IsRemarked g n b free old new) (sound : IsSound g old)
    (others : Each (λ m. m ≢ n) (own_nodes old ++ tree_nodes g old)) where
  count-is : (header_in new).nodes ≡ (header_in old).nodes
  count-is = ap (λ (h : Header). h.nodes) d.header

  own-is : own_nodes new ≡ own_nodes old
  own-is = ap (λ (ns : List ℕ). 0 ∷ ns) d.map

  -- ---- marks

  pub mark-at : (m : ℕ) → m ≢ n → get_or (marks new) m false ≡ get_or (marks old) m false
  mark-at m ne = ap (λ (bs : List Bool). get_or bs m false) d.marks ∙ get_or-set_other (marks old) n m b false ne

  mark-on : (m : ℕ) → m ≢ n → IsMarked old m → IsMarked new m
  mark-on m ne h = mark-at m ne ∙ h

  -- ---- the tree's nodes

  outside : Each (λ m. Each (IsOther m) (own_nodes old)) (tree_nodes g old)
  outside = apart (own_nodes old) (tree_nodes g old) sound.structure.levels.different

  apart-spots : Each (λ (s : Spot). (s.n ≢ n) × Each (IsOther s.n) (own_nodes old)) (tree_turn g old)
  apart-spots =
      each-both (λ (s : Spot). s.n ≢ n) (λ (s : Spot). Each (IsOther s.n) (own_nodes old)) (tree_turn g old)
      (each-unmap (λ m. m ≢ n) (λ (s : Spot). s.n) (tree_turn g old) (each-right (λ m. m ≢ n) (own_nodes old) (tree_nodes g old) others))
      (each-unmap (λ m. Each (IsOther m) (own_nodes old)) (λ (s : Spot). s.n) (tree_turn g old) outside)

  same : Each (IsUnchanged old new) (tree_turn g old)
  same =
      each-mono (λ (s : Spot). ((s.n ≢ n) × Each (IsOther s.n) (own_nodes old)) × IsRight g old s) (IsUnchanged old new) (tree_turn g old)
      (λ s h. record { same = d.rest s.n h.0.1; marked = mark-on s.n h.0.0 h.1.marked })
      (each-both (λ (s : Spot). (s.n ≢ n) × Each (IsOther s.n) (own_nodes old)) (IsRight g old) (tree_turn g old) apart-spots sound.structure.levels.each)

  pub nodes-same : Each (λ (s : Spot). node_in new s.n ≡ node_in old s.n) (tree_turn g old)
  nodes-same = each-mono (IsUnchanged old new) (λ (s : Spot). node_in new s.n ≡ node_in old s.n) (tree_turn g old) (λ s u. u.same) same

  turn-is : tree_turn g new ≡ turn g new (depth_of old) (root_level old)
  turn-is = ap (λ (h : Header). turn g new h.depth (h.root ∷ [])) d.header

  pub turn-same : tree_turn g new ≡ tree_turn g old
  turn-same = turn-is ∙ turn-unchanged g old new (depth_of old) (root_level old) same

  leaves-same : leaves g new ≡ leaves g old
  leaves-same = ap (λ (h : Header). last_level g new h.depth (h.root ∷ [])) d.header ∙ last-unchanged g old new (depth_of old) (root_level old) same

  pub content-same : tree_content g new ≡ tree_content g old
  content-same =
      ap (λ (h : Header). flat_map (pairs g new) (last_level g new h.depth (h.root ∷ []))) d.header ∙ content-unchanged g old new (depth_of old) (root_level old) same

  pub all-same : own_nodes new ++ tree_nodes g new ≡ own_nodes old ++ tree_nodes g old
  all-same = ap (λ (ns : List ℕ). ns ++ tree_nodes g new) own-is ∙ ap (λ (ss : List Spot). own_nodes old ++ map (λ (s : Spot). s.n) ss) turn-same

  has-map : HasMap new
  has-map =
      let o = sound.structure.map in
      let P : List ℕ → Type 0 = λ ns. Each (IsMapNode new) ns in
      let Q : List ℕ → Type 0 = λ ns. IsDistinct ns in
      let R : List ℕ → Type 0 = λ ns. Each (IsMarked new) ns in
      record {
        chain = subst P (sym d.map) d.maps;
        different = subst Q (sym d.map) o.different;
        long = let long = o.long in let e = count-is in let l = d.map_length in omega (arith, long, e, l);
        marked = subst R (sym own-is)
            (each-mono (λ m. (m ≢ n) × IsMarked old m) (IsMarked new) (own_nodes old) (λ m h. mark-on m h.0 h.1)
            (each-both (λ m. m ≢ n) (IsMarked old) (own_nodes old) (each-left (λ m. m ≢ n) (own_nodes old) (tree_nodes g old) others) o.marked));
      }

  pub remarked-sound : free ≡ free_nodes new → IsSound g new
  remarked-sound counted =
      let P : List Spot → Type 0 = λ ss. Each (IsRight g new) ss in
      let Q : List ℕ → Type 0 = λ ns. IsDistinct ns in
      let R : Pairs K → Type 0 = λ ps. Rises g.compare ps in
      let S : List Spot → Type 0 = λ ss. Each (λ s. AreKeysInOrder g new s.above s.n) ss in
      record {
        structure = record {
          header = d.has_header;
          map = has-map;
          levels = record {
            each = subst P (sym turn-is) (rights-unchanged g old new (depth_of old) (root_level old) same count-is sound.structure.levels.each);
            different = subst Q (sym all-same) sound.structure.levels.different;
          };
          ends = record {
            first = ap (λ (h : Header). h.first_leaf) d.header ∙ sound.structure.ends.first ∙ sym (ap first_of leaves-same);
            last = ap (λ (h : Header). h.last_leaf) d.header ∙ sound.structure.ends.last ∙ sym (ap last_of leaves-same);
            empty = λ none. ap (λ (h : Header). h.root) d.header ∙ sound.structure.ends.empty (sym (ap (λ (h : Header). h.depth) d.header) ∙ none);
          };
        };
        counts = record {
          records = ap (λ (h : Header). h.records) d.header ∙ sound.counts.records ∙ sym (ap (λ (ps : Pairs K). length ps) content-same);
          free = ap (λ (h : Header). h.free_nodes) d.header ∙ counted;
        };
        ordered = record {
          rises = subst R (sym content-same) sound.ordered.rises;
          keys = subst S (sym turn-is) (keyed-unchanged g old new (depth_of old) (root_level old) same sound.ordered.keys);
        };
      }

  pub remarked-exact : IsExact g old → IsExact g new
  remarked-exact exact =
      let P : List Spot → Type 0 = λ ss. Each (λ s. AreKeysExact g new s.above s.n) ss in
      subst P (sym turn-is) (exact-unchanged g old new (depth_of old) (root_level old) same exact)

  pub remarked-strays : (m : ℕ) → m ≢ n → IsStray g new m ↔ IsStray g old m
  remarked-strays m ne =
      let P : List ℕ → Type 0 = λ ns. Each (IsOther m) ns in (
        λ s. record { marked = sym (mark-at m ne) ∙ s.marked; other = subst P all-same s.other },
        λ s. record { marked = mark-on m ne s.marked; other = subst P (sym all-same) s.other },
      )

-- The removal of a pair from a leaf that keeps another one, and of a tree's only pair.
use Rattle.std.proofs.Common.{◌≡◌, ◌≢◌, ℕ, ◌+◌, ◌<◌, ◌≤◌, List, [], ◌∷◌, ◌++◌, length, refl, sym, ap, ◌∙◌, subst, arith, inl, inr}
use Rattle.std.specs.Prelude.{◌↔◌, remove}
use Rattle.std.specs.Cmp.{IsTotalOrder}
use Rattle.std.specs.declared.cmp.Ordering.TheVariants.{Equal}
use Rattle.std.proofs.lemmas.Bool.{cases_eq}
use Rattle.hfs_btree.specs.declared.node.Node.{Node}
use Rattle.hfs_btree.specs.declared.header.Header.{Header}
use Rattle.hfs_btree.specs.declared.key.Key.{Ghosts}
use Rattle.hfs_fields.specs.Members.{In}
use Rattle.hfs_btree_edits.specs.Edits.{without_pair}
use Rattle.hfs_btree_removal.specs.Removal.{KeepsSound, GainsNothing}
use Rattle.hfs_btree_edits.specs.KeptKeys.{EachKey}
use Rattle.hfs_btree_edits.proofs.KeptKeyLemmas.{hold-keys}
use Rattle.hfs_btree_edits.specs.Stored.{bytes_in}
use Rattle.hfs_btree_removal.proofs.KeysKept.{HaveKeys, kept-has, keys-then}
use Rattle.hfs_btree_removal.proofs.PartsLess.{each-remove}
use Rattle.hfs_fields.specs.Each.{Each}
use Rattle.hfs_fields.proofs.ElementLemmas.{each-right}
use Rattle.hfs_btree.specs.Tree.{Store, Spot, records_in, records_of, key_at}
use Rattle.hfs_btree.specs.Header.{header_in, depth_of, leaves, own_nodes, tree_content, tree_turn, tree_nodes}
use Rattle.hfs_btree.specs.Sound.{IsOther, IsRight, IsSound, IsExact, IsStray}
use Rattle.hfs_btree_edits.proofs.KeptLemmas.{map_nodes-same}
use Rattle.hfs_btree_edits.proofs.LevelPartLemmas.{numbers}
use Rattle.hfs_btree_edits.proofs.EditedLemmas.{IsEdited}
use Rattle.hfs_btree_edits.proofs.HeadedLemmas.{map_nodes-is, map_bytes-is, free-is}
use Rattle.hfs_btree_edits.proofs.StoredLemmas.{IsRecounted}
use Rattle.hfs_btree_edits.proofs.ReheadedLemmas.{recounted-turn, recounted-stray}
use Rattle.hfs_btree_removal.proofs.TakenLeaf.{gone, taken-frame, taken-free, taken-turn, taken-header, taken-structure, taken-content}
use Rattle.hfs_btree_removal.proofs.Emptied.{IsEmptied, emptied-sound, emptied-exact, emptied-stray, old-nodes, new-nodes, no-content}
use Rattle.hfs_btree_edits.specs.Stored.{IsReleased}
use Rattle.hfs_btree_edits.proofs.ReleasedLemmas.{released-sound, released-exact, released-stray, released-gone, released-content, released-turn, one-more}
use Rattle.hfs_btree_removal.proofs.Composed.{not-stray, not-other}
use Rattle.hfs_btree_removal.proofs.Removed.{HasTold}

module _ {K : Type 0} (g : Ghosts K) (total : IsTotalOrder g.compare) (old mid one new : Store) (sound : IsSound g old) (before : List ℕ) (n : ℕ) (behind : List ℕ) (split : leaves g old ≡ before ++ n ∷ behind)
    (v : Node) (place : ℕ) (within : place < length v.records) (more : 2 ≤ length v.records) (edit : IsEdited old mid n v (remove v.records place)) (d : IsRecounted g mid one)
    (records : (header_in one).records + 1 ≡ (header_in mid).records) (free : (header_in one).free_nodes ≡ (header_in mid).free_nodes) (len : length one ≡ length mid)
    (told : HasTold g one new) (exact : IsExact g old → IsExact g new) where
  abbrev shape : Rattle.hfs_btree.specs.Sound.HasStructure g mid
  shape = taken-structure g total old mid sound before n behind split v place within more edit

  frame : Rattle.hfs_btree.specs.Sound.KeepsFrame g old mid
  frame = taken-frame g total old mid sound before n behind split v place within more edit

  pub leaf-keeps : KeepsSound g old new
  leaf-keeps = record {
    sound = told.sound;
    exact = exact;
    frame = record {
      file = told.frame.file ∙ len ∙ frame.file;
      nodes = told.frame.nodes ∙ d.head.nodes ∙ frame.nodes;
      map = told.frame.map ∙ map_nodes-is g mid one d.head ∙ frame.map;
      map_length = told.frame.map_length ∙ ap (λ (bs : List ℕ). length bs) (map_bytes-is g mid one d.head) ∙ frame.map_length;
      stray = λ m.
          (let a = told.frame.stray m in
          let b = recounted-stray g mid one d shape m in
          let c = frame.stray m in
          (λ s. c.0 (b.0 (a.0 s)), λ s. a.1 (b.1 (c.1 s))));
    };
    free =
        (let a = told.free in
        let b = free-is g mid one d.head in
        let c = taken-free g total old mid sound before n behind split v place within more edit in
        let e = ap (λ (ss : List Spot). length (numbers ss)) (told.turn ∙ recounted-turn g mid one d shape ∙ taken-turn g total old mid sound before n behind split v place within more edit) in
        omega arith);
  }

  -- ---- nothing is gained

  module _ (rest : (m : ℕ) → Each (IsOther m) (own_nodes old ++ tree_nodes g old) → bytes_in one m ≡ bytes_in old m) where
    same-turn : tree_turn g new ≡ tree_turn g old
    same-turn = told.turn ∙ recounted-turn g mid one d shape ∙ taken-turn g total old mid sound before n behind split v place within more edit

    one-turn : tree_turn g one ≡ tree_turn g old
    one-turn = recounted-turn g mid one d shape ∙ taken-turn g total old mid sound before n behind split v place within more edit

    module _ (T : K → Type 0) where
      spot-has : (s : Spot) → IsRight g old s → HaveKeys g T old s → HaveKeys g T one s
      spot-has s r h =
          let P : List (List ℕ) → Type 0 = λ rs. Each (λ e. T (key_at g s.above e)) rs in
          let zero' : s.n ≢ 0 = λ e. absurd (let some = r.within.0 in omega arith) in
          elim (cases_eq s.n n) [
            | inl e ↦
                (let was : records_in old s.n ≡ v.records = ap (records_in old) e ∙ ap records_of edit.was in
                let is : records_in one s.n ≡ remove v.records place = ap records_of (d.rest s.n zero') ∙ ap (records_in mid) e ∙ ap records_of edit.is in
                subst P (sym is) (each-remove (λ x. T (key_at g s.above x)) v.records place (subst P was h)))
            | inr ne ↦ kept-has g T old one s (ap records_of (d.rest s.n zero' ∙ edit.others s.n ne)) h
          ]

      each-has : (ss : List Spot) → Each (IsRight g old) ss → Each (HaveKeys g T old) ss → Each (HaveKeys g T one) ss
      each-has [] r h = tt
      each-has (s ∷ ss) r h = (spot-has s r.0 h.0, each-has ss r.1 h.1)

      one-keys : EachKey g T old → EachKey g T one
      one-keys h = let P : List Spot → Type 0 = λ ss. Each (HaveKeys g T one) ss in subst P (sym one-turn) (each-has (tree_turn g old) sound.structure.levels.each h)

    pub leaf-gains : GainsNothing g old new
    leaf-gains =
        let P : List Spot → Type 0 = λ ss. (m : ℕ) → Each (IsOther m) (tree_nodes g old) → Each (IsOther m) (numbers ss) in
        let nodes = subst P (sym same-turn) (λ m o. o) in
        let nodes' = subst P (sym one-turn) (λ m o. o) in
        let Q : List Spot → Type 0 = λ ss. (m : ℕ) → In m (tree_nodes g old) → In m (numbers ss) in
        let stay = subst Q (sym same-turn) (λ m i. i) in
        record {
          keys = keys-then g old one new (hold-keys g old one one-keys) told.keys;
          nodes = nodes;
          blank = λ m i o. absurd (not-other m (tree_nodes g new) (stay m i) o);
          rest = λ m o. told.rest m (nodes' m (each-right (IsOther m) (own_nodes old) (tree_nodes g old) o)) ∙ rest m o;
        }

  pub leaf-content : (key : K) → g.compare key (gone g total old mid sound before n behind split v place within more edit).0 ≡ Equal → tree_content g new ≡ without_pair g.compare key (tree_content g old)
  leaf-content key e = told.content ∙ taken-content g total old mid sound before n behind split v place within more edit one d records free key e

  pub leaf-depth : depth_of new ≡ depth_of old
  leaf-depth = told.depth ∙ d.depth ∙ ap (λ (h : Header). h.depth) (taken-header g total old mid sound before n behind split v place within more edit)

-- ---- the only pair of a tree

module _ {K : Type 0} (g : Ghosts K) (old mid new : Store) (len : length mid ≡ length old) (d : IsEmptied g old mid) (free : IsReleased g (header_in old).root mid new) (sound : IsSound g old) where
  abbrev r : ℕ
  r = (header_in old).root

  mid-sound : IsSound g mid
  mid-sound = emptied-sound g old mid d sound

  pub last-content : tree_content g new ≡ []
  last-content = released-content g r mid new free mid-sound ∙ no-content g old mid d sound

  stray-r : IsStray g old r → ⊥
  stray-r s = let P : List ℕ → Type 0 = λ ns. In r ns in not-stray g old r (subst P (sym (old-nodes g old mid d sound)) (inl refl)) s

  stray-is : (m : ℕ) → IsStray g new m ↔ IsStray g old m
  stray-is m =
      elim (cases_eq m r) [
        | inl e ↦
            (let P : ℕ → Type 0 = λ x. IsStray g new x in
            let Q : ℕ → Type 0 = λ x. IsStray g old x in
            (λ s. absurd (released-gone g r mid new free mid-sound (subst P e s)), λ s. absurd (stray-r (subst Q e s))))
        | inr ne ↦
            (let a = released-stray g r mid new free mid-sound m ne in
            let b = emptied-stray g old mid d sound m ne in
            (λ s. b.0 (a.0 s), λ s. a.1 (b.1 s)))
      ]

  pub last-keeps : KeepsSound g old new
  last-keeps = record {
    sound = released-sound g r mid new free mid-sound;
    exact = λ e. released-exact g r mid new free mid-sound (emptied-exact g old mid d sound);
    frame = record {
      file = free.len ∙ len;
      nodes = ap (λ (h : Header). h.nodes) free.header ∙ d.head.nodes;
      map = map_nodes-same mid new (ap (λ (h : Header). h.nodes) free.header) free.onward free.onwards ∙ map_nodes-is g old mid d.head;
      map_length = free.map_length ∙ ap (λ (bs : List ℕ). length bs) (map_bytes-is g old mid d.head);
      stray = stray-is;
    };
    free =
        (let a = one-more g r mid new free mid-sound in
        let b = free-is g old mid d.head in
        let c = ap (λ (ns : List ℕ). length ns) (old-nodes g old mid d sound) in
        let f = ap (λ (ns : List ℕ). length ns) (new-nodes g old mid d sound) in
        let e = ap (λ (ss : List Spot). length (numbers ss)) (released-turn g r mid new free mid-sound) in
        omega arith);
  }

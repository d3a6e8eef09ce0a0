-- A root with one child that has given way to it, and stays behind as a stray node.
use Rattle.std.proofs.Common.{◌≡◌, ◌≢◌, ℕ, suc, ◌≤◌, List, [], ◌∷◌, ◌++◌, length, map, sym, ap, ◌∙◌, subst, arith}
use Rattle.std.specs.Prelude.{◌↔◌}
use Rattle.std.specs.List.{flat_map}
use Rattle.hfs_btree.specs.declared.key.Key.{Ghosts}
use Rattle.hfs_btree.specs.Pairs.{Pairs, Rises}
use Rattle.hfs_fields.specs.Each.{Each}
use Rattle.hfs_fields.proofs.ElementLemmas.{each-mono, each-left, each-right, each-append}
use Rattle.hfs_btree.specs.Tree.{Store, Spot, records_of, children, first_of, last_of, spots, turn, last_level, pairs}
use Rattle.hfs_btree.specs.Header.{header_in, root_level, leaves, own_nodes, tree_content, tree_turn, tree_nodes}
use Rattle.hfs_btree.specs.Sound.{IsOther, IsDistinct, IsRight, IsSound, IsExact, IsStray, AreKeysInOrder, AreKeysExact}
use Rattle.hfs_btree_edits.proofs.FewRecords.{distinct-without}
use Rattle.hfs_btree_removal.proofs.Chains.{only_child, below-cut}
use Rattle.hfs_btree_removal.proofs.KeysKept.{HaveKeys, all-have}
use Rattle.hfs_btree_edits.specs.KeptKeys.{tree_keys, EachKey}
use Rattle.hfs_btree_edits.proofs.KeptKeyLemmas.{hold-keys}
use Rattle.hfs_btree_edits.proofs.LevelPartLemmas.{KeepsAt}
use Rattle.hfs_fields.specs.Members.{In}
use Rattle.hfs_btree_edits.proofs.DistinctLemmas.{other-before, other-behind}
use Rattle.hfs_btree_edits.proofs.HeadedLemmas.{own_nodes-is, marked-on, marked-back, free-is, has_header, has_map}
use Rattle.hfs_btree_edits.proofs.UnchangedLemmas.{IsUnchanged, turn-unchanged, last-unchanged, rights-unchanged, keyed-unchanged, exact-unchanged, content-unchanged}
pub use Rattle.hfs_btree_removal.proofs.RemovalLemmas.{IsLowered}

module _ {K : Type 0} (g : Ghosts K) (old new : Store) (k : ℕ) (d : IsLowered g old new k) (sound : IsSound g old) where
  abbrev r : ℕ
  r = (header_in old).root

  abbrev c : ℕ
  c = only_child g old r

  abbrev below : List Spot
  below = turn g old (suc k) (c ∷ [])

  sons : flat_map (children g old) (r ∷ []) ≡ c ∷ []
  sons = below-cut g old [] r [] d.one

  pub old-turn : tree_turn g old ≡ spots (suc k) 0 (r ∷ []) ++ below
  old-turn = ap (λ (n : ℕ). turn g old n (r ∷ [])) d.deep ∙ ap (λ (ns : List ℕ). spots (suc k) 0 (r ∷ []) ++ turn g old (suc k) ns) sons

  abbrev at-all : (P : Spot → Type 0) → Each P (tree_turn g old) → Each P below
  at-all P h = let Q : List Spot → Type 0 = λ ss. Each P ss in each-right P (spots (suc k) 0 (r ∷ [])) below (subst Q old-turn h)

  rights : Each (IsRight g old) below
  rights = at-all (IsRight g old) sound.structure.levels.each

  not-zero : (n : ℕ) → 1 ≤ n → n ≢ 0
  not-zero n some e = omega arith

  same : Each (IsUnchanged old new) below
  same =
      each-mono (IsRight g old) (IsUnchanged old new) below
      (λ s h. record { same = d.rest s.n (not-zero s.n h.within.0); marked = marked-on g old new d.head s.n h.marked }) rights

  root-is : root_level new ≡ c ∷ []
  root-is = ap (λ (n : ℕ). n ∷ []) d.root

  new-turn-is : tree_turn g new ≡ turn g new (suc k) (c ∷ [])
  new-turn-is = ap (λ (n : ℕ). turn g new n (root_level new)) d.depth ∙ ap (turn g new (suc k)) root-is

  pub new-turn : tree_turn g new ≡ below
  new-turn = new-turn-is ∙ turn-unchanged g old new (suc k) (c ∷ []) same

  new-leaves : leaves g new ≡ leaves g old
  new-leaves =
      ap (λ (n : ℕ). last_level g new n (root_level new)) d.depth
      ∙ ap (last_level g new (suc k)) root-is
      ∙ last-unchanged g old new (suc k) (c ∷ []) same
      ∙ sym (ap (λ (n : ℕ). last_level g old n (r ∷ [])) d.deep ∙ ap (last_level g old (suc k)) sons)

  pub content-same : tree_content g new ≡ tree_content g old
  content-same =
      ap (λ (n : ℕ). flat_map (pairs g new) (last_level g new n (root_level new))) d.depth
      ∙ ap (λ (ns : List ℕ). flat_map (pairs g new) (last_level g new (suc k) ns)) root-is
      ∙ content-unchanged g old new (suc k) (c ∷ []) same
      ∙ sym (ap (λ (n : ℕ). flat_map (pairs g old) (last_level g old n (r ∷ []))) d.deep ∙ ap (λ (ns : List ℕ). flat_map (pairs g old) (last_level g old (suc k) ns)) sons)

  -- ---- the numbers

  abbrev ns : List ℕ
  ns = map (λ (s : Spot). s.n) below

  pub old-nodes : tree_nodes g old ≡ r ∷ ns
  old-nodes = ap (map (λ (s : Spot). s.n)) old-turn

  pub new-nodes : tree_nodes g new ≡ ns
  new-nodes = ap (map (λ (s : Spot). s.n)) new-turn

  distinct : IsDistinct (own_nodes new ++ tree_nodes g new)
  distinct =
      let P : List ℕ → Type 0 = λ xs. IsDistinct xs in
      subst P (ap (λ (xs : List ℕ). own_nodes old ++ xs) (sym new-nodes) ∙ ap (λ (xs : List ℕ). xs ++ tree_nodes g new) (sym (own_nodes-is g old new d.head)))
      (distinct-without (own_nodes old) r ns (subst P (ap (λ (xs : List ℕ). own_nodes old ++ xs) old-nodes) sound.structure.levels.different))

  pub lowered-sound : IsSound g new
  lowered-sound = record {
    structure = record {
      header = has_header g old new d.head sound.structure.header;
      map = has_map g old new d.head sound.structure.map;
      levels = record {
        each =
            (let P : List Spot → Type 0 = λ ss. Each (IsRight g new) ss in subst P (sym new-turn-is) (rights-unchanged g old new (suc k) (c ∷ []) same d.head.nodes rights));
        different = distinct;
      };
      ends = record {
        first = d.first ∙ sound.structure.ends.first ∙ sym (ap first_of new-leaves);
        last = d.last ∙ sound.structure.ends.last ∙ sym (ap last_of new-leaves);
        empty = λ none. absurd (let e = d.depth in omega arith);
      };
    };
    counts = record {
      records = d.records ∙ sound.counts.records ∙ sym (ap (λ (ps : Pairs K). length ps) content-same);
      free = d.free ∙ sound.counts.free ∙ sym (free-is g old new d.head);
    };
    ordered = record {
      rises = (let P : Pairs K → Type 0 = λ ps. Rises g.compare ps in subst P (sym content-same) sound.ordered.rises);
      keys =
          (let P : List Spot → Type 0 = λ ss. Each (λ s. AreKeysInOrder g new s.above s.n) ss in
          subst P (sym new-turn-is) (keyed-unchanged g old new (suc k) (c ∷ []) same (at-all (λ s. AreKeysInOrder g old s.above s.n) sound.ordered.keys)));
    };
  }

  -- ---- its keys are keys of the old one

  pub lowered-keys : EachKey g (λ x. In x (tree_keys g old)) new
  lowered-keys =
      hold-keys g old new
      (λ T h. let P : List Spot → Type 0 = λ ss. Each (HaveKeys g T new) ss in
      subst P (sym new-turn) (all-have g T old new below (each-mono (IsUnchanged old new) (KeepsAt g old new) below (λ s u. ap records_of u.same) same) (at-all (HaveKeys g T old) h)))

  pub lowered-exact : IsExact g old → IsExact g new
  lowered-exact exact =
      let P : List Spot → Type 0 = λ ss. Each (λ s. AreKeysExact g new s.above s.n) ss in
      subst P (sym new-turn-is) (exact-unchanged g old new (suc k) (c ∷ []) same (at-all (λ s. AreKeysExact g old s.above s.n) exact))

  -- ---- the old root is a stray node, and all other stray nodes are the same

  old-all : own_nodes old ++ tree_nodes g old ≡ own_nodes old ++ r ∷ ns
  old-all = ap (λ (xs : List ℕ). own_nodes old ++ xs) old-nodes

  new-all : own_nodes new ++ tree_nodes g new ≡ own_nodes old ++ ns
  new-all = ap (λ (xs : List ℕ). xs ++ tree_nodes g new) (own_nodes-is g old new d.head) ∙ ap (λ (xs : List ℕ). own_nodes old ++ xs) new-nodes

  pub lowered-stray : (m : ℕ) → m ≢ r → IsStray g new m ↔ IsStray g old m
  lowered-stray m ne =
      let P : List ℕ → Type 0 = λ xs. Each (IsOther m) xs in (
        λ s.
            (let o = subst P new-all s.other in
            record {
              marked = marked-back g old new d.head m s.marked;
              other = subst P (sym old-all)
                  (each-append (IsOther m) (own_nodes old) (r ∷ ns) (each-left (IsOther m) (own_nodes old) ns o) (λ e. ne (sym e), each-right (IsOther m) (own_nodes old) ns o));
            }),
        λ s.
            (let o = subst P old-all s.other in
            record {
              marked = marked-on g old new d.head m s.marked;
              other = subst P (sym new-all) (each-append (IsOther m) (own_nodes old) ns (each-left (IsOther m) (own_nodes old) (r ∷ ns) o) (each-right (IsOther m) (own_nodes old) (r ∷ ns) o).1);
            }),
      )

  -- the old root was marked, and other than header and map nodes and those below it
  pub lowered-root : IsStray g new r
  lowered-root =
      let P : List ℕ → Type 0 = λ xs. Each (IsOther r) xs in
      let Q : List ℕ → Type 0 = λ xs. IsDistinct xs in
      let R : List Spot → Type 0 = λ ss. Each (IsRight g old) ss in
      let right = (subst R old-turn sound.structure.levels.each).0 in
      let d' = subst Q old-all sound.structure.levels.different in
      record {
        marked = marked-on g old new d.head r right.marked;
        other = subst P (sym new-all) (each-append (IsOther r) (own_nodes old) ns (other-before (own_nodes old) r ns d') (other-behind (own_nodes old) r ns d'));
      }

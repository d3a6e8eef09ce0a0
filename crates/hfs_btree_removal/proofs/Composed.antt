-- Edits one after the other.
use Rattle.std.proofs.Common.{◌≡◌, ◌≢◌, ℕ, ◌+◌, List, [], ◌∷◌, length, refl, sym, ap, ◌∙◌, subst, arith, inl, inr}
use Rattle.std.specs.Prelude.{◌↔◌, ◌⊎◌}
use Rattle.std.proofs.lemmas.Bool.{cases_eq}
use Rattle.hfs_btree.specs.declared.header.Header.{Header}
use Rattle.hfs_btree.specs.declared.key.Key.{Ghosts}
use Rattle.hfs_fields.specs.Each.{Each}
use Rattle.hfs_fields.specs.Members.{In}
use Rattle.hfs_fields.proofs.ElementLemmas.{each-left, each-right}
use Rattle.hfs_btree_removal.specs.Removal.{KeepsSound}
use Rattle.hfs_btree.specs.Tree.{Store, Spot}
use Rattle.hfs_btree.specs.Header.{header_in, depth_of, map_nodes, map_bytes, own_nodes, free_nodes, tree_content, tree_turn, tree_nodes}
use Rattle.hfs_btree.specs.Sound.{IsOther, IsSound, IsExact, IsStray}
use Rattle.hfs_btree_edits.proofs.LevelPartLemmas.{numbers}
use Rattle.hfs_btree.specs.Laid.{IsZeroFrom}
use Rattle.hfs_btree_edits.specs.KeptKeys.{tree_keys, EachKey}
use Rattle.hfs_btree_edits.proofs.KeptKeyLemmas.{own-keys}
use Rattle.hfs_btree_edits.specs.Stored.{bytes_in}
use Rattle.hfs_btree_removal.proofs.KeysKept.{keys-then, released-keys}
use Rattle.hfs_btree_edits.proofs.HeadedLemmas.{map_nodes-is, map_bytes-is, free-is}
use Rattle.hfs_btree_removal.proofs.Lowered.{IsLowered, lowered-sound, lowered-exact, lowered-stray, content-same, old-nodes, new-nodes}
use Rattle.hfs_btree_edits.specs.Stored.{IsReleased}
use Rattle.hfs_btree_edits.proofs.ReleasedLemmas.{released-sound, released-exact, released-stray, released-gone, released-content, released-turn, one-more}
pub use Rattle.hfs_btree_removal.specs.Removal.{AreReleased}

-- a number stands in a list or is none of it
pub either : (m : ℕ) (ns : List ℕ) → In m ns ⊎ Each (λ n. n ≢ m) ns
either m [] = inr tt
either m (n ∷ ns) =
    elim (cases_eq n m) [
      | inl e ↦ inl (inl e)
      | inr d ↦ elim (either m ns) as (λ r. In m (n ∷ ns) ⊎ Each (λ x. x ≢ m) (n ∷ ns)) [ inl i ↦ inl (inr i) | inr o ↦ inr (d, o) ]
    ]

-- a number that stands in a list is not other than all of it
pub not-other : (m : ℕ) (ns : List ℕ) → In m ns → Each (IsOther m) ns → ⊥
not-other m [] i o = i
not-other m (n ∷ ns) i o = elim i [ inl e ↦ o.0 e | inr j ↦ not-other m ns j o.1 ]

module _ {K : Type 0} (g : Ghosts K) where
  -- no node is stray that is of the levels
  pub not-stray : (nodes : Store) (m : ℕ) → In m (tree_nodes g nodes) → IsStray g nodes m → ⊥
  not-stray nodes m i s = not-other m (tree_nodes g nodes) i (each-right (IsOther m) (own_nodes nodes) (tree_nodes g nodes) s.other)

  -- ---- edits one after the other

  pub keeps-then : (old mid new : Store) → KeepsSound g old mid → KeepsSound g mid new → KeepsSound g old new
  keeps-then old mid new a b = record {
    sound = b.sound;
    exact = λ e. b.exact (a.exact e);
    frame = record {
      file = b.frame.file ∙ a.frame.file;
      nodes = b.frame.nodes ∙ a.frame.nodes;
      map = b.frame.map ∙ a.frame.map;
      map_length = b.frame.map_length ∙ a.frame.map_length;
      stray = λ m. (λ s. (a.frame.stray m).0 ((b.frame.stray m).0 s), λ s. (b.frame.stray m).1 ((a.frame.stray m).1 s));
    };
    free = b.free ∙ a.free;
  }

  -- ---- a root that gave way, and was given back

  module _ (old mid new : Store) (k : ℕ) (len : length mid ≡ length old) (low : IsLowered g old mid k) (free : IsReleased g (header_in old).root mid new) (sound : IsSound g old) where
    abbrev r : ℕ
    r = (header_in old).root

    mid-sound : IsSound g mid
    mid-sound = lowered-sound g old mid k low sound

    pub given-content : tree_content g new ≡ tree_content g old
    given-content = released-content g r mid new free mid-sound ∙ content-same g old mid k low sound

    stray-r : IsStray g old r → ⊥
    stray-r s =
        let P : List ℕ → Type 0 = λ ns. In r ns in
        not-stray old r (subst P (sym (old-nodes g old mid k low sound)) (inl refl)) s

    stray-is : (m : ℕ) → IsStray g new m ↔ IsStray g old m
    stray-is m =
        elim (cases_eq m r) [
          | inl e ↦
              (let P : ℕ → Type 0 = λ x. IsStray g new x in
              let Q : ℕ → Type 0 = λ x. IsStray g old x in
              (λ s. absurd (released-gone g r mid new free mid-sound (subst P e s)), λ s. absurd (stray-r (subst Q e s))))
          | inr d ↦
              (let a = released-stray g r mid new free mid-sound m d in
              let b = lowered-stray g old mid k low sound m d in
              (λ s. b.0 (a.0 s), λ s. a.1 (b.1 s)))
        ]

    pub given-keeps : KeepsSound g old new
    given-keeps = record {
      sound = released-sound g r mid new free mid-sound;
      exact = λ e. released-exact g r mid new free mid-sound (lowered-exact g old mid k low sound e);
      frame = record {
        file = free.len ∙ len;
        nodes = ap (λ (h : Header). h.nodes) free.header ∙ low.head.nodes;
        map = Rattle.hfs_btree_edits.proofs.KeptLemmas.map_nodes-same mid new (ap (λ (h : Header). h.nodes) free.header) free.onward free.onwards ∙ map_nodes-is g old mid low.head;
        map_length = free.map_length ∙ ap (λ (bs : List ℕ). length bs) (map_bytes-is g old mid low.head);
        stray = stray-is;
      };
      free =
          (let a = one-more g r mid new free mid-sound in
          let b = free-is g old mid low.head in
          let c = ap (λ (ns : List ℕ). length ns) (old-nodes g old mid k low sound) in
          let d = ap (λ (ns : List ℕ). length ns) (new-nodes g old mid k low sound) in
          let e = ap (λ (ss : List Spot). length (numbers ss)) (released-turn g r mid new free mid-sound) in
          omega arith);
    }

    pub given-depth : depth_of new + 1 ≡ depth_of old
    given-depth = let a = ap (λ (h : Header). h.depth) free.header in let b = low.depth in let c = low.deep in omega arith

  -- ---- nodes that are given back one after the other

  -- what they keep
  pub record HasGiven (ns : List ℕ) (old new : Store) : Type 0 where
    pub sound : IsSound g new
    pub exact : IsExact g old → IsExact g new
    pub file : length new ≡ length old
    pub nodes : (header_in new).nodes ≡ (header_in old).nodes
    pub map : map_nodes new ≡ map_nodes old
    pub map_length : length (map_bytes new) ≡ length (map_bytes old)
    pub depth : depth_of new ≡ depth_of old
    pub turn : tree_turn g new ≡ tree_turn g old
    pub content : tree_content g new ≡ tree_content g old
    pub free : free_nodes new ≡ free_nodes old + length ns
    pub stray : (m : ℕ) → Each (λ n. n ≢ m) ns → IsStray g new m ↔ IsStray g old m
    pub less : (m : ℕ) → IsStray g new m → IsStray g old m
    pub gone : (m : ℕ) → In m ns → IsStray g new m → ⊥
    pub keys : EachKey g (λ k. In k (tree_keys g old)) new
    pub blank : (m : ℕ) → In m ns → IsZeroFrom 0 512 (bytes_in new m)
    pub bytes : (m : ℕ) → Each (λ n. n ≢ m) ns → Each (IsOther m) (own_nodes old) → bytes_in new m ≡ bytes_in old m

  given-none : (old new : Store) → IsSound g old → old ≡ new → HasGiven [] old new
  given-none old new sound e =
      let P : Store → Type 0 = λ s. HasGiven [] old s in
      subst P e
      (record {
        sound = sound;
        exact = λ x. x;
        file = refl;
        nodes = refl;
        map = refl;
        map_length = refl;
        depth = refl;
        turn = refl;
        content = refl;
        free = omega arith;
        stray = λ m h. (λ s. s, λ s. s);
        less = λ m s. s;
        gone = λ m i s. i;
        keys = own-keys g old;
        blank = λ m i. absurd i;
        bytes = λ m o own. refl;
      })

  stray-less : (n : ℕ) (old mid : Store) (d : IsReleased g n old mid) (sound : IsSound g old) (m : ℕ) → IsStray g mid m → IsStray g old m
  stray-less n old mid d sound m s =
      elim (cases_eq m n) [
        | inl e ↦ (let P : ℕ → Type 0 = λ x. IsStray g mid x in absurd (released-gone g n old mid d sound (subst P e s)))
        | inr ne ↦ (released-stray g n old mid d sound m ne).0 s
      ]

  own-later : (n : ℕ) (old mid : Store) (d : IsReleased g n old mid) (m : ℕ) → Each (IsOther m) (own_nodes old) → Each (IsOther m) (own_nodes mid)
  own-later n old mid d m own =
      let P : List ℕ → Type 0 = λ xs. Each (IsOther m) (0 ∷ xs) in
      subst P (sym (Rattle.hfs_btree_edits.proofs.KeptLemmas.map_nodes-same old mid (ap (λ (x : Header). x.nodes) d.header) d.onward d.onwards)) own

  -- a node that was given back stays blank
  blank-later : (n : ℕ) (ns : List ℕ) (old mid new : Store) → IsReleased g n old mid → HasGiven ns mid new → IsZeroFrom 0 512 (bytes_in new n)
  blank-later n ns old mid new d rest =
      elim (either n ns) [
        | inl i ↦ rest.blank n i
        | inr o ↦
            (let P : List ℕ → Type 0 = λ bs. IsZeroFrom 0 512 bs in
            let own = each-left (IsOther n) (own_nodes old) (tree_nodes g old) d.stray.other in
            subst P (sym (rest.bytes n o (own-later n old mid d n own))) d.blank)
      ]

  pub all-given : (ns : List ℕ) (old new : Store) → IsSound g old → AreReleased g ns old new → HasGiven ns old new
  all-given [] old new sound h = given-none old new sound h
  all-given (n ∷ ns) old new sound h =
      let mid = h.0 in
      let d = h.1 in
      let rest = all-given ns mid new (released-sound g n old mid d sound) h.2 in
      record {
        sound = rest.sound;
        exact = λ e. rest.exact (released-exact g n old mid d sound e);
        file = rest.file ∙ d.len;
        nodes = rest.nodes ∙ ap (λ (x : Header). x.nodes) d.header;
        map = rest.map ∙ Rattle.hfs_btree_edits.proofs.KeptLemmas.map_nodes-same old mid (ap (λ (x : Header). x.nodes) d.header) d.onward d.onwards;
        map_length = rest.map_length ∙ d.map_length;
        depth = rest.depth ∙ ap (λ (x : Header). x.depth) d.header;
        turn = rest.turn ∙ released-turn g n old mid d sound;
        content = rest.content ∙ released-content g n old mid d sound;
        free = (let a = rest.free in let b = one-more g n old mid d sound in omega arith);
        stray = λ m o.
            (let here = released-stray g n old mid d sound m (λ e. o.0 (sym e)) in
            let there = rest.stray m o.1 in
            (λ s. here.0 (there.0 s), λ s. there.1 (here.1 s)));
        less = λ m s. stray-less n old mid d sound m (rest.less m s);
        gone = λ m i s. elim i [
          | inl e ↦ (let P : ℕ → Type 0 = λ x. IsStray g mid x in released-gone g n old mid d sound (subst P (sym e) (rest.less m s)))
          | inr j ↦ rest.gone m j s
        ];
        keys = keys-then g old mid new (released-keys g n old mid d sound) rest.keys;
        blank = λ m i. elim i as (λ x. IsZeroFrom 0 512 (bytes_in new m)) [
          | inl e ↦ (let P : ℕ → Type 0 = λ x. IsZeroFrom 0 512 (bytes_in new x) in subst P e (blank-later n ns old mid new d rest))
          | inr j ↦ rest.blank m j
        ];
        bytes = λ m o own. rest.bytes m o.1 (own-later n old mid d m own) ∙ d.bytes m (λ e. o.0 (sym e)) own;
      }

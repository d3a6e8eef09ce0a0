-- A stray node that was given back.
use Rattle.std.proofs.Common.{◌≡◌, ◌≢◌, ℕ, zero, suc, ◌+◌, ◌<◌, Bool, true, false, List, [], ◌∷◌, ◌++◌, length, map, get_or, set, sym, ap, ◌∙◌, subst, arith, inl, inr}
use Rattle.std.specs.Prelude.{not, cond, ◌↔◌}
use Rattle.std.specs.List.{flat_map, count_by}
use Rattle.std.proofs.lemmas.Bool.{cases_lt}
use Rattle.std.proofs.lemmas.List.Sums.{sum_by-cons}
use Rattle.std.proofs.lemmas.List.{get_or-set_same, get_or-set_other, get_or_past}
use Rattle.hfs_btree.specs.declared.header.Header.{Header as HeaderRecord}
use Rattle.hfs_btree.specs.declared.key.Key.{Ghosts}
use Rattle.hfs_btree.specs.Pairs.{Pairs, Rises}
use Rattle.hfs_fields.specs.Each.{Each}
use Rattle.hfs_fields.proofs.ElementLemmas.{each-left, each-right, each-unmap}
use Rattle.hfs_btree.specs.Tree.{Store, Spot, first_of, last_of, turn, last_level, pairs}
use Rattle.hfs_btree.specs.Header.{header_in, depth_of, root_level, map_nodes, own_nodes, marks, free_nodes, leaves, tree_content, tree_turn, tree_nodes}
use Rattle.hfs_btree.specs.Sound.{IsOther, IsDistinct, IsRight, IsMapNode, IsMarked, IsSound, IsExact, IsStray, HasHeader, HasMap, AreKeysInOrder, AreKeysExact}
use Rattle.hfs_btree_edits.proofs.KeptLemmas.{map_nodes-same}
use Rattle.hfs_btree_edits.proofs.UnchangedLemmas.{IsUnchanged, turn-unchanged, last-unchanged, rights-unchanged, keyed-unchanged, exact-unchanged, content-unchanged}
use Rattle.hfs_btree_edits.specs.Stored.{IsReleased}

-- the elements of a second part are other than those of the first
pub apart : (xs ys : List ℕ) → IsDistinct (xs ++ ys) → Each (λ y. Each (IsOther y) xs) ys
apart [] ys h = all-tt ys
  where
    all-tt : (zs : List ℕ) → Each (λ y. Each (IsOther y) []) zs
    all-tt [] = tt
    all-tt (z ∷ zs) = (tt, all-tt zs)
apart (x ∷ xs) ys h = both ys (each-right (IsOther x) xs ys h.0) (apart xs ys h.1)
  where
    both : (zs : List ℕ) → Each (IsOther x) zs → Each (λ y. Each (IsOther y) xs) zs → Each (λ y. Each (IsOther y) (x ∷ xs)) zs
    both [] a b = tt
    both (z ∷ zs) a b = ((λ e. a.0 (sym e), b.0), both zs a.1 b.1)

pub count-cleared : (bs : List Bool) (n : ℕ) → get_or bs n false ≡ true → count_by not (set bs n false) ≡ count_by not bs + 1
count-cleared [] zero h = cc
count-cleared [] (suc n) h = cc
count-cleared (true ∷ bs) zero h =
    let more : 1 + count_by not bs ≡ (0 + count_by not bs) + 1 = omega arith in
    sum_by-cons (λ (x : Bool). cond (not x) 1 0) false bs ∙ more ∙ ap (λ (m : ℕ). m + 1) (sym (sum_by-cons (λ (x : Bool). cond (not x) 1 0) true bs))
count-cleared (false ∷ bs) zero h = cc
count-cleared (b ∷ bs) (suc n) h =
    let one : ℕ = cond (not b) 1 0 in
    let more : one + count_by not (set bs n false) ≡ (one + count_by not bs) + 1 = omega (arith, count-cleared bs n h) in
    sum_by-cons (λ (x : Bool). cond (not x) 1 0) b (set bs n false) ∙ more ∙ ap (λ (m : ℕ). m + 1) (sym (sum_by-cons (λ (x : Bool). cond (not x) 1 0) b bs))

pub each-both : {X : Type 0} (P Q R : X → Type 0) (xs : List X) → ((x : X) → P x → Q x → R x) → Each P xs → Each Q xs → Each R xs
each-both P Q R [] f a b = tt
each-both P Q R (x ∷ xs) f a b = (f x a.0 b.0, each-both P Q R xs f a.1 b.1)

module _ {K : Type 0} (g : Ghosts K) (n : ℕ) (old new : Store) (d : IsReleased g n old new) (sound : IsSound g old) where
  count-is : (header_in new).nodes ≡ (header_in old).nodes
  count-is = ap (λ (h : HeaderRecord). h.nodes) d.header

  maps-are : map_nodes new ≡ map_nodes old
  maps-are = map_nodes-same old new count-is d.onward d.onwards

  own-is : own_nodes new ≡ own_nodes old
  own-is = ap (λ (ns : List ℕ). 0 ∷ ns) maps-are

  -- ---- marks

  mark-at : (m : ℕ) → m ≢ n → get_or (marks new) m false ≡ get_or (marks old) m false
  mark-at m ne = ap (λ (bs : List Bool). get_or bs m false) d.marks ∙ get_or-set_other (marks old) n m false false ne

  mark-on : (m : ℕ) → m ≢ n → IsMarked old m → IsMarked new m
  mark-on m ne h = mark-at m ne ∙ h

  within : n < length (marks old)
  within =
      elim (cases_lt n (length (marks old))) [
        | inl lt ↦ lt
        | inr ge ↦ absurd (let none : get_or (marks old) n false ≡ false = get_or_past (marks old) n false ge in let is = d.stray.marked in cc)
      ]

  pub released-free : IsMarked new n → ⊥
  released-free h = let clear : get_or (marks new) n false ≡ false = ap (λ (bs : List Bool). get_or bs n false) d.marks ∙ get_or-set_same (marks old) n false false within in cc

  pub one-more : free_nodes new ≡ free_nodes old + 1
  unfolding free_nodes
  one-more = ap (count_by not) d.marks ∙ count-cleared (marks old) n d.stray.marked

  -- ---- the tree's nodes

  others : Each (λ m. m ≢ n) (own_nodes old ++ tree_nodes g old)
  others = d.stray.other

  outside : Each (λ m. Each (IsOther m) (own_nodes old)) (tree_nodes g old)
  outside = apart (own_nodes old) (tree_nodes g old) sound.structure.levels.different

  pub released-same : Each (IsUnchanged old new) (tree_turn g old)
  released-same =
      each-both (λ (s : Spot). (s.n ≢ n) × Each (IsOther s.n) (own_nodes old)) (IsRight g old) (IsUnchanged old new) (tree_turn g old)
      (λ s a h. record { same = d.rest s.n a.0 a.1; marked = mark-on s.n a.0 h.marked })
      (each-both (λ (s : Spot). s.n ≢ n) (λ (s : Spot). Each (IsOther s.n) (own_nodes old)) _ (tree_turn g old) (λ s a b. (a, b))
      (each-unmap (λ m. m ≢ n) (λ (s : Spot). s.n) (tree_turn g old) (each-right (λ m. m ≢ n) (own_nodes old) (tree_nodes g old) others))
      (each-unmap (λ m. Each (IsOther m) (own_nodes old)) (λ (s : Spot). s.n) (tree_turn g old) outside))
      sound.structure.levels.each

  turn-is : tree_turn g new ≡ turn g new (depth_of old) (root_level old)
  turn-is = ap (λ (h : HeaderRecord). turn g new h.depth (h.root ∷ [])) d.header

  pub released-turn : tree_turn g new ≡ tree_turn g old
  released-turn = turn-is ∙ turn-unchanged g old new (depth_of old) (root_level old) released-same

  new-leaves : leaves g new ≡ leaves g old
  new-leaves = ap (λ (h : HeaderRecord). last_level g new h.depth (h.root ∷ [])) d.header ∙ last-unchanged g old new (depth_of old) (root_level old) released-same

  pub released-content : tree_content g new ≡ tree_content g old
  released-content =
      ap (λ (h : HeaderRecord). flat_map (pairs g new) (last_level g new h.depth (h.root ∷ []))) d.header ∙ content-unchanged g old new (depth_of old) (root_level old) released-same

  pub all-is : own_nodes new ++ tree_nodes g new ≡ own_nodes old ++ tree_nodes g old
  all-is = ap (λ (ns : List ℕ). ns ++ tree_nodes g new) own-is ∙ ap (λ (ss : List Spot). own_nodes old ++ map (λ (s : Spot). s.n) ss) released-turn

  has-header : HasHeader g new
  has-header =
      let o = sound.structure.header in
      record {
        value = d.value;
        decodes = d.decodes;
        kind = d.kind;
        three = d.three;
        long = let long = o.long in let e = d.long in omega arith;
        node_size = ap (λ (h : HeaderRecord). h.node_size) d.header ∙ o.node_size;
        key_len = ap (λ (h : HeaderRecord). h.key_len) d.header ∙ o.key_len;
        some = let some = o.some in let e = count-is in omega arith;
        shallow = let most = o.shallow in let e = ap (λ (h : HeaderRecord). h.depth) d.header in omega arith;
      }

  own-others : Each (λ m. m ≢ n) (own_nodes old)
  own-others = each-left (λ m. m ≢ n) (own_nodes old) (tree_nodes g old) others

  has-map : HasMap new
  has-map =
      let o = sound.structure.map in
      let P : List ℕ → Type 0 = λ ns. Each (IsMapNode new) ns in
      let Q : List ℕ → Type 0 = λ ns. IsDistinct ns in
      let R : List ℕ → Type 0 = λ ns. Each (IsMarked new) ns in
      record {
        chain = subst P (sym maps-are) d.maps;
        different = subst Q (sym maps-are) o.different;
        long = let long = o.long in let e = count-is in let l = d.map_length in omega arith;
        marked = subst R (sym own-is) (each-both (λ m. m ≢ n) (IsMarked old) (IsMarked new) (own_nodes old) mark-on own-others o.marked);
      }

  pub released-sound : IsSound g new
  released-sound =
      let P : List Spot → Type 0 = λ ss. Each (IsRight g new) ss in
      let Q : List ℕ → Type 0 = λ ns. IsDistinct ns in
      let R : Pairs K → Type 0 = λ ps. Rises g.compare ps in
      let S : List Spot → Type 0 = λ ss. Each (λ s. AreKeysInOrder g new s.above s.n) ss in
      record {
        structure = record {
          header = has-header;
          map = has-map;
          levels = record {
            each = subst P (sym turn-is) (rights-unchanged g old new (depth_of old) (root_level old) released-same count-is sound.structure.levels.each);
            different = subst Q (sym all-is) sound.structure.levels.different;
          };
          ends = record {
            first = ap (λ (h : HeaderRecord). h.first_leaf) d.header ∙ sound.structure.ends.first ∙ sym (ap first_of new-leaves);
            last = ap (λ (h : HeaderRecord). h.last_leaf) d.header ∙ sound.structure.ends.last ∙ sym (ap last_of new-leaves);
            empty = λ none. ap (λ (h : HeaderRecord). h.root) d.header ∙ sound.structure.ends.empty (sym (ap (λ (h : HeaderRecord). h.depth) d.header) ∙ none);
          };
        };
        counts = record {
          records = ap (λ (h : HeaderRecord). h.records) d.header ∙ sound.counts.records ∙ sym (ap (λ (ps : Pairs K). length ps) released-content);
          free = let a = ap (λ (h : HeaderRecord). h.free_nodes) d.header in let b = sound.counts.free in let e = one-more in omega arith;
        };
        ordered = record {
          rises = subst R (sym released-content) sound.ordered.rises;
          keys = subst S (sym turn-is) (keyed-unchanged g old new (depth_of old) (root_level old) released-same sound.ordered.keys);
        };
      }

  pub released-exact : IsExact g old → IsExact g new
  released-exact exact =
      let P : List Spot → Type 0 = λ ss. Each (λ s. AreKeysExact g new s.above s.n) ss in
      subst P (sym turn-is) (exact-unchanged g old new (depth_of old) (root_level old) released-same exact)

  pub released-stray : (m : ℕ) → m ≢ n → IsStray g new m ↔ IsStray g old m
  released-stray m ne =
      let P : List ℕ → Type 0 = λ ns. Each (IsOther m) ns in (
        λ s. record { marked = sym (mark-at m ne) ∙ s.marked; other = subst P all-is s.other },
        λ s. record { marked = mark-on m ne s.marked; other = subst P (sym all-is) s.other },
      )

  pub released-gone : IsStray g new n → ⊥
  released-gone s = released-free s.marked

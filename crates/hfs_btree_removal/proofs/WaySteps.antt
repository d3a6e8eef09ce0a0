-- The steps of a way down, one after the other.
use Rattle.std.proofs.Common.{◌≡◌, ℕ, ◌+◌, ◌-◌, ◌<◌, ◌≤◌, List, [], ◌∷◌, ◌++◌, length, map, get_or, take, drop, refl, sym, ap, ◌∙◌, subst, arith}
use Rattle.std.specs.Prelude.{true, Option}
use Rattle.std.specs.Cmp.{IsTotalOrder}
use Rattle.std.specs.List.{prefix_len}
use Rattle.std.proofs.lemmas.List.{drop_more, drop_all, length-take-le}
use Rattle.hfs_btree.specs.Node.{node_of}
use Rattle.hfs_btree_removal.specs.declared.down.Step.{Step}
use Rattle.hfs_btree.specs.declared.key.Key.{Ghosts}
use Rattle.hfs_btree_edits.specs.Conditions.{IsThere}
use Rattle.hfs_fields.specs.Each.{Each}
use Rattle.hfs_btree.specs.Pairs.{lookup}
use Rattle.hfs_btree.specs.Tree.{Store, records_in, records_of, pair_of}
use Rattle.hfs_btree.specs.Header.{depth_of, tree_content}
use Rattle.hfs_btree.specs.Search.{is_not_above, child_for, leaf_for}
use Rattle.hfs_btree.specs.Sound.{IsSound}
use Rattle.hfs_btree_removal.specs.Ways.{IsStep, Leads, IsLastWide}
use Rattle.hfs_btree.proofs.DecodedLemmas.{records-read}
use Rattle.hfs_btree.proofs.DescentLemmas.{IsOnWay, way-some, place-within, index-entries}
use Rattle.hfs_btree.proofs.FoundLemmas.{found-entries, found-body}
use Rattle.hfs_btree_removal.proofs.KeysSet.{no-step, whole}

module _ {K : Type 0} (g : Ghosts K) (nodes : Store) where
  -- one step more
  pub leads-more : (ss : List Step) (n m : ℕ) (s : Step) (c : ℕ) → Leads g nodes n ss m → IsStep nodes m s → c ≡ g.child (get_or (records_in nodes m) s.place []) → Leads g nodes n (ss ++ s ∷ []) c
  leads-more [] n m s c e st is =
      let P : ℕ → Type 0 = λ x. IsStep nodes x s × (g.child (get_or (records_in nodes x) s.place []) ≡ c) in
      subst P (sym e) (st, sym is)
  leads-more (t ∷ ss) n m s c h st is = (h.0, leads-more ss (g.child (get_or (records_in nodes n) t.place [])) m s c h.1 st is)

  -- ---- at an index node

  module _ (t : K) (b n : ℕ) (some : 0 < b) (way : IsOnWay g nodes b n) (bytes : List ℕ) (read : bytes ≡ get_or nodes n []) where
    here : records_of (node_of bytes) ≡ records_in nodes n
    here = records-read nodes n bytes read

    pub step-entries : Each (λ e. g.is_index e ≡ true) (records_of (node_of bytes))
    step-entries = let P : List (List ℕ) → Type 0 = λ es. Each (λ e. g.is_index e ≡ true) es in subst P (sym here) (index-entries g nodes b n some way)

    pub step-some : 0 < length (records_of (node_of bytes))
    step-some = let P : List (List ℕ) → Type 0 = λ es. 0 < length es in subst P (sym here) (way-some g nodes b n way)

    module _ (place : ℕ) (place-is : place ≡ prefix_len (is_not_above g t) (records_of (node_of bytes)) - 1) where
      pub step-within : place < length (records_of (node_of bytes))
      step-within =
          let P : List (List ℕ) → Type 0 = λ es. 0 < length es in
          let lt = place-within g t (records_of (node_of bytes)) (subst P (sym here) (way-some g nodes b n way)) in
          let Q : ℕ → Type 0 = λ i. i < length (records_of (node_of bytes)) in
          subst Q (sym place-is) lt

      pub step-is : (count : ℕ) → count ≡ length (records_of (node_of bytes)) → IsStep nodes n (record { node = n; place = place; count = count })
      step-is count is = record {
        node = refl;
        count = is ∙ ap (λ (es : List (List ℕ)). length es) here;
        within = let lt = step-within in omega arith;
      }

      pub step-child : (child : ℕ) → child ≡ g.child (get_or (records_of (node_of bytes)) place []) → child ≡ g.child (get_or (records_in nodes n) place [])
      step-child child is = is ∙ ap (λ (es : List (List ℕ)). g.child (get_or es place [])) here

      pub step-for : (child : ℕ) → child ≡ g.child (get_or (records_of (node_of bytes)) place []) → child ≡ child_for g t (records_in nodes n)
      step-for child is =
          is ∙ ap (λ (i : ℕ). g.child (get_or (records_of (node_of bytes)) i [])) place-is
          ∙ ap (λ (es : List (List ℕ)). g.child (get_or es (prefix_len (is_not_above g t) es - 1) [])) here

  -- ---- at the leaf

  module _ (total : IsTotalOrder g.compare) (t : K) (sound : IsSound g nodes) (some : 0 < depth_of nodes) (n : ℕ) (is : n ≡ leaf_for g nodes t) (bytes : List ℕ) (read : bytes ≡ get_or nodes n []) where
    pub way-entries : Each (λ e. g.is_leaf e ≡ true) (records_of (node_of bytes))
    way-entries = found-entries g total nodes t sound some n is bytes read

    pub way-there : IsThere (lookup g.compare t (tree_content g nodes)) → IsThere (lookup g.compare t (map (pair_of g) (records_of (node_of bytes))))
    way-there h = let P : Option (List ℕ) → Type 0 = λ o. IsThere o in subst P (sym (found-body g total nodes t sound some n is bytes read)) h

    pub way-leaf : (place count : ℕ) → place < length (records_of (node_of bytes)) → count ≡ length (records_of (node_of bytes)) → IsStep nodes n (record { node = n; place = place; count = count })
    way-leaf place count lt is' = record {
      node = refl;
      count = is' ∙ ap (λ (es : List (List ℕ)). length es) (records-read nodes n bytes read);
      within = omega arith;
    }

    pub way-equal : (place : ℕ) → (o : Rattle.std.specs.declared.cmp.Ordering.Ordering) → g.compare t (g.leaf_key (get_or (records_of (node_of bytes)) place [])) ≡ o
        → g.compare t (g.leaf_key (get_or (records_in nodes n) place [])) ≡ o
    way-equal place o h = ap (λ (es : List (List ℕ)). g.compare t (g.leaf_key (get_or es place []))) (sym (records-read nodes n bytes read)) ∙ h

-- ---- the last step whose node has more than one record

abbrev AreOnes : List Step → Type 0
AreOnes ss = Each (λ s. s.count ≤ 1) ss

module _ (steps : List Step) (i : ℕ) (lt : i < length steps) (ones : AreOnes (drop (length steps - i) steps)) where
  abbrev at : ℕ
  at = length steps - 1 - i

  parted : drop at steps ≡ get_or steps at no-step ∷ drop (at + 1) steps
  parted = drop_more steps at no-step (omega arith)

  ones-behind : AreOnes (drop (at + 1) steps)
  ones-behind =
      let e : length steps - i ≡ at + 1 = omega arith in
      let P : ℕ → Type 0 = λ n. AreOnes (drop n steps) in
      subst P e ones

  pub wide-is : 1 < (get_or steps at no-step).count → IsLastWide steps at
  wide-is more = record {
    before = take at steps;
    wide = get_or steps at no-step;
    behind = drop (at + 1) steps;
    split = whole at steps ∙ ap (λ (ss : List Step). take at steps ++ ss) parted;
    long = length-take-le at steps (omega arith);
    more = omega arith;
    ones = ones-behind;
  }

  pub one-more : (get_or steps at no-step).count ≤ 1 → AreOnes (drop (length steps - (i + 1)) steps)
  one-more few =
      let e : at ≡ length steps - (i + 1) = omega arith in
      let P : ℕ → Type 0 = λ n. AreOnes (drop n steps) in
      let Q : List Step → Type 0 = λ ss. AreOnes ss in
      subst P e (subst Q (sym parted) (few, ones-behind))

pub ones-none : (steps : List Step) → AreOnes (drop (length steps - 0) steps)
ones-none steps =
    let P : List Step → Type 0 = λ ss. AreOnes ss in
    subst P (sym (drop_all (length steps - 0) steps (omega arith))) tt

pub ones-all : (steps : List Step) (i : ℕ) → length steps ≤ i → AreOnes (drop (length steps - i) steps) → AreOnes steps
ones-all steps i le h = let e : length steps - i ≡ 0 = omega arith in let P : ℕ → Type 0 = λ n. AreOnes (drop n steps) in subst P e h

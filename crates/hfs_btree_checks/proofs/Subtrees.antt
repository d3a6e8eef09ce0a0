-- A node and those below it, record by record.
use Rattle.std.proofs.Common.{◌≡◌, ℕ, zero, suc, ◌+◌, ◌<◌, ◌≤◌, Bool, true, false, List, [], ◌∷◌, ◌++◌, length, map, get_or, take, drop, Option, None, refl, sym, ap, ◌∙◌, subst, append-nil}
use Rattle.std.specs.Prelude.{◌&&◌}
use Rattle.std.specs.Bool.{one_answer}
use Rattle.std.specs.List.{flat_map, list_all}
use Rattle.std.proofs.lemmas.List.{drop_more, drop_all, take_more, take_all}
use Rattle.std.proofs.lemmas.List.Concat.{flat_map-append}
use Rattle.std.proofs.lemmas.List.Folds.{flat_map-map}
use Rattle.hfs_btree.specs.declared.key.Key.{Ghosts}
use Rattle.hfs_btree_checks.specs.declared.key_range.KeyRange.{KeyRange}
use Rattle.hfs_btree.specs.Pairs.{Pairs}
use Rattle.hfs_fields.specs.Each.{Each}
use Rattle.hfs_fields.proofs.ElementLemmas.{each-at, each-unmap}
use Rattle.hfs_btree.specs.Tree.{Store, records_in, pair_of, under}
use Rattle.hfs_btree.specs.Sound.{part_of}
use Rattle.hfs_btree_checks.specs.Order.{are_parts_in_order, are_keys_in_order}
use Rattle.hfs_btree_checks.proofs.OrderLawLemmas.{above-by, least-by}
use Rattle.hfs_btree_checks.specs.Subtree.{is_at_most, is_above, HasRange, IsSubtree, is_subtree_keyed}
use Rattle.hfs_btree_checks.proofs.KeyRanges.{range-none}

-- ---- an index node

and-shift : (a b c d : Bool) → b ≡ c → (a && (b && d)) ≡ ((a && c) && d)
and-shift true b c d e = ap (λ x. x && d) e
and-shift false b c d e = refl

and-two : (a b c d : Bool) → a ≡ b → c ≡ d → (a && c) ≡ (b && d)
and-two a b c d e f = ap (λ x. x && c) e ∙ ap (λ x. b && x) f

module _ {K : Type 0} (g : Ghosts K) (nodes : Store) (k : ℕ) (es : List (List ℕ)) where
  abbrev own : List ℕ → Pairs K
  own e = under g nodes k (g.child e)

  abbrev parts : List (List ℕ) → List (K × Pairs K)
  parts xs = map (part_of g (under g nodes k)) xs

  abbrev all-below : List (List ℕ) → Bool
  all-below xs = list_all (is_subtree_keyed g nodes k) (map g.child xs)

  -- what is known of the records before place i
  pub record IsSeen (i : ℕ) (range before : Option (KeyRange K)) (keyed below : Bool) : Type 0 where
    pub bounds : HasRange g.compare range (flat_map own (take i es))
    pub part : Pairs K
    pub last : HasRange g.compare before part
    pub keys : (keyed && are_parts_in_order g.compare part (parts (drop i es))) ≡ are_parts_in_order g.compare [] (parts es)
    pub deep : (below && all-below (drop i es)) ≡ all-below es

  pub seen-none : IsSeen 0 None None true true
  seen-none = record { bounds = range-none g.compare; part = []; last = range-none g.compare; keys = refl; deep = refl }

  module _ (i : ℕ) (e : List ℕ) (lt : i < length es) (is : e ≡ get_or es i []) where
    here : drop i es ≡ e ∷ drop (i + 1) es
    here = drop_more es i [] lt ∙ ap (λ (x : List ℕ). x ∷ drop (i + 1) es) (sym is)

    own-more : flat_map own (take (i + 1) es) ≡ flat_map own (take i es) ++ own e
    own-more =
        ap (flat_map own) (take_more es i [] lt ∙ ap (λ (x : List ℕ). take i es ++ x ∷ []) (sym is))
        ∙ flat_map-append own (take i es) (e ∷ [])
        ∙ ap (λ (ps : Pairs K). flat_map own (take i es) ++ ps) (append-nil (own e))

    pub seen-more : (range before next part' : Option (KeyRange K)) (keyed below right ordered : Bool) → IsSeen i range before keyed below
        → right ≡ (is_above g.compare (g.index_key e) before && is_at_most g.compare (g.index_key e) part')
        → HasRange g.compare part' (own e) → ordered ≡ is_subtree_keyed g nodes k (g.child e)
        → ((ps qs : Pairs K) → HasRange g.compare range ps → HasRange g.compare part' qs → HasRange g.compare next (ps ++ qs))
        → IsSeen (i + 1) next part' (keyed && right) (below && ordered)
    seen-more range before next part' keyed below right ordered seen tested child deep joins =
        let P : Pairs K → Type 0 = λ ps. HasRange g.compare next ps in
        record {
          bounds = subst P (sym own-more) (joins (flat_map own (take i es)) (own e) seen.bounds child);
          part = own e;
          last = child;
          keys =
              sym (and-shift keyed _ right (are_parts_in_order g.compare (own e) (parts (drop (i + 1) es)))
              (and-two _ _ _ _ (one_answer _ _ (above-by g.compare (g.index_key e) seen.part) (seen.last.greatest (g.index_key e))) (one_answer _ _ (least-by g.compare (g.index_key e) (own e)) (child.least (g.index_key e))) ∙ sym tested))
              ∙ ap (λ (xs : List (List ℕ)). keyed && are_parts_in_order g.compare seen.part (parts xs)) (sym here)
              ∙ seen.keys;
          deep =
              sym (and-shift below _ ordered (all-below (drop (i + 1) es)) (sym deep))
              ∙ ap (λ (xs : List (List ℕ)). below && all-below xs) (sym here)
              ∙ seen.deep;
        }

  and-end : (b : Bool) → b ≡ (b && true)
  and-end true = refl
  and-end false = refl

  -- what is known at the end
  module _ (i : ℕ) (past : length es ≤ i) (range before : Option (KeyRange K)) (keyed below : Bool) (seen : IsSeen i range before keyed below) where
    pub seen-range : HasRange g.compare range (flat_map own es)
    seen-range =
        let P : List (List ℕ) → Type 0 = λ xs. HasRange g.compare range (flat_map own xs) in
        subst P (take_all i es past) seen.bounds

    pub seen-keys : keyed ≡ are_parts_in_order g.compare [] (parts es)
    seen-keys = and-end keyed ∙ ap (λ (xs : List (List ℕ)). keyed && are_parts_in_order g.compare seen.part (parts xs)) (sym (drop_all i es past)) ∙ seen.keys

    seen-deep : below ≡ all-below es
    seen-deep = and-end below ∙ ap (λ (xs : List (List ℕ)). below && all-below xs) (sym (drop_all i es past)) ∙ seen.deep

    pub seen-all : (keyed && below) ≡ (are_parts_in_order g.compare [] (parts es) && all-below es)
    seen-all = and-two keyed _ below _ seen-keys seen-deep

  -- the same of a node with these records
  module _ (above n : ℕ) (up : above ≡ suc k) (same : records_in nodes n ≡ es) where
    pub under-is : under g nodes above n ≡ flat_map own es
    under-is = ap (λ (a : ℕ). under g nodes a n) up ∙ flat_map-map (under g nodes k) g.child (records_in nodes n) ∙ ap (flat_map own) same

    pub keys-is : are_keys_in_order g nodes above n ≡ are_parts_in_order g.compare [] (parts es)
    keys-is = ap (λ (a : ℕ). are_keys_in_order g nodes a n) up ∙ ap (λ (xs : List (List ℕ)). are_parts_in_order g.compare [] (parts xs)) same

    pub subtree-is : is_subtree_keyed g nodes above n ≡ (are_parts_in_order g.compare [] (parts es) && all-below es)
    subtree-is = ap (λ (a : ℕ). is_subtree_keyed g nodes a n) up ∙ ap (λ (xs : List (List ℕ)). are_parts_in_order g.compare [] (parts xs) && all-below xs) same

    module _ (tree : IsSubtree g nodes above n) where
      opened : IsSubtree g nodes (suc k) n
      opened = let P : ℕ → Type 0 = λ a. IsSubtree g nodes a n in subst P up tree

      pub index-at : (i : ℕ) → i < length es → g.is_index (get_or es i []) ≡ true
      index-at i lt = let P : List (List ℕ) → Type 0 = λ xs. Each (λ e. g.is_index e ≡ true) xs in each-at (λ e. g.is_index e ≡ true) es i [] (subst P same opened.1) lt

      pub child-at : (i : ℕ) → i < length es → IsSubtree g nodes k (g.child (get_or es i []))
      child-at i lt =
          let P : List (List ℕ) → Type 0 = λ xs. Each (λ e. IsSubtree g nodes k (g.child e)) xs in
          each-at (λ e. IsSubtree g nodes k (g.child e)) es i [] (subst P same (each-unmap (IsSubtree g nodes k) g.child (records_in nodes n) opened.2)) lt

module _ {K : Type 0} (g : Ghosts K) (nodes : Store) where
  pub subtree-some : (above n : ℕ) → IsSubtree g nodes above n → 0 < length (records_in nodes n)
  subtree-some zero n h = h.0
  subtree-some (suc k) n h = h.0

  -- a leaf with these records
  module _ (above n : ℕ) (es : List (List ℕ)) (bottom : above ≡ 0) (same : records_in nodes n ≡ es) where
    pub leaf-records : IsSubtree g nodes above n → Each (λ e. g.is_leaf e ≡ true) es
    leaf-records tree =
        let P : ℕ → Type 0 = λ a. IsSubtree g nodes a n in
        let Q : List (List ℕ) → Type 0 = λ xs. Each (λ e. g.is_leaf e ≡ true) xs in
        subst Q same (subst P bottom tree).1

    pub leaf-under : under g nodes above n ≡ map (pair_of g) es
    leaf-under = ap (λ (a : ℕ). under g nodes a n) bottom ∙ ap (map (pair_of g)) same

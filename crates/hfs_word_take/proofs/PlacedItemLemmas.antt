-- The items of a volume have plain host names, and host paths of their own.
use Rattle.std.proofs.Common.{◌≡◌, ◌≢◌, inl, inr, ⊎_elim, ℕ, zero, suc, ◌+◌, ◌-◌, true, List, [], ◌∷◌, ◌++◌, length, map, take, drop, refl, sym, ap, subst, ◌∙◌, arith, append_assoc, append-nil, length-append, Option, Some}
use Rattle.std.specs.List.{flat_map, list_all}
use Rattle.std.specs.declared.cmp.Ordering.TheVariants.{Less, Equal}
use Rattle.std.specs.Ordering.{is_eq}
use Rattle.std.proofs.lemmas.Bool.{and_from, and_parts}
use Rattle.std.proofs.lemmas.List.{length-map, map-append, take_at}
use Rattle.hfs_fields.specs.Order.{folded, name_cmp, name_order}
use Rattle.hfs_bag.specs.Items.{BagItem}
use Rattle.hfs_bag.specs.Laws.{AreApart, ArePlaced, DifferInPath, IsApart, IsPlaced, IsPlain}
use Rattle.hfs_model.specs.declared.item.Item.{Item}
use Rattle.hfs_model.specs.Volume.{Volume, Entry}
use Rattle.hfs_model.specs.Children.{children, entries_of}
use Rattle.hfs_model.specs.Lawful.{Has, IsLawful}
use Rattle.hfs_model.specs.Replies.{info_of}
use Rattle.hfs_model.proofs.Facts.{true_false}
use Rattle.hfs_model.proofs.Members.{In}
use Rattle.hfs_model.proofs.Folders.{child_from_in, children_are}
use Rattle.hfs_model.proofs.Parents.{no_item}
use Rattle.hfs_items.specs.Rows.{Row, path_below, row_below, rows_in, rows_of}
use Rattle.hfs_items.specs.ToldRows.{ToldRow, told_row}
use Rattle.hfs_items.proofs.ListLemmas.{in_flat_map, Pairs, pairs_all, pairs-flat_map}
use Rattle.hfs_texts.specs.HostNames.{host_name}
use Rattle.hfs_texts.specs.MacPaths.{host_path}
use Rattle.hfs_texts.specs.NameLaws.{is_bytes}
use Rattle.hfs_texts.proofs.HostPathLemmas.{host-paths}
use Rattle.hfs_word_take.specs.Items.{bag_item, bag_items, folders_text, names_between}
use Rattle.hfs_word_take.specs.Laws.{ArePathsTold}
use Rattle.hfs_word_take.proofs.PlainNames.{folders-are, plain-name, plain-names, behind-first}

-- the same behind the same front
same-behind : {A : Type 0} (xs ys zs : List A) → xs ++ ys ≡ xs ++ zs → ys ≡ zs
same-behind [] ys zs e = e
same-behind (x ∷ xs) ys zs e = same-behind xs ys zs (rest-is x (xs ++ ys) (xs ++ zs) e)
  where
    rest-is : {A : Type 0} (x : A) (us vs : List A) → x ∷ us ≡ x ∷ vs → us ≡ vs
    rest-is x us vs e = cc

same-first : {A : Type 0} (x y : A) (xs ys : List A) → x ∷ xs ≡ y ∷ ys → x ≡ y
same-first x y xs ys e = cc

-- rows whose paths differ also without regard to case
abbrev PathsDiffer : Row → Row → Type 0
PathsDiffer a b = map folded a.path ≢ map folded b.path

-- a row's path goes on behind another by names of bytes, of which the last is its item's
record GoesOn (above : List (List ℕ)) (r : Row) : Type 0 where
  pub between : List (List ℕ)
  pub path_is : r.path ≡ above ++ (between ++ r.entry.1.name ∷ [])
  pub bytes : list_all is_bytes (between ++ r.entry.1.name ∷ []) ≡ true

module _ (v : Volume) (h : IsLawful v) (named : (id : ℕ) (i : Item) → Has v.items id i → is_bytes i.name ≡ true) where
  abbrev es : List Entry
  es = entries_of v

  abbrev below : ℕ → List (List ℕ) → Entry → List Row
  below n above c = row_below above c ∷ rows_in es n (path_below above c) c.0

  child-bytes : (c : Entry) (dir : ℕ) → In c (children es dir) → is_bytes c.1.name ≡ true
  child-bytes c dir i = named c.0 c.1 (child_from_in v.items v.next_id h dir c i).0

  further : (above : List (List ℕ)) (c : Entry) (r : Row) → is_bytes c.1.name ≡ true → GoesOn (path_below above c) r → GoesOn above r
  further above c r bytes on = record {
    between = c.1.name ∷ on.between;
    path_is = on.path_is ∙ append_assoc above (c.1.name ∷ []) (on.between ++ r.entry.1.name ∷ []);
    bytes = and_from _ _ bytes on.bytes;
  }

  own : (above : List (List ℕ)) (c : Entry) → is_bytes c.1.name ≡ true → GoesOn above (row_below above c)
  own above c bytes = record { between = []; path_is = refl; bytes = and_from _ _ bytes refl }

  -- each row of a folder's does
  goes-on : (n : ℕ) (above : List (List ℕ)) (dir : ℕ) (r : Row) → In r (rows_in es n above dir) → GoesOn above r
  goes-on zero above dir r i = absurd i
  goes-on (suc n) above dir r i =
      let at = in_flat_map (below n above) (children es dir) r i in
      ⊎_elim
      (λ (here : row_below above at.0 ≡ r). subst (GoesOn above) here (own above at.0 (child-bytes at.0 dir at.1)))
      (λ (there : In r (rows_in es n (path_below above at.0) at.0.0)). further above at.0 r (child-bytes at.0 dir at.1) (goes-on n (path_below above at.0) at.0.0 r there))
      at.2

  -- all rows of a child begin with its name
  begins : (n : ℕ) (above : List (List ℕ)) (dir : ℕ) (c : Entry) (r : Row) → In r (below n above c) → (rest : List (List ℕ)) × (r.path ≡ above ++ c.1.name ∷ rest)
  begins n above dir c r i = ⊎_elim
      (λ (here : row_below above c ≡ r). subst (λ (x : Row). (rest : List (List ℕ)) × (x.path ≡ above ++ c.1.name ∷ rest)) here ([], refl))
      (λ (there : In r (rows_in es n (path_below above c) c.0)).
      let on = goes-on n (path_below above c) c.0 r there in
      (on.between ++ r.entry.1.name ∷ [], on.path_is ∙ append_assoc above (c.1.name ∷ []) (on.between ++ r.entry.1.name ∷ [])))
      i

  abbrev NamesDiffer : Entry → Entry → Type 0
  NamesDiffer c d = folded c.1.name ≢ folded d.1.name

  less-equal : (c d : Entry) → name_cmp c.1.name d.1.name ≡ Less → NamesDiffer c d
  less-equal c d less same =
      let equal : name_cmp c.1.name d.1.name ≡ Equal = (name_order.equal_folded c.1.name d.1.name).1 same in
      true_false (is_eq (name_cmp c.1.name d.1.name)) (ap is_eq equal) (ap is_eq less)

  names-differ : (dir : ℕ) → Pairs NamesDiffer (children es dir)
  names-differ dir = from (children es dir) (pairs_all (λ (a b : Entry). name_cmp a.1.name b.1.name ≡ Less) (children es dir) ((children_are v h dir).rise))
    where
      from : (cs : List Entry) → Pairs (λ (a b : Entry). name_cmp a.1.name b.1.name ≡ Less) cs → Pairs NamesDiffer cs
      from [] p = tt
      from (c ∷ cs) p = (λ d i. less-equal c d (p.0 d i), from cs p.1)

  -- what is below two children, or below a child and its own row, has other paths
  across : (above : List (List ℕ)) (c d : Entry) (a b : Row) → NamesDiffer c d → (rest : List (List ℕ)) × (a.path ≡ above ++ c.1.name ∷ rest)
      → (rest : List (List ℕ)) × (b.path ≡ above ++ d.1.name ∷ rest) → PathsDiffer a b
  across above c d a b differ p q same =
      let one : map folded a.path ≡ map folded above ++ folded c.1.name ∷ map folded p.0 = ap (map folded) p.1 ∙ map-append folded above (c.1.name ∷ p.0) in
      let two : map folded b.path ≡ map folded above ++ folded d.1.name ∷ map folded q.0 = ap (map folded) q.1 ∙ map-append folded above (d.1.name ∷ q.0) in
      differ (same-first (folded c.1.name) (folded d.1.name) (map folded p.0) (map folded q.0)
      (same-behind (map folded above) (folded c.1.name ∷ map folded p.0) (folded d.1.name ∷ map folded q.0) (sym one ∙ same ∙ two)))

  longer : (above : List (List ℕ)) (c : Entry) (r : Row) → GoesOn (path_below above c) r → PathsDiffer (row_below above c) r
  longer above c r on same =
      absurd (omega (
        arith,
        ap length same,
        length-map (path_below above c) folded,
        length-map r.path folded,
        ap length on.path_is,
        length-append (path_below above c) (on.between ++ r.entry.1.name ∷ []),
        length-append on.between (r.entry.1.name ∷ []),
      ))

  rows-differ : (n : ℕ) (above : List (List ℕ)) (dir : ℕ) → Pairs PathsDiffer (rows_in es n above dir)
  rows-differ zero above dir = tt
  rows-differ (suc n) above dir =
      pairs-flat_map NamesDiffer PathsDiffer (below n above) (children es dir) (names-differ dir)
      (λ c i. (λ r j. longer above c r (goes-on n (path_below above c) c.0 r j), rows-differ n (path_below above c) c.0))
      (λ c d i j differ a b k l. across above c d a b differ (begins n above dir c a k) (begins n above dir d b l))

  -- ---- below the root, which is the one item under 1

  is-root : (c : Entry) → In c (children es 1) → c.0 ≡ 2
  is-root c i =
      let child = child_from_in v.items v.next_id h 1 c i in
      ⊎_elim
      (λ (root : c.0 ≡ 2). root)
      (λ folder. absurd (no_item v.items v.next_id h folder.item (subst (λ (n : ℕ). Has v.items n folder.item) child.1 folder.has)))
      (h.parents c.0 c.1 child.0)

  same-item : (c d : Entry) → In c (children es 1) → In d (children es 1) → c.1 ≡ d.1
  same-item c d i j =
      let one = (child_from_in v.items v.next_id h 1 c i).0 in
      let two = (child_from_in v.items v.next_id h 1 d j).0 in
      same-some c.1 d.1 (sym (subst (λ (n : ℕ). Has v.items n c.1) (is-root c i) one) ∙ subst (λ (n : ℕ). Has v.items n d.1) (is-root d j) two)
    where
      same-some : (x y : Item) → ◌≡◌ {A = Option Item} (Some x) (Some y) → x ≡ y
      same-some x y e = cc

  -- a row below the root
  record BelowRoot (root : List ℕ) (r : Row) : Type 0 where
    pub between : List (List ℕ)
    pub path_is : r.path ≡ root ∷ (between ++ r.entry.1.name ∷ [])
    pub bytes : list_all is_bytes (between ++ r.entry.1.name ∷ []) ≡ true

  record AreBelowRoot (rows : List Row) : Type 0 where
    pub root : List ℕ
    pub each : (r : Row) → In r rows → BelowRoot root r
    pub differ : Pairs PathsDiffer rows

  one-child : (cs : List Entry) → ((c : Entry) → In c cs → In c (children es 1)) → Pairs NamesDiffer cs → (n : ℕ)
      → AreBelowRoot (drop 1 (flat_map (below n []) cs))
  one-child [] all differ n = record { root = []; each = λ r i. absurd i; differ = tt }
  one-child (c ∷ []) all differ n = record {
    root = c.1.name;
    each = λ r i. let on = goes-on n (c.1.name ∷ []) c.0 r (in-left r i) in record { between = on.between; path_is = on.path_is; bytes = on.bytes };
    differ = subst (Pairs PathsDiffer) (sym (append-nil (rows_in es n (c.1.name ∷ []) c.0))) (rows-differ n (c.1.name ∷ []) c.0);
  }
    where
      in-left : (r : Row) → In r (rows_in es n (c.1.name ∷ []) c.0 ++ []) → In r (rows_in es n (c.1.name ∷ []) c.0)
      in-left r i = subst (In r) (append-nil (rows_in es n (c.1.name ∷ []) c.0)) i
  one-child (c ∷ d ∷ cs) all differ n =
      absurd (differ.0 d (inl refl) (ap (λ (i : Item). folded i.name) (same-item c d (all c (inl refl)) (all d (inr (inl refl))))))

  below-root : (n : ℕ) → AreBelowRoot (drop 1 (rows_in es n [] 1))
  below-root zero = record { root = []; each = λ r i. absurd i; differ = tt }
  below-root (suc n) = one-child (children es 1) (λ c i. i) (names-differ 1) n

  -- ---- their items

  module _ (root : List ℕ) where
    abbrev item_of : Row → BagItem
    item_of r = bag_item es (told_row es r)

    between-is : (r : Row) (b : BelowRoot root r) → names_between r.path ≡ b.between
    between-is r b =
        let long : length (b.between ++ r.entry.1.name ∷ []) ≡ length b.between + 1 = length-append b.between (r.entry.1.name ∷ []) in
        let fewer : length (root ∷ (b.between ++ r.entry.1.name ∷ [])) - 2 ≡ length b.between = omega (arith, long) in
        ap names_between b.path_is ∙ ap (λ n. take n (b.between ++ r.entry.1.name ∷ [])) fewer ∙ take_at b.between (r.entry.1.name ∷ []) (length b.between) refl

    name-is : (r : Row) → (told_row es r).info.name ≡ r.entry.1.name
    unfolding info_of
    name-is r = refl

    text-is : (r : Row) (b : BelowRoot root r) → (item_of r).above ++ (item_of r).name ≡ host_path (b.between ++ r.entry.1.name ∷ [])
    text-is r b = (λ i. folders_text (between-is r b i) ++ host_name (name-is r i)) ∙ behind-first b.between r.entry.1.name

    front-bytes : (names : List (List ℕ)) (last : List ℕ) → list_all is_bytes (names ++ last ∷ []) ≡ true → list_all is_bytes names ≡ true
    front-bytes [] last bytes = refl
    front-bytes (name ∷ names) last bytes = let two = and_parts _ _ bytes in and_from _ _ two.0 (front-bytes names last two.1)

    last-bytes : (names : List (List ℕ)) (last : List ℕ) → list_all is_bytes (names ++ last ∷ []) ≡ true → is_bytes last ≡ true
    last-bytes [] last bytes = (and_parts _ _ bytes).0
    last-bytes (name ∷ names) last bytes = last-bytes names last (and_parts _ _ bytes).1

    is-placed : (r : Row) → BelowRoot root r → IsPlaced (item_of r)
    is-placed r b = record {
      folders = map host_name b.between;
      above_is = ap folders_text (between-is r b) ∙ folders-are b.between;
      folders_are = plain-names b.between (front-bytes b.between r.entry.1.name b.bytes);
      name_is = subst (λ (n : List ℕ). IsPlain (host_name n)) (sym (name-is r)) (plain-name r.entry.1.name (last-bytes b.between r.entry.1.name b.bytes));
    }

    paths-differ : (a b : Row) → BelowRoot root a → BelowRoot root b → PathsDiffer a b → DifferInPath (item_of a) (item_of b)
    paths-differ a b p q differ same =
        let names = host-paths.one_in_case (p.between ++ a.entry.1.name ∷ []) (q.between ++ b.entry.1.name ∷ []) p.bytes q.bytes
        (sym (ap folded (text-is a p)) ∙ same ∙ ap folded (text-is b q)) in
        differ (ap (map folded) p.path_is ∙ ap (λ (ns : List (List ℕ)). folded root ∷ ns) names ∙ sym (ap (map folded) q.path_is))

    are-apart : (a b : Row) → BelowRoot root a → BelowRoot root b → PathsDiffer a b → AreApart (item_of a) (item_of b)
    are-apart a b p q differ = record { own = λ x y. paths-differ a b p q differ; doubles = λ x y. paths-differ a b p q differ }

    apart-from : (a : Row) (rows : List Row) → BelowRoot root a → ((b : Row) → In b rows → BelowRoot root b) → ((b : Row) → In b rows → PathsDiffer a b)
        → IsApart (item_of a) (map (bag_item es) (map (told_row es) rows))
    apart-from a [] p each differ = tt
    apart-from a (b ∷ rows) p each differ =
        (are-apart a b p (each b (inl refl)) (differ b (inl refl)), apart-from a rows p (λ r i. each r (inr i)) (λ r i. differ r (inr i)))

    are-placed : (rows : List Row) → ((b : Row) → In b rows → BelowRoot root b) → Pairs PathsDiffer rows → ArePlaced (map (bag_item es) (map (told_row es) rows))
    are-placed [] each differ = tt
    are-placed (a ∷ rows) each differ = (
      is-placed a (each a (inl refl)),
      apart-from a rows (each a (inl refl)) (λ r i. each r (inr i)) differ.0,
      are-placed rows (λ r i. each r (inr i)) differ.1,
    )

    paths-told : (rows : List Row) → ((b : Row) → In b rows → BelowRoot root b) → ArePathsTold es (map (told_row es) rows)
    paths-told [] each = tt
    paths-told (a ∷ rows) each =
        let b = each a (inl refl) in
        (ap (λ (names : List (List ℕ)). host_path (drop 1 names)) b.path_is ∙ sym (text-is a b), paths-told rows (λ r i. each r (inr i)))

  drop-map : (rows : List Row) → drop 1 (map (told_row es) rows) ≡ map (told_row es) (drop 1 rows)
  drop-map [] = refl
  drop-map (r ∷ rows) = refl

  pub items-placed : ArePlaced (bag_items es)
  items-placed =
      let rows = below-root (length es) in
      subst (λ (told : List ToldRow). ArePlaced (map (bag_item es) told)) (sym (drop-map (rows_of es))) (are-placed rows.root (drop 1 (rows_of es)) rows.each rows.differ)

  pub bag-paths-told : ArePathsTold es (drop 1 (map (told_row es) (rows_of es)))
  bag-paths-told =
      let rows = below-root (length es) in
      subst (ArePathsTold es) (sym (drop-map (rows_of es))) (paths-told rows.root (drop 1 (rows_of es)) rows.each)

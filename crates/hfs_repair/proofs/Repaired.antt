-- What a repair leaves as it is.
use Rattle.std.proofs.Common.{◌≡◌, ℕ, zero, suc, Bool, true, false, List, [], ◌∷◌, length, map, get_or, refl, sym, ap, ◌∙◌, subst, arith, cond, filter}
use Rattle.std.specs.Prelude.{◌==◌, IsTrue}
use Rattle.std.specs.List.{flat_map}
use Rattle.std.proofs.lemmas.Bool.{eq-eqb}
use Rattle.byteorder.specs.Endian.{big_bytes}
use Rattle.byteorder.specs.Numbers.{length-bytes_high_first}
use Rattle.hfs_fields.specs.Counts.{IsOutside}
use Rattle.hfs_fields.specs.Keys.{cat_body_of}
use Rattle.hfs_fields.specs.Records.{is_dir, dir_record_of, file_record_of}
use Rattle.hfs_btree.specs.declared.key.Key.{Ghosts}
use Rattle.hfs_fields.proofs.ElementLemmas.{each-append, each-left, each-right}
use Rattle.hfs_fields.specs.Each.{Each}
use Rattle.hfs_btree.specs.Tree.{Store, records_in, pair_of, pairs}
use Rattle.hfs_btree.specs.Header.{leaves}
use Rattle.hfs_btree.specs.Sound.{HasCounts}
use Rattle.hfs_blocks.specs.Blocks.{block_at, block_count}
use Rattle.hfs_space.specs.ForkLaws.{block_numbers}
use Rattle.hfs_space.specs.TreeKeys.{ext_keys}
use Rattle.hfs_catalog.specs.Records.{Record, Catalog, valence_of}
use Rattle.hfs_catalog.specs.Sound.{EachFolder, HasValence}
use Rattle.hfs_catalog.specs.Tree.{cat_keys}
use Rattle.hfs_check.specs.Parts.{Blocks, mdb_in, extents_nodes, catalog_extents, catalog_nodes, catalog_in}
use Rattle.hfs_check.specs.Sound.{AreBlocksSound}
use Rattle.hfs_repair.specs.declared.fixed.FixPlace.{FixPlace}
use Rattle.hfs_repair.specs.declared.fixed.FixPlace.TheVariants.{ExtentsRecords, ExtentsFree, CatalogRecords, CatalogFree}
use Rattle.hfs_repair.specs.Fields.{PlacedNumber}
use Rattle.hfs_repair.specs.Placed.{is_wrong, placed_in_mdb, record_start, placed_in_header, placed_valence, placed_from, placed_in_leaf, placed_valences, placed_in}
use Rattle.hfs_repair.specs.Repair.{is_mendable, wrong_in, laid_over, with_numbers, repair, IsInNone}
use Rattle.hfs_repair.specs.RepairLaws.{RepairKeepsOthers, RepairKeepsSoundImages}

-- ---- bytes beside those that are written

length-laid : (bytes : List ℕ) (at : ℕ) (new : List ℕ) → length (laid_over bytes at new) ≡ length bytes
length-laid [] at new = refl
length-laid (b ∷ bytes) zero [] = refl
length-laid (b ∷ bytes) zero (x ∷ new) = ap suc (length-laid bytes zero new)
length-laid (b ∷ bytes) (suc at) new = ap suc (length-laid bytes at new)

laid-beside : (bytes : List ℕ) (at : ℕ) (new : List ℕ) (k : ℕ) → IsOutside at (length new) k → get_or (laid_over bytes at new) k 0 ≡ get_or bytes k 0
laid-beside [] at new k outside = refl
laid-beside (b ∷ bytes) zero [] k outside = refl
laid-beside (b ∷ bytes) zero (x ∷ new) zero outside = absurd (let past = outside (omega arith) in omega arith)
laid-beside (b ∷ bytes) zero (x ∷ new) (suc k) outside = laid-beside bytes zero new k (λ low. let past = outside (omega arith) in omega arith)
laid-beside (b ∷ bytes) (suc at) new zero outside = refl
laid-beside (b ∷ bytes) (suc at) new (suc k) outside = laid-beside bytes at new k (λ low. let past = outside (omega arith) in omega arith)

length-with : (ns : List PlacedNumber) (image : List ℕ) → length (with_numbers ns image) ≡ length image
length-with [] image = refl
length-with (n ∷ ns) image = length-with ns (laid_over image n.1.at (big_bytes n.1.width n.1.now)) ∙ length-laid image n.1.at (big_bytes n.1.width n.1.now)

with-beside : (ns : List PlacedNumber) (image : List ℕ) (k : ℕ) → IsInNone ns k → get_or (with_numbers ns image) k 0 ≡ get_or image k 0
with-beside [] image k none = refl
with-beside (n ∷ ns) image k none =
    let W : ℕ → Type 0 = λ width. IsOutside n.1.at width k in
    with-beside ns (laid_over image n.1.at (big_bytes n.1.width n.1.now)) k none.1
    ∙ laid-beside image n.1.at (big_bytes n.1.width n.1.now) k (subst W (sym (length-bytes_high_first n.1.width n.1.now)) none.0)

pub filtered-by : {X : Type 0} (P : X → Type 0) (b : Bool) (x : X) (xs : List X) → P x → Each P xs → Each P (cond b (x ∷ xs) xs)
filtered-by P true x xs h rest = (h, rest)
filtered-by P false x xs h rest = rest

pub filtered : {X : Type 0} (P : X → Type 0) (test : X → Bool) (xs : List X) → Each P xs → Each P (filter test xs)
filtered P test [] h = tt
filtered P test (x ∷ xs) h = filtered-by P (test x) x (filter test xs) h.0 (filtered P test xs h.1)

by_case : {X : Type 0} (P : X → Type 0) (test : X → Bool) (b : Bool) (xs : List X) → Each P xs → Each P (cond b (filter test xs) [])
by_case P test true xs h = filtered P test xs h
by_case P test false xs h = tt

pub keeps-others : RepairKeepsOthers
unfolding repair wrong_in
keeps-others image = record {
  len = length-with (wrong_in image) image;
  bytes = λ k none. with-beside (wrong_in image) image k (by_case (λ (n : PlacedNumber). IsOutside n.1.at n.1.width k) is_wrong (is_mendable image) (placed_in (block_at image)) none);
}

-- ---- numbers that are right

abbrev IsCounted : PlacedNumber → Type 0
IsCounted n = n.1.was ≡ n.1.now

none-wrong : (ns : List PlacedNumber) → Each IsCounted ns → filter is_wrong ns ≡ []
unfolding is_wrong
none-wrong [] h = refl
none-wrong (n ∷ ns) h = let yes : (n.1.was == n.1.now) ≡ true = eq-eqb n.1.was n.1.now h.0 in rw yes (none-wrong ns h.1)

module _ (catalog : Catalog) (start : ℕ → ℕ) where
  valences-by : (b : Bool) (k : ℕ) (entry : List ℕ) (rest : List PlacedNumber) → is_dir (cat_body_of entry) ≡ b → (IsTrue (is_dir (cat_body_of entry)) → HasValence catalog (pair_of cat_keys entry))
      → Each IsCounted rest
      → Each IsCounted (cond b (placed_valence (valence_of catalog) (start k) entry ∷ rest) rest)
  valences-by true k entry rest e right h =
      let body = cat_body_of entry in
      ((right e).counted ∙ ap (λ (b : Bool). valence_of catalog (cond b (dir_record_of body).id (file_record_of body).id)) e, h)
  valences-by false k entry rest e right h = h

  valences-right : (k : ℕ) (entries : List (List ℕ)) → EachFolder (HasValence catalog) (map (pair_of cat_keys) entries) → Each IsCounted (placed_from (valence_of catalog) start k entries)
  valences-right k [] h = tt
  valences-right k (entry ∷ entries) h =
      valences-by (is_dir (cat_body_of entry)) k entry (placed_from (valence_of catalog) start (suc k) entries) refl h.0 (valences-right (suc k) entries h.1)

module _ (catalog : Catalog) (numbers : List ℕ) (nodes : Store) where
  abbrev of_leaf : ℕ → List PlacedNumber
  of_leaf n = placed_in_leaf (valence_of catalog) numbers nodes n

  leaves-right : (ns : List ℕ) → EachFolder (HasValence catalog) (flat_map (pairs cat_keys nodes) ns) → Each IsCounted (flat_map of_leaf ns)
  leaves-right [] h = tt
  leaves-right (n ∷ ns) h =
      let P : Record → Type 0 = λ r. IsTrue (is_dir r.1) → HasValence catalog r in
      each-append IsCounted (of_leaf n) (flat_map of_leaf ns)
      (valences-right catalog (record_start numbers nodes n) 0 (records_in nodes n) (each-left P (pairs cat_keys nodes n) (flat_map (pairs cat_keys nodes) ns) h))
      (leaves-right ns (each-right P (pairs cat_keys nodes n) (flat_map (pairs cat_keys nodes) ns) h))

header-right : {K : Type 0} (g : Ghosts K) (records free : FixPlace) (numbers : List ℕ) (nodes : Store) → HasCounts g nodes → Each IsCounted (placed_in_header g records free numbers nodes)
unfolding placed_in_header
header-right g records free numbers nodes h = (h.records, (h.free, tt))

module _ (total : ℕ) (blocks : Blocks) (h : AreBlocksSound total blocks) where
  mdb-right : Each IsCounted (placed_in_mdb blocks (mdb_in blocks) (catalog_in blocks))
  unfolding placed_in_mdb
  mdb-right = (h.counts.root_files, (h.space.counted, (h.counts.root_folders, (h.counts.files, (h.counts.folders, tt)))))

  valences-sound : (numbers : List ℕ) → Each IsCounted (placed_valences (valence_of (catalog_in blocks)) numbers (catalog_nodes blocks))
  unfolding placed_valences catalog_in
  valences-sound numbers = leaves-right (catalog_in blocks) numbers (catalog_nodes blocks) (leaves cat_keys (catalog_nodes blocks)) h.valences

  numbers-right : Each IsCounted (placed_in blocks)
  unfolding placed_in
  numbers-right =
      let first = block_numbers (mdb_in blocks) (mdb_in blocks).extents_file in
      let second = block_numbers (mdb_in blocks) (catalog_extents blocks) in
      each-append IsCounted (placed_in_mdb blocks (mdb_in blocks) (catalog_in blocks)) _ mdb-right
      (each-append IsCounted (placed_in_header ext_keys ExtentsRecords ExtentsFree first (extents_nodes blocks)) _
      (header-right ext_keys ExtentsRecords ExtentsFree first (extents_nodes blocks) h.extents.shape.counts)
      (each-append IsCounted (placed_in_header cat_keys CatalogRecords CatalogFree second (catalog_nodes blocks)) _
      (header-right cat_keys CatalogRecords CatalogFree second (catalog_nodes blocks) h.catalog.shape.counts)
      (valences-sound second)))

same-either : {X : Type 0} (b : Bool) (x : X) → cond b x x ≡ x
same-either true x = refl
same-either false x = refl

pub keeps-sound : RepairKeepsSoundImages
unfolding repair wrong_in
keeps-sound image sound =
    ap (λ (ns : List PlacedNumber). with_numbers (cond (is_mendable image) ns []) image) (none-wrong (placed_in (block_at image)) (numbers-right (block_count image) (block_at image) sound.blocks))
    ∙ ap (λ (ns : List PlacedNumber). with_numbers ns image) (same-either (is_mendable image) [])

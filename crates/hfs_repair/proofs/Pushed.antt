-- Numbers that are added one behind the other, where they are wrong.
use Rattle.std.proofs.Common.{◌≡◌, ℕ, suc, ◌+◌, ◌-◌, ◌*◌, ◌<◌, Bool, true, false, List, [], ◌∷◌, ◌++◌, length, filter, get_or, drop, refl, sym, ap, ◌∙◌, arith, append_assoc, cond}
use Rattle.std.specs.List.{flat_map}
use Rattle.std.proofs.lemmas.List.{length-map}
use Rattle.std.proofs.lemmas.List.Elements.{filter-append}
use Rattle.std.specs.Prelude.{count_by}
use Rattle.hfs_fields.specs.declared.mdb.Mdb.{Mdb}
use Rattle.hfs_fields.specs.Numbers.{number_at}
use Rattle.hfs_fields.specs.Keys.{cat_body_of}
use Rattle.hfs_fields.specs.Records.{is_dir, is_file}
use Rattle.hfs_btree.specs.Node.{offset_of}
use Rattle.hfs_blocks.specs.declared.run.Run.{Run}
use Rattle.hfs_blocks.specs.Blocks.{run_of, nodes_in}
use Rattle.hfs_btree.specs.declared.key.Key.{Ghosts}
use Rattle.hfs_btree.specs.Tree.{Store}
use Rattle.hfs_space.specs.Bitmap.{clear_count}
use Rattle.hfs_catalog.specs.Records.{Catalog}
use Rattle.hfs_catalog.specs.Sound.{counts_of, is_file_in, is_folder_in}
use Rattle.hfs_repair.proofs.PutSteps.{drop-at}
use Rattle.hfs_repair.specs.declared.fixed.FixPlace.{FixPlace}
use Rattle.hfs_repair.specs.declared.right_counts.RightCounts.{RightCounts}
use Rattle.hfs_repair.specs.Fields.{PlacedNumber}
use Rattle.hfs_repair.specs.Opened.{AreRightCounts}
use Rattle.hfs_repair.specs.declared.fixed.FixPlace.TheVariants.{RootFiles, FreeBlocks, RootFolders, Files, Folders}
use Rattle.hfs_repair.specs.Placed.{is_wrong, two_bytes, four_bytes, record_start, placed_in_mdb, placed_in_header, placed_valence, placed_from}

pub chained : {X : Type 0} (old one two a b both : List X) → two ≡ one ++ b → one ≡ old ++ a → both ≡ a ++ b → two ≡ old ++ both
chained old one two a b both second first joined =
    second ∙ ap (λ (xs : List _). xs ++ b) first ∙ append_assoc old a b ∙ ap (λ (xs : List _). old ++ xs) (sym joined)

-- ---- a header record

pub some-block : (blocks : ℕ → List ℕ) (runs : List Run) → 0 < length (nodes_in blocks runs) → 0 < length (flat_map run_of runs)
unfolding nodes_in
some-block blocks runs some = let same = length-map (flat_map run_of runs) blocks in omega arith

pub record-start : (numbers : List ℕ) (nodes : Store) (n k block offset : ℕ) (bytes : List ℕ) → block ≡ get_or numbers n 0 → bytes ≡ get_or nodes n [] → offset ≡ number_at (510 - 2 * k) 2 bytes
    → 512 * block + offset ≡ record_start numbers nodes n k
unfolding offset_of
record-start numbers nodes n k block offset bytes e f h = λ i. 512 * e i + (h ∙ ap (λ (bs : List ℕ). number_at (510 - 2 * k) 2 bs) f) i

module _ {K : Type 0} (g : Ghosts K) (size : ℕ) (numbers : List ℕ) (nodes : Store) (right : RightCounts) (h : AreRightCounts g size nodes right) where
  pub header-numbers : (records free : FixPlace) (start : ℕ) → start ≡ record_start numbers nodes 0 0
      → filter is_wrong (placed_in_header g records free numbers nodes)
      ≡ filter is_wrong (four_bytes records right.header.records right.records (start + 6) ∷ []) ++ filter is_wrong (four_bytes free right.header.free_nodes right.free_nodes (start + 26) ∷ [])
  unfolding placed_in_header
  header-numbers records free start e =
      sym (λ i. filter is_wrong (four_bytes records (h.header i).records (h.records i) (e i + 6) ∷ four_bytes free (h.header i).free_nodes (h.free i) (e i + 26) ∷ []))
      ∙ filter-append is_wrong (four_bytes records right.header.records right.records (start + 6) ∷ []) (four_bytes free right.header.free_nodes right.free_nodes (start + 26) ∷ [])

-- ---- a folder's record

pick : (b : Bool) (p : PlacedNumber) (xs : List PlacedNumber) → filter is_wrong (cond b (p ∷ xs) xs) ≡ filter is_wrong (cond b (p ∷ []) []) ++ filter is_wrong xs
pick true p xs = filter-append is_wrong (p ∷ []) xs
pick false p xs = refl

pub one-valence : (children start : ℕ → ℕ) (k : ℕ) (entry : List ℕ) (rest : List (List ℕ))
    → filter is_wrong (placed_from children start k (entry ∷ rest)) ≡ filter is_wrong (placed_from children (λ _. start k) 0 (entry ∷ [])) ++ filter is_wrong (placed_from children start (suc k) rest)
one-valence children start k entry rest = pick (is_dir (cat_body_of entry)) (placed_valence children (start k) entry) (placed_from children start (suc k) rest)

-- ---- five numbers

pub five : (a b c d e : PlacedNumber) → filter is_wrong (a ∷ b ∷ c ∷ d ∷ e ∷ [])
    ≡ filter is_wrong (a ∷ []) ++ (filter is_wrong (b ∷ []) ++ (filter is_wrong (c ∷ []) ++ (filter is_wrong (d ∷ []) ++ filter is_wrong (e ∷ []))))
five a b c d e =
    filter-append is_wrong (a ∷ []) (b ∷ c ∷ d ∷ e ∷ [])
    ∙ ap (λ (xs : List PlacedNumber). filter is_wrong (a ∷ []) ++ xs) (filter-append is_wrong (b ∷ []) (c ∷ d ∷ e ∷ []))
    ∙ ap (λ (xs : List PlacedNumber). filter is_wrong (a ∷ []) ++ (filter is_wrong (b ∷ []) ++ xs)) (filter-append is_wrong (c ∷ []) (d ∷ e ∷ []))
    ∙ ap (λ (xs : List PlacedNumber). filter is_wrong (a ∷ []) ++ (filter is_wrong (b ∷ []) ++ (filter is_wrong (c ∷ []) ++ xs))) (filter-append is_wrong (d ∷ []) (e ∷ []))

pub pushed-five : (w0 w1 w2 w3 w4 w5 a b c d e : List PlacedNumber) → w1 ≡ w0 ++ a → w2 ≡ w1 ++ b → w3 ≡ w2 ++ c → w4 ≡ w3 ++ d → w5 ≡ w4 ++ e → w5 ≡ w0 ++ (a ++ (b ++ (c ++ (d ++ e))))
pushed-five w0 w1 w2 w3 w4 w5 a b c d e p q r s t =
    chained w0 w1 w5 a (b ++ (c ++ (d ++ e))) (a ++ (b ++ (c ++ (d ++ e))))
    (chained w1 w2 w5 b (c ++ (d ++ e)) (b ++ (c ++ (d ++ e))) (chained w2 w3 w5 c (d ++ e) (c ++ (d ++ e)) (chained w3 w4 w5 d e (d ++ e) t s refl) r refl) q refl) p refl

pub mdb-pushed : (blocks : ℕ → List ℕ) (mdb : Mdb) (catalog : Catalog) (w0 w1 w2 w3 w4 w5 : List PlacedNumber) (root_files free root_folders files folders : ℕ)
    → root_files ≡ count_by (is_file_in 2) catalog → free ≡ clear_count blocks mdb.bitmap_start mdb.allocation_blocks → root_folders ≡ count_by (is_folder_in 2) catalog
    → files ≡ count_by (λ r. is_file r.1) catalog → folders ≡ count_by (λ r. is_dir r.1) catalog - 1
    → w1 ≡ w0 ++ filter is_wrong (two_bytes RootFiles mdb.root_files root_files 1036 ∷ [])
    → w2 ≡ w1 ++ filter is_wrong (two_bytes FreeBlocks mdb.free_blocks free 1058 ∷ [])
    → w3 ≡ w2 ++ filter is_wrong (two_bytes RootFolders mdb.root_folders root_folders 1106 ∷ [])
    → w4 ≡ w3 ++ filter is_wrong (four_bytes Files mdb.files files 1108 ∷ [])
    → w5 ≡ w4 ++ filter is_wrong (four_bytes Folders mdb.folders folders 1112 ∷ [])
    → w5 ≡ w0 ++ filter is_wrong (placed_in_mdb blocks mdb catalog)
unfolding placed_in_mdb counts_of
mdb-pushed blocks mdb catalog w0 w1 w2 w3 w4 w5 root_files free root_folders files folders a b c d e p q r s t =
    pushed-five w0 w1 w2 w3 w4 w5 _ _ _ _ _ p q r s t
    ∙ ap (λ (xs : List PlacedNumber). w0 ++ xs) (
    sym (five (two_bytes RootFiles mdb.root_files root_files 1036) (two_bytes FreeBlocks mdb.free_blocks free 1058) (two_bytes RootFolders mdb.root_folders root_folders 1106)
    (four_bytes Files mdb.files files 1108) (four_bytes Folders mdb.folders folders 1112))
    ∙ (λ i. filter is_wrong (two_bytes RootFiles mdb.root_files (a i) 1036 ∷ two_bytes FreeBlocks mdb.free_blocks (b i) 1058 ∷ two_bytes RootFolders mdb.root_folders (c i) 1106
    ∷ four_bytes Files mdb.files (d i) 1108 ∷ four_bytes Folders mdb.folders (e i) 1112 ∷ []))
    )

pub leaf-step : (children : ℕ → ℕ) (start : ℕ) (bytes : List ℕ) (entries : List (List ℕ)) (i offset : ℕ) (entry : List ℕ) (wrong more all : List PlacedNumber) → offset ≡ number_at (510 - 2 * i) 2 bytes → entry ≡ get_or entries i []
    → i < length entries
    → more ≡ wrong ++ filter is_wrong (placed_from children (λ _. start + offset) 0 (entry ∷ []))
    → wrong ++ filter is_wrong (placed_from children (λ k. start + offset_of bytes k) i (drop i entries)) ≡ all
    → more ++ filter is_wrong (placed_from children (λ k. start + offset_of bytes k) (i + 1) (drop (i + 1) entries)) ≡ all
unfolding offset_of
leaf-step children start bytes entries i offset entry wrong more all at is lt pushed same =
    let next : i + 1 ≡ suc i = omega arith in
    let st : ℕ → ℕ = λ k. start + number_at (510 - 2 * k) 2 bytes in
    let one : List PlacedNumber = filter is_wrong (placed_from children (λ _. start + offset) 0 (entry ∷ [])) in
    let rest : List PlacedNumber = filter is_wrong (placed_from children st (suc i) (drop (suc i) entries)) in
    (λ j. more ++ filter is_wrong (placed_from children st (next j) (drop (next j) entries)))
    ∙ ap (λ (xs : List PlacedNumber). xs ++ rest) pushed ∙ append_assoc wrong one rest
    ∙ (λ j. wrong ++ (filter is_wrong (placed_from children (λ _. start + at j) 0 (is j ∷ [])) ++ rest))
    ∙ ap (λ (xs : List PlacedNumber). wrong ++ xs) (sym (one-valence children st i (get_or entries i []) (drop (suc i) entries)))
    ∙ ap (λ (es : List (List ℕ)). wrong ++ filter is_wrong (placed_from children st i es)) (sym (drop-at entries i [] lt))
    ∙ same

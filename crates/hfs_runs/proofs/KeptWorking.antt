-- What goes out of a run over a copy, laid over the image.
use Rattle.std.proofs.Common.{◌≡◌, ◌≢◌, ◌⊎◌, inl, inr, ⊎_elim, ℕ, ◌+◌, ◌/◌, ◌<◌, Bool, true, List, [], ◌∷◌, ◌++◌, length, Option, Some, None, IsSome, is_some, unwrap_or, refl, sym, ap, subst, ◌∙◌}
use Rattle.hfs_fields.specs.declared.mdb.Mdb.{Mdb}
use Rattle.hfs_fields.specs.Records.{is_file, item_id, file_record_of}
use Rattle.hfs_fields.specs.Each.{Each}
use Rattle.hfs_fields.specs.Members.{In}
use Rattle.hfs_fields.proofs.ElementLemmas.{each-append, each-left, each-right}
use Rattle.hfs_fields.proofs.MemberLemmas.{each_in}
use Rattle.hfs_blocks.specs.Blocks.{block_at, block_count, length-block_at}
use Rattle.hfs_blocks.specs.Layers.{Numbered, changes, AreWithin}
use Rattle.hfs_btree.specs.Sound.{IsOther}
use Rattle.hfs_catalog.specs.Records.{Record, Catalog}
use Rattle.hfs_check.specs.declared.trees.VolumeTrees.{VolumeTrees}
use Rattle.hfs_check.specs.Agree.{AgreesBut, IsBesideAll, changing_blocks}
use Rattle.hfs_check.specs.Parts.{Blocks, catalog_in}
use Rattle.hfs_check.specs.Sound.{IsSound, IsImageLength}
use Rattle.hfs_check.specs.VolumeOf.{volume_of}
use Rattle.hfs_image.specs.Needed.{AgreeOn}
use Rattle.hfs_source.specs.Sparse.{zero_block, IsOf}
use Rattle.hfs_volume.specs.Image.{patched, copy_of}
use Rattle.hfs_volume.proofs.CopyLemmas.{block-copy, length-copy}
use Rattle.hfs_model.specs.Alike.{AreAlike}
use Rattle.hfs_copy.specs.Opened.{IsWorking}
use Rattle.hfs_copy.specs.Working.{AreChangesBut, CarriesOverBut, HasForksOf, IsWorkingCopy, SameForks}
use Rattle.hfs_copy.proofs.LawsProved.{kept_forks_are_alike}
use Rattle.hfs_copy.proofs.Carried as carried
use Rattle.hfs_copy.proofs.Copies.{is-copy, each-image}
use Rattle.hfs_copy.specs.Keeping.{AreKept}
use Rattle.hfs_runs.specs.NamedForks.{AreAmong, file_blocks}
use Rattle.hfs_runs.proofs.ForksOfLines.{same-forks}
use Rattle.hfs_copy.proofs.ChangingBlocks.{changing-each, among-or-other}

-- ---- which blocks calls change

-- none of these is this number
not-in : (n : ℕ) (ns : List ℕ) → Each (IsOther n) ns → In n ns → ⊥
not-in n [] h i = i
not-in n (m ∷ ns) h i = ⊎_elim (λ (same : m ≡ n). h.0 same) (λ (later : In n ns). not-in n ns h.1 later) i

-- what agrees but for some blocks agrees but for more
beside-fewer : (written more : List ℕ) (blocks : Blocks) (n : ℕ) → IsBesideAll (written ++ more) blocks n → IsBesideAll written blocks n
beside-fewer written more blocks n h =
    each-append (IsOther n) written (changing_blocks blocks)
    (each-left (IsOther n) written more (each-left (IsOther n) (written ++ more) (changing_blocks blocks) h))
    (each-right (IsOther n) (written ++ more) (changing_blocks blocks) h)

agrees-more : (written more base image : List ℕ) → AgreesBut written base image → AgreesBut (written ++ more) base image
agrees-more written more base image h = record {
  sound = h.sound;
  len = h.len;
  kept = record {
    mdb = h.kept.mdb;
    bits = h.kept.bits;
    others = λ n beside. h.kept.others n (beside-fewer written more (block_at base) n beside);
    extents = h.kept.extents;
    catalog = h.kept.catalog;
    catalog_file = h.kept.catalog_file;
    stray = h.kept.stray;
  };
}

-- ---- of a copy whose working blocks were read

module _ (read : Numbered) (len count : ℕ) (mdb : Mdb) (trees : VolumeTrees) (is : IsWorking None (len / 512) read count mdb trees) (sound : IsSound (copy_of read len)) where
  abbrev copy : List ℕ
  copy = copy_of read len

  long : length copy ≡ len
  long = length-copy read len is.within

  right : IsImageLength len
  right = subst IsImageLength long sound.len

  blocks-are : block_count copy ≡ len / 512
  blocks-are = ap (λ (n : ℕ). n / 512) long

  module _ (current written among : List ℕ) (kept : Numbered) (makes : patched kept (copy_of read len) ≡ current)
      (agrees : AgreesBut written (copy_of read len) current) (within : Each (λ n. n < block_count (copy_of read len)) among)
      (are : AreKept (block_count (copy_of read len)) among (block_at (copy_of read len)) (block_at current) kept) where
    counts : block_count current ≡ block_count copy
    counts = ap (λ (n : ℕ). n / 512) agrees.len

    inside : AreWithin (changes kept) (block_count copy)
    inside n b found =
        let put = are.are n b found in
        (put.0, ap (λ (block : List ℕ). length block) put.1 ∙ length-block_at current n (subst (λ (c : ℕ). n < c) (sym counts) put.0))

    pub kept-within : AreWithin (changes kept) (len / 512)
    kept-within = subst (AreWithin (changes kept)) blocks-are inside

    module _ (image : List ℕ) (same-long : length image ≡ len) (of : IsOf image read) where
      copy-is : IsWorkingCopy copy image
      copy-is = is-copy read len is.within is.working is.sound right image same-long of

      -- a block that calls change is a working block
      at-changing : Each (λ n. block_at image n ≡ block_at copy n) (changing_blocks (block_at copy))
      at-changing = changing-each (λ n. block_at image n ≡ block_at copy n) (block_count copy) (block_at copy) sound.blocks copy-is.same

      known : (n : ℕ) → IsSome (changes kept n) → Each (IsOther n) (written ++ among) → block_at image n ≡ block_at copy n
      known n some others = ⊎_elim
          (λ (i : In n (changing_blocks (block_at copy))). each_in (λ m. block_at image m ≡ block_at copy m) (changing_blocks (block_at copy)) n at-changing i)
          (λ (beside : Each (IsOther n) (changing_blocks (block_at copy))).
          absurd (not-in n among (each-right (IsOther n) written among others)
          (are.only n some (agrees.kept.others n
          (each-append (IsOther n) written (changing_blocks (block_at copy)) (each-left (IsOther n) written among others) beside)))))
          (among-or-other n (changing_blocks (block_at copy)))

      changes-are : AreChangesBut (written ++ among) kept copy image
      changes-are = record {
        within = inside;
        known = known;
        agrees = subst (λ (bytes : List ℕ). AgreesBut (written ++ among) copy bytes) (sym makes) (agrees-more written among copy current agrees);
      }

      pub carries : CarriesOverBut (written ++ among) kept copy image
      carries = carried.carries-over copy image copy-is (written ++ among) kept changes-are

      abbrev new : List ℕ
      new = patched kept copy

      abbrev saved : List ℕ
      saved = patched kept image

      -- a block of these forks is in the image what the run made of it
      laid-is : (n : ℕ) → In n among → block_at saved n ≡ block_at new n
      laid-is n i = carried.block-after copy image copy-is (written ++ among) kept changes-are n (by (changes kept n) refl)
        where
          below : n < block_count copy
          below = each_in (λ m. m < block_count copy) among n within i

          unread : changes read n ≡ None → block_at copy n ≡ zero_block
          unread e = block-copy read len is.within n (subst (λ (c : ℕ). n < c) blocks-are below) ∙ ap (λ (o : Option (List ℕ)). unwrap_or o zero_block) e

          was-read : (o : Option (List ℕ)) → changes read n ≡ o → changes kept n ≡ None → block_at image n ≡ block_at copy n
          was-read None e none =
              absurd (each_in (λ m. changes kept m ≡ None → block_at current m ≢ zero_block) among n are.zeros i none (are.all n below none ∙ unread e))
          was-read (Some b) e none = (each-image read len is.within image of (n ∷ []) (ap is_some e, tt)).0

          by : (o : Option (List ℕ)) → changes kept n ≡ o → IsSome (changes kept n) ⊎ (block_at image n ≡ block_at copy n)
          by None e = inr (was-read (changes read n) refl e)
          by (Some b) e = inl (ap is_some e)

      each-laid : (ns : List ℕ) → AreAmong ns among → AgreeOn ns (block_at new) (block_at saved)
      each-laid [] h = tt
      each-laid (n ∷ ns) h = (laid-is n h.0, each-laid ns h.1)

      module _ (keep : ℕ → Bool)
          (has : (r : Record) → In r (catalog_in (block_at current)) → is_file r.1 ≡ true → keep (item_id r.1) ≡ true
          → AreAmong (file_blocks (block_at current) (file_record_of r.1)) among) where
        has-new : (r : Record) → In r (catalog_in (block_at new)) → is_file r.1 ≡ true → keep (item_id r.1) ≡ true
            → AreAmong (file_blocks (block_at new) (file_record_of r.1)) among
        has-new r there file kept_one =
            subst (λ (bytes : List ℕ). AreAmong (file_blocks (block_at bytes) (file_record_of r.1)) among) (sym makes)
            (has r (subst (λ (bytes : List ℕ). In r (catalog_in (block_at bytes))) makes there) file kept_one)

        file-same : (r : Record) → In r (catalog_in (block_at new)) → is_file r.1 ≡ true → keep (item_id r.1) ≡ true
            → SameForks (block_at new) (block_at saved) (file_record_of r.1)
        file-same r there file kept_one =
            same-forks (block_at new) (block_at saved) (file_record_of r.1)
            (each-laid (file_blocks (block_at new) (file_record_of r.1)) (has-new r there file kept_one))

        files-same : (rs : Catalog) → ((r : Record) → In r rs → In r (catalog_in (block_at new))) → Each (HasForksOf keep (block_at new) (block_at saved)) rs
        files-same [] inside_it = tt
        files-same (r ∷ rs) inside_it = (λ file kept_one. file-same r (inside_it r (inl refl)) file kept_one, files-same rs (λ q i. inside_it q (inr i)))

        pub laid-alike : AreAlike keep (volume_of (patched kept (copy_of read len))) (volume_of (patched kept image))
        laid-alike = kept_forks_are_alike keep new saved carries.copied (files-same (catalog_in (block_at new)) (λ r i. i))

-- Of a sound volume of which one fork was changed, every other fork has its bytes.
use Rattle.std.proofs.Common.{◌≡◌, inl, inr, ⊎_elim, ℕ, ◌+◌, ◌<◌, ◌≤◌, Bool, true, ◌||◌, List, ◌∷◌, ◌++◌, sym, ◌∙◌, ap, subst, arith, Some}
use Rattle.std.specs.List.{sum_by}
use Rattle.std.proofs.lemmas.Bool.{true≢false, cases_lt}
use Rattle.std.proofs.lemmas.List.Sums.{sum_by-append, sum_by-cons}
use Rattle.hfs_fields.specs.declared.mdb.Mdb.{Mdb}
use Rattle.hfs_fields.specs.declared.extent.Extent.{Extent}
use Rattle.hfs_fields.specs.declared.file_record.FileRecord.{FileRecord}
use Rattle.hfs_fields.specs.Records.{is_file, item_id, file_record_of}
use Rattle.hfs_fields.specs.Each.{Each}
use Rattle.hfs_fields.specs.Members.{In}
use Rattle.hfs_fields.proofs.MemberLemmas.{each_in}
use Rattle.hfs_fields.proofs.ElementLemmas.{each-append}
use Rattle.hfs_fields.proofs.PartLemmas.{in_parts}
use Rattle.hfs_btree.specs.Sound.{IsOther}
use Rattle.hfs_space.proofs.OwnedLemmas.{blocks-append}
use Rattle.hfs_space.specs.Bitmap.{is_used}
use Rattle.hfs_space.specs.Extents.{Overflow, extent_blocks}
use Rattle.hfs_space.specs.Forks.{blocks_each, fork_bytes}
use Rattle.hfs_space.specs.ForkLaws.{block_numbers}
use Rattle.hfs_space.specs.Owners.{Fork as ForkOf, extents_in, owners}
use Rattle.hfs_model.specs.declared.call.Fork.{Fork}
use Rattle.hfs_model.specs.declared.call.Fork.TheVariants.{DataFork, ResFork}
use Rattle.hfs_catalog.specs.Records.{Record, item_with}
use Rattle.hfs_catalog.proofs.Held.{with_id}
use Rattle.hfs_check.specs.Parts.{Blocks, mdb_in, overflow_in, catalog_extents, catalog_in, owned_in}
use Rattle.hfs_check.specs.Sound.{AreBlocksSound}
use Rattle.hfs_check.specs.VolumeOf.{bytes_in, contents_in}
use Rattle.hfs_check.specs.Agree.{changing_blocks}
use Rattle.hfs_check.proofs.LawTypes.{CatalogIsSound}
use Rattle.hfs_record_edits.proofs.CatalogEdits.{part_of_sum}
use Rattle.hfs_record_edits.proofs.ChangesLaws.{KeepsOthers}
use Rattle.hfs_record_edits.proofs.DeletedFrames.{once, record_owns}
use Rattle.hfs_record_edits.proofs.Frames.{block_in, beside_file, same_bytes}
use Rattle.hfs_record_edits.proofs.FromLawful.{each_of}
use Rattle.hfs_record_edits.proofs.Made.{file_id}
use Rattle.hfs_record_edits.proofs.Space.{record_has, forks_have, owned_each}
use Rattle.hfs_call_patches.specs.Edits.{byte_of, extents_of, blocks_of, bytes_of, ChangesFork}
use Rattle.hfs_call_patches.proofs.Files.{with_content}
use Rattle.hfs_call_patches.proofs.Beside.{fork_in, other_fork, both_have, file_forks}
use Rattle.hfs_call_patches.proofs.BesideTrees.{is_beside}
use Rattle.hfs_call_patches.proofs.Overflows.{same_extents}
use Rattle.hfs_call_patches.proofs.Changed as changed

-- the bytes of a fork, as the records have it
abbrev bytes_with : Blocks → ForkOf → List ℕ
bytes_with volume x = fork_bytes volume (mdb_in volume) (extents_in (overflow_in volume) x) x.len

both_contents : (old new : Blocks) (fork : Fork) (f g : FileRecord) (bytes : List ℕ) → bytes_of new fork g ≡ bytes → bytes_with new (fork_in (other_fork fork) g) ≡ bytes_with old (fork_in (other_fork fork) f)
    → contents_in new g ≡ with_content fork bytes (contents_in old f)
unfolding contents_in bytes_in
both_contents old new DataFork f g bytes has other = λ i. (has i, other i)
both_contents old new ResFork f g bytes has other = λ i. (other i, has i)

module _ (catalogs : CatalogIsSound) (total id : ℕ) (fork : Fork) (r : Record) (bytes : List ℕ) (now : ℕ) (written : List ℕ) (old new : Blocks) (h : AreBlocksSound total old)
    (was : item_with (catalog_in old) id ≡ Some r) (d : ChangesFork fork r bytes now written old new) where
  abbrev mdb : Mdb
  mdb = mdb_in old

  abbrev m : Mdb
  m = record mdb { modified = now; free_blocks = d.volume.free }

  abbrev f : FileRecord
  f = file_record_of r.1

  abbrev g : FileRecord
  g = d.file

  abbrev o : Overflow
  o = overflow_in old

  abbrev p : Overflow
  p = overflow_in new

  -- the extents of the fork and of both trees' files
  abbrev touched : List Extent
  touched = extents_of new fork g ++ (catalog_extents old ++ mdb.extents_file)

  touched_parts : (a : ℕ) → owners (extent_blocks touched) a ≡ owners (blocks_of new fork g) a + (owners (extent_blocks (catalog_extents old)) a + owners (extent_blocks mdb.extents_file) a)
  touched_parts a = omega (arith, blocks-append (extents_of new fork g) (catalog_extents old ++ mdb.extents_file) a, blocks-append (catalog_extents old) mdb.extents_file a)

  -- ---- the logical blocks of other allocation blocks

  beside : (a j : ℕ) → j < blocks_each mdb → owners (extent_blocks touched) a ≡ 0 → new (block_in mdb a j) ≡ old (block_in mdb a j)
  beside a j low none =
      let parts = touched_parts a in
      let n = block_in mdb a j in
      let own : Each (IsOther n) (block_numbers mdb (extents_of new fork g)) = beside_file mdb (extents_of new fork g) a j low (omega (arith, parts, none)) in
      let first : Each (IsOther n) written = each_of (IsOther n) written (λ w there. each_in (IsOther n) (block_numbers mdb (extents_of new fork g)) w own (each_in (λ k. In k (block_numbers mdb (extents_of new fork g))) written w d.own there)) in
      d.volume.others n (each-append (IsOther n) written (changing_blocks old) first (is_beside total old h a j low (omega (arith, parts, none)) (omega (arith, parts, none))))

  -- ---- forks

  pub with_same : (x : ForkOf) → (x.file ≡ g.id → x.fork ≡ byte_of fork → ⊥) → ((a : ℕ) → 0 < owners (extent_blocks (extents_in o x)) a → owners (extent_blocks touched) a ≡ 0) → bytes_with new x ≡ bytes_with old x
  unfolding fork_bytes
  with_same x away apart =
      (λ i. fork_bytes new (d.volume.mdb i) (extents_in p x) x.len)
      ∙ (λ i. fork_bytes new mdb (same_extents g.id (byte_of fork) o p (changed.keeps catalogs total id fork r bytes now written old new h was d) x away i) x.len)
      ∙ same_bytes old new mdb touched beside (extents_in o x) apart x.len

  -- a block that comes was nobody's
  pub none_come : (a : ℕ) → 0 < owners (owned_in old) a → owners d.come a ≡ 0
  none_come a some = elim (cases_lt 0 (owners d.come a)) [
    | inl came ↦ absurd (true≢false (sym (owned_each (λ b. is_used old mdb.bitmap_start b ≡ true) (owned_in old) h.space.marked a some) ∙ d.moves.free a came))
    | inr none ↦ omega (arith, none)
  ]

  is_apart : (a n : ℕ) → 0 < n → n + (owners (blocks_of old fork f) a + (owners (extent_blocks (catalog_extents old)) a + owners (extent_blocks mdb.extents_file) a)) ≤ 1 → n ≤ owners (owned_in old) a → owners (extent_blocks touched) a ≡ 0
  is_apart a n some alone owns =
      let none = none_come a (omega (arith, some, owns)) in
      omega (arith, some, alone, none, touched_parts a, changed.moved catalogs total id fork r bytes now written old new h was d a, changed.moved_new catalogs total id fork r bytes now written old new h was d a)

  own_there : In r (catalog_in old)
  own_there = (with_id (catalog_in old) id r was).0

  r_has : (a : ℕ) → record_has mdb o a r ≡ owners (blocks_of old fork f) a + owners (extent_blocks (extents_in o (fork_in (other_fork fork) f))) a
  r_has a = ap (forks_have mdb o a) (file_forks r d.was) ∙ both_have mdb o a fork f

  -- the other fork of the file
  other_apart : (a : ℕ) → 0 < owners (extent_blocks (extents_in o (fork_in (other_fork fork) f))) a → owners (extent_blocks touched) a ≡ 0
  other_apart a some =
      let has = r_has a in
      let alone = once total old h a in
      let part = part_of_sum (record_has mdb o a) (catalog_in old) r own_there in
      let owns = record_owns total old h r own_there a in
      is_apart a (owners (extent_blocks (extents_in o (fork_in (other_fork fork) f))) a) some (omega (arith, has, alone, part)) (omega (arith, has, owns))

  -- two records have no block in common
  both_part : (x : Record) → In x (catalog_in old) → (r ≡ x → ⊥) → (a : ℕ) → record_has mdb o a x + record_has mdb o a r ≤ sum_by (record_has mdb o a) (catalog_in old)
  both_part x there apart a =
      let swap = changed.swap catalogs total id fork r bytes now written old new h was d in
      let has = record_has mdb o a in
      let split = ap (sum_by has) swap.was in
      let parts = sum_by-append has swap.before (r ∷ swap.behind) in
      let more = sum_by-cons has r swap.behind in
      ⊎_elim
      (λ (front : In x swap.before). let part = part_of_sum has swap.before x front in omega (arith, split, parts, more, part))
      (λ (rest : In x (r ∷ swap.behind)). ⊎_elim
      (λ (here : r ≡ x). absurd (apart here))
      (λ (back : In x swap.behind). let part = part_of_sum has swap.behind x back in omega (arith, split, parts, more, part))
      rest)
      (in_parts x swap.before (r ∷ swap.behind) (subst (In x) swap.was there))

  module _ (x : Record) (there : In x (catalog_in old)) (is : is_file x.1 ≡ true) (apart : r ≡ x → ⊥) where
    abbrev y : FileRecord
    y = file_record_of x.1

    x_apart : (k : Fork) (a : ℕ) → 0 < owners (extent_blocks (extents_in o (fork_in k y))) a → owners (extent_blocks touched) a ≡ 0
    x_apart k a some =
        let has = ap (forks_have mdb o a) (file_forks x is) ∙ both_have mdb o a k y in
        let had = r_has a in
        let alone = once total old h a in
        let part = both_part x there apart a in
        let owns = record_owns total old h x there a in
        is_apart a (owners (extent_blocks (extents_in o (fork_in k y))) a) some (omega (arith, has, had, alone, part)) (omega (arith, has, owns))

    pub file_stays : (y.id ≡ g.id → ⊥) → contents_in new y ≡ contents_in old y
    unfolding contents_in bytes_in
    file_stays other =
        let one = with_same (fork_in DataFork y) (λ e k. other e) (x_apart DataFork) in
        let two = with_same (fork_in ResFork y) (λ e k. other e) (x_apart ResFork) in
        λ i. (one i, two i)

  pub keeps_others : KeepsOthers id (contents_in old) (contents_in new) (catalog_in old)
  keeps_others k x differs is folder =
      let held = with_id (catalog_in old) k x is in
      let file : is_file x.1 ≡ true = sym (ap (λ (b : Bool). b || is_file x.1) folder) ∙ held.1 in
      let number : (file_record_of x.1).id ≡ k = sym (file_id x.1 folder) ∙ held.2 in
      let own = with_id (catalog_in old) id r was in
      let ids = changed.g_id catalogs total id fork r bytes now written old new h was d ∙ changed.f_id catalogs total id fork r bytes now written old new h was d in
      file_stays x held.0 file
      (λ (same : r ≡ x). differs (sym held.2 ∙ ap (λ (z : Record). item_id z.1) (sym same) ∙ own.2))
      (λ e. differs (sym number ∙ e ∙ ids))

  -- the file's other fork has its bytes, and the one those that it got
  other_stays : bytes_with new (fork_in (other_fork fork) g) ≡ bytes_with old (fork_in (other_fork fork) f)
  other_stays =
      ap (bytes_with new) (changed.other_is catalogs total id fork r bytes now written old new h was d)
      ∙ with_same (fork_in (other_fork fork) f) (changed.other_far catalogs total id fork r bytes now written old new h was d) other_apart

  pub own_contents : contents_in new g ≡ with_content fork bytes (contents_in old f)
  own_contents = both_contents old new fork f g bytes d.has other_stays

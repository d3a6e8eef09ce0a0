-- The file of a name, by what was gathered and by the image.
use Rattle.std.proofs.Common.{◌≡◌, ℕ, ◌/◌, Bool, true, false, cond, List, Option, Some, None, Result, Ok, Err, refl, sym, ap, subst, ◌∙◌}
use Rattle.std.specs.Prelude.{IfOk, IfSome}
use Rattle.hfs_fields.specs.Records.{is_dir, dir_record_of, file_record_of}
use Rattle.hfs_fields.specs.declared.file_record.FileRecord.{FileRecord}
use Rattle.hfs_blocks.specs.Blocks.{block_at, block_count, length-block_at}
use Rattle.hfs_blocks.specs.Layers.{Numbered}
use Rattle.hfs_model.specs.declared.call.Fork.{Fork}
use Rattle.hfs_model.specs.declared.call.Fork.TheVariants.{DataFork, ResFork}
use Rattle.hfs_model.specs.declared.codes.TheConstants.{NOT_FOUND}
use Rattle.hfs_model.specs.declared.reply.Reply.{Reply}
use Rattle.hfs_model.specs.Children.{entries_of}
use Rattle.hfs_model.specs.Replies.{refusal}
use Rattle.hfs_model.specs.Volume.{Entry}
use Rattle.hfs_space.specs.declared.fork_kind.ForkKind.TheVariants.{Data, Resource}
use Rattle.hfs_space.specs.Extents.{fork_extents, fork_byte}
use Rattle.hfs_space.specs.Forks.{fork_bytes}
use Rattle.hfs_space.specs.Owners.{forks_of_file}
use Rattle.hfs_space.specs.Sound.{IsForkSound}
use Rattle.hfs_catalog.specs.Records.{Record, Catalog, has_thread}
use Rattle.hfs_catalog.specs.Items.{Contents, folder_of, file_of, item_of}
use Rattle.hfs_check.proofs.LawTypes.{NoBlocksFault}
use Rattle.hfs_check.specs.Parts.{Blocks, mdb_in, overflow_in, catalog_in}
use Rattle.hfs_check.specs.Sound.{AreBlocksSound}
use Rattle.hfs_check.specs.VolumeOf.{bytes_in, contents_in, volume_of}
use Rattle.hfs_items.proofs.NamedFileLemmas.{answer_of, answer_of-file_named, forks_in}
use Rattle.hfs_items.specs.Queries.{AreEntries}
use Rattle.hfs_items.proofs.QueriesLaws.{RecordsAreEntries}
use Rattle.hfs_items.specs.Told.{file_named, only_file, pick}
use Rattle.hfs_source.specs.Sparse.{sparse, IsOf}
use Rattle.hfs_image.specs.Forks.{fork_of_kind, named_fork, HasWhole, fork_by, AreForksIn, OfForkNamed}
use Rattle.hfs_image.specs.Gathered.{HasNeeded, IsOfKnown}
use Rattle.hfs_image.proofs.GatheredLaws.{GatheredIsEnough}
use Rattle.hfs_image.specs.Known.{OfKnown}
use Rattle.hfs_image.specs.Laws.{HoldSame}
use Rattle.hfs_image.proofs.Listed.{held, entries-are}

-- the forks of a file that is found
pub forks-found : (total : ℕ) (blocks : Blocks) → AreBlocksSound total blocks → (dir : ℕ) (name : List ℕ) (found : Result FileRecord Reply)
    → found ≡ file_named (catalog_in blocks) dir name → IfOk found (λ file. AreForksIn blocks file)
forks-found total blocks sound dir name (Ok file) is = forks_in total blocks sound dir name file (sym is)
forks-found total blocks sound dir name (Err reply) is = tt

-- and either of them
pub data_sound : (blocks : Blocks) (file : FileRecord) → AreForksIn blocks file
    → IsForkSound (mdb_in blocks) (overflow_in blocks) (record { file = file.id; fork = fork_byte Data; len = file.«data».length; first = file.«data».extents })
unfolding forks_of_file
data_sound blocks file h = h.0

pub resource_sound : (blocks : Blocks) (file : FileRecord) → AreForksIn blocks file
    → IsForkSound (mdb_in blocks) (overflow_in blocks) (record { file = file.id; fork = fork_byte Resource; len = file.resource.length; first = file.resource.extents })
unfolding forks_of_file
resource_sound blocks file h = h.1.0

-- what is told of a file, or the reply that refuses it
abbrev fork_found : (FileRecord → List ℕ) → Result FileRecord Reply → Result (List ℕ) Reply
fork_found bytes found = answer_of Err (λ f. Ok (bytes f)) found

module _ (contents : Contents) (catalog : Catalog) (es : List Entry) (h : AreEntries contents catalog es) (fork : Fork) where
  of_item : (r : Record) → fork_found (λ f. pick fork (contents f)) (only_file (Some r)) ≡ fork_of_kind fork (item_of contents catalog r).kind
  unfolding item_of folder_of file_of
  of_item r = elim (is_dir r.1) as (λ (b : Bool). fork_found (λ f. pick fork (contents f)) (cond b (Err (refusal NOT_FOUND)) (Ok (file_record_of r.1)))
      ≡ fork_of_kind fork (cond b (folder_of r.0 (dir_record_of r.1)) (file_of (has_thread catalog (file_record_of r.1).id) (contents (file_record_of r.1)) r.0 (file_record_of r.1))).kind) [
        | true ↦ refl
        | false ↦ elim fork as (λ (f : Fork). ◌≡◌ {A = Result (List ℕ) Reply} (Ok (pick f (contents (file_record_of r.1))))
            (fork_of_kind f (file_of (has_thread catalog (file_record_of r.1).id) (contents (file_record_of r.1)) r.0 (file_record_of r.1)).kind)) [ DataFork ↦ refl | ResFork ↦ refl ]
      ]

  named : (dir : ℕ) (name : List ℕ) → fork_found (λ f. pick fork (contents f)) (file_named catalog dir name) ≡ named_fork es dir name fork
  unfolding named_fork
  named dir name = answer_of-file_named contents catalog es h Err (λ f. Ok (pick fork (contents f))) (fork_of_kind fork) of_item dir name

-- ---- an image whose needed blocks were read

module _ (law : NoBlocksFault) (enough : GatheredIsEnough) (answers : RecordsAreEntries) (bytes : List ℕ) (read : Numbered)
    (needed : HasNeeded (block_count bytes) read) (of : IsOf bytes read) (sound : AreBlocksSound (block_count bytes) (sparse read)) where
  hold : HoldSame (block_count bytes) (sparse read) (block_at bytes)
  hold = held law enough answers bytes read needed of sound

  -- the bytes that are found by those blocks are the fork's
  bytes-same : (file : FileRecord) (fork : Fork) → fork_by read bytes file fork ≡ pick fork (contents_in (block_at bytes) file)
  unfolding contents_in bytes_in
  bytes-same file DataFork = λ i. fork_bytes (block_at bytes) (sym hold.directory i) (fork_extents (sym hold.overflow i) file.id (fork_byte Data) file.«data».extents) file.«data».length
  bytes-same file ResFork = λ i. fork_bytes (block_at bytes) (sym hold.directory i) (fork_extents (sym hold.overflow i) file.id (fork_byte Resource) file.resource.extents) file.resource.length

  module _ (dir : ℕ) (name : List ℕ) (fork : Fork) (found : Result FileRecord Reply) (is : found ≡ file_named (catalog_in (sparse read)) dir name) where
    told : fork_found (λ f. pick fork (contents_in (block_at bytes) f)) found ≡ named_fork (entries_of (volume_of bytes)) dir name fork
    told =
        ap (fork_found (λ f. pick fork (contents_in (block_at bytes) f))) (is ∙ ap (λ (catalog : Catalog). file_named catalog dir name) (sym hold.catalog))
        ∙ named (contents_in (block_at bytes)) (catalog_in (block_at bytes)) (entries_of (volume_of bytes))
        (entries-are law enough answers bytes read needed of sound) fork dir name

-- ---- that may be known

module _ (law : NoBlocksFault) (enough : GatheredIsEnough) (answers : RecordsAreEntries) (len : ℕ) (read : Numbered)
    (needed : HasNeeded (len / 512) read) (sound : AreBlocksSound (len / 512) (sparse read)) (dir : ℕ) (name : List ℕ) (fork : Fork) where
  pub unread-known : (known : Option (List ℕ)) → IsOfKnown known read → (reply : Reply) → Err reply ≡ file_named (catalog_in (sparse read)) dir name
      → OfKnown known len (λ image. named_fork (entries_of (volume_of image)) dir name fork ≡ Err reply)
  unread-known None of reply is = tt
  unread-known (Some bytes) of reply is = λ same.
      sym (told law enough answers bytes read (subst (λ (n : ℕ). HasNeeded (n / 512) read) (sym same) needed) of
      (subst (λ (n : ℕ). AreBlocksSound (n / 512) (sparse read)) (sym same) sound) dir name fork (Err reply) is)

  pub bytes-known : (known now : Option (List ℕ)) → now ≡ known → IsOfKnown known read → (count : ℕ) → count ≡ len / 512 → (file : FileRecord)
      → Ok file ≡ file_named (catalog_in (sparse read)) dir name → (content : List ℕ)
      → IfSome now (λ image. HasWhole count image → content ≡ fork_by read image file fork)
      → OfKnown known len (λ image. named_fork (entries_of (volume_of image)) dir name fork ≡ Ok content)
  bytes-known None now same_image of count whole file is content own = tt
  bytes-known (Some bytes) now same_image of count whole file is content own = λ same.
      let needed' = subst (λ (n : ℕ). HasNeeded (n / 512) read) (sym same) needed in
      let sound' = subst (λ (n : ℕ). AreBlocksSound (n / 512) (sparse read)) (sym same) sound in
      let counted : block_count bytes ≡ count = ap (λ (n : ℕ). n / 512) same ∙ sym whole in
      let content_is : content ≡ fork_by read bytes file fork =
      subst (λ o. IfSome o (λ image. HasWhole count image → content ≡ fork_by read image file fork)) same_image own
      (subst (λ (n : ℕ). HasWhole n bytes) counted (length-block_at bytes)) in
      sym (told law enough answers bytes read needed' of sound' dir name fork (Ok file) is)
      ∙ ap Ok (sym (content_is ∙ bytes-same law enough answers bytes read needed' of sound' file fork))

  -- what holds of the bytes that are found holds of the fork's
  pub fact-known : (known now : Option (List ℕ)) → now ≡ known → IsOfKnown known read → (count : ℕ) → count ≡ len / 512 → (file : FileRecord)
      → Ok file ≡ file_named (catalog_in (sparse read)) dir name → (Fact : List ℕ → Type 0)
      → IfSome now (λ image. HasWhole count image → Fact (fork_by read image file fork)) → OfForkNamed known len dir name fork Fact
  fact-known None now same_image of count whole file is Fact own = tt
  fact-known (Some bytes) now same_image of count whole file is Fact own = λ same.
      let counted : block_count bytes ≡ count = ap (λ (n : ℕ). n / 512) same ∙ sym whole in (
        fork_by read bytes file fork,
        bytes-known (Some bytes) (Some bytes) refl of count whole file is (fork_by read bytes file fork) (λ complete. refl) same,
        subst (λ o. IfSome o (λ image. HasWhole count image → Fact (fork_by read image file fork))) same_image own
            (subst (λ (n : ℕ). HasWhole n bytes) counted (length-block_at bytes)),
      )

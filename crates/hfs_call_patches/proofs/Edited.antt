-- All edits of a call that writes a fork make of a sound volume the one that the call makes.
use Rattle.std.proofs.Common.{◌≡◌, inl, inr, ℕ, ◌+◌, ◌*◌, ◌≤◌, false, ◌||◌, ltb, List, [], length, take, refl, sym, ◌∙◌, ap, subst, arith, Ok}
use Rattle.std.specs.Prelude.{Result, ℤ, max}
use Rattle.std.proofs.lemmas.Bool.{cases_lt, lt-ltb, true≢false}
use Rattle.std.proofs.lemmas.Grind.{div_ceil_times}
use Rattle.std.proofs.lemmas.List.{length-take-le}
use Rattle.hfs_fields.specs.declared.mdb.Mdb.{Mdb}
use Rattle.hfs_fields.specs.declared.extent.Extent.{Extent}
use Rattle.hfs_fields.specs.declared.file_record.FileRecord.{FileRecord}
use Rattle.hfs_fields.specs.Records.{file_record_of}
use Rattle.hfs_fields.specs.Each.{Each}
use Rattle.hfs_fields.specs.Members.{In}
use Rattle.hfs_fields.proofs.ElementLemmas.{each-left, each-right}
use Rattle.hfs_fields.proofs.MemberLemmas.{each_in}
use Rattle.hfs_btree.specs.Sound.{IsOther}
use Rattle.hfs_space.specs.ForkLengths.{all_bytes}
use Rattle.hfs_model.specs.declared.call.Fork.{Fork}
use Rattle.hfs_model.specs.declared.call.Fork.TheVariants.{DataFork, ResFork}
use Rattle.hfs_model.specs.declared.item.Item.{Item}
use Rattle.hfs_model.specs.declared.codes.TheConstants.{END_OF_FILE, PARAMETER}
use Rattle.hfs_model.specs.Volume.{Volume, Entry}
use Rattle.hfs_model.specs.Choices.{and_then}
use Rattle.hfs_model.proofs.Facts.{not_refused}
use Rattle.hfs_model.proofs.KeepsCalls.{same_entry, chained}
use Rattle.hfs_catalog.specs.Records.{Record}
use Rattle.hfs_catalog.specs.Items.{item_of}
use Rattle.hfs_check.specs.Parts.{Blocks, mdb_in, catalog_in}
use Rattle.hfs_check.specs.Sound.{AreBlocksSound}
use Rattle.hfs_check.specs.VolumeOf.{contents_in, volume_in}
use Rattle.hfs_check.specs.Agree.{changing_blocks, IsBeside}
use Rattle.hfs_check.proofs.LawTypes.{CatalogIsSound}
use Rattle.hfs_record_edits.specs.SettingLaws.{IsChoice}
use Rattle.hfs_space.specs.Parts.{with_part, zeros}
use Rattle.hfs_space.proofs.ForkLemmas.{with_part-nothing}
use Rattle.hfs_model.specs.Forks.{blocks, resized, written, fork_bytes}
use Rattle.hfs_model.specs.ForkCalls.{file_to_write, unless_past_end, to_set_eof, to_write_fork}
use Rattle.hfs_model.proofs.ForkLemmas.{length-resized, length-written}
use Rattle.hfs_call_patches.proofs.Assembled.{first_of}
use Rattle.hfs_call_patches.specs.Files.{fork_of, file_with}
use Rattle.hfs_call_patches.specs.Edits.{extents_of, blocks_of, bytes_of, ChangesFork, SetsVolume}
use Rattle.hfs_call_patches.specs.Laws.{ForkEditsAreSetEof, ForkEditsAreWriteFork}
use Rattle.hfs_call_patches.specs.Laid.{AreFull, ChangesAsCallsDo, AreZeros, AreLaid}
use Rattle.hfs_call_patches.specs.CallEdits.{SetsFork, HasLaid, EditsAreSetEof, EditsAreWriteFork, EditsLeaveNoOldByte}
use Rattle.hfs_call_patches.proofs.Beside.{id_same, len_same}
use Rattle.hfs_call_patches.proofs.Bytes.{zeros_resize, laid_write, zeros_reach, zeros_fit, bytes_laid}
use Rattle.hfs_call_patches.proofs.Moves.{HasBlocks, has_blocks}
use Rattle.hfs_call_patches.proofs.Whole.{is_file_bytes}
use Rattle.hfs_call_patches.proofs.Laid.{bytes_by, bytes_were, laid_stays, had_long, has_long, same, front, held, either}

module _ (catalogs : CatalogIsSound) (total : ℕ) (chosen : Result Entry ℤ) (fork : Fork) (r : Record) (len now offset : ℕ) (part wrote : List ℕ) (old new : Blocks) (h : AreBlocksSound total old) (full : AreFull total old)
    (c : IsChoice old chosen r) (s : SetsFork fork r len now offset part wrote old new) where
  abbrev f : FileRecord
  f = file_record_of r.1

  abbrev mdb : Mdb
  mdb = mdb_in old

  abbrev size : ℕ
  size = mdb.allocation_block_size

  abbrev n : ℕ
  n = blocks size len

  abbrev es : List Extent
  es = extents_of new fork s.file

  abbrev was_length : ℕ
  was_length = (fork_of fork f).length

  number : s.file.id ≡ f.id
  number = ap (λ (x : FileRecord). x.id) s.file_is ∙ id_same size fork len s.first now f

  long : (fork_of fork s.file).length ≡ len
  long = ap (λ (x : FileRecord). (fork_of fork x).length) s.file_is ∙ len_same size fork len s.first now f

  moved : HasBlocks fork f s.file n old new
  moved = has_blocks catalogs total c.id fork r n s.first s.file old new h c.was s.was number (ap (λ (x : FileRecord). (fork_of fork x).extents) s.file_is ∙ first_of size fork len s.first now f) s.gets

  abbrev had : List ℕ
  had = all_bytes old mdb (extents_of old fork f)

  abbrev has : List ℕ
  has = all_bytes old mdb es

  room : len ≤ n * size
  room = (let least = h.mdb.least_size in div_ceil_times len size (omega (arith, least))).0

  -- ---- the bytes

  stays : (laid later : Blocks) → ChangesAsCallsDo old laid later → all_bytes later mdb es ≡ all_bytes laid mdb es
  stays = laid_stays catalogs total c.id fork r n s.file old new h full c.was s.was moved

  all_laid : all_bytes new mdb es ≡ with_part offset part (with_part s.from (zeros s.count) has)
  all_laid =
      stays s.lays.laid new s.lays.ends ∙ s.lays.bytes.given
      ∙ ap (with_part offset part) (stays s.lays.cleared s.lays.between s.lays.goes_on ∙ s.lays.zeros.zeros ∙ ap (with_part s.from (zeros s.count)) (stays old s.lays.before s.lays.begins))

  new_bytes : bytes_of new fork s.file ≡ take len (with_part offset part (with_part s.from (zeros s.count) has))
  new_bytes = bytes_by fork s.file new mdb now s.free s.counts.mdb ∙ (λ i. take (long i) (all_laid i))

  old_bytes : bytes_of old fork f ≡ take was_length had
  old_bytes = bytes_were fork f old

  pub old_long : length (bytes_of old fork f) ≡ was_length
  old_long = ap (λ (l : List ℕ). length l) old_bytes ∙ length-take-le was_length had (held catalogs total c.id fork r n s.file old new h full c.was s.was moved)

  zeros_are : AreZeros size was_length (length (blocks_of old fork f)) len n offset (length part) s.from s.count
  zeros_are = s.are_zeros

  pub laid : offset ≤ was_length → offset + length part ≤ len → HasLaid fork f s.file len offset part old new
  laid starts fits =
      let least = h.mdb.least_size in
      let above = (div_ceil_times len size (omega (arith, least))).1 in
      let whole = held catalogs total c.id fork r n s.file old new h full c.was s.was moved in
      let had_is = had_long catalogs total c.id fork r n s.file old new h full c.was s.was moved in
      subst (λ (l : List ℕ). AreLaid was_length (length (blocks_of old fork f) * size) len offset part has l) (sym all_laid)
      (bytes_laid size was_length (length (blocks_of old fork f)) len n offset s.from s.count part has zeros_are room above (omega (arith, whole, had_is))
      (has_long catalogs total c.id fork r n s.file old new h full c.was s.was moved) starts fits)

  -- ---- the volume

  not_written : (k : ℕ) → Each (IsOther k) wrote → (x : ℕ) → In x wrote → x ≡ k → ⊥
  not_written k apart x there = each_in (IsOther k) wrote x apart there

  beside_all : (k : ℕ) → Each (IsOther k) wrote → IsBeside old k → new k ≡ old k
  beside_all k apart beside =
      s.lays.ends k beside
      ∙ s.lays.bytes.beside k (λ i has_byte within is. not_written k apart k (s.are_written.bytes k (record { place = i; within = within; is = is; has = has_byte })) refl)
      ∙ s.lays.goes_on k beside
      ∙ s.lays.zeros.beside k (λ i has_byte within is. not_written k apart k (s.are_written.zeros k (record { place = i; within = within; is = is; has = has_byte })) refl)
      ∙ s.lays.begins k beside

  volume : SetsVolume now wrote old new
  volume = record {
    free = s.free;
    mdb = s.counts.mdb;
    counted = (let freed = s.freed in let clear = moved.clear in omega (arith, freed, clear));
    beside = s.counts.beside;
    others = λ k beside. beside_all k (each-left (IsOther k) wrote (changing_blocks old) beside) (each-right (IsOther k) wrote (changing_blocks old) beside);
  }

  pub changes : (bytes : List ℕ) → length bytes ≡ len → bytes_of new fork s.file ≡ bytes → ChangesFork fork r bytes now wrote old new
  changes bytes count are = record {
    was = s.was;
    first = s.first;
    file = s.file;
    file_is = s.file_is ∙ ap (λ (k : ℕ). file_with size fork k s.first now f) (sym count);
    volume = volume;
    set = s.set;
    extents = moved.extents;
    come = moved.come;
    go = moved.go;
    moves = moved.moves;
    bits = moved.bits;
    exact = moved.exact ∙ ap (blocks size) (sym count);
    has = are;
    own = s.are_written.own;
  }

  -- ---- of each call

  -- where no byte is given
  pub resizes : offset ≡ 0 → part ≡ [] → ChangesFork fork r (resized len (bytes_of old fork f)) now wrote old new
  resizes none nothing =
      let z = zeros_are in
      let begins = z.begins in
      let behind = z.behind in
      let no_bytes = ap (λ (l : List ℕ). length l) nothing in
      let from : s.from ≡ was_length = omega (arith, begins, behind, none, no_bytes) in
      let reach = zeros_reach size was_length (length (blocks_of old fork f)) len n offset (length part) s.from s.count z room in
      let cleared : List ℕ = with_part s.from (zeros s.count) has in
      changes (resized len (bytes_of old fork f)) (length-resized len (bytes_of old fork f))
      (new_bytes
      ∙ ap (take len) (ap (λ (l : List ℕ). with_part offset l cleared) nothing ∙ with_part-nothing offset cleared)
      ∙ ap (λ (k : ℕ). take len (with_part k (zeros s.count) has)) from
      ∙ zeros_resize had has (same catalogs total c.id fork r n s.file old new h full c.was s.was moved) (front catalogs total c.id fork r n s.file old new h full c.was s.was moved) was_length len s.count
      (held catalogs total c.id fork r n s.file old new h full c.was s.was moved) (let e = has_long catalogs total c.id fork r n s.file old new h full c.was s.was moved in omega (arith, e, room))
      (either catalogs total c.id fork r n s.file old new h full c.was s.was moved len room) (omega (arith, reach, from))
      ∙ ap (resized len) (sym old_bytes))

  -- where they begin within the fork, which goes as far as it did or as they do
  pub writes : offset ≤ was_length → len ≡ max was_length (offset + length part) → ChangesFork fork r (written offset part (bytes_of old fork f)) now wrote old new
  writes starts is =
      let z = zeros_are in
      let begins = z.begins in
      let fit = zeros_fit size was_length (length (blocks_of old fork f)) len n offset (length part) s.from s.count z room (omega (arith, begins, is)) in
      let all = has_long catalogs total c.id fork r n s.file old new h full c.was s.was moved in
      let old_is = old_long in
      let low : was_length ≤ same catalogs total c.id fork r n s.file old new h full c.was s.was moved = elim (either catalogs total c.id fork r n s.file old new h full c.was s.was moved len room) [
        | inl w ↦ w
        | inr l ↦ omega (arith, l, is)
      ] in
      changes (written offset part (bytes_of old fork f)) (length-written offset part (bytes_of old fork f) ∙ ap (λ (k : ℕ). max k (offset + length part)) old_is ∙ sym is)
      (new_bytes
      ∙ ap (λ (k : ℕ). take k (with_part offset part (with_part s.from (zeros s.count) has))) is
      ∙ laid_write had has (same catalogs total c.id fork r n s.file old new h full c.was s.was moved) (front catalogs total c.id fork r n s.file old new h full c.was s.was moved) was_length offset s.from s.count part
      (held catalogs total c.id fork r n s.file old new h full c.was s.was moved) low starts z.behind (omega (arith, fit, all)) (omega (arith, room, all, is))
      ∙ ap (written offset part) (sym old_bytes))

-- ---- the calls

-- WriteFork chooses no file whose fork ends before the offset
not_past : (v : Volume) (dir : ℕ) (name : List ℕ) (fork : Fork) (offset : ℕ) (bytes : List ℕ) (e : Entry) → to_write_fork v dir name fork offset bytes ≡ Ok e → offset ≤ length (fork_bytes fork e.1.kind)
unfolding to_write_fork
not_past v dir name fork offset bytes e is =
    let test = not_refused (ltb 65536 (length bytes) || ltb 2147483647 (offset + length bytes)) PARAMETER (and_then (file_to_write v dir name) (unless_past_end fork offset)) e is in
    let step = chained (file_to_write v dir name) (unless_past_end fork offset) e test.1 in
    let within = not_refused (ltb (length (fork_bytes fork step.0.1.kind)) offset) END_OF_FILE (Ok step.0) e step.2 in
    not_below (length (fork_bytes fork e.1.kind)) offset (subst (λ (x : Entry). ltb (length (fork_bytes fork x.1.kind)) offset ≡ false) (same_entry step.0 e within.1) within.0)
  where
    not_below : (a b : ℕ) → ltb a b ≡ false → b ≤ a
    not_below a b off = elim (cases_lt a b) [ inl lt ↦ absurd (true≢false (sym (lt-ltb a b lt) ∙ off)) | inr ge ↦ ge ]

pub edits_are_set_eof : CatalogIsSound → ForkEditsAreSetEof → EditsAreSetEof
edits_are_set_eof catalogs law total dir name fork length now r wrote old new h full c s =
    law total dir name fork length now r wrote old new h c
    (resizes catalogs total (to_set_eof (volume_in old) dir name length) fork r length now 0 [] wrote old new h full c s refl refl)

pub edits_are_write_fork : CatalogIsSound → ForkEditsAreWriteFork → EditsAreWriteFork
edits_are_write_fork catalogs law total dir name fork offset bytes now r wrote old new h full c s =
    let len = max (fork_of fork (file_record_of r.1)).length (offset + length bytes) in
    let chosen = to_write_fork (volume_in old) dir name fork offset bytes in
    let before : Item = item_of (contents_in old) (catalog_in old) r in
    let within : offset ≤ length (fork_bytes fork before.kind) = not_past (volume_in old) dir name fork offset bytes (c.id, before) c.is in
    let kept = ap (λ (l : List ℕ). length l) (is_file_bytes old fork r s.was) in
    let old_is = old_long catalogs total chosen fork r len now offset bytes wrote old new h full c s in
    law total dir name fork offset bytes now r wrote old new h c
    (writes catalogs total chosen fork r len now offset bytes wrote old new h full c s (omega (arith, within, kept, old_is)) refl)

pub edits_leave_no_old_byte : CatalogIsSound → EditsLeaveNoOldByte
edits_leave_no_old_byte catalogs total chosen fork r len now offset part wrote old new h full c starts fits s =
    laid catalogs total chosen fork r len now offset part wrote old new h full c s starts fits

-- What a fork asks that keeps its first blocks and loses the others.
use Rattle.std.proofs.Common.{◌≡◌, inl, inr, ℕ, ◌+◌, ◌-◌, ◌*◌, ◌<◌, ◌≤◌, ◌^◌, Bool, cond, List, [], length, length-append, take, drop, refl, sym, ◌∙◌, ap, subst, arith, None}
use Rattle.std.specs.Prelude.{Result, ℤ, min, max}
use Rattle.std.proofs.lemmas.Bool.{cases_lt, le-ltb}
use Rattle.std.proofs.lemmas.List.{take-append-drop, length-take-le}
use Rattle.std.proofs.lemmas.List.Elements.{All-nil}
use Rattle.hfs_fields.specs.declared.extent.Extent.{Extent}
use Rattle.hfs_fields.specs.declared.mdb.Mdb.{Mdb}
use Rattle.hfs_blocks.specs.declared.run.Run.{Run}
use Rattle.hfs_space.specs.Bitmap.{is_used}
use Rattle.hfs_space.specs.Extents.{block_total, extent_blocks, IsExtentWithin, AreExtentsWithin}
use Rattle.hfs_space.specs.ForkLaws.{block_numbers}
use Rattle.hfs_space.specs.Owners.{owners}
use Rattle.hfs_record_edits.specs.Released.{HasReleased}
use Rattle.hfs_space.proofs.OwnerLemmas.{append}
use Rattle.hfs_space.specs.Choice.{AreFreeOnce}
use Rattle.hfs_model.specs.declared.call.Fork.{Fork}
use Rattle.hfs_model.specs.Volume.{Entry}
use Rattle.hfs_check.specs.Parts.{Blocks, mdb_in}
use Rattle.hfs_space.proofs.ForkLemmas.{with_part-nothing}
use Rattle.hfs_model.specs.Forks.{blocks}
use Rattle.hfs_record_edits.specs.Wants.{blocks_wanted}
use Rattle.hfs_record_edits.specs.Cuts.{cut, surplus}
use Rattle.hfs_record_edits.proofs.CutLemmas.{blocks-cut, blocks-surplus}
use Rattle.hfs_call_patches.specs.Files.{fork_of}
use Rattle.hfs_call_patches.specs.Edits.{extents_of, blocks_of}
use Rattle.hfs_call_patches.specs.Laid.{AreZeros, AreWritten}
use Rattle.hfs_space.proofs.OwnedLemmas.{length-blocks}
use Rattle.hfs_space.specs.ForkLengths.{all_bytes}
use Rattle.hfs_call_patches.specs.Calls.{IsForkVolume, HasPlaces}
use Rattle.hfs_call_patches.specs.Found.{IsFoundFile}
use Rattle.hfs_call_patches.specs.Laying.{LaysBoth}
use Rattle.hfs_call_patches.specs.Wanting.{MeetsWant}
use Rattle.hfs_call_patches.specs.declared.choosing.FoundFile.{FoundFile}
use Rattle.hfs_call_patches.proofs.Edits as edits
use Rattle.hfs_call_patches.proofs.GrownFork as numbers
use Rattle.hfs_call_patches.proofs.Wants as wanting

-- ---- no zeros may be told from anywhere

laid_nothing : (mdb : Mdb) (es : List Extent) (a b offset : ℕ) (part : List ℕ) (old new : Blocks) → LaysBoth mdb es a 0 offset part old new → LaysBoth mdb es b 0 offset part old new
laid_nothing mdb es a b offset part old new lays = record {
  cleared = lays.cleared;
  zeros = record {
    zeros = lays.zeros.zeros ∙ with_part-nothing a (all_bytes old mdb es) ∙ sym (with_part-nothing b (all_bytes old mdb es));
    beside = λ k none. lays.zeros.beside k (λ i has. let some = has.some in absurd (omega (arith, some)));
  };
  bytes = lays.bytes;
}

written_nothing : (ns : List ℕ) (a b offset given : ℕ) (written : List ℕ) → AreWritten ns a 0 offset given written → AreWritten ns b 0 offset given written
written_nothing ns a b offset given written h = record {
  own = h.own;
  zeros = λ k t. let some = t.has.some in absurd (omega (arith, some));
  bytes = h.bytes;
}

-- zeros up to `len`, that begin nowhere behind it
laid_from : (mdb : Mdb) (es : List Extent) (from len offset : ℕ) (part : List ℕ) (old new : Blocks) → LaysBoth mdb es (min from len) (len - min from len) offset part old new → LaysBoth mdb es from (len - from) offset part old new
laid_from mdb es from len offset part old new lays = elim (cases_lt len from) [
  | inl lt ↦
      subst (λ (k : ℕ). LaysBoth mdb es from k offset part old new) (let z : 0 ≡ len - from = omega (arith, lt) in z)
      (laid_nothing mdb es (min from len) from offset part old new (subst (λ (k : ℕ). LaysBoth mdb es (min from len) k offset part old new) (let z : len - min from len ≡ 0 = omega (arith, lt) in z) lays))
  | inr ge ↦ subst (λ (k : ℕ). LaysBoth mdb es k (len - k) offset part old new) (let z : min from len ≡ from = omega (arith, ge) in z) lays
]

written_from : (ns : List ℕ) (from len offset given : ℕ) (written : List ℕ) → AreWritten ns (min from len) (len - min from len) offset given written → AreWritten ns from (len - from) offset given written
written_from ns from len offset given written h = elim (cases_lt len from) [
  | inl lt ↦
      subst (λ (k : ℕ). AreWritten ns from k offset given written) (let z : 0 ≡ len - from = omega (arith, lt) in z)
      (written_nothing ns (min from len) from offset given written (subst (λ (k : ℕ). AreWritten ns (min from len) k offset given written) (let z : len - min from len ≡ 0 = omega (arith, lt) in z) h))
  | inr ge ↦ subst (λ (k : ℕ). AreWritten ns k (len - k) offset given written) (let z : min from len ≡ from = omega (arith, ge) in z) h
]

-- the same where they are told from `m`
pub laid_by : (mdb : Mdb) (es : List Extent) (from len offset : ℕ) (part : List ℕ) (old new : Blocks) (m : ℕ) → m ≡ min from len → LaysBoth mdb es m (len - m) offset part old new → LaysBoth mdb es from (len - from) offset part old new
laid_by mdb es from len offset part old new m e lays = laid_from mdb es from len offset part old new (subst (λ (k : ℕ). LaysBoth mdb es k (len - k) offset part old new) e lays)

pub written_by : (ns : List ℕ) (from len offset given : ℕ) (written : List ℕ) (m : ℕ) → m ≡ min from len → AreWritten ns m (len - m) offset given written → AreWritten ns from (len - from) offset given written
written_by ns from len offset given written m e h = written_from ns from len offset given written (subst (λ (k : ℕ). AreWritten ns k (len - k) offset given written) e h)

-- ---- no pieces

pub free_none : (used : ℕ → Bool) (n : ℕ) → AreFreeOnce used n 0 []
free_none used n = record {
  some = All-nil _;
  within = All-nil (IsExtentWithin n);
  once = λ b. (let none : owners (extent_blocks []) b ≡ 0 = refl in omega (arith, none));
  free = λ b some. absurd (let none : owners (extent_blocks []) b ≡ 0 = refl in omega (arith, none, some));
  enough = refl;
}

-- the first blocks are some of all
pub cut_has : (k : ℕ) (es : List Extent) (a : ℕ) → owners (extent_blocks (cut k es)) a ≤ owners (extent_blocks es) a + owners (extent_blocks []) a
cut_has k es a =
    let first = ap (λ (l : List ℕ). owners l a) (blocks-cut k es) in
    let whole = ap (λ (l : List ℕ). owners l a) (take-append-drop k (extent_blocks es)) in
    let parts = append a (take k (extent_blocks es)) (drop k (extent_blocks es)) in
    omega (arith, first, whole, parts)

-- so many blocks are lost
pub lost_count : (k : ℕ) (es : List Extent) → k ≤ length (extent_blocks es) → block_total (surplus k es) + k ≡ length (extent_blocks es)
lost_count k es few =
    let lost = length-blocks (surplus k es) in
    let rest = ap (λ (l : List ℕ). length l) (blocks-surplus k es) in
    let whole = ap (λ (l : List ℕ). length l) (take-append-drop k (extent_blocks es)) in
    let parts = length-append (take k (extent_blocks es)) (drop k (extent_blocks es)) in
    let first = length-take-le k (extent_blocks es) few in
    omega (arith, lost, rest, whole, parts, first)

-- the blocks of the same extents are free then
pub released_by : (start n : ℕ) (a b : Blocks) (lost es : List Extent) → es ≡ lost → HasReleased start n (extent_blocks lost) a b → HasReleased start n (extent_blocks es) a b
released_by start n a b lost es same h = subst (λ (xs : List Extent). HasReleased start n (extent_blocks xs) a b) (sym same) h

module _ (total : ℕ) (old : Blocks) (mdb : Mdb) (extents catalog : List Run) (v : IsForkVolume total old mdb extents catalog) (f : FoundFile) (fork : Fork) (chosen : Result Entry ℤ) (is : IsFoundFile old chosen f)
    (size len from offset given : ℕ) (size_is : size ≡ mdb.allocation_block_size) (places : HasPlaces fork f.file len from offset given)
    (count : ℕ) (count_is : count ≡ blocks size len) (was : List Extent) (was_is : was ≡ extents_of old fork f.file) (fewer : count < block_total was) where
  abbrev had : ℕ
  had = length (blocks_of old fork f.file)

  pub less : count < had
  less = let same = ap block_total was_is in let long = length-blocks (extents_of old fork f.file) in omega (arith, fewer, same, long)

  has : (a : ℕ) → owners (extent_blocks (cut count was)) a ≤ owners (blocks_of old fork f.file) a + owners (extent_blocks []) a
  has a = let all = cut_has count was a in let same = ap (λ (es : List Extent). owners (extent_blocks es) a) was_is in omega (arith, all, same)

  pub was_within : AreExtentsWithin mdb.allocation_blocks was
  was_within = subst (AreExtentsWithin mdb.allocation_blocks) (sym was_is) (edits.within_of total old mdb extents catalog v f fork chosen is)

  pub cut_within : AreExtentsWithin mdb.allocation_blocks (cut count was)
  cut_within = edits.within_all total old mdb extents catalog v f fork chosen is mdb.allocation_blocks [] (edits.within_of total old mdb extents catalog v f fork chosen is) (All-nil (IsExtentWithin mdb.allocation_blocks)) (cut count was) has

  pub cut_once : (b : ℕ) → owners (extent_blocks (cut count was)) b ≤ 1
  cut_once = edits.once_all total old mdb extents catalog v f fork chosen is 0 [] (free_none (is_used old mdb.bitmap_start) mdb.allocation_blocks) (cut count was) has

  room_is : 512 * length (block_numbers mdb (cut count was)) ≡ count * size
  room_is =
      let same = ap (λ (es : List Extent). extent_blocks es) was_is in
      let long : length (extent_blocks (cut count was)) ≡ count =
      ap (λ (l : List ℕ). length l) (blocks-cut count was)
      ∙ length-take-le count (extent_blocks was) (let all = length-blocks was in omega (arith, fewer, all)) in
      numbers.capacity total old mdb extents catalog v f fork chosen is size len from offset given size_is places (cut count was) ∙ ap (λ (k : ℕ). k * size) long

  pub fits : len ≤ 512 * length (block_numbers mdb (cut count was))
  fits =
      let room = room_is in
      let long = numbers.len_fits total old mdb extents catalog v f fork chosen is size len from offset given size_is places in
      let same = ap (λ (k : ℕ). k * size) count_is in
      omega (arith, room, long, same)

  pub bytes_fit : offset + given ≤ 512 * length (block_numbers mdb (cut count was))
  bytes_fit = let within = places.within in let long = fits in omega (arith, within, long)

  pub zeros_are : AreZeros (mdb_in old).allocation_block_size (fork_of fork f.file).length had len (blocks (mdb_in old).allocation_block_size len) offset given from (len - from)
  zeros_are =
      subst (λ (k : ℕ). AreZeros k (fork_of fork f.file).length had len (blocks k len) offset given from (len - from)) (numbers.size_old total old mdb extents catalog v f fork chosen is size len from offset given size_is places) (record {
        behind = places.behind;
        begins = places.begins;
        ends = ends_by ∙ sym (ap (λ (b : Bool). cond b (blocks size len * size) (max from len)) (le-ltb had (blocks size len) (let lost = less in omega (arith, lost, count_is))));
      })
    where
      ends_by : from + (len - from) ≡ max from len
      ends_by = omega arith

  pub bytes_end : offset + given < 2 ^ 32
  bytes_end =
      let within = places.within in
      let long = numbers.len_fits total old mdb extents catalog v f fork chosen is size len from offset given size_is places in
      let most = edits.few_of total old mdb extents catalog v f fork chosen is in
      let lost = less in
      let bytes = numbers.bytes_small total old mdb extents catalog v f fork chosen is size len from offset given size_is places (omega (arith, most, lost, count_is)) in
      omega (arith, within, long, bytes)

  -- nothing is wanting
  pub meets_less : MeetsWant fork f.file len old None
  meets_less =
      let few : blocks_wanted (mdb_in old).allocation_block_size had len ≡ blocks size len - had = ap (λ (k : ℕ). blocks k len - had) (sym (numbers.size_old total old mdb extents catalog v f fork chosen is size len from offset given size_is places)) in
      wanting.meets_less total old v.sound fork f.file len (blocks_wanted (mdb_in old).allocation_block_size had len) refl (let lost = less in omega (arith, few, lost, count_is))

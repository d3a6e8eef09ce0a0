-- What goes out of a list that was put on a copy.
use Rattle.std.proofs.Common.{◌≡◌, inl, ℕ, ◌/◌, ◌<◌, List, [], ◌∷◌, length, map, Bool, true, false, cond, Option, Some, None, IsSome, is_some, unwrap_or, refl, sym, ap, subst, ◌∙◌}
use Rattle.hfs_fields.specs.Each.{Each}
use Rattle.hfs_fields.proofs.ElementLemmas.{each-mono}
use Rattle.hfs_blocks.specs.Blocks.{block_at, block_count, length-block_at}
use Rattle.hfs_blocks.specs.Layers.{Numbered, changes, over, AreWhole, AreWithin}
use Rattle.hfs_check.specs.Agree.{AgreesBut}
use Rattle.hfs_check.specs.Parts.{mdb_in}
use Rattle.hfs_check.specs.VolumeOf.{volume_of}
use Rattle.hfs_volume.specs.Image.{ImageValue, patched}
use Rattle.hfs_volume.proofs.Laid.{block_at-laid_over}
use Rattle.hfs_copy.specs.Working.{IsWorkingCopy}
use Rattle.hfs_copy.specs.GivenBack.{AreChangedZeros, AreKeptOf}
use Rattle.hfs_copy.specs.Keeping.{AreKept, GainsZeros}
use Rattle.hfs_copy.proofs.KeptBlocks.{kept-are, kept-makes}
use Rattle.hfs_put.specs.ForkRuns.{AreForkRuns}
use Rattle.hfs_put.specs.Laying.{item_of, AreLaid}
use Rattle.hfs_put_plan.specs.declared.items.PutItem.{PutItem}
use Rattle.hfs_put_plan.specs.Laws.{IsWhole}
use Rattle.hfs_put_plan.specs.Put.{Arrival, came}
use Rattle.hfs_put_plan.proofs.OwnForks.{forks_are_theirs}
use Rattle.hfs_put_sources.specs.declared.fork_run.ForkRun.{ForkRun}
use Rattle.hfs_put.specs.Forks.{AreForksLaid}
use Rattle.hfs_put.specs.Saved.{IsDifference, IsPut}
use Rattle.hfs_put.proofs.CameForks.{are-long}
use Rattle.hfs_put.proofs.SavedPuts.{directory-is, saved_is_put}
use Rattle.hfs_put.specs.Beside.{is_in_runs, AreBeside, AreChangedBeside}
use Rattle.hfs_put.specs.LaidRuns.{laid}
use Rattle.hfs_put.specs.PutImages.{AreGoingOut, AreOut, HasDirectory, IsChanged, IsPutOver}
use Rattle.hfs_put.proofs.SavedRuns.{saved-laid}
use Rattle.hfs_put.proofs.WrittenBlocks.{agrees-where, changed-each, changed_of}

-- ---- the blocks that go out

-- the changed blocks that differ are all in which a volume differs
pub going-out : (volume : ImageValue) (changed : Numbered) (runs : List ForkRun) (patch : Numbered) → AgreesBut volume.written volume.base volume.current
    → volume.current ≡ patched changed volume.base → AreWhole (changes changed)
    → AreChangedBeside runs changed (block_at volume.base) (block_count volume.base) patch → AreGoingOut volume runs patch
going-out volume changed runs patch agrees is whole beside =
    let differing = beside.differing in
    let none : GainsZeros (over (changes changed) (block_at volume.base)) [] differing differing = record { all = tt; only = λ n. inl refl } in
    record {
      agrees = agrees;
      changed = differing;
      are = record {
        zeros = [];
        are = record { each = tt; all = tt };
        kept = kept-are changed volume.base volume.current [] differing differing is whole tt beside.all none;
      };
      makes = kept-makes changed volume.base volume.current [] differing differing is whole tt beside.all none;
      beside = beside.beside;
    }

not-none : (block : List ℕ) → None ≡ Some block → ⊥
not-none block e = cc

no-zeros : (volume : ImageValue) (zeros : List ℕ) → AreChangedZeros volume [] zeros → zeros ≡ []
no-zeros volume [] are = refl
no-zeros volume (n ∷ zeros) are = absurd are.each.0.0

module _ (volume : ImageValue) (patch : Numbered) (written : List ℕ) (agrees : AgreesBut written volume.base volume.current) (kept : AreKeptOf volume [] [] patch)
    (makes : patched patch volume.base ≡ volume.current) where
  are-kept : AreKept (block_count volume.base) [] (block_at volume.base) (block_at volume.current) patch
  are-kept = subst (λ (zeros : List ℕ). AreKept (block_count volume.base) zeros (block_at volume.base) (block_at volume.current) patch) (no-zeros volume kept.zeros kept.are) kept.kept

  pub patch-within : AreWithin (changes patch) (block_count volume.base)
  patch-within n block found =
      let put = are-kept.are n block found in
      let below : n < block_count volume.current = subst (λ (len : ℕ). n < len / 512) (sym agrees.len) put.0 in
      (put.0, ap (λ (b : List ℕ). length b) put.1 ∙ length-block_at volume.current n below)

  pub is-same : (n : ℕ) → changes patch n ≡ None → block_at volume.current n ≡ block_at volume.base n
  is-same n none =
      ap (λ (bytes : List ℕ). block_at bytes n) (sym makes)
      ∙ ap (λ (f : ℕ → List ℕ). f n) (block_at-laid_over (changes patch) volume.base patch-within)
      ∙ ap (λ (o : Option (List ℕ)). unwrap_or o (block_at volume.base n)) none

  pub is-changed : (n : ℕ) → IsSome (changes patch n) → IsChanged volume.base volume.current n
  is-changed n some same = are-kept.only n some same

  pub is-new : (n : ℕ) (block : List ℕ) → changes patch n ≡ Some block → block ≡ block_at volume.current n
  is-new n block found = (are-kept.are n block found).1

  pub is-difference : IsDifference patch volume.base volume.current
  is-difference = record { within = patch-within; makes = makes; differ = λ n some same. are-kept.only n some same }

module _ (volume : ImageValue) (patch kept : Numbered) (runs : List ForkRun) (agrees : AgreesBut volume.written volume.base volume.current)
    (of : AreKeptOf volume [] [] patch) (makes : patched patch volume.base ≡ volume.current) (beside : AreBeside runs patch kept) where
  pub kept-within : AreWithin (changes kept) (block_count volume.base)
  kept-within n b found = patch-within volume patch volume.written agrees of makes n b (by (is_in_runs runs n) (sym (beside n) ∙ found))
    where
      by : (t : Bool) → cond t None (changes patch n) ≡ Some b → changes patch n ≡ Some b
      by true e = absurd (none-some e)
        where
          none-some : None ≡ Some b → ⊥
          none-some e = cc
      by false e = e

  pub are-out : AreOut volume.base volume.current runs kept
  are-out = record {
    are = λ n block found. found-in n block (is_in_runs runs n) refl (sym (beside n) ∙ found);
    all = λ n outside none. is-same volume patch volume.written agrees of makes n
        (sym (ap (λ (t : Bool). cond t None (changes patch n)) outside) ∙ sym (beside n) ∙ none);
  }
    where
      found-in : (n : ℕ) (block : List ℕ) (t : Bool) → is_in_runs runs n ≡ t → cond t None (changes patch n) ≡ Some block
          → (is_in_runs runs n ≡ false) × (block ≡ block_at volume.current n) × IsChanged volume.base volume.current n
      found-in n block true inside e = absurd (not-none block e)
      found-in n block false outside e =
          (outside, is-new volume patch volume.written agrees of makes n block e, is-changed volume patch volume.written agrees of makes n (ap is_some e))

-- ---- the whole

module _ (volume : ImageValue) (target now : ℕ) (items : List PutItem) (patch kept : Numbered) (runs : List ForkRun) (ids : List ℕ)
    (calls : AreLaid target now items (volume_of volume.base) (volume_of volume.current) ids) (agrees : AgreesBut volume.written volume.base volume.current)
    (of : AreKeptOf volume [] [] patch) (makes : patched patch volume.base ≡ volume.current)
    (are : AreForkRuns (block_at volume.current) items ids runs) (beside : AreBeside runs patch kept) where
  total-is : block_count volume.base ≡ block_count volume.current
  total-is = ap (λ (n : ℕ). n / 512) (sym agrees.len)

  -- those of the written blocks that are other than they were
  abbrev written : List ℕ
  written = changed_of patch volume.written

  agrees-there : AgreesBut written volume.base volume.current
  agrees-there = agrees-where patch volume.written volume.base volume.current agrees (is-same volume patch volume.written agrees of makes)

  module _ (arrivals : List Arrival) (image : List ℕ) (same : map item_of arrivals ≡ items) (whole : Each IsWhole arrivals) (is : IsWorkingCopy volume.base image) where
    abbrev saved : List ℕ
    saved = patched kept (laid arrivals runs image)

    there : AreForksLaid (came arrivals ids []) (block_at volume.current) (patched patch image) saved
    there = saved-laid (block_count volume.current) (block_at volume.current) agrees.sound.blocks arrivals ids
        (forks_are_theirs (volume_of volume.base) target now arrivals (record { volume = volume_of volume.current; ids = ids }) (calls arrivals same)) runs
        (subst (λ (own : List PutItem). AreForkRuns (block_at volume.current) own ids runs) (sym same) are) image
        (ap (λ (n : ℕ). n / 512) is.len ∙ total-is) patch kept
        (subst (AreWithin (changes patch)) total-is (patch-within volume patch volume.written agrees of makes)) beside
        (are-long target now arrivals ids volume.base volume.current whole agrees.sound (calls arrivals same))

    puts : IsPut target now arrivals ids written image saved
    puts = saved_is_put target now arrivals ids written volume.base volume.current image saved patch is whole
        (record { laid = calls arrivals same; agrees = agrees-there }) (is-difference volume patch volume.written agrees of makes) there

    directory : mdb_in (block_at saved) ≡ mdb_in (block_at volume.current)
    directory = directory-is target now arrivals ids volume.written volume.base volume.current image saved patch is whole
        (record { laid = calls arrivals same; agrees = agrees }) (is-difference volume patch volume.written agrees of makes) there

  pub is-put-over : IsPutOver volume.base volume.current target now items kept runs ids
  is-put-over = record {
    calls = calls;
    out = are-out volume patch kept runs agrees of makes beside;
    written = written;
    agrees = agrees-there;
    changed = each-mono (λ n. IsSome (changes patch n)) (IsChanged volume.base volume.current) written (is-changed volume patch volume.written agrees of makes)
        (changed-each patch volume.written);
    puts = puts;
  }

  pub has-directory : HasDirectory volume.base items kept runs (mdb_in (block_at volume.current))
  has-directory = directory

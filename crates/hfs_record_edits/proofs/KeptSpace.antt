-- The extents and the space of a volume where an item was added, or its record was changed.
use Rattle.std.proofs.Common.{◌≡◌, ℕ, zero, suc, get_or, ◌+◌, ◌<◌, ◌≤◌, Bool, true, false, cond, ◌||◌, List, [], ◌∷◌, ◌++◌, count_by, refl, sym, ◌∙◌, ap, subst, arith, Option, Some, None}
use Rattle.std.specs.List.{flat_map, list_any, All}
use Rattle.std.proofs.lemmas.Bool.{true≢false}
use Rattle.hfs_fields.specs.declared.mdb.Mdb.{Mdb}
use Rattle.hfs_fields.specs.declared.extent.Extent.{Extent}
use Rattle.hfs_fields.specs.Counts.{with_counts}
use Rattle.hfs_fields.specs.Records.{is_file, is_dir, is_thread, file_record_of, no_extents}
use Rattle.hfs_fields.specs.Each.{Each}
use Rattle.hfs_fields.proofs.MemberLemmas.{each_in}
use Rattle.hfs_space.specs.Extents.{Overflow, block_total, extent_blocks, record_extents, fork_extents}
use Rattle.hfs_space.specs.Owners.{Fork, forks_of_file, forks_of, extents_in, owned_blocks, owners}
use Rattle.hfs_space.specs.Sound.{IsForkSound, AreForksSound}
use Rattle.hfs_catalog.specs.Records.{Record, Catalog}
use Rattle.hfs_catalog.specs.Sound.{IsSoundCatalog}
use Rattle.hfs_catalog.proofs.CatalogLawTypes.{ItemsAreRecords}
use Rattle.hfs_record_edits.specs.Swaps.{list_of, one_if}
use Rattle.hfs_record_edits.proofs.SwapLemmas.{passes, number_of, swapped_count, swapped_each, swapped_sum}
use Rattle.hfs_record_edits.proofs.OnceLemmas.{item_or_thread}
use Rattle.hfs_record_edits.proofs.StepsLaws.{IfThere}
use Rattle.hfs_record_edits.proofs.ChangesLaws.{IsItsThread, HasAdded}
use Rattle.hfs_record_edits.proofs.ChangeLemmas.{HasSet}
use Rattle.hfs_catalog.proofs.Held.{with_id}
use Rattle.hfs_record_edits.proofs.Space.{record_has}
use Rattle.hfs_record_edits.proofs.ForkLemmas.{forks_kept, owners_kept}
use Rattle.hfs_record_edits.proofs.NoForks.{no_run}
use Rattle.hfs_record_edits.proofs.Made.{dir-not_file}
use Rattle.hfs_record_edits.proofs.Added.{one_more_count, added_sum}
use Rattle.hfs_model.proofs.Parents.{or_true}

-- only a file has forks
pub no_file_forks : (r : Record) → is_file r.1 ≡ false → forks_of r ≡ []
no_file_forks r e = ap (λ (b : Bool). cond b (forks_of_file (file_record_of r.1)) []) e

-- a thread's record is no item's
no_item : (r : Record) → is_thread r.1 ≡ true → (b : Bool) → (b ≡ true → (is_dir r.1 || is_file r.1) ≡ true) → b ≡ false
no_item r thread true i = absurd (item_or_thread r.1 (i refl) thread)
no_item r thread false i = refl

or_left : (a b : Bool) → a ≡ true → (a || b) ≡ true
or_left true b e = refl
or_left false b e = absurd (true≢false (sym e))

pub thread_no_dir : (r : Record) → is_thread r.1 ≡ true → is_dir r.1 ≡ false
thread_no_dir r thread = no_item r thread (is_dir r.1) (or_left (is_dir r.1) (is_file r.1))

pub thread_no_file : (r : Record) → is_thread r.1 ≡ true → is_file r.1 ≡ false
thread_no_file r thread = no_item r thread (is_file r.1) (or_true (is_dir r.1) (is_file r.1))

-- ---- a record in place of one with the same forks

module _ (counts mdb : Mdb) (overflow : Overflow) (next i : ℕ) (r s : Record) (old new : Catalog) (set : HasSet i r s old new) (sound : AreForksSound mdb overflow old) (same : forks_of s ≡ forks_of r) where
  set_more : (p : Fork → Bool) → count_by (λ x. list_any p (forks_of x)) old ≤ count_by (λ x. list_any p (forks_of x)) new
  set_more p =
      let alike : ◌≡◌ {A = ℕ} (one_if (list_any p (forks_of s))) (one_if (list_any p (forks_of r))) = ap (λ (fs : List Fork). one_if (list_any p fs)) same in
      omega (arith, alike, swapped_count (λ x. list_any p (forks_of x)) (Some r) (Some s) old new set.swap)

  pub set_forks : AreForksSound (with_counts counts mdb) overflow new
  set_forks =
      let own : Each (IsForkSound mdb overflow) (forks_of r) = each_in (λ (x : Record). Each (IsForkSound mdb overflow) (forks_of x)) old r sound.files (with_id old i r set.was).0 in
      forks_kept counts mdb overflow old new set_more
      (swapped_each (λ (x : Record). Each (IsForkSound mdb overflow) (forks_of x)) (Some r) (Some s) old new set.swap sound.files (subst (Each (IsForkSound mdb overflow)) (sym same) own, tt)) sound

  pub set_owners : (b : ℕ) → owners (owned_blocks (with_counts counts mdb) overflow new) b ≡ owners (owned_blocks mdb overflow old) b
  set_owners b =
      let alike : record_has mdb overflow b s ≡ record_has mdb overflow b r = ap (λ (fs : List Fork). owners (extent_blocks (flat_map (extents_in overflow) fs)) b) same in
      owners_kept counts mdb overflow old new b (omega (arith, alike, swapped_sum (record_has mdb overflow b) (Some r) (Some s) old new set.swap))

-- ---- a new item

-- the forks of a new file
abbrev pub new_fork : ℕ → ℕ → Fork
new_fork id fork = record { file = id; fork = fork; len = 0; first = no_extents }

abbrev pub new_forks : ℕ → List Fork
new_forks id = new_fork id 0 ∷ new_fork id 255 ∷ []

none_within : (n k : ℕ) (d : Extent) → k < 3 → 0 < (get_or no_extents k d).count → (get_or no_extents k d).first + (get_or no_extents k d).count ≤ n
none_within n zero d lt some = absurd (omega arith)
none_within n (suc zero) d lt some = absurd (omega arith)
none_within n (suc (suc zero)) d lt some = absurd (omega arith)
none_within n (suc (suc (suc k))) d lt some = absurd (omega arith)

module _ (law : ItemsAreRecords) (counts mdb : Mdb) (overflow : Overflow) (next dir : ℕ) (a : Record) (thread : Option Record) (r s : Record) (old new : Catalog) (least : 16 ≤ next) (h : IsSoundCatalog next old) (added : HasAdded next dir a thread r s old new)
    (sound : AreForksSound mdb overflow old) (forks : is_file a.1 ≡ true → forks_of a ≡ new_forks next) where
  -- nothing goes on with them
  new_extents : (fork : ℕ) → extents_in overflow (new_fork next fork) ≡ no_extents
  unfolding fork_extents
  new_extents fork = ap (λ (rs : Overflow). no_extents ++ flat_map (λ x. record_extents x.1) rs) (no_run mdb overflow next old least h sound fork (block_total no_extents))

  sound_fork : (fork : ℕ) → IsForkSound mdb overflow (new_fork next fork)
  sound_fork fork = record {
    within = subst (λ (es : List Extent). All (λ e. 0 < e.count → e.first + e.count ≤ mdb.allocation_blocks) es) (sym (new_extents fork)) (none_within mdb.allocation_blocks);
    room = omega arith;
  }

  folder_forks : (x : Record) → is_dir x.1 ≡ true → forks_of x ≡ []
  folder_forks x d = no_file_forks x (dir-not_file x.1 d)

  of_folder : forks_of s ≡ forks_of r
  of_folder = folder_forks s (added.edit.alike.dir ∙ added.edit.folder) ∙ sym (folder_forks r added.edit.folder)

  of_thread : (o : Option Record) → IfThere (IsItsThread next a) o → (f : List Fork → ℕ) → f [] ≡ 0 → number_of (λ x. f (forks_of x)) o ≡ 0
  of_thread None i f e = refl
  of_thread (Some t) i f e = ap f (no_file_forks t (thread_no_file t i.of.thread)) ∙ e

  off_thread : (o : Option Record) → IfThere (IsItsThread next a) o → (p : Fork → Bool) → passes (λ x. list_any p (forks_of x)) o ≡ false
  off_thread None i p = refl
  off_thread (Some t) i p = ap (λ (fs : List Fork). list_any p fs) (no_file_forks t (thread_no_file t i.of.thread))

  thread_forks : (o : Option Record) → IfThere (IsItsThread next a) o → Each (λ (x : Record). Each (IsForkSound mdb overflow) (forks_of x)) (list_of o)
  thread_forks None i = tt
  thread_forks (Some t) i = (subst (Each (IsForkSound mdb overflow)) (sym (no_file_forks t (thread_no_file t i.of.thread))) tt, tt)

  item_forks : Each (IsForkSound mdb overflow) (forks_of a)
  item_forks = elim (is_file a.1) as (λ (b : Bool). is_file a.1 ≡ b → Each (IsForkSound mdb overflow) (forks_of a)) [
    | true ↦ λ e. subst (Each (IsForkSound mdb overflow)) (sym (forks e)) (sound_fork 0, (sound_fork 255, tt))
    | false ↦ λ e. subst (Each (IsForkSound mdb overflow)) (sym (no_file_forks a e)) tt
  ] refl

  added_more : (p : Fork → Bool) → count_by (λ x. list_any p (forks_of x)) old ≤ count_by (λ x. list_any p (forks_of x)) new
  added_more p =
      omega (arith, one_more_count law next dir a thread r s old new least h added (λ x. list_any p (forks_of x)) (ap (λ (fs : List Fork). list_any p fs) of_folder) (off_thread thread added.made.thread p))

  pub added_forks : AreForksSound (with_counts counts mdb) overflow new
  added_forks =
      let P = λ (x : Record). Each (IsForkSound mdb overflow) (forks_of x) in
      let one = swapped_each P None (Some a) old added.first added.item_came sound.files (item_forks, tt) in
      let two = swapped_each P None thread added.first added.second added.thread_came one (thread_forks thread added.made.thread) in
      forks_kept counts mdb overflow old new added_more
      (swapped_each P (Some r) (Some s) added.second new added.folder_set two (subst (Each (IsForkSound mdb overflow)) (sym (folder_forks s (added.edit.alike.dir ∙ added.edit.folder))) tt, tt)) sound

  item_has : (b : ℕ) → record_has mdb overflow b a ≡ 0
  item_has b = elim (is_file a.1) as (λ (t : Bool). is_file a.1 ≡ t → record_has mdb overflow b a ≡ 0) [
    | true ↦ λ e.
        ap (λ (fs : List Fork). owners (extent_blocks (flat_map (extents_in overflow) fs)) b) (forks e)
        ∙ (λ i. owners (extent_blocks (new_extents 0 i ++ (new_extents 255 i ++ []))) b)
    | false ↦ λ e. ap (λ (fs : List Fork). owners (extent_blocks (flat_map (extents_in overflow) fs)) b) (no_file_forks a e)
  ] refl

  pub added_owners : (b : ℕ) → owners (owned_blocks (with_counts counts mdb) overflow new) b ≡ owners (owned_blocks mdb overflow old) b
  added_owners b =
      let f = λ (fs : List Fork). owners (extent_blocks (flat_map (extents_in overflow) fs)) b in
      owners_kept counts mdb overflow old new b
      (omega (arith, item_has b, added_sum law next dir a thread r s old new least h added (record_has mdb overflow b) (ap f of_folder) (of_thread thread added.made.thread f refl)))

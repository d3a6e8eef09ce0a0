-- The files beside one file, of one fork of which the record has others.
use Rattle.std.proofs.Common.{◌≡◌, inl, inr, ⊎_elim, ◌⊎◌, ℕ, ◌+◌, ◌*◌, ◌≤◌, Bool, true, false, cond, ◌&&◌, ◌||◌, List, [], ◌∷◌, ◌++◌, count_by, refl, sym, ◌∙◌, ap, subst, arith}
use Rattle.std.specs.List.{flat_map, sum_by}
use Rattle.std.proofs.lemmas.Bool.{eq-eqb}
use Rattle.std.proofs.lemmas.List.Sums.{sum_by-append, sum_by-cons}
use Rattle.hfs_fields.specs.declared.mdb.Mdb.{Mdb}
use Rattle.hfs_fields.specs.declared.extent.Extent.{Extent}
use Rattle.hfs_fields.specs.declared.file_record.FileRecord.{FileRecord}
use Rattle.hfs_fields.specs.Records.{is_dir, is_file, is_item, item_id, file_record_of}
use Rattle.hfs_fields.specs.Each.{Each}
use Rattle.hfs_fields.specs.Members.{In}
use Rattle.hfs_fields.proofs.MemberLemmas.{each_in}
use Rattle.hfs_space.proofs.OwnedLemmas.{blocks-append}
use Rattle.hfs_space.specs.Extents.{Overflow, block_total, extent_blocks, AreExtentsWithin}
use Rattle.hfs_space.specs.Owners.{Fork as ForkOf, forks_of_file, forks_of, extents_in, owners}
use Rattle.hfs_space.specs.Sound.{IsForkSound}
use Rattle.hfs_model.specs.declared.call.Fork.{Fork}
use Rattle.hfs_model.specs.declared.call.Fork.TheVariants.{DataFork, ResFork}
use Rattle.hfs_catalog.proofs.FileRecords.{not-dir}
use Rattle.hfs_catalog.specs.Records.{Record, Catalog, has_id}
use Rattle.hfs_record_edits.proofs.FromLawful.{each_of}
use Rattle.hfs_record_edits.proofs.Made.{file_id}
use Rattle.hfs_record_edits.proofs.OnceLemmas.{counted}
use Rattle.hfs_record_edits.proofs.Space.{record_has, forks_have}
use Rattle.hfs_record_edits.specs.Records.{of_fork}
use Rattle.hfs_call_patches.specs.Files.{fork_of, file_with}
use Rattle.hfs_call_patches.specs.Edits.{byte_of}
use Rattle.hfs_call_patches.proofs.Overflows.{same_extents}

-- ---- the forks of a file's record

abbrev pub fork_in : Fork → FileRecord → ForkOf
fork_in fork f = record { file = f.id; fork = byte_of fork; len = (fork_of fork f).length; first = (fork_of fork f).extents }

abbrev pub other_fork : Fork → Fork
other_fork DataFork = ResFork
other_fork ResFork = DataFork

pub other_byte : (fork : Fork) → byte_of (other_fork fork) ≡ byte_of fork → ⊥
other_byte DataFork e = omega (arith, e)
other_byte ResFork e = omega (arith, e)

-- a fact of both forks
pub each_fork : (P : ForkOf → Type 0) (fork : Fork) (f : FileRecord) → P (fork_in fork f) → P (fork_in (other_fork fork) f) → Each P (forks_of_file f)
unfolding forks_of_file
each_fork P DataFork f a b = (a, (b, tt))
each_fork P ResFork f a b = (b, (a, tt))

pub one_each : (P : ForkOf → Type 0) (fork : Fork) (f : FileRecord) → Each P (forks_of_file f) → P (fork_in fork f)
unfolding forks_of_file
one_each P DataFork f h = h.0
one_each P ResFork f h = h.1.0

pub fork_there : (fork : Fork) (f : FileRecord) → In (fork_in fork f) (forks_of_file f)
unfolding forks_of_file
fork_there DataFork f = inl refl
fork_there ResFork f = inr (inl refl)

-- a fork of a file's record is the one or the other
pub which_fork : (fork : Fork) (f : FileRecord) (x : ForkOf) → In x (forks_of_file f) → (fork_in fork f ≡ x) ⊎ (fork_in (other_fork fork) f ≡ x)
unfolding forks_of_file
which_fork DataFork f x there = ⊎_elim (λ (a : fork_in DataFork f ≡ x). inl a) (λ rest. ⊎_elim (λ (b : fork_in ResFork f ≡ x). inr b) (λ none. absurd none) rest) there
which_fork ResFork f x there = ⊎_elim (λ (a : fork_in DataFork f ≡ x). inr a) (λ rest. ⊎_elim (λ (b : fork_in ResFork f ≡ x). inl b) (λ none. absurd none) rest) there

-- what the forks of a file have
pub both_have : (mdb : Mdb) (overflow : Overflow) (b : ℕ) (fork : Fork) (f : FileRecord)
    → forks_have mdb overflow b (forks_of_file f) ≡ owners (extent_blocks (extents_in overflow (fork_in fork f))) b + owners (extent_blocks (extents_in overflow (fork_in (other_fork fork) f))) b
unfolding forks_of_file
both_have mdb overflow b DataFork f =
    let one = extents_in overflow (fork_in DataFork f) in
    let two = extents_in overflow (fork_in ResFork f) in
    let none : owners (extent_blocks []) b ≡ 0 = refl in
    omega (arith, blocks-append one (two ++ []) b, blocks-append two [] b, none)
both_have mdb overflow b ResFork f =
    let one = extents_in overflow (fork_in DataFork f) in
    let two = extents_in overflow (fork_in ResFork f) in
    let none : owners (extent_blocks []) b ≡ 0 = refl in
    omega (arith, blocks-append one (two ++ []) b, blocks-append two [] b, none)

pub file_forks : (r : Record) → is_file r.1 ≡ true → forks_of r ≡ forks_of_file (file_record_of r.1)
file_forks r e = ap (λ (b : Bool). cond b (forks_of_file (file_record_of r.1)) []) e

-- the record's other fork is as it was
pub other_same : (size : ℕ) (fork : Fork) (len : ℕ) (first : List Extent) (now : ℕ) (f : FileRecord) → fork_in (other_fork fork) (file_with size fork len first now f) ≡ fork_in (other_fork fork) f
other_same size DataFork len first now f = refl
other_same size ResFork len first now f = refl

pub id_same : (size : ℕ) (fork : Fork) (len : ℕ) (first : List Extent) (now : ℕ) (f : FileRecord) → (file_with size fork len first now f).id ≡ f.id
id_same size DataFork len first now f = refl
id_same size ResFork len first now f = refl

pub len_same : (size : ℕ) (fork : Fork) (len : ℕ) (first : List Extent) (now : ℕ) (f : FileRecord) → (fork_of fork (file_with size fork len first now f)).length ≡ len
len_same size DataFork len first now f = refl
len_same size ResFork len first now f = refl

-- ---- other files

-- it is no file of this ID
abbrev pub IsOtherFile : ℕ → Record → Type 0
IsOtherFile id x = is_file x.1 ≡ true → (file_record_of x.1).id ≡ id → ⊥

file-has_id : (id : ℕ) (x : Record) → is_file x.1 ≡ true → (file_record_of x.1).id ≡ id → has_id id x ≡ true
file-has_id id x file same = λ i. is_item_file x file i && eq-eqb (item_id x.1) id (file_id x.1 (not-dir x.1 file) ∙ same) i
  where
    or_true : (b : Bool) → (b || true) ≡ true
    or_true true = refl
    or_true false = refl

    is_item_file : (r : Record) → is_file r.1 ≡ true → is_item r.1 ≡ true
    is_item_file r file = ap (λ (b : Bool). is_dir r.1 || b) file ∙ or_true (is_dir r.1)

module _ (id : ℕ) (r : Record) (before behind : Catalog) (own : has_id id r ≡ true) (once : count_by (has_id id) (before ++ (r ∷ behind)) ≤ 1) where
  none_beside : (count_by (has_id id) before ≡ 0) × (count_by (has_id id) behind ≡ 0)
  none_beside =
      let one : ◌≡◌ {A = ℕ} (cond (has_id id r) 1 0) 1 = ap (λ (b : Bool). cond b 1 0) own in
      let parts = sum_by-append (λ (x : Record). cond (has_id id x) 1 0) before (r ∷ behind) in
      let more = sum_by-cons (λ (x : Record). cond (has_id id x) 1 0) r behind in
      (omega (arith, once, one, parts, more), omega (arith, once, one, parts, more))

  no_one : (xs : Catalog) → count_by (has_id id) xs ≡ 0 → Each (IsOtherFile id) xs
  no_one xs none = each_of (IsOtherFile id) xs (λ x there file same. absurd (let some = counted (has_id id) xs x there (file-has_id id x file same) in omega (arith, some, none)))

  pub others_before : Each (IsOtherFile id) before
  others_before = no_one before none_beside.0

  pub others_behind : Each (IsOtherFile id) behind
  others_behind = no_one behind none_beside.1

-- a fact of each fork of another file, and of no other fork of it
pub other_forks : (P : ForkOf → Type 0) (id : ℕ) (x : Record) → IsOtherFile id x → ((f : ForkOf) → In f (forks_of x) → (f.file ≡ id → ⊥) → P f) → Each P (forks_of x)
unfolding forks_of_file
other_forks P id x apart h = elim (is_file x.1) as (λ (b : Bool). is_file x.1 ≡ b → ((f : ForkOf) → In f (cond b (forks_of_file (file_record_of x.1)) []) → (f.file ≡ id → ⊥) → P f) → Each P (cond b (forks_of_file (file_record_of x.1)) [])) [
  | true ↦ λ e all. (all _ (inl refl) (apart e), (all _ (inr (inl refl)) (apart e), tt))
  | false ↦ λ e all. tt
] refl h

-- ---- in an extents tree where one fork of the file has other records

module _ (id byte : ℕ) (o p : Overflow) (keeps : (f k : ℕ) → (f ≡ id → k ≡ byte → ⊥) → of_fork f k p ≡ of_fork f k o) (mdb m : Mdb) (blocks_same : m.allocation_blocks ≡ mdb.allocation_blocks) (size_same : m.allocation_block_size ≡ mdb.allocation_block_size) where
  abbrev IsFar : ForkOf → Type 0
  IsFar f = f.file ≡ id → f.fork ≡ byte → ⊥

  pub fork_carried : (f : ForkOf) → IsFar f → IsForkSound mdb o f → IsForkSound m p f
  fork_carried f far h = record {
    within = subst (λ (n : ℕ). AreExtentsWithin n (extents_in p f)) (sym blocks_same) (subst (AreExtentsWithin mdb.allocation_blocks) (sym (same_extents id byte o p keeps f far)) h.within);
    room = subst (λ (n : ℕ). f.len ≤ block_total (extents_in p f) * n) (sym size_same) (subst (λ (es : List Extent). f.len ≤ block_total es * mdb.allocation_block_size) (sym (same_extents id byte o p keeps f far)) h.room);
  }

  pub record_carried : (x : Record) → IsOtherFile id x → Each (IsForkSound mdb o) (forks_of x) → Each (IsForkSound m p) (forks_of x)
  record_carried x apart h = other_forks (IsForkSound m p) id x apart (λ f there other. fork_carried f (λ e k. other e) (each_in (IsForkSound mdb o) (forks_of x) f h there))

  have_carried : (b : ℕ) (fs : List ForkOf) → Each (λ (f : ForkOf). extents_in p f ≡ extents_in o f) fs → forks_have m p b fs ≡ forks_have mdb o b fs
  have_carried b fs h = ap (λ (es : List Extent). owners (extent_blocks es) b) (all fs h)
    where
      all : (fs : List ForkOf) → Each (λ (f : ForkOf). extents_in p f ≡ extents_in o f) fs → flat_map (extents_in p) fs ≡ flat_map (extents_in o) fs
      all [] h = refl
      all (f ∷ fs) h = λ i. h.0 i ++ all fs h.1 i

  pub record_has_carried : (b : ℕ) (x : Record) → IsOtherFile id x → record_has m p b x ≡ record_has mdb o b x
  record_has_carried b x apart = have_carried b (forks_of x) (other_forks (λ (f : ForkOf). extents_in p f ≡ extents_in o f) id x apart (λ f there other. same_extents id byte o p keeps f (λ e k. other e)))

  pub sum_carried : (b : ℕ) (xs : Catalog) → Each (IsOtherFile id) xs → sum_by (record_has m p b) xs ≡ sum_by (record_has mdb o b) xs
  sum_carried b [] h = refl
  sum_carried b (x ∷ xs) h = omega (arith, record_has_carried b x h.0, sum_carried b xs h.1, sum_by-cons (record_has m p b) x xs, sum_by-cons (record_has mdb o b) x xs)

-- The forks of a volume from which a file went with its records of the extents tree.
use Rattle.std.proofs.Common.{◌≡◌, inl, inr, ℕ, ◌+◌, ◌≤◌, Bool, true, false, cond, eqb, List, [], ◌∷◌, ◌++◌, filter, refl, sym, ◌∙◌, ap, arith}
use Rattle.std.specs.Prelude.{not}
use Rattle.std.specs.List.{flat_map, sum_by}
use Rattle.std.proofs.lemmas.Bool.{eqb-true, ne_eqb}
use Rattle.std.proofs.lemmas.List.Sums.{sum_by-cons}
use Rattle.hfs_fields.specs.declared.mdb.Mdb.{Mdb}
use Rattle.hfs_fields.specs.declared.key.ExtKey.{ExtKey}
use Rattle.hfs_fields.specs.Counts.{with_counts}
use Rattle.hfs_fields.specs.Records.{is_file, file_record_of}
use Rattle.hfs_fields.specs.Members.{In}
use Rattle.hfs_space.specs.Extents.{Overflow, block_total, extent_blocks, record_extents, goes_on, run_on, fork_extents}
use Rattle.hfs_space.specs.Owners.{Fork, forks_of_file, catalog_fork, extents_in, is_bad_blocks, owned_blocks, owners}
use Rattle.hfs_record_edits.specs.Overflows.{without_file}
use Rattle.hfs_catalog.specs.Records.{Record, Catalog}
use Rattle.hfs_record_edits.proofs.Space.{record_has, others_have, owners_sum}

not_going : (file fork block : ℕ) (r : ExtKey × List ℕ) → (r.0.file ≡ file → ⊥) → goes_on file fork block r ≡ false
not_going file fork block r apart = let off : eqb r.0.file file ≡ false = ne_eqb r.0.file file apart in rw off refl

-- a fork of another file goes on as it did
pub run_kept : (id file fork : ℕ) → (file ≡ id → ⊥) → (rs : Overflow) (block : ℕ) → run_on file fork block (without_file id rs) ≡ run_on file fork block rs
run_kept id file fork apart [] block = refl
run_kept id file fork apart (r ∷ rs) block = elim (eqb r.0.file id) as (λ (b : Bool). eqb r.0.file id ≡ b → run_on file fork block (cond (not b) (r ∷ without_file id rs) (without_file id rs)) ≡ run_on file fork block (r ∷ rs)) [
  | true ↦ λ e.
      let other : r.0.file ≡ file → ⊥ = λ same. apart (sym same ∙ eqb-true r.0.file id e) in
      run_kept id file fork apart rs block
      ∙ sym (ap (λ (b : Bool). cond b (r ∷ run_on file fork (block + block_total (record_extents r.1)) rs) (run_on file fork block rs)) (not_going file fork block r other))
  | false ↦ λ e. λ i. cond (goes_on file fork block r) (r ∷ run_kept id file fork apart rs (block + block_total (record_extents r.1)) i) (run_kept id file fork apart rs block i)
] refl

pub extents_kept : (id : ℕ) (overflow : Overflow) (f : Fork) → (f.file ≡ id → ⊥) → extents_in (without_file id overflow) f ≡ extents_in overflow f
unfolding fork_extents
extents_kept id overflow f apart = ap (λ (rs : Overflow). f.first ++ flat_map (λ r. record_extents r.1) rs) (run_kept id f.file f.fork apart overflow (block_total f.first))

-- the bad blocks are file 5's
bad_kept : (id : ℕ) → 16 ≤ id → (rs : Overflow) → filter is_bad_blocks (without_file id rs) ≡ filter is_bad_blocks rs
bad_kept id least [] = refl
bad_kept id least (r ∷ rs) = elim (eqb r.0.file id) as (λ (b : Bool). eqb r.0.file id ≡ b → filter is_bad_blocks (cond (not b) (r ∷ without_file id rs) (without_file id rs)) ≡ filter is_bad_blocks (r ∷ rs)) [
  | true ↦ λ e.
      let good : is_bad_blocks r ≡ false = ne_eqb r.0.file 5 (λ (five : r.0.file ≡ 5). omega (arith, five, eqb-true r.0.file id e, least)) in
      bad_kept id least rs ∙ sym (ap (λ (b : Bool). cond b (r ∷ filter is_bad_blocks rs) (filter is_bad_blocks rs)) good)
  | false ↦ λ e. λ i. cond (is_bad_blocks r) (r ∷ bad_kept id least rs i) (bad_kept id least rs i)
] refl

sum_same : {X : Type 0} (f g : X → ℕ) (xs : List X) → ((x : X) → In x xs → f x ≡ g x) → sum_by f xs ≡ sum_by g xs
sum_same f g [] same = refl
sum_same f g (x ∷ xs) same = omega (arith, same x (inl refl), sum_same f g xs (λ y there. same y (inr there)), sum_by-cons f x xs, sum_by-cons g x xs)

-- the forks of an item of another ID have what they had
pub record_has_kept : (mdb : Mdb) (overflow : Overflow) (id b : ℕ) (x : Record) → (is_file x.1 ≡ true → (file_record_of x.1).id ≡ id → ⊥) → record_has mdb (without_file id overflow) b x ≡ record_has mdb overflow b x
unfolding forks_of_file
record_has_kept mdb overflow id b x apart = elim (is_file x.1) as (λ (t : Bool). is_file x.1 ≡ t → owners (extent_blocks (flat_map (extents_in (without_file id overflow)) (cond t (forks_of_file (file_record_of x.1)) []))) b ≡ owners (extent_blocks (flat_map (extents_in overflow) (cond t (forks_of_file (file_record_of x.1)) []))) b) [
  | true ↦ λ e.
      let f = file_record_of x.1 in
      λ i. owners (extent_blocks (extents_kept id overflow (record { file = f.id; fork = 0; len = f.«data».length; first = f.«data».extents }) (apart e) i
      ++ (extents_kept id overflow (record { file = f.id; fork = 255; len = f.resource.length; first = f.resource.extents }) (apart e) i ++ []))) b
  | false ↦ λ e. refl
] refl

pub others_kept : (counts mdb : Mdb) (overflow : Overflow) (id b : ℕ) → 16 ≤ id → others_have (with_counts counts mdb) (without_file id overflow) b ≡ others_have mdb overflow b
unfolding catalog_fork
others_kept counts mdb overflow id b least =
    let apart : (catalog_fork mdb).file ≡ id → ⊥ = λ same. omega (arith, same, least) in
    λ i. owners (extent_blocks (extents_kept id overflow (catalog_fork mdb) apart i)) b
    + (owners (extent_blocks mdb.extents_file) b + owners (extent_blocks (flat_map (λ r. record_extents r.1) (bad_kept id least overflow i))) b)

-- who owned a block owns it still, but for the item that went
pub owners_dropped : (counts mdb : Mdb) (overflow : Overflow) (id b : ℕ) (a : Record) (old new : Catalog) → 16 ≤ id
    → ((x : Record) → In x new → is_file x.1 ≡ true → (file_record_of x.1).id ≡ id → ⊥)
    → sum_by (record_has mdb overflow b) new + record_has mdb overflow b a ≡ sum_by (record_has mdb overflow b) old
    → owners (owned_blocks (with_counts counts mdb) (without_file id overflow) new) b + record_has mdb overflow b a ≡ owners (owned_blocks mdb overflow old) b
owners_dropped counts mdb overflow id b a old new least apart sums =
    let others : sum_by (record_has (with_counts counts mdb) (without_file id overflow) b) new ≡ sum_by (record_has mdb overflow b) new =
    sum_same (record_has (with_counts counts mdb) (without_file id overflow) b) (record_has mdb overflow b) new (λ x there. record_has_kept mdb overflow id b x (apart x there)) in
    omega (arith, owners_sum (with_counts counts mdb) (without_file id overflow) b new, owners_sum mdb overflow b old, others_kept counts mdb overflow id b least, others, sums)

-- The forks of a new file are empty: no record of the extents tree has an ID that no file has.
use Rattle.std.proofs.Common.{◌≡◌, inl, inr, ⊎_elim, ℕ, ◌+◌, ◌≤◌, Bool, true, false, cond, ◌||◌, eqb, [], ◌∷◌, refl, sym, ◌∙◌, ap, arith}
use Rattle.std.specs.Prelude.{not}
use Rattle.std.specs.List.{list_any}
use Rattle.std.specs.declared.cmp.Ordering.{Ordering}
use Rattle.std.specs.declared.cmp.Ordering.TheVariants.{Less, Equal, Greater}
use Rattle.std.specs.Ordering.{nat_cmp, is_eq, ordering_then}
use Rattle.std.specs.Cmp.{unsigned_ties}
use Rattle.std.proofs.lemmas.Bool.{eqb-true, ne_eqb, true≢false}
use Rattle.hfs_fields.specs.declared.mdb.Mdb.{Mdb}
use Rattle.hfs_fields.specs.declared.key.ExtKey.{ExtKey}
use Rattle.hfs_fields.specs.Keys.{ext_cmp}
use Rattle.hfs_fields.specs.Records.{is_file, is_dir, is_item, item_id, file_record_of}
use Rattle.hfs_fields.specs.Members.{In}
use Rattle.hfs_fields.proofs.MemberLemmas.{each_in}
use Rattle.hfs_space.specs.Extents.{Overflow, block_total, record_extents, goes_on, run_on}
use Rattle.hfs_space.specs.Owners.{Fork, forks_of_file, forks_of, catalog_fork, all_forks, records_in, is_bad_blocks, goes_on_with}
use Rattle.hfs_space.specs.Sound.{AreForksSound}
use Rattle.hfs_catalog.proofs.FileRecords.{not-dir}
use Rattle.hfs_catalog.specs.Records.{Record, Catalog}
use Rattle.hfs_catalog.specs.Sound.{IsRoot, IsGiven, IsSoundCatalog}
use Rattle.hfs_record_edits.proofs.ForkLemmas.{any_in}
use Rattle.hfs_record_edits.proofs.Made.{file_id}
use Rattle.hfs_space.proofs.RunSteps.{Record as ExtRecord}

then_differs : (o p : Ordering) → is_eq o ≡ false → is_eq (ordering_then o p) ≡ false
then_differs Less p e = refl
then_differs Equal p e = absurd (true≢false e)
then_differs Greater p e = refl

-- keys of two files are not equal
other_file : (x y : ExtKey) → (x.file ≡ y.file → ⊥) → is_eq (ext_cmp x y) ≡ false
other_file x y apart = then_differs (nat_cmp x.file y.file) _ (sym (unsigned_ties x.file y.file) ∙ ne_eqb x.file y.file apart)

-- a run of another file has no record with this key
abbrev pub has_key : ExtRecord → ExtRecord → Bool
has_key q x = is_eq (ext_cmp q.0 x.0)

pub run_misses : (q : ExtRecord) (file fork block : ℕ) (rs : Overflow) → (q.0.file ≡ file → ⊥) → list_any (has_key q) (run_on file fork block rs) ≡ false
run_misses q file fork block [] apart = refl
run_misses q file fork block (r ∷ rs) apart = by (goes_on file fork block r) refl (eqb r.0.file file) refl (λ n. run_misses q file fork n rs apart)
  where
    by : (t : Bool) → goes_on file fork block r ≡ t → (u : Bool) → eqb r.0.file file ≡ u → ((n : ℕ) → list_any (has_key q) (run_on file fork n rs) ≡ false)
        → list_any (has_key q) (cond t (r ∷ run_on file fork (block + block_total (record_extents r.1)) rs) (run_on file fork block rs)) ≡ false
    by true e true f rest = λ i. other_file q.0 r.0 (λ (same : q.0.file ≡ r.0.file). apart (same ∙ eqb-true r.0.file file f)) i || rest (block + block_total (record_extents r.1)) i
    by true e false f rest = absurd (true≢false (sym e ∙ (rw f refl)))
    by false e u f rest = rest block

module _ (mdb : Mdb) (overflow : Overflow) (next : ℕ) (old : Catalog) (least : 16 ≤ next) (h : IsSoundCatalog next old) (sound : AreForksSound mdb overflow old) where
  abbrev misses : ExtRecord → Fork → Bool
  misses q f = list_any (has_key q) (records_in overflow f)

  fork_misses : (q : ExtRecord) (f : Fork) → (q.0.file ≡ f.file → ⊥) → misses q f ≡ false
  fork_misses q f apart = run_misses q f.file f.fork (block_total f.first) overflow apart

  -- no file has the next ID
  file_below : (r : Record) → In r old → is_file r.1 ≡ true → (next ≡ (file_record_of r.1).id → ⊥)
  file_below r there file same =
      let own : item_id r.1 ≡ (file_record_of r.1).id = file_id r.1 (not-dir r.1 file) in
      ⊎_elim
      (λ (root : IsRoot r). omega (arith, root.id, own, same, least))
      (λ (given : IsGiven next r). omega (arith, given.given, own, same))
      (each_in _ old r h.ids.each there (item r file))
    where
      item : (r : Record) → is_file r.1 ≡ true → is_item r.1 ≡ true
      item r file = ap (λ (b : Bool). is_dir r.1 || b) file ∙ or_true (is_dir r.1)
        where
          or_true : (b : Bool) → (b || true) ≡ true
          or_true true = refl
          or_true false = refl

  files_miss : (q : ExtRecord) → q.0.file ≡ next → (rs : Catalog) → ((r : Record) → In r rs → In r old) → list_any (λ r. list_any (misses q) (forks_of r)) rs ≡ false
  unfolding forks_of_file
  files_miss q is [] within = refl
  files_miss q is (r ∷ rs) within = elim (is_file r.1) as (λ (b : Bool). is_file r.1 ≡ b → (list_any (misses q) (cond b (forks_of_file (file_record_of r.1)) []) || list_any (λ x. list_any (misses q) (forks_of x)) rs) ≡ false) [
    | true ↦ λ file.
        let apart : q.0.file ≡ (file_record_of r.1).id → ⊥ = λ same. file_below r (within r (inl refl)) file (sym is ∙ same) in
        λ i. (fork_misses q (record { file = (file_record_of r.1).id; fork = 0; len = (file_record_of r.1).«data».length; first = (file_record_of r.1).«data».extents }) apart i
        || (fork_misses q (record { file = (file_record_of r.1).id; fork = 255; len = (file_record_of r.1).resource.length; first = (file_record_of r.1).resource.extents }) apart i || false))
        || files_miss q is rs (λ x there. within x (inr there)) i
    | false ↦ λ other. files_miss q is rs (λ x there. within x (inr there))
  ] refl

  catalog_misses : (q : ExtRecord) → q.0.file ≡ next → misses q (catalog_fork mdb) ≡ false
  unfolding catalog_fork
  catalog_misses q is = fork_misses q (catalog_fork mdb) (λ same. omega (arith, same, is, least))

  unused : (q : ExtRecord) → q.0.file ≡ next → goes_on_with overflow (all_forks mdb old) q ≡ false
  unfolding goes_on_with
  unused q is = λ i. catalog_misses q is i || (any_in (misses q) forks_of old ∙ files_miss q is old (λ r there. there)) i

  no_record : (q : ExtRecord) → In q overflow → q.0.file ≡ next → ⊥
  no_record q there is =
      let right = each_in _ overflow q sound.records there in
      let good : not (is_bad_blocks q) ≡ true = ap not (ne_eqb q.0.file 5 (λ (five : q.0.file ≡ 5). omega (arith, five, is, least))) in
      true≢false (sym (right.used good) ∙ unused q is)

  none_on : (fork block : ℕ) (rs : Overflow) → ((q : ExtRecord) → In q rs → q.0.file ≡ next → ⊥) → run_on next fork block rs ≡ []
  none_on fork block [] apart = refl
  none_on fork block (r ∷ rs) apart =
      let off : eqb r.0.file next ≡ false = ne_eqb r.0.file next (λ same. apart r (inl refl) same) in
      rw off (none_on fork block rs (λ q there. apart q (inr there)))

  -- nothing goes on with a fork of the next ID
  pub no_run : (fork block : ℕ) → run_on next fork block overflow ≡ []
  no_run fork block = none_on fork block overflow no_record

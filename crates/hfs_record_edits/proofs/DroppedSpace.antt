-- Forks and space are sound after a file went with its records of the extents tree and the marks of its blocks.
use Rattle.std.proofs.Common.{◌≡◌, inl, inr, ⊎_elim, ℕ, zero, suc, ◌+◌, ◌*◌, ◌<◌, ◌≤◌, Bool, true, false, cond, ◌&&◌, ◌||◌, eqb, List, [], ◌∷◌, count_by, filter, refl, sym, ◌∙◌, ap, subst, arith}
use Rattle.std.specs.Prelude.{not, ◌==◌}
use Rattle.std.specs.List.{flat_map, list_any}
use Rattle.std.proofs.lemmas.Bool.{eqb-true, eq-eqb, ne_eqb, or_cases, or_left, or_right, true≢false}
use Rattle.hfs_fields.specs.declared.mdb.Mdb.{Mdb}
use Rattle.hfs_fields.specs.declared.extent.Extent.{Extent}
use Rattle.hfs_fields.specs.Counts.{with_counts}
use Rattle.hfs_fields.specs.Records.{is_file, file_record_of}
use Rattle.hfs_fields.specs.Each.{Each}
use Rattle.hfs_fields.specs.Members.{In}
use Rattle.hfs_fields.proofs.MemberLemmas.{each_in}
use Rattle.hfs_space.specs.Extents.{Overflow, block_total, AreExtentsWithin}
use Rattle.hfs_space.specs.Bitmap.{is_used}
use Rattle.hfs_space.specs.Owners.{Fork, forks_of_file, forks_of, catalog_fork, all_forks, records_in, goes_on_with, owners, is_stray_block}
use Rattle.hfs_space.specs.Sound.{IsForkSound, IsOverflowSound, AreForksSound}
use Rattle.hfs_catalog.specs.Records.{Record, Catalog}
use Rattle.hfs_record_edits.specs.Swaps.{one_if}
use Rattle.hfs_record_edits.proofs.FromLawful.{each_of}
use Rattle.hfs_record_edits.proofs.ForkLemmas.{any_in, any_counts, counts_any}
use Rattle.hfs_space.proofs.RunSteps.{Record as ExtRecord}
use Rattle.hfs_record_edits.proofs.NoForks.{has_key, run_misses}
use Rattle.hfs_record_edits.specs.Overflows.{is_of_other, without_file}
use Rattle.hfs_record_edits.proofs.DroppedForks.{run_kept, extents_kept}

in_filter : {X : Type 0} (p : X → Bool) (xs : List X) (x : X) → In x (filter p xs) → In x xs × (p x ≡ true)
in_filter p [] x there = absurd there
in_filter {X} p (y ∷ ys) x there = elim (p y) as (λ (b : Bool). p y ≡ b → In x (cond b (y ∷ filter p ys) (filter p ys)) → In x (y ∷ ys) × (p x ≡ true)) [
  | true ↦ λ e i. ⊎_elim
      (λ (here : y ≡ x). let both : In x (y ∷ ys) × (p x ≡ true) = (inl here, sym (ap p here) ∙ e) in both)
      (λ (later : In x (filter p ys)). let rest = in_filter p ys x later in let both : In x (y ∷ ys) × (p x ≡ true) = (inr rest.0, rest.1) in both)
      i
  | false ↦ λ e i. let rest = in_filter p ys x i in let both : In x (y ∷ ys) × (p x ≡ true) = (inr rest.0, rest.1) in both
] refl there

any_same : {X : Type 0} (p q : X → Bool) (xs : List X) → ((x : X) → In x xs → p x ≡ q x) → list_any p xs ≡ list_any q xs
any_same p q [] same = refl
any_same p q (x ∷ xs) same = λ i. same x (inl refl) i || any_same p q xs (λ y there. same y (inr there)) i

module _ (counts mdb : Mdb) (overflow : Overflow) (id : ℕ) (a : Record) (old new : Catalog) (least : 16 ≤ id)
    (own : is_file a.1 ≡ true → (file_record_of a.1).id ≡ id) (apart : (x : Record) → In x new → is_file x.1 ≡ true → (file_record_of x.1).id ≡ id → ⊥)
    (counted : (p : Record → Bool) → ((x : Record) → is_file x.1 ≡ false → p x ≡ false) → count_by p new + one_if (p a) ≡ count_by p old)
    (right : Each (λ x. Each (IsForkSound mdb overflow) (forks_of x)) new) (sound : AreForksSound mdb overflow old) where
  abbrev rest : Overflow
  rest = without_file id overflow

  abbrev m : Mdb
  m = with_counts counts mdb

  -- ---- the forks of the files

  carried : (f : Fork) → (f.file ≡ id → ⊥) → IsForkSound mdb overflow f → IsForkSound m rest f
  carried f other h =
      let kept : IsForkSound mdb rest f = record {
        within = subst (AreExtentsWithin mdb.allocation_blocks) (sym (extents_kept id overflow f other)) h.within;
        room = subst (λ (es : List Extent). f.len ≤ block_total es * mdb.allocation_block_size) (sym (extents_kept id overflow f other)) h.room;
      } in
      record { within = kept.within; room = kept.room }

  files : Each (λ x. Each (IsForkSound m rest) (forks_of x)) new
  unfolding forks_of_file
  files = each_of _ new (λ x there.
      let h : Each (IsForkSound mdb overflow) (forks_of x) = each_in (λ (y : Record). Each (IsForkSound mdb overflow) (forks_of y)) new x right there in
      elim (is_file x.1) as (λ (b : Bool). is_file x.1 ≡ b → Each (IsForkSound mdb overflow) (cond b (forks_of_file (file_record_of x.1)) []) → Each (IsForkSound m rest) (cond b (forks_of_file (file_record_of x.1)) [])) [
        | true ↦ λ e both. (carried _ (apart x there e) both.0, (carried _ (apart x there e) both.1.0, tt))
        | false ↦ λ e none. tt
      ] refl h)

  -- ---- the records of the extents tree

  abbrev goes_with : Overflow → ExtRecord → Fork → Bool
  goes_with o q f = list_any (has_key q) (records_in o f)

  abbrev has_fork : Overflow → ExtRecord → Record → Bool
  has_fork o q x = list_any (goes_with o q) (forks_of x)

  same_fork : (q : ExtRecord) (f : Fork) → (f.file ≡ id → ⊥) → goes_with rest q f ≡ goes_with overflow q f
  same_fork q f other = ap (list_any (has_key q)) (run_kept id f.file f.fork other overflow (block_total f.first))

  same_record : (q : ExtRecord) (x : Record) → In x new → has_fork rest q x ≡ has_fork overflow q x
  unfolding forks_of_file
  same_record q x there = elim (is_file x.1) as (λ (b : Bool). is_file x.1 ≡ b → list_any (goes_with rest q) (cond b (forks_of_file (file_record_of x.1)) []) ≡ list_any (goes_with overflow q) (cond b (forks_of_file (file_record_of x.1)) [])) [
    | true ↦ λ e. λ i. same_fork q (record { file = (file_record_of x.1).id; fork = 0; len = (file_record_of x.1).«data».length; first = (file_record_of x.1).«data».extents }) (apart x there e) i
        || (same_fork q (record { file = (file_record_of x.1).id; fork = 255; len = (file_record_of x.1).resource.length; first = (file_record_of x.1).resource.extents }) (apart x there e) i || false)
    | false ↦ λ e. refl
  ] refl

  -- the item that went has no part in records of others
  no_part : (q : ExtRecord) → (q.0.file ≡ id → ⊥) → has_fork overflow q a ≡ false
  unfolding forks_of_file
  no_part q other = elim (is_file a.1) as (λ (b : Bool). is_file a.1 ≡ b → list_any (goes_with overflow q) (cond b (forks_of_file (file_record_of a.1)) []) ≡ false) [
    | true ↦ λ e.
        let f = file_record_of a.1 in
        let differs : q.0.file ≡ f.id → ⊥ = λ same. other (same ∙ own e) in
        λ i. run_misses q f.id 0 (block_total f.«data».extents) overflow differs i || (run_misses q f.id 255 (block_total f.resource.extents) overflow differs i || false)
    | false ↦ λ e. refl
  ] refl

  no_file : (q : ExtRecord) (x : Record) → is_file x.1 ≡ false → has_fork overflow q x ≡ false
  no_file q x e = ap (λ (b : Bool). list_any (goes_with overflow q) (cond b (forks_of_file (file_record_of x.1)) [])) e

  still_used : (q : ExtRecord) → (q.0.file ≡ id → ⊥) → goes_on_with overflow (all_forks mdb old) q ≡ true → goes_on_with rest (all_forks m new) q ≡ true
  unfolding goes_on_with catalog_fork
  still_used q other e = ⊎_elim
      (λ (first : goes_with overflow q (catalog_fork mdb) ≡ true).
      or_left _ _ (same_fork q (catalog_fork mdb) (λ (same : 4 ≡ id). omega (arith, same, least)) ∙ first))
      (λ (some : list_any (goes_with overflow q) (flat_map forks_of old) ≡ true).
      let before = any_counts (has_fork overflow q) old (sym (any_in (goes_with overflow q) forks_of old) ∙ some) in
      let off : ◌≡◌ {A = ℕ} (one_if (has_fork overflow q a)) 0 = ap one_if (no_part q other) in
      let here = counts_any (has_fork overflow q) new (omega (arith, before, off, counted (has_fork overflow q) (no_file q))) in
      or_right _ _ (any_in (goes_with rest q) forks_of new ∙ any_same (has_fork rest q) (has_fork overflow q) new (same_record q) ∙ here))
      (or_cases _ _ e)

  other_file : (q : ExtRecord) → is_of_other id q ≡ true → q.0.file ≡ id → ⊥
  other_file q e same = true≢false (sym e ∙ ap not (eq-eqb q.0.file id same))

  pub dropped_forks : AreForksSound m rest new
  dropped_forks = record {
    files = files;
    records = each_of _ rest (λ q there.
        let parts = in_filter (is_of_other id) overflow q there in
        let h : IsOverflowSound mdb overflow (all_forks mdb old) q = each_in _ overflow q sound.records parts.0 in
        record { some = h.some; bad = h.bad; used = λ good. still_used q (other_file q parts.1) (h.used good) });
  }

-- ---- stray blocks

-- a block that was freed was owned before and is not marked afterwards, and any other is as it was
pub stray_same : (blocks after : ℕ → List ℕ) (old new : Mdb) (owned now_owned : List ℕ) (freed b : ℕ) → owners now_owned b + freed ≡ owners owned b
    → (freed ≡ 0 → is_used after new.bitmap_start b ≡ is_used blocks old.bitmap_start b) → (0 < freed → is_used after new.bitmap_start b ≡ false)
    → is_stray_block after new now_owned b ≡ is_stray_block blocks old owned b
unfolding is_stray_block
stray_same blocks after old new owned now_owned freed b fewer kept cleared = elim (eqb freed 0) as (λ (t : Bool). eqb freed 0 ≡ t → ((owners now_owned b == 0) && is_used after new.bitmap_start b) ≡ ((owners owned b == 0) && is_used blocks old.bitmap_start b)) [
  | true ↦ λ e.
      let zero : freed ≡ 0 = eqb-true freed 0 e in
      let same : owners now_owned b ≡ owners owned b = omega (arith, zero, fewer) in
      λ i. (same i == 0) && kept zero i
  | false ↦ λ e.
      let some : 0 < freed = positive freed e in
      let was : (owners owned b == 0) ≡ false = ne_eqb (owners owned b) 0 (λ none. omega (arith, none, fewer, some)) in
      (λ i. (owners now_owned b == 0) && cleared some i) ∙ and_false (owners now_owned b == 0) ∙ (λ i. sym was i && is_used blocks old.bitmap_start b)
] refl
  where
    positive : (n : ℕ) → eqb n 0 ≡ false → 0 < n
    positive zero e = absurd (true≢false e)
    positive (suc n) e = omega arith

    and_false : (t : Bool) → (t && false) ≡ false
    and_false true = refl
    and_false false = refl

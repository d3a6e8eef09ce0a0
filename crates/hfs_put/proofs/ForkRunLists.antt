-- Runs of forks, extent by extent and record by record.
use Rattle.std.proofs.Common.{◌≡◌, ◌⊎◌, inl, inr, ⊎_elim, ℕ, ◌+◌, ◌/◌, ◌<◌, ◌≤◌, Bool, true, false, cond, eqb, get_or, length, drop, List, [], ◌∷◌, ◌++◌, Option, Some, None, IsSome, refl, sym, ◌∙◌, ap, subst, arith}
use Rattle.std.specs.Prelude.{slice_get}
use Rattle.std.specs.List.{cons_option, range_with_len}
use Rattle.std.proofs.lemmas.Bool.{cases_lt, eqb-true, eq-eqb, true≢false}
use Rattle.std.proofs.lemmas.List.{append_assoc, append-nil, drop_all, drop_more}
use Rattle.std.proofs.lemmas.List.Sums.{sum_by-cons}
use Rattle.std.proofs.lemmas.Option.{none-some, same_Some, slice_get_past}
use Rattle.hfs_check.specs.Parts.{Blocks}
use Rattle.hfs_fields.specs.declared.extent.Extent.{Extent}
use Rattle.hfs_fields.specs.declared.mdb.Mdb.{Mdb}
use Rattle.hfs_catalog.specs.Records.{Record}
use Rattle.hfs_fields.specs.declared.file_record.FileRecord.{FileRecord}
use Rattle.hfs_fields.specs.Records.{is_file, file_record_of}
use Rattle.hfs_model.specs.declared.call.Fork.{Fork}
use Rattle.hfs_model.specs.declared.call.Fork.TheVariants.{DataFork, ResFork}
use Rattle.hfs_put_plan.specs.declared.items.PutItem.{PutItem}
use Rattle.hfs_put_sources.specs.declared.fork_run.ForkRun.{ForkRun}
use Rattle.hfs_space.specs.Extents.{block_total}
use Rattle.hfs_put.specs.ForkRuns.{AreFilePlaces, IsFileAt, NotesPlace, file_id, file_runs, fork_runs_of, record_runs, run_at, runs_from}

pub cons-first : {A : Type 0} (o : Option A) (xs : List A) → cons_option o xs ≡ cons_option o [] ++ xs
cons-first None xs = refl
cons-first (Some x) xs = refl

-- ---- extent by extent

module _ (mdb : Mdb) (item : ℕ) (fork : Fork) (extents : List Extent) where
  -- the runs so far and those of the rest are all; so are the blocks
  pub record AreRunsSoFar (old : List ForkRun) (before i : ℕ) (runs : List ForkRun) : Type 0 where
    pub are : old ++ runs_from mdb item fork 0 extents ≡ runs ++ runs_from mdb item fork before (drop i extents)
    pub total : before + block_total (drop i extents) ≡ block_total extents

  pub runs_begin : (old : List ForkRun) → AreRunsSoFar old 0 0 old
  runs_begin old = record { are = refl; total = omega arith }

  pub runs_next : (old runs more : List ForkRun) (before i : ℕ) (e : Extent) → i < length extents → e ≡ get_or extents i e
      → more ≡ runs ++ cons_option (run_at mdb item fork before e) [] → AreRunsSoFar old before i runs → AreRunsSoFar old (before + e.count) (i + 1) more
  unfolding runs_from
  runs_next old runs more before i e within is came h =
      let here : drop i extents ≡ e ∷ drop (i + 1) extents = drop_more extents i e within ∙ ap (λ (x : Extent). x ∷ drop (i + 1) extents) (sym is) in
      let behind = runs_from mdb item fork (before + e.count) (drop (i + 1) extents) in
      record {
        are = h.are ∙ ap (λ (es : List Extent). runs ++ runs_from mdb item fork before es) here
            ∙ ap (λ (l : List ForkRun). runs ++ l) (cons-first (run_at mdb item fork before e) behind)
            ∙ sym (append_assoc runs (cons_option (run_at mdb item fork before e) []) behind) ∙ ap (λ (l : List ForkRun). l ++ behind) (sym came);
        total = (let sum = sum_by-cons (λ (x : Extent). x.count) e (drop (i + 1) extents) in let whole = ap block_total here in let all = h.total in omega (arith, sum, whole, all));
      }

  pub runs_end : (old runs : List ForkRun) (before i : ℕ) → length extents ≤ i → AreRunsSoFar old before i runs → runs ≡ old ++ runs_from mdb item fork 0 extents
  unfolding runs_from
  runs_end old runs before i past h = sym (h.are ∙ ap (λ (es : List Extent). runs ++ runs_from mdb item fork before es) (drop_all i extents past) ∙ append-nil runs)

  -- with one more extent there are no more blocks than in all
  pub few_more : (old runs : List ForkRun) (before i : ℕ) (e : Extent) → i < length extents → e ≡ get_or extents i e → AreRunsSoFar old before i runs
      → before + e.count ≤ block_total extents
  few_more old runs before i e within is h =
      let here : drop i extents ≡ e ∷ drop (i + 1) extents = drop_more extents i e within ∙ ap (λ (x : Extent). x ∷ drop (i + 1) extents) (sym is) in
      let sum = sum_by-cons (λ (x : Extent). x.count) e (drop (i + 1) extents) in let whole = ap block_total here in let all = h.total in omega (arith, sum, whole, all)

-- ---- the places of files

module _ (items : List PutItem) (ids : List ℕ) where
  -- those of the first so many items
  pub record ArePlacesSoFar (count : ℕ) (place_of : ℕ → Option ℕ) : Type 0 where
    pub only : (id place : ℕ) → place_of id ≡ Some place → IsFileAt items ids place id
    pub some : (id place : ℕ) → place < count → IsFileAt items ids place id → IsSome (place_of id)

  none-placed : (id place : ℕ) → None ≡ Some place → IsFileAt items ids place id
  none-placed id place e = absurd (none-some place e)

  pub places_begin : (place_of : ℕ → Option ℕ) → ((id : ℕ) → place_of id ≡ None) → ArePlacesSoFar 0 place_of
  places_begin place_of none = record { only = λ id place e. none-placed id place (sym (none id) ∙ e); some = λ id place low at. absurd (omega arith) }

  some-is : (o : Option ℕ) (n : ℕ) → o ≡ Some n → IsSome o
  some-is None n e = absurd (none-some n e)
  some-is (Some m) n e = refl

  pub places_next : (count : ℕ) (item : PutItem) (id_is : Option ℕ) (old new : ℕ → Option ℕ) → slice_get items count ≡ Some item
      → id_is ≡ file_id (Some item) (slice_get ids count) → NotesPlace id_is count old new → ArePlacesSoFar count old → ArePlacesSoFar (count + 1) new
  places_next count item id_is old new here is noted h = by id_is is noted
    where
      own : file_id (slice_get items count) (slice_get ids count) ≡ id_is
      own = ap (λ (o : Option PutItem). file_id o (slice_get ids count)) here ∙ sym is

      last-or : (place : ℕ) → place < count + 1 → (place < count) ⊎ (place ≡ count)
      last-or place low = ⊎_elim (λ (less : place < count). inl less) (λ more. inr (omega (arith, low, more))) (cases_lt place count)

      by : (o : Option ℕ) → o ≡ file_id (Some item) (slice_get ids count) → NotesPlace o count old new → ArePlacesSoFar (count + 1) new
      by None none same = record {
        only = λ id place e. h.only id place (sym (same id) ∙ e);
        some = λ id place low at. subst IsSome (sym (same id)) (⊎_elim
            (λ (less : place < count). h.some id place less at)
            (λ (last : place ≡ count). absurd (none-some id (none ∙ ap (λ (p : Option PutItem). file_id p (slice_get ids count)) (sym here)
            ∙ ap (λ (n : ℕ). file_id (slice_get items n) (slice_get ids n)) (sym last) ∙ at)))
            (last-or place low));
      }
      by (Some own_id) some note = record {
        only = λ id place e. by-id id place (eqb own_id id) refl (sym (note id) ∙ e);
        some = λ id place low at. subst IsSome (sym (note id)) (has id place low at (eqb own_id id) refl);
      }
        where
          by-id : (id place : ℕ) (t : Bool) → eqb own_id id ≡ t → cond t (Some count) (old id) ≡ Some place → IsFileAt items ids place id
          by-id id place true same e =
              let at : count ≡ place = same_Some count place e in
              let id_same : own_id ≡ id = eqb-true own_id id same in
              subst (λ (n : ℕ). IsFileAt items ids n id) at (ap (λ (p : Option PutItem). file_id p (slice_get ids count)) here ∙ sym some ∙ ap (λ (n : ℕ). Some n) id_same)
          by-id id place false other e = h.only id place e

          has : (id place : ℕ) → place < count + 1 → IsFileAt items ids place id → (t : Bool) → eqb own_id id ≡ t → IsSome (cond t (Some count) (old id))
          has id place low at true same = refl
          has id place low at false other = ⊎_elim
              (λ (less : place < count). h.some id place less at)
              (λ (last : place ≡ count).
              let same_id : Some own_id ≡ Some id = some ∙ ap (λ (p : Option PutItem). file_id p (slice_get ids count)) (sym here)
              ∙ ap (λ (n : ℕ). file_id (slice_get items n) (slice_get ids n)) (sym last) ∙ at in
              absurd (true≢false (sym (eq-eqb own_id id (same_Some own_id id same_id)) ∙ other)))
              (last-or place low)

  pub places_end : (count : ℕ) (place_of : ℕ → Option ℕ) → length items ≤ count → ArePlacesSoFar count place_of → AreFilePlaces items ids place_of
  places_end count place_of past h = record {
    only = h.only;
    some = λ id place at. ⊎_elim
        (λ (less : place < count). h.some id place less at)
        (λ more. absurd (none-some id (sym (ap (λ (p : Option PutItem). file_id p (slice_get ids place)) (slice_get_past items place (omega (arith, past, more)))) ∙ at)))
        (cases_lt place count);
  }

-- ---- record by record

module _ (blocks : Blocks) (place_of : ℕ → Option ℕ) (r : Record) (old : List ForkRun) where
  pub no-runs-of-other : (is_file r.1 ≡ true → ⊥) → old ≡ old ++ record_runs blocks place_of r
  no-runs-of-other other = by (is_file r.1) refl
    where
      by : (t : Bool) → is_file r.1 ≡ t → old ≡ old ++ cond t (file_runs blocks (place_of (file_record_of r.1).id) (file_record_of r.1)) []
      by true file = absurd (other file)
      by false none = sym (append-nil old)

  record-is : is_file r.1 ≡ true → (o : Option ℕ) → place_of (file_record_of r.1).id ≡ o → file_runs blocks o (file_record_of r.1) ≡ record_runs blocks place_of r
  record-is file o is =
      ap (λ (p : Option ℕ). file_runs blocks p (file_record_of r.1)) (sym is)
      ∙ ap (λ (t : Bool). cond t (file_runs blocks (place_of (file_record_of r.1).id) (file_record_of r.1)) []) (sym file)

  pub no-runs-unplaced : is_file r.1 ≡ true → place_of (file_record_of r.1).id ≡ None → old ≡ old ++ record_runs blocks place_of r
  no-runs-unplaced file none = sym (append-nil old) ∙ ap (λ (l : List ForkRun). old ++ l) (record-is file None none)

pub both-forks : (blocks : Blocks) (place_of : ℕ → Option ℕ) (r : Record) (place : ℕ) (file : FileRecord) (old middle new : List ForkRun) → is_file r.1 ≡ true → file ≡ file_record_of r.1
    → place_of file.id ≡ Some place → middle ≡ old ++ fork_runs_of blocks place DataFork file → new ≡ middle ++ fork_runs_of blocks place ResFork file
    → new ≡ old ++ record_runs blocks place_of r
both-forks blocks place_of r place file old middle new is same some first second =
    second ∙ ap (λ (l : List ForkRun). l ++ fork_runs_of blocks place ResFork file) first
    ∙ append_assoc old (fork_runs_of blocks place DataFork file) (fork_runs_of blocks place ResFork file)
    ∙ ap (λ (f : FileRecord). old ++ file_runs blocks (Some place) f) same
    ∙ ap (λ (l : List ForkRun). old ++ l) (record-is blocks place_of r old is (Some place) (ap (λ (f : FileRecord). place_of f.id) (sym same) ∙ some))

-- ---- the blocks of a fork's runs

-- the blocks of a run by their numbers
abbrev pub blocks_of_run : ForkRun → List ℕ
blocks_of_run run = range_with_len (run.place / 512) (run.len / 512)

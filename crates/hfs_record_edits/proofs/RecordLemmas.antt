-- The records of a fork among those of the extents tree.
use Rattle.std.proofs.Common.{◌≡◌, ℕ, ◌+◌, ◌<◌, ◌≤◌, inl, inr, Bool, true, false, cond, ◌&&◌, eqb, leb, ltb, List, [], ◌∷◌, ◌++◌, refl, sym, ap, ◌∙◌, arith}
use Rattle.std.specs.Prelude.{not, filter}
use Rattle.std.specs.List.{flat_map}
use Rattle.std.proofs.lemmas.Bool.{eqb-true, cases_Bool, cases_lt, and_parts, leb-true, leb-false, ltb-true, lt-ltb}
use Rattle.hfs_fields.specs.declared.extent.Extent.{Extent}
use Rattle.hfs_fields.specs.declared.key.ExtKey.{ExtKey}
use Rattle.hfs_space.specs.Extents.{Overflow, block_total, record_extents, goes_on, run_on, fork_extents}
use Rattle.hfs_space.specs.Runs.{is_of_fork}
use Rattle.hfs_space.proofs.RunSteps.{Record}
use Rattle.hfs_record_edits.specs.Cutting.{is_from, without_from}
use Rattle.hfs_record_edits.specs.Records.{of_fork, begins_before}

module _ (file fork : ℕ) where
  passed : (block : ℕ) (r : Record) → is_of_fork file fork r ≡ false → goes_on file fork block r ≡ false
  passed block r other = ap (λ t. t && eqb r.0.block block && ltb block 65536 && ltb 0 (block_total (record_extents r.1))) other

  -- the records that a fork goes on with are found among its own
  pub run_on-of_fork : (block : ℕ) (xs : Overflow) → run_on file fork block xs ≡ run_on file fork block (of_fork file fork xs)
  run_on-of_fork block [] = refl
  run_on-of_fork block (x ∷ xs) =
      elim (is_of_fork file fork x) as (λ (t : Bool). is_of_fork file fork x ≡ t → run_on file fork block (x ∷ xs) ≡ run_on file fork block (cond t (x ∷ of_fork file fork xs) (of_fork file fork xs))) [
        | true ↦ λ own. λ i.
            cond (goes_on file fork block x) (x ∷ run_on-of_fork (block + block_total (record_extents x.1)) xs i) (run_on-of_fork block xs i)
        | false ↦ λ other.
            ap (λ t. cond t (x ∷ run_on file fork (block + block_total (record_extents x.1)) xs) (run_on file fork block xs)) (passed block x other) ∙ run_on-of_fork block xs
      ] refl

  -- so a fork's extents are the same where its records are
  pub same-records : (xs ys : Overflow) (first : List Extent) → of_fork file fork xs ≡ of_fork file fork ys → fork_extents xs file fork first ≡ fork_extents ys file fork first
  unfolding fork_extents
  same-records xs ys first same =
      ap (λ (rs : Overflow). first ++ flat_map (λ (r : Record). record_extents r.1) rs)
      (run_on-of_fork (block_total first) xs ∙ ap (run_on file fork (block_total first)) same ∙ sym (run_on-of_fork (block_total first) ys))

-- ---- records that go

-- a record that goes is of the key's fork
other-not : (key : ExtKey) (f k : ℕ) (r : Record) → (f ≡ key.file → k ≡ key.fork → ⊥) → is_from key r ≡ true → is_of_fork f k r ≡ false
other-not key f k r apart from = elim (cases_Bool (is_of_fork f k r)) [
  | inl own ↦
      let parts = and_parts (eqb r.0.file f) (eqb r.0.fork k) own in
      let gone = and_parts (is_of_fork key.file key.fork r) (leb key.block r.0.block) from in
      let its = and_parts (eqb r.0.file key.file) (eqb r.0.fork key.fork) gone.0 in
      absurd (apart (sym (eqb-true r.0.file f parts.0) ∙ eqb-true r.0.file key.file its.0) (sym (eqb-true r.0.fork k parts.1) ∙ eqb-true r.0.fork key.fork its.1))
  | inr none ↦ none
]

pub others-stay : (key : ExtKey) (f k : ℕ) → (f ≡ key.file → k ≡ key.fork → ⊥) → (xs : Overflow) → of_fork f k (without_from key xs) ≡ of_fork f k xs
others-stay key f k apart [] = refl
others-stay key f k apart (x ∷ xs) =
    elim (is_from key x) as (λ (s : Bool). is_from key x ≡ s → of_fork f k (cond (not s) (x ∷ without_from key xs) (without_from key xs)) ≡ of_fork f k (x ∷ xs)) [
      | true ↦ λ e. others-stay key f k apart xs ∙ sym (ap (λ (t : Bool). cond t (x ∷ of_fork f k xs) (of_fork f k xs)) (other-not key f k x apart e))
      | false ↦ λ e. λ i. cond (is_of_fork f k x) (x ∷ others-stay key f k apart xs i) (others-stay key f k apart xs i)
    ] refl

not-from : (a b : ℕ) → not (leb a b) ≡ ltb b a
not-from a b = elim (cases_lt b a) [
  | inl lt ↦ ap not (not-le a b lt) ∙ sym (lt-ltb b a lt)
  | inr ge ↦ elim (cases_Bool (leb a b)) [
    | inl is ↦ ap not is ∙ sym (not-lt b a ge)
    | inr off ↦ absurd (let lt = leb-false a b off in omega (arith, lt, ge))
  ]
]
  where
    not-le : (a b : ℕ) → b < a → leb a b ≡ false
    not-le a b lt = elim (cases_Bool (leb a b)) [ inl is ↦ absurd (let le = leb-true a b is in omega (arith, le, lt)) | inr off ↦ off ]

    not-lt : (b a : ℕ) → a ≤ b → ltb b a ≡ false
    not-lt b a ge = elim (cases_Bool (ltb b a)) [ inl is ↦ absurd (let lt = ltb-true b a is in omega (arith, ge, lt)) | inr off ↦ off ]

pub own-before : (key : ExtKey) (xs : Overflow) → of_fork key.file key.fork (without_from key xs) ≡ filter (begins_before key.block) (of_fork key.file key.fork xs)
own-before key [] = refl
own-before key (x ∷ xs) =
    elim (is_of_fork key.file key.fork x)
    as (λ (t : Bool). is_of_fork key.file key.fork x ≡ t → of_fork key.file key.fork (cond (not (t && leb key.block x.0.block)) (x ∷ without_from key xs) (without_from key xs))
    ≡ filter (begins_before key.block) (cond t (x ∷ of_fork key.file key.fork xs) (of_fork key.file key.fork xs))) [
      | true ↦ λ own.
          (λ i. of_fork key.file key.fork (cond (not-from key.block x.0.block i) (x ∷ without_from key xs) (without_from key xs)))
          ∙ by (ltb x.0.block key.block) own (own-before key xs)
      | false ↦ λ other. ap (λ (t : Bool). cond t (x ∷ of_fork key.file key.fork (without_from key xs)) (of_fork key.file key.fork (without_from key xs))) other ∙ own-before key xs
    ] refl
  where
    by : (s : Bool) → is_of_fork key.file key.fork x ≡ true → of_fork key.file key.fork (without_from key xs) ≡ filter (begins_before key.block) (of_fork key.file key.fork xs)
        → of_fork key.file key.fork (cond s (x ∷ without_from key xs) (without_from key xs)) ≡ cond s (x ∷ filter (begins_before key.block) (of_fork key.file key.fork xs)) (filter (begins_before key.block) (of_fork key.file key.fork xs))
    by true own rest =
        ap (λ (t : Bool). cond t (x ∷ of_fork key.file key.fork (without_from key xs)) (of_fork key.file key.fork (without_from key xs))) own ∙ ap (λ (l : Overflow). x ∷ l) rest
    by false own rest = rest

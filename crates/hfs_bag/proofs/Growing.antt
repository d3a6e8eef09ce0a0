-- Lists that a shelf was given by one call behind another.
use Rattle.std.proofs.Common.{◌≡◌, ℕ, List, ◌++◌, sym, ap, ◌∙◌, subst, append_assoc, Result, Ok, Err, OnErr}
use Rattle.hfs_bag.specs.Entries.{ShelfEntry, IsBeginning}
use Rattle.hfs_bag.proofs.Beginnings.{begins_appended, begins_before}
use Rattle.hfs_source.specs.Images.{OfEach}

-- nothing of what is to come was given
pub part_none : (g0 now more : List ShelfEntry) → now ≡ g0 → IsBeginning now (g0 ++ more)
part_none g0 now more same = subst (λ (xs : List ShelfEntry). IsBeginning xs (g0 ++ more)) (sym same) (begins_appended g0 more)

-- a part of the first was given
pub part_first : (g0 now first more : List ShelfEntry) → IsBeginning now (g0 ++ first) → IsBeginning now (g0 ++ (first ++ more))
part_first g0 now first more part = subst (IsBeginning now) (append_assoc g0 first more) (begins_before now (g0 ++ first) more part)

module _ (g0 g1 done : List ShelfEntry) (was : g1 ≡ g0 ++ done) where
  -- some were given, and nothing of the next
  pub part_done : (now more : List ShelfEntry) → now ≡ g1 → IsBeginning now (g0 ++ (done ++ more))
  part_done now more same =
      subst (λ (xs : List ShelfEntry). IsBeginning xs (g0 ++ (done ++ more))) (sym (same ∙ was))
      (subst (IsBeginning (g0 ++ done)) (append_assoc g0 done more) (begins_appended (g0 ++ done) more))

  -- some were given, and a part of the next
  pub part_next : (now next more : List ShelfEntry) → IsBeginning now (g1 ++ next) → IsBeginning now (g0 ++ (done ++ (next ++ more)))
  part_next now next more part =
      subst (IsBeginning now) (ap (λ (xs : List ShelfEntry). (xs ++ next) ++ more) was ∙ append_assoc (g0 ++ done) next more ∙ append_assoc g0 done (next ++ more))
      (begins_before now (g1 ++ next) more part)

  -- some were given, and a part of the last
  pub part_last : (now last : List ShelfEntry) → IsBeginning now (g1 ++ last) → IsBeginning now (g0 ++ (done ++ last))
  part_last now last part = subst (IsBeginning now) (ap (λ (xs : List ShelfEntry). xs ++ last) was ∙ append_assoc g0 done last) part

  -- some were given, and all of the next
  pub whole_next : (now next : List ShelfEntry) → now ≡ g1 ++ next → now ≡ g0 ++ (done ++ next)
  whole_next now next given = given ∙ ap (λ (xs : List ShelfEntry). xs ++ next) was ∙ append_assoc g0 done next

-- what holds holds at an error
-- and so does what holds of each image
pub each_err : {A E : Type 0} (result : Result A E) (Holds : List ℕ → Type 0) {P : List ℕ → Type 0} → ((image : List ℕ) → Holds image → P image) → OnErr result (OfEach Holds P)
each_err (Ok x) Holds p = tt
each_err (Err e) Holds p = p

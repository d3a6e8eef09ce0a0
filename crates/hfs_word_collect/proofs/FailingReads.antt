-- Faults of reads that are handed on.
use Rattle.std.proofs.Common.{◌≡◌, ℕ, ◌+◌, ◌≤◌, ◌^◌, ◌⊎◌, inl, inr, List, length, Result, Ok, Err, IsErrAnd, refl, subst, sym, arith}
use Rattle.std.specs.Prelude.{IfErr}
use Rattle.std.proofs.Math.Logic.{∥∥₁_map}
use Rattle.hfs_source.specs.Images.{AllFail, FailsWhere, OfEach}
use Rattle.hfs_source.specs.declared.ranges.Layout.{Layout}
use Rattle.hfs_source.specs.declared.fetching.SparseFault.{SparseFault}
use Rattle.hfs_source.specs.declared.fetching.SparseFault.TheVariants as sparse
use Rattle.hfs_bag.specs.Failing.{SomeFail, SomeFailOf}
use Rattle.hfs_bag.specs.Parts.{FailsInPart, IsInside, IsPartOf, PartValue, content_of}
use Rattle.hfs_bag.proofs.PartLemmas.{content_short, part_fails}
use Rattle.hfs_database.specs.declared.row_fault.TakerFault.{TakerFault}
use Rattle.hfs_database.specs.declared.row_fault.TakerFault.TheVariants as taker
use Rattle.hfs_word_collect.specs.declared.fault.CollectFault.{CollectFault}
use Rattle.hfs_word_collect.specs.declared.fault.CollectFault.TheVariants.{ReadFailed, CannotWrite, NoMemory}
use Rattle.hfs_word_collect.specs.Faults.{IsFaultOf, giving_fault, reading_fault}

-- what a fault means in other words
pub fault_means : (P Q : Type 0) (fault : CollectFault) → (P → Q) → IsFaultOf P fault → IsFaultOf Q fault
fault_means P Q ReadFailed step is = step is
fault_means P Q CannotWrite step is = tt
fault_means P Q NoMemory step is = tt

-- of a result that has it
means-of : {X : Type 0} (P Q : Type 0) (r : Result X CollectFault) (fault : CollectFault) → (P → Q) → IsErrAnd r (λ x. x ≡ fault) → IsFaultOf P fault → IfErr r (IsFaultOf Q)
means-of P Q (Ok x) fault step is told = tt
means-of P Q (Err why) fault step is told = fault_means P Q why step (subst (IsFaultOf P) (sym is) told)

pub fault_told : {X : Type 0} (P Q : Type 0) (r : Result X CollectFault) → (P → Q) → IfErr r (IsFaultOf P) → IfErr r (IsFaultOf Q)
fault_told P Q (Ok x) step told = tt
fault_told P Q (Err why) step told = fault_means P Q why step told

-- two things that a fault means
pub both_told : {X : Type 0} (P Q : Type 0) (r : Result X CollectFault) → IfErr r (IsFaultOf P) → IfErr r (IsFaultOf Q) → IfErr r (IsFaultOf (P × Q))
both_told P Q (Ok x) first second = tt
both_told P Q (Err ReadFailed) first second = (first, second)
both_told P Q (Err CannotWrite) first second = tt
both_told P Q (Err NoMemory) first second = tt

-- refused memory is no fault of a read
pub fault_by_memory : {X : Type 0} (P : Type 0) (r : Result X CollectFault) → IsErrAnd r (λ x. x ≡ NoMemory) → IfErr r (IsFaultOf P)
fault_by_memory P (Ok x) is = tt
fault_by_memory P (Err why) is = subst (IsFaultOf P) (sym is) tt

-- nor is a row that can't be taken
not-taken : (P : Type 0) (why : TakerFault) → IsFaultOf P (giving_fault why)
not-taken P taker.CannotWrite = tt
not-taken P taker.NoMemory = tt

pub fault_by_taker : {X : Type 0} (P : Type 0) (r : Result X CollectFault) (why : TakerFault) → IsErrAnd r (λ x. x ≡ giving_fault why) → IfErr r (IsFaultOf P)
fault_by_taker P (Ok x) why is = tt
fault_by_taker P (Err fault) why is = subst (IsFaultOf P) (sym is) (not-taken P why)

-- one of blocks is, where they can't be read
pub fault_of_sparse : (P : Type 0) (why : SparseFault) → (why ≡ sparse.ReadFailed → P) → IsFaultOf P (reading_fault why)
fault_of_sparse P sparse.ReadFailed told = told refl
fault_of_sparse P sparse.Memory told = tt

pub fault_by_sparse : {X : Type 0} (P : Type 0) (r : Result X CollectFault) (why : SparseFault) → (why ≡ sparse.ReadFailed → P) → IsErrAnd r (λ x. x ≡ reading_fault why) → IfErr r (IsFaultOf P)
fault_by_sparse P (Ok x) why told is = tt
fault_by_sparse P (Err fault) why told is = subst (IsFaultOf P) (sym is) (fault_of_sparse P why told)

-- ---- of images that have what was read

-- a read that may fail of images that held before
pub read_held : (Old New : List ℕ → Type 0) (Fails : ℕ → ℕ → Type 0) → OfEach New Old → SomeFail Old Fails → SomeFail New Fails
read_held Old New Fails narrows some = ∥∥₁_map some (λ it. (it.0, it.1, (λ image h. it.2 image (narrows image h)), it.3))

-- one that may fail later might have failed before
pub read_before : (Holds : List ℕ → Type 0) (Later Before : ℕ → ℕ → Type 0) → FailsWhere Later Before → SomeFail Holds Later → SomeFail Holds Before
read_before Holds Later Before later some = ∥∥₁_map some (λ it. (it.0, it.1, it.2, later it.0 it.1 it.3))

module _ {X : Type 0} (Holds : List ℕ → Type 0) (Later Before : ℕ → ℕ → Type 0) where
  -- a fault that is handed on
  pub read_handed_on : (r : Result X CollectFault) (fault : CollectFault) → FailsWhere Later Before → IsErrAnd r (λ x. x ≡ fault) → IsFaultOf (SomeFail Holds Later) fault
      → IfErr r (IsFaultOf (SomeFail Holds Before))
  read_handed_on r fault later is told = means-of (SomeFail Holds Later) (SomeFail Holds Before) r fault (read_before Holds Later Before later) is told

  -- a result that is handed on
  pub read_told_on : (r : Result X CollectFault) → FailsWhere Later Before → IfErr r (IsFaultOf (SomeFail Holds Later)) → IfErr r (IsFaultOf (SomeFail Holds Before))
  read_told_on r later told = fault_told (SomeFail Holds Later) (SomeFail Holds Before) r (read_before Holds Later Before later) told

-- ---- of the image that is picked

-- one more that was read, or one that failed before
pub picked_before : (Has Had : Type 0) (len : ℕ) (Later Before : ℕ → ℕ → Type 0) → (Has → Had) → FailsWhere Later Before → SomeFailOf Had len Later → SomeFailOf Has len Before
picked_before Has Had len Later Before had later some = ∥∥₁_map some step
  where
    step : (((place : ℕ) × (count : ℕ) × (Had → place + count ≤ len) × Later place count) ⊎ (Had → 2 ^ 63 ≤ len))
        → ((place : ℕ) × (count : ℕ) × (Has → place + count ≤ len) × Before place count) ⊎ (Has → 2 ^ 63 ≤ len)
    step (inl it) = inl (it.0, it.1, (λ h. it.2 (had h)), later it.0 it.1 it.3)
    step (inr large) = inr (λ h. large (had h))

module _ {X : Type 0} (Has Had : Type 0) (len : ℕ) (Later Before : ℕ → ℕ → Type 0) where
  pub picked_handed_on : (r : Result X CollectFault) (fault : CollectFault) → (Has → Had) → FailsWhere Later Before → IsErrAnd r (λ x. x ≡ fault) → IsFaultOf (SomeFailOf Had len Later) fault
      → IfErr r (IsFaultOf (SomeFailOf Has len Before))
  picked_handed_on r fault had later is told = means-of (SomeFailOf Had len Later) (SomeFailOf Has len Before) r fault (picked_before Has Had len Later Before had later) is told

  pub picked_told_on : (r : Result X CollectFault) → (Has → Had) → FailsWhere Later Before → IfErr r (IsFaultOf (SomeFailOf Had len Later)) → IfErr r (IsFaultOf (SomeFailOf Has len Before))
  picked_told_on r had later told = fault_told (SomeFailOf Had len Later) (SomeFailOf Has len Before) r (picked_before Has Had len Later Before had later) told

-- a read of each image that has what was read is one of the picked one
pub picked_of : (Has : Type 0) (Holds : List ℕ → Type 0) (image : List ℕ) (Later Before : ℕ → ℕ → Type 0) → (Has → Holds image) → FailsWhere Later Before → SomeFail Holds Later
    → SomeFailOf Has (length image) Before
picked_of Has Holds image Later Before has later some = ∥∥₁_map some (λ it. inl (it.0, it.1, (λ h. it.2 image (has h)), later it.0 it.1 it.3))

-- what can't be opened
unopened : (Has : Type 0) (len : ℕ) (Fails : ℕ → ℕ → Type 0) → AllFail Fails → SomeFailOf Has len Fails
unopened Has len Fails all = ∣ inl (0, 0, (λ h. omega arith), all 0 0) ∣₁

pub unopened_fault : {X : Type 0} (Has : Type 0) (len : ℕ) (Fails : ℕ → ℕ → Type 0) (r : Result X CollectFault) (why : SparseFault) → (why ≡ sparse.ReadFailed → AllFail Fails)
    → IsErrAnd r (λ x. x ≡ reading_fault why) → IfErr r (IsFaultOf (SomeFailOf Has len Fails))
unopened_fault Has len Fails r why all is = fault_by_sparse (SomeFailOf Has len Fails) r why (λ told. unopened Has len Fails (all told)) is

-- a content that is too large
pub too_large : (Has : Type 0) (layout : Layout) (image : List ℕ) (Fails : ℕ → ℕ → Type 0) → (Has → 2 ^ 63 ≤ length (content_of layout image)) → SomeFailOf Has (length image) Fails
too_large Has layout image Fails large = ∣ inr (λ h. omega (arith, large h, content_short layout image)) ∣₁

-- a read of a part
pub part_picked : {S : Type 0} (Holds : S → List ℕ → Type 0) (OwnFails : S → ℕ → ℕ → Type 0) (image : List ℕ) (old new : PartValue S) → IsInside Holds image old
    → OfEach (IsPartOf Holds image new) (IsPartOf Holds image old) → (source : S) (Has : Type 0) (Fails : ℕ → ℕ → Type 0) → old.source ≡ source → (Has → Holds new.source image)
    → FailsWhere (OwnFails source) Fails → SomeFail (IsPartOf Holds image new) (FailsInPart OwnFails old) → SomeFailOf Has (length image) Fails
part_picked Holds OwnFails image old new inside held source Has Fails same has later some =
    picked_before Has (Holds new.source image) (length image) (OwnFails old.source) Fails has (subst (λ s. FailsWhere (OwnFails s) Fails) (sym same) later)
    (part_fails Holds OwnFails image old new inside held some)

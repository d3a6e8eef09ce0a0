-- What was asked of the database, and what is told of a file by it.
use Rattle.std.proofs.Common.{◌≡◌, ◌≢◌, ◌∙◌, inl, inr, refl, sym, ap, ℕ, Bool, true, false, cond, List, [], ◌∷◌, length, Option, Some, None, Result, Ok, Err}
use Rattle.std.specs.Prelude.{OnErr}
use Rattle.std.specs.Prelude.{IfErr, IfOk, ◌&&◌, ◌==◌, is_some, nat_eq, String, string_bytes}
use Rattle.hex.specs.Hex.{encode_lower}
use Rattle.sha2.specs.Sha256.{sha256}
use Rattle.std.specs.Cmp.Lexicographic.{pointwise}
use Rattle.std.proofs.Math.Logic.{∥∥₁_map}
use Rattle.sqlite.specs.Held.{Held, state}
use Rattle.sqlite.specs.State.{State}
use Rattle.sqlite.specs.Store.{Ghosts}
use Rattle.hfs_bag.specs.Failing.{SomeFail}
use Rattle.hfs_source.specs.Images.{FailsWhere, OfEach}
use Rattle.sqlite.specs.declared.types.Value.TheVariants.{Text}
use Rattle.hfs_database.specs.Asking.{IsKnown, known_image_text}
use Rattle.hfs_database.specs.Faults.{FailsToTell, IsUnreadImage}
use Rattle.hfs_database.specs.declared.fault.DatabaseFault.{DatabaseFault}
use Rattle.hfs_database.specs.Comparing.{by_digest, comparison, needs_digest}
use Rattle.hfs_database.specs.declared.comparing.Comparison.{Comparison}
use Rattle.hfs_database.specs.declared.comparing.Comparison.TheVariants.{Changed, Missing, New, Same}
use Rattle.hfs_database.specs.declared.comparing.KnownImage.{KnownImage}
use Rattle.hfs_word_collect.specs.Answers.{database_fault}
use Rattle.hfs_word_collect.specs.declared.collect_fault.RunFault.{RunFault}
use Rattle.hfs_word_collect.specs.declared.collect_fault.RunFault.TheVariants as run
use Rattle.hfs_word_collect.specs.Comparing.{FailsToCompare, IsAsked, IsAskedOrMissing, IsCompared, IsComparedIn, IsComparison, IsReadUnless}

-- a length and a digest tell it
pub told_by : (known : KnownImage) (found : Comparison) (len : ℕ) (digits : List ℕ) → found ≡ comparison known len digits → IsComparison known found
told_by known found len digits is = λ read. ∣ (len, digits, is) ∣₁

-- a file that can't be read
pub told_missing : (known : KnownImage) → IsComparison known Missing
told_missing known = λ read. absurd (read refl)

pub asked_missing : {S : Type 0} (g : Ghosts S) (old : Held S) (path : List ℕ) → IsAskedOrMissing g old old path Missing
asked_missing g old path = inl (refl, refl)

-- it was asked before
pub asked_or_missing : {S E : Type 0} (g : Ghosts S) (result : Result Comparison E) (old new : Held S) (path : List ℕ) → IfOk result (IsAsked (state g old) (state g new) path)
    → IfOk result (IsAskedOrMissing g old new path)
asked_or_missing g (Ok found) old new path asked = inr asked
asked_or_missing g (Err why) old new path asked = tt

pub compared_missing : (old new : State) (path file : List ℕ) → IsComparedIn old new path Missing file
compared_missing old new path file = λ read. absurd (read refl)

-- the database has no row of the path
pub asked_new : (old new : State) (path : List ℕ) → IsKnown old new path None → IsAsked old new path New
asked_new old new path known = ∣ (None, known, refl) ∣₁

pub compared_new : (old new : State) (path file : List ℕ) → IsKnown old new path None → IsComparedIn old new path New file
compared_new old new path file known = λ read. ∣ (None, known, refl) ∣₁

-- the database has this row of it
pub asked_known : {E : Type 0} (result : Result Comparison E) (old new : State) (path : List ℕ) (known : KnownImage) → IsKnown old new path (Some known)
    → IfOk result (IsComparison known) → IfOk result (IsAsked old new path)
asked_known (Ok found) old new path known is told = ∣ (Some known, is, told) ∣₁
asked_known (Err why) old new path known is told = tt

pub compared_known : {E : Type 0} (result : Result Comparison E) (Holds : List ℕ → Type 0) (old new : State) (path : List ℕ) (known : KnownImage) → IsKnown old new path (Some known)
    → IfOk result (λ found. OfEach Holds (IsCompared known found)) → IfOk result (λ found. OfEach Holds (IsComparedIn old new path found))
compared_known (Ok found) Holds old new path known is told = λ file holds read. ∣ (Some known, is, told file holds) ∣₁
compared_known (Err why) Holds old new path known is told = tt

-- ---- by its bytes

unneeded : {Z : Type 0} (t : Bool) (digest : Option (String Z)) (a b : List ℕ) → (t && is_some digest) ≡ false
    → cond t (by_digest digest a) Changed ≡ cond t (by_digest digest b) Changed
unneeded true None a b needs = refl
unneeded true (Some known) a b needs = cc
unneeded false digest a b needs = refl

-- where its digest isn't needed, any digits do
pub compared_unread : (known : KnownImage) (found : Comparison) (len : ℕ) (digits file : List ℕ) → found ≡ comparison known len digits → needs_digest known len ≡ false → length file ≡ len
    → IsCompared known found file
compared_unread known found len digits file is needs long = λ read.
    is ∙ unneeded (known.bytes == len) known.digest digits (encode_lower (sha256 file)) needs ∙ ap (λ n. comparison known n (encode_lower (sha256 file))) (sym long)

pub compared_missing_of : (known : KnownImage) (file : List ℕ) → IsCompared known Missing file
compared_missing_of known file = λ read. absurd (read refl)

-- by its digest
pub compared_read : (known : KnownImage) (found : Comparison) (len : ℕ) (digits file : List ℕ) → found ≡ comparison known len digits → digits ≡ encode_lower (sha256 file) → length file ≡ len
    → IsCompared known found file
compared_read known found len digits file is told long = λ read. is ∙ (λ i. comparison known (sym long i) (told i))

-- ---- what was read

-- of a file that was read
matched : (t : Bool) → cond t Same Changed ≡ Missing → ⊥
matched true is = cc
matched false is = cc

digested : {Z : Type 0} (digest : Option (String Z)) (digits : List ℕ) → by_digest digest digits ≡ Missing → ⊥
digested None digits is = cc
digested (Some known) digits is = matched (pointwise nat_eq (string_bytes known) digits) is

measured : {Z : Type 0} (t : Bool) (digest : Option (String Z)) (digits : List ℕ) → cond t (by_digest digest digits) Changed ≡ Missing → ⊥
measured true digest digits is = digested digest digits is
measured false digest digits is = cc

pub read_by : (known : KnownImage) (found : Comparison) (len : ℕ) (digits : List ℕ) → found ≡ comparison known len digits → found ≢ Missing
read_by known found len digits is = λ missing. measured (known.bytes == len) known.digest digits (sym is ∙ missing)

pub new_read : New ≢ Missing
new_read = λ is. cc

pub known_read : (Holds : List ℕ → Type 0) (Fails : ℕ → ℕ → Type 0) (found : Comparison) → found ≢ Missing → IsReadUnless Holds Fails found
known_read Holds Fails found read = inl read

-- of one that wasn't
pub unread_missing : (Holds : List ℕ → Type 0) (Fails : ℕ → ℕ → Type 0) → SomeFail Holds Fails → IsReadUnless Holds Fails Missing
unread_missing Holds Fails some = inr some

-- a read that may fail later might have failed before
fails-before : (Holds : List ℕ → Type 0) (Later Before : ℕ → ℕ → Type 0) → FailsWhere Later Before → SomeFail Holds Later → SomeFail Holds Before
fails-before Holds Later Before later some = ∥∥₁_map some (λ it. (it.0, it.1, it.2, later it.0 it.1 it.3))

pub read_before : {E : Type 0} (result : Result Comparison E) (Holds : List ℕ → Type 0) (Later Before : ℕ → ℕ → Type 0) → FailsWhere Later Before → IfOk result (IsReadUnless Holds Later)
    → IfOk result (IsReadUnless Holds Before)
read_before (Ok found) Holds Later Before later (inl read) = inl read
read_before (Ok found) Holds Later Before later (inr some) = inr (fails-before Holds Later Before later some)
read_before (Err why) Holds Later Before later told = tt

-- ---- why it is not compared

pub fails_by_database : (old new : State) (path : List ℕ) (fault : RunFault) (why : DatabaseFault) → fault ≡ database_fault why → FailsToTell IsUnreadImage old new known_image_text (Text path ∷ []) why
    → FailsToCompare old new path fault
fails_by_database old new path fault why is fails = inl (why, is, fails)

pub fails_by_memory : {X : Type 0} (old new : State) (path : List ℕ) (r : Result X RunFault) (known : KnownImage) → IsKnown old new path (Some known) → IfErr r (λ fault. fault ≡ run.NoMemory)
    → IfErr r (FailsToCompare old new path)
fails_by_memory old new path (Ok x) known is none = tt
fails_by_memory old new path (Err fault) known is none = inr (none, (known, is))

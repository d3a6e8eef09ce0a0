-- The codes of the calls that write forks: neither 0 nor -34 is one.
use Rattle.std.proofs.Common.{◌≡◌, ℕ, Bool, true, false, cond, not, eqb, List, refl, ap, subst, Option, Some, None, Result, Ok, Err, ℤ, pos, negsuc}
use Rattle.std.specs.Option.{ok_or}
use Rattle.std.specs.Ordering.{int_eq}
use Rattle.hfs_model.specs.declared.codes.TheConstants.{DISK_FULL}
use Rattle.hfs_model.specs.declared.call.Fork.{Fork}
use Rattle.hfs_model.specs.Volume.{Volume, Items, Entry}
use Rattle.hfs_model.specs.Children.{is_folder_kind, child_named, entries_of}
use Rattle.hfs_model.specs.Replies.{is_accepted}
use Rattle.hfs_model.specs.Choices.{and_then, is_locked, lock_code, child_to_change, file_to_change, unless_locked_file}
use Rattle.hfs_model.specs.Changes.{change}
use Rattle.hfs_model.proofs.Facts.{true_false}
use Rattle.hfs_model.specs.ForkCalls.{to_set_eof, to_write_fork, unless_past_end}
use Rattle.hfs_model.proofs.Leaves.{code_is, no_code}

-- a code that is neither 0 nor -34
pub is_told : ℤ → Bool
is_told (pos n) = false
is_told (negsuc n) = not (eqb n 33)

-- a choice, or such a code
pub record IsTold {A : Type 0} (r : Result A ℤ) : Type 0 where
  pub told : (code : ℤ) → r ≡ Err code → is_told code ≡ true

fine : {A : Type 0} (x : A) → IsTold {A = A} (Ok x)
fine x = record { told = λ code e. absurd (no_code x code e) }

refused : {A : Type 0} (code : ℤ) → is_told code ≡ true → IsTold {A = A} (Err code)
refused code p = record { told = λ c e. subst (λ (k : ℤ). is_told k ≡ true) (code_is code c e) p }

unless : {A : Type 0} (b : Bool) (code : ℤ) (r : Result A ℤ) → is_told code ≡ true → IsTold r → IsTold (cond b (Err code) r)
unless true code r p q = refused code p
unless false code r p q = q

then : {A B : Type 0} (r : Result A ℤ) (next : A → Result B ℤ) → IsTold r → ((x : A) → IsTold (next x)) → IsTold (and_then r next)
then (Ok x) next p q = q x
then (Err code) next p q = refused code (p.told code refl)

some_or : {A : Type 0} (o : Option A) (code : ℤ) → is_told code ≡ true → IsTold (ok_or o code)
some_or None code p = refused code p
some_or (Some x) code p = fine x

refuses : (n : ℕ) → eqb n 33 ≡ false → is_told (negsuc n) ≡ true
unfolding is_told
refuses n other = ap not other

lock_told : (v : Volume) → is_told (lock_code v) ≡ true
lock_told v = elim v.hardware_locked as (λ (b : Bool). is_told (cond b (negsuc 43) (negsuc 45)) ≡ true) [ true ↦ refuses 43 refl | false ↦ refuses 45 refl ]

child_told : (v : Volume) (dir : ℕ) (name : List ℕ) → IsTold (child_to_change v dir name)
unfolding child_to_change
child_told v dir name = unless (is_locked v) _ _ (lock_told v) (unless _ _ _ (refuses 36 refl) (unless _ _ _ (refuses 119 refl) (some_or (child_named (entries_of v) dir name) _ (refuses 42 refl))))

file_told : (v : Volume) (dir : ℕ) (name : List ℕ) → IsTold (file_to_change v dir name)
unfolding file_to_change
file_told v dir name = then (child_to_change v dir name) _ (child_told v dir name) (λ e. unless (is_folder_kind e.1.kind) _ _ (refuses 42 refl) (fine _))

open_told : (v : Volume) (dir : ℕ) (name : List ℕ) → IsTold (and_then (file_to_change v dir name) unless_locked_file)
open_told v dir name = then (file_to_change v dir name) unless_locked_file (file_told v dir name) (λ e. unless _ _ _ (refuses 44 refl) (fine _))

pub set_eof_told : (v : Volume) (dir : ℕ) (name : List ℕ) (length : ℕ) → IsTold (to_set_eof v dir name length)
unfolding to_set_eof
set_eof_told v dir name length = unless _ _ _ (refuses 49 refl) (open_told v dir name)

pub write_fork_told : (v : Volume) (dir : ℕ) (name : List ℕ) (fork : Fork) (offset : ℕ) (bytes : List ℕ) → IsTold (to_write_fork v dir name fork offset bytes)
unfolding to_write_fork
write_fork_told v dir name fork offset bytes = unless _ _ _ (refuses 49 refl) (then (and_then (file_to_change v dir name) unless_locked_file) (unless_past_end fork offset) (open_told v dir name) (λ e. unless _ _ _ (refuses 38 refl) (fine _)))

-- ---- what an answer says of the choice

not_accepted : (code : ℤ) → is_told code ≡ true → int_eq code (pos 0) ≡ true → ⊥
unfolding is_told
not_accepted (pos n) told is = true_false false told refl
not_accepted (negsuc n) told is = true_false false is refl

-- such a code refuses the call
pub not_done : (code : ℤ) → is_told code ≡ true → int_eq code (pos 0) ≡ false
not_done code told = elim (int_eq code (pos 0)) as (λ (b : Bool). int_eq code (pos 0) ≡ b → b ≡ false) [ true ↦ λ e. absurd (not_accepted code told e) | false ↦ λ e. refl ] refl

-- what is accepted was chosen
pub accepted : (v : Volume) (r : Result Entry ℤ) (make : Entry → Items → Items) (now : ℕ) → IsTold r → is_accepted (change v r make now).1 ≡ true → (e : Entry) × (r ≡ Ok e)
accepted v (Ok e) make now told is = (e, refl)
accepted v (Err code) make now told is = absurd (not_accepted code (told.told code refl) is)

pub leaves : (v : Volume) (r : Result Entry ℤ) (make : Entry → Items → Items) (now : ℕ) → ((change v r make now).1.code ≡ pos 0 → ⊥) → (change v r make now).0 ≡ v
leaves v (Ok e) make now other = absurd (other refl)
leaves v (Err code) make now other = refl

pub same_size : (v : Volume) (r : Result Entry ℤ) (make : Entry → Items → Items) (now : ℕ) → (change v r make now).0.block_size ≡ v.block_size
same_size v (Ok e) make now = refl
same_size v (Err code) make now = refl

-- whether it is 0 or above
is_positive : ℤ → Bool
is_positive (pos n) = true
is_positive (negsuc n) = false

zero_is_other : pos 0 ≡ DISK_FULL → ⊥
unfolding is_positive
zero_is_other e = true_false true refl (ap is_positive e)

pub never_full : (v : Volume) (r : Result Entry ℤ) (make : Entry → Items → Items) (now : ℕ) → IsTold r → (change v r make now).1.code ≡ DISK_FULL → ⊥
unfolding is_told
never_full v (Ok e) make now told is = zero_is_other is
never_full v (Err code) make now told is = true_false (is_told code) (told.told code refl) (ap is_told is)

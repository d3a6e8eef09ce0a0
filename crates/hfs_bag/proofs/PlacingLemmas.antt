-- A folder that is made, placed or taken away.
use Rattle.std.proofs.Common.{◌≡◌, ℕ, suc, ◌+◌, ◌<◌, ◌*◌, ◌/◌, List, [], ◌∷◌, Option, Some, None, Result, Ok, Err, sym, ap, ◌∙◌, subst, inl, inr, arith, add-zero, Global}
use Rattle.std.specs.Prelude.{◌≢◌, true, String, string_bytes}
use Rattle.std.proofs.lemmas.Nat.{div-mul-add}
use Rattle.std.specs.declared.io.ErrorKind.{ErrorKind}
use Rattle.std.specs.declared.io.ErrorKind.TheVariants.{AlreadyExists}
use Rattle.hfs_bag.specs.FolderRefusals.{IsFolderRefused}
use Rattle.hfs_bag.specs.Entries.{with_time}
use Rattle.hfs_bag.specs.ShelfPaths.{IsNewFolder, new_folder_path}
use Rattle.hfs_bag.specs.ShelfPlaces.{others_in}
use Rattle.hfs_bag.specs.Told.{Tells}
use Rattle.hfs_bag.specs.MadeFolders.{given_by, made_in, seconds_in}
use Rattle.hfs_bag.specs.SystemSteps.{Asked, SystemStep, done, failed, Does, made_folder, looked, moved, timed, closed, listed, removed_folder}
use Rattle.hfs_bag.specs.Removals.{HasNewFolder, HasNext, HasNoNewFolder, HasOpenedFolder, HasRefused, HasSince, IsClosed, IsPlaced, IsRemovedOrNot, IsTakenAway, IsUnwritable, RemovesIn, with_taken}
use Rattle.hfs_bag.specs.Left.{IsLeft, IsOrNoMemory}
use Rattle.hfs_bag.specs.declared.shelf_fault.ShelfFault.{ShelfFault}
use Rattle.hfs_bag.specs.declared.shelf_fault.ShelfFault.TheVariants as fault
use Rattle.hfs_bag.proofs.FolderLemmas.{made_in-itself}
use Rattle.hfs_bag.proofs.RemovalLemmas.{since_none, since_then, since_trans, taken_behind, taken_since}

-- ---- making it

next_number : (number : ℕ) → suc number ≡ number + 1
next_number number = omega arith

-- one name more is taken
pub taken_more : (path name : List ℕ) (number : ℕ) (kind : ErrorKind) (old mid new : List SystemStep) → mid ≡ with_taken path number old → name ≡ new_folder_path path number
    → IsFolderRefused kind name mid new → kind ≡ AlreadyExists → new ≡ with_taken path (number + 1) old
taken_more path name number kind old mid new before at (inl is) taken =
    is.1 ∙ ap (λ (p : List ℕ). done (looked p true) ∷ mid) at ∙ ap (λ (steps : List SystemStep). done (looked (new_folder_path path number) true) ∷ steps) before
    ∙ ap (λ (k : ℕ). with_taken path k old) (next_number number)
taken_more path name number kind old mid new before at (inr is) taken = absurd (is.0 taken)

pub name_free : (path folder name : List ℕ) (number : ℕ) (old tried new : List SystemStep) → number < 100 → folder ≡ new_folder_path path number → name ≡ folder → tried ≡ with_taken path number old
    → new ≡ done (made_folder name) ∷ tried → HasNewFolder path folder old new
name_free path folder name number old tried new below at same before is = record {
  number = number;
  below = below;
  name = at;
  made = is ∙ ap (λ (p : List ℕ). done (made_folder p) ∷ tried) same ∙ ap (λ (steps : List SystemStep). done (made_folder folder) ∷ steps) before;
}

-- it ends at a name that the system refuses for another reason, where memory is refused, or behind the last name
pub refused_last : (path name : List ℕ) (number : ℕ) (kind : ErrorKind) (told : String Global) (old mid new : List SystemStep) → number < 100 → mid ≡ with_taken path number old
    → name ≡ new_folder_path path number → IsFolderRefused kind name mid new → kind ≢ AlreadyExists → string_bytes told ≡ name → HasRefused path (fault.CannotWrite told) old new
refused_last path name number kind told old mid new below before at (inl is) other same = absurd (other is.0)
refused_last path name number kind told old mid new below before at (inr is) other same = inr (
  number,
  below,
  (
    same ∙ at,
    is.1 ∙ ap (λ (p : List ℕ). failed (made_folder p) ∷ mid) at ∙ ap (λ (steps : List SystemStep). failed (made_folder (new_folder_path path number)) ∷ steps) before,
  ),
)

pub refused_memory : (path : List ℕ) (number : ℕ) (old new : List SystemStep) → number < 100 → new ≡ with_taken path number old → HasRefused path fault.NoMemory old new
refused_memory path number old new below is = inr (number, below, is)

pub all_refused : (path : List ℕ) (why : ShelfFault) (old new : List SystemStep) → new ≡ with_taken path 100 old → Tells path why → HasRefused path why old new
all_refused path why old new is tells = inl (tells, is)

-- ---- opening it

pub opened_now : (path folder name : List ℕ) (old mid new : List SystemStep) → HasNewFolder path folder old mid → name ≡ folder → new ≡ done (listed name) ∷ mid → HasOpenedFolder path folder old new
opened_now path folder name old mid new h same is = record { between = mid; is_new = h; opens = is ∙ ap (λ (p : List ℕ). done (listed p) ∷ mid) same }

pub new_beside : (path folder : List ℕ) (old new : List SystemStep) → HasNewFolder path folder old new → IsNewFolder path folder
new_beside path folder old new h = (h.number, h.below, h.name)

pub opened_empty : (path folder : List ℕ) (old new : List SystemStep) → HasOpenedFolder path folder old new → made_in folder new ≡ []
opened_empty path folder old new h =
    ap (made_in folder) h.opens ∙ ap (made_in folder) h.is_new.made ∙ made_in-itself folder (with_taken path h.is_new.number old)

pub none_new : (path : List ℕ) (why : ShelfFault) (old new : List SystemStep) → HasRefused path why old new → HasNoNewFolder path why old new
none_new path why old new h = inl h

pub unopened : {T E : Type 0} (path folder opened name : List ℕ) (why : ShelfFault) (came : Result T E) (old made mid new : List SystemStep) → HasNewFolder path folder old made → opened ≡ folder
    → mid ≡ failed (listed opened) ∷ made → name ≡ folder → Does came (removed_folder name) mid new → IsUnwritable folder why → HasNoNewFolder path why old new
unopened {T} {E} path folder opened name why came old made mid new h same at again is tells = inr (record {
  folder = folder;
  between = made;
  is_new = h;
  told = tells;
  away = subst (λ (steps : List SystemStep). IsRemovedOrNot folder steps new) (at ∙ ap (λ (p : List ℕ). failed (listed p) ∷ made) same)
      (removed_or_not came (subst (λ (p : List ℕ). Does came (removed_folder p) mid new) again is));
})
  where
    removed_or_not : (came : Result T E) → Does came (removed_folder folder) mid new → IsRemovedOrNot folder mid new
    removed_or_not (Ok x) is = inl is
    removed_or_not (Err e) is = inr is

-- ---- letting go of its last file

pub since_closed : (folder : List ℕ) (time : Option ℕ) (old new : List SystemStep) → IsClosed time old new → HasSince (RemovesIn folder) old new
since_closed folder None old new is = since_then (RemovesIn folder) old old new (done closed) (since_none (RemovesIn folder) old) is tt
since_closed folder (Some seconds) old new (inl is) = record { since = done closed ∷ done (timed (seconds * 1_000_000_000)) ∷ []; whole = is; each = (tt, (tt, tt)) }
since_closed folder (Some seconds) old new (inr is) = record { since = done closed ∷ failed (timed (seconds * 1_000_000_000)) ∷ []; whole = is; each = (tt, (tt, tt)) }

-- so many seconds in nanoseconds
same_seconds : (seconds : ℕ) → seconds_in (seconds * 1_000_000_000) ≡ seconds
unfolding seconds_in
same_seconds seconds = ap (λ (n : ℕ). n / 1_000_000_000) (sym (add-zero (seconds * 1_000_000_000))) ∙ div-mul-add seconds 1_000_000_000 0 (omega (arith))

closed_given : (folder : List ℕ) (time : Option ℕ) (old new : List SystemStep) → IsClosed time old new → made_in folder new ≡ given_by folder time old
closed_given folder None old new is = ap (made_in folder) is
closed_given folder (Some seconds) old new (inl is) = ap (made_in folder) is ∙ ap (with_time (made_in folder old)) (same_seconds seconds)
closed_given folder (Some seconds) old new (inr is) = ap (made_in folder) is ∙ ap (with_time (made_in folder old)) (same_seconds seconds)

closed_others : (folder : List ℕ) (time : Option ℕ) (old new : List SystemStep) → IsClosed time old new → others_in folder new ≡ others_in folder old
closed_others folder None old new is = ap (others_in folder) is
closed_others folder (Some seconds) old new (inl is) = ap (others_in folder) is
closed_others folder (Some seconds) old new (inr is) = ap (others_in folder) is

-- and nothing else was done
pub closed_others_now : (folder now : List ℕ) (time : Option ℕ) (old new : List SystemStep) → IsClosed time old new → now ≡ folder → others_in now new ≡ others_in folder old
closed_others_now folder now time old new is same = ap (λ (f : List ℕ). others_in f new) same ∙ closed_others folder time old new is

pub closed_same : (folder : List ℕ) (time now : Option ℕ) (old new : List SystemStep) → IsClosed time old new → now ≡ None → given_by folder now new ≡ given_by folder time old
closed_same folder time None old new is none = closed_given folder time old new is
closed_same folder time (Some seconds) old new is none = cc

pub next_now : (asked : Asked) (time : Option ℕ) (old mid new : List SystemStep) → IsClosed time old mid → new ≡ done asked ∷ mid → HasNext asked time old new
next_now asked time old mid new closes is = record { between = mid; closes = closes; next = is }

-- ---- placing it

pub placed_now : (path folder : List ℕ) (time : Option ℕ) (old mid new : List SystemStep) → IsClosed time old mid → new ≡ done (moved folder path) ∷ mid
    → IsPlaced path folder (given_by folder time old) (others_in folder old) new
placed_now path folder time old mid new closes is =
    record { made = mid; entries_are = closed_given folder time old mid closes; others_are = closed_others folder time old mid closes; placed = is }

pub failed_in : (folder : List ℕ) (old mid new : List SystemStep) (asked : Asked) → HasSince (RemovesIn folder) old mid → new ≡ failed asked ∷ mid → HasSince (RemovesIn folder) old new
failed_in folder old mid new asked h is = since_then (RemovesIn folder) old mid new (failed asked) h is tt

pub left_behind : (folder : List ℕ) (old mid new : List SystemStep) (why : ShelfFault) → HasSince (RemovesIn folder) old mid → IsLeft why folder mid new → IsLeft why folder old new
left_behind folder old mid new (fault.CannotWrite path) h left = taken_behind folder old mid new h left
left_behind folder old mid new fault.NoMemory h left = since_trans (RemovesIn folder) old mid new h left

pub left_taken : (folder : List ℕ) (old new : List SystemStep) (why : ShelfFault) → IsTakenAway folder old new → IsLeft why folder old new
left_taken folder old new (fault.CannotWrite path) away = away
left_taken folder old new fault.NoMemory away = taken_since folder old new away

pub told_still : (path : List ℕ) (was is : ShelfFault) → Tells path was → IsOrNoMemory was is → Tells path is
told_still path was is tells (inl same) = subst (Tells path) (sym same) tells
told_still path was is tells (inr same) = subst (Tells path) (sym same) tt

pub ruleset placing = (name_free, refused_memory, all_refused, opened_now, new_beside, opened_empty, none_new, unopened, since_closed, closed_same, closed_others_now, next_now, placed_now, failed_in, left_behind, left_taken, told_still)

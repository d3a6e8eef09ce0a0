-- The numbers of a script's calls, each among its caller's own.
use Rattle.std.specs.Prelude.{◌≡◌, ◌≢◌, ℕ, ◌+◌, ◌≤◌, ◌<◌, false, List, length, get_or, slice_index, take, count_by}
use Rattle.hfs_scripts.specs.declared.lines.Caller.{Caller}
use Rattle.hfs_scripts.specs.declared.lines.Caller.TheVariants.{Worker, Viewer}
use Rattle.hfs_scripts.specs.Callers.{is_same}
use Rattle.hfs_runs.specs.declared.numbering.Asked.{Asked}

-- how many of these callers are this one
unfoldable pub times : Caller → List Caller → ℕ
times caller callers = count_by (λ other. is_same other caller) callers

-- the call of the line at that place: its caller, and how many calls of that caller there are up to it
abbrev pub asked_at : List Caller → ℕ → Caller → Asked
asked_at callers place caller = record { caller = caller; number = times caller (take place callers) + 1 }

-- these are the calls of the lines of these callers, in order
pub record AreNumbered (callers : List Caller) (asked : List Asked) : Type 0 where
  pub many : length asked ≡ length callers
  pub each : (place : ℕ) (none : Caller) (nothing : Asked) → place < length callers → get_or asked place nothing ≡ asked_at callers place (get_or callers place none)

-- a caller's number is at most 8
abbrev pub IsSmall : Caller → Type 0
IsSmall (Worker number) = number ≤ 8
IsSmall (Viewer number) = number ≤ 8

-- ---- counting

-- the number at that place is one more, and no other is changed
pub record IsRaised (old : List ℕ) (place : ℕ) (new : List ℕ) : Type 0 where
  pub here : slice_index new place ≡ slice_index old place + 1
  pub others : (other : ℕ) → other ≢ place → slice_index new other ≡ slice_index old other

-- a caller's count, in the counts of workers or in those of viewers
abbrev pub counted : List ℕ → List ℕ → Caller → ℕ
counted workers viewers (Worker number) = slice_index workers number
counted workers viewers (Viewer number) = slice_index viewers number

-- the caller's count is one more, and no other is changed
pub record IsCounted (workers viewers : List ℕ) (caller : Caller) (new_workers new_viewers : List ℕ) : Type 0 where
  pub here : counted new_workers new_viewers caller ≡ counted workers viewers caller + 1
  pub others : (other : Caller) → is_same caller other ≡ false → counted new_workers new_viewers other ≡ counted workers viewers other

-- The calls that the workers of a session make, where they are known beforehand.
use Rattle.std.specs.Prelude.{◌≡◌, ℕ, ◌+◌, ◌-◌, ◌<◌, ⊤, List, length, get_or, slice_get, All, Option, Some, None}
use Rattle.hfs_model.specs.declared.call.Call.{Call}
use Rattle.hfs_model.specs.declared.journal.Entry.{Entry}

-- the calls of each worker in order, or nothing where any may be made
abbrev pub Plan : Type 0
Plan = Option (ℕ → List Call)

-- the call is the one that the worker makes under that number
abbrev pub IsPlanned : Plan → ℕ → ℕ → Call → Type 0
IsPlanned None worker number call = ⊤
IsPlanned (Some calls) worker number call = slice_get (calls worker) (number - 1) ≡ Some call

-- so is that of each of these entries, by its worker and stamp
abbrev pub ArePlanned : Plan → List Entry → Type 0
ArePlanned plan entries = All (λ (e : Entry). IsPlanned plan e.worker e.stamp e.call) entries

-- these are the worker's calls from that number on
abbrev pub AreNextPlanned : Plan → ℕ → ℕ → List Call → Type 0
AreNextPlanned plan worker number calls = (k : ℕ) (c : Call) → k < length calls → IsPlanned plan worker (number + k) (get_or calls k c)

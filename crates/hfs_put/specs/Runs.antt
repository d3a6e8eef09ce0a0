-- Runs of an image in which forks are to be.
use Rattle.std.specs.Prelude.{ℕ, ◌+◌, Bool, true, ◌&&◌, nat_le, nat_lt, List, [], ◌∷◌, find, length, Option}
use Rattle.hfs_put_sources.specs.declared.fork_run.ForkRun.{ForkRun}

-- the byte after a run
abbrev pub end_of : ForkRun → ℕ
end_of run = run.place + run.len

-- each run lies after the one before it, and the first not before a byte
abbrev pub are_apart : ℕ → List ForkRun → Bool
are_apart from [] = true
are_apart from (run ∷ runs) = nat_le from run.place && are_apart (end_of run) runs

-- the byte after the last of them; the byte itself where there is none
abbrev pub last_end : ℕ → List ForkRun → ℕ
last_end from [] = from
last_end from (run ∷ runs) = last_end (end_of run) runs

-- runs lie apart in a file, from the byte `start` of which their places count
abbrev pub lie_in : ℕ → List ForkRun → List ℕ → Bool
lie_in start runs file = are_apart 0 runs && nat_le (start + last_end 0 runs) (length file)

-- the first of them that ends after a byte
abbrev pub next_run : List ForkRun → ℕ → Option ForkRun
next_run runs byte = find (λ (run : ForkRun). nat_lt byte (end_of run)) runs

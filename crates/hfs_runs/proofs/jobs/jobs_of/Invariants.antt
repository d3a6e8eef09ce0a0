use Rattle.std.proofs.Common.{◌≡◌, ◌+◌, ◌<◌, ◌++◌, ℕ, length, get_or}
use Rattle.std.specs.Vec.Iter.{into_iter_items, into_iter_len}
use Rattle.hfs_scripts.specs.declared.lines.Caller.TheVariants.{Worker, Viewer}
use Rattle.hfs_scripts.specs.Callers.{calls_of}
use Rattle.hfs_runs.proofs.jobs.jobs_of.Given as goal

-- the passes so far have their calls; the rest has the calls of the workers that come, and of the viewers
abbrev pub invariant-loop-pass : goal.invariant-loop-pass
invariant-loop-pass l = record {
  all : l.fn.passes.items ≡ l.yielded ++ into_iter_items l.pass-iterator;
  left : into_iter_len l.pass-iterator ≡ length (into_iter_items l.pass-iterator);
  number : length l.yielded ≡ l.number;
  many : length l.jobs.items ≡ l.number;
  passes : (i : ℕ) (j : _) (p : _) → i < l.number → (get_or l.jobs.items i j).0 ≡ get_or l.yielded i p;
  calls : (i : ℕ) (j : _) → i < l.number → (get_or l.jobs.items i j).1.items ≡ calls_of (Worker (i + 1)) l.initial.rest;
  workers : (n : ℕ) → l.number < n → calls_of (Worker n) l.rest ≡ calls_of (Worker n) l.initial.rest;
  viewers : (n : ℕ) → calls_of (Viewer n) l.rest ≡ calls_of (Viewer n) l.initial.rest;
}

use Rattle.std.proofs.Common.{◌≡◌, ◌+◌, ◌<◌, ◌++◌, ℕ, length, get_or}
use Rattle.std.specs.Vec.Iter.{into_iter_items, into_iter_len}
use Rattle.hfs_scripts.specs.declared.lines.Caller.TheVariants.{Viewer}
use Rattle.hfs_scripts.specs.Callers.{calls_of}
use Rattle.hfs_runs.proofs.jobs.viewings_of.Given as goal

-- the viewers so far have their calls; the rest has the calls of those that come
abbrev pub invariant-loop-viewer : goal.invariant-loop-viewer
invariant-loop-viewer l = record {
  all : l.fn.viewers.items ≡ l.yielded ++ into_iter_items l.viewer-iterator;
  left : into_iter_len l.viewer-iterator ≡ length (into_iter_items l.viewer-iterator);
  number : length l.yielded ≡ l.number;
  many : length l.viewings.items ≡ l.number;
  seen : (i : ℕ) (w : _) (k : _) → i < l.number → (get_or l.viewings.items i w).viewer ≡ get_or l.yielded i k;
  calls : (i : ℕ) (w : _) → i < l.number → (get_or l.viewings.items i w).calls.items ≡ calls_of (Viewer (i + 1)) l.initial.rest;
  viewers : (n : ℕ) → l.number < n → calls_of (Viewer n) l.rest ≡ calls_of (Viewer n) l.initial.rest;
}

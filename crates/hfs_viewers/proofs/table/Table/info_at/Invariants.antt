-- The child is as far behind the names that are left as it is behind all of them, less those that were passed.
use Rattle.std.proofs.Common.{◌≡◌, ℕ}
use Rattle.std.specs.Prelude.{slice_get}
use Rattle.std.specs.FinMap as finite
use Rattle.hfs_model.proofs.Members.{In}
use Rattle.hfs_viewers.specs.declared.place.Place.{Place}
use Rattle.hfs_viewers.specs.Tables.{items_of}
use Rattle.hfs_viewers.proofs.NameLemmas.{told_under}
use Rattle.hfs_viewers.proofs.table.Table.info_at.Given as goal

abbrev pub invariant-loop-place : goal.invariant-loop-place
invariant-loop-place l =
    (goal.iterator-loop-place).can_next l._place-iterator ×
    (goal.iterator-loop-place).is_finite l._place-iterator ×
    (slice_get (told_under (finite.entries (items_of l.self)) l._place-iterator) l.left ≡ slice_get (told_under (finite.entries (items_of l.self)) l.initial._place-iterator) l.at) ×
    ((e : Place × ℕ) → In e l._place-iterator → In e l.self.by_name.entries)

use Rattle.std.proofs.Common.{◌≡◌, ℕ, ◌++◌}
use Rattle.std.specs.FinMap as finite
use Rattle.hfs_model.proofs.Members.{In}
use Rattle.hfs_viewers.specs.declared.place.Place.{Place}
use Rattle.hfs_viewers.specs.Tables.{items_of, HasRows}
use Rattle.hfs_viewers.proofs.NameLemmas.{told_under}
use Rattle.hfs_viewers.proofs.table.Table.infos.Given as goal

abbrev pub invariant-loop-place : goal.invariant-loop-place
invariant-loop-place l =
    (goal.iterator-loop-place).can_next l._place-iterator ×
    (goal.iterator-loop-place).is_finite l._place-iterator ×
    (l.infos.items ++ told_under (finite.entries (items_of l.self)) l._place-iterator ≡ told_under (finite.entries (items_of l.self)) l.initial._place-iterator) ×
    ((e : Place × ℕ) → In e l._place-iterator → In e l.self.by_name.entries) ×
    HasRows l.self l.rows

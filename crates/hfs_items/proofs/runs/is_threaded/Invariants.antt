use Rattle.std.proofs.Common.{length, ◌-◌, ◌≡◌, drop}
use Rattle.std.specs.List.{list_any}
use Rattle.hfs_fields.specs.Records.{is_thread}
use Rattle.hfs_catalog.specs.Records.{Record}
use Rattle.hfs_items.specs.Levels.{first_under}
use Rattle.hfs_items.proofs.runs.is_threaded.Given as goal

abbrev pub invariant-loop-place : goal.invariant-loop-place
invariant-loop-place l =
    list_any (λ (r : Record). is_thread r.1) (first_under l.id (drop l.first l.records)) ≡ list_any (λ (r : Record). is_thread r.1) (first_under l.id (drop l.place l.records))

abbrev pub decreases-loop-place : goal.decreases-loop-place
decreases-loop-place l = length l.records - l.place

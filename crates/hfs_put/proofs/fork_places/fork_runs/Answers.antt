-- All runs, in their order.
use Rattle.std.proofs.Common.{◌∙◌, ap}
use Rattle.std.specs.BTreeMap as tree
use Rattle.std.specs.List.{flat_map}
use Rattle.std.specs.Ordering.{nat_cmp}
use Rattle.hfs_blocks.specs.Blocks.{block_at}
use Rattle.hfs_catalog.specs.Records.{Catalog}
use Rattle.hfs_put.specs.ForkRuns.{record_runs}
use Rattle.hfs_put.proofs.RunMembers.{fork_runs_are}
use Rattle.hfs_put.proofs.fork_places.fork_runs.Goals as goal

pub returns : goal.returns
returns c =
    let image = c.args.volume.now.current in
    let place_of = tree.get nat_cmp c.in_ok-places.places in
    let records = c.deref.ensures.value ∙ c.in_ok-records.ensures in
    fork_runs_are image c.args.items.now c.args.ids.now place_of c.in_ok-runs.runs.items c.sort_runs.new.runs.items c.agrees_with_base.ensures.agrees.sound c.in_ok-places.ensures
    (c.in_ok-runs.ensures ∙ ap (λ (rs : Catalog). flat_map (record_runs (block_at image) place_of) rs) records) c.sort_runs.ensures

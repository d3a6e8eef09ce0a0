-- The part that is next came.
use Rattle.std.proofs.Common.{rules, ◌≡◌, ◌<◌, length, slice_index_or}
use Rattle.hfs_rescue_items.proofs.SourceLemmas.{has_item}
use Rattle.hfs_rescue_items.proofs.items.RescueItemsBagSource.next_item.Goals as goal

pub returns-clause-taken : goal.returns-clause-taken
returns-clause-taken g c =
    let items = c.args.self.now in
    let planned = c.index-planned.result.now in
    let within : items.next < length items.plan.items = search rules in
    let is : planned ≡ slice_index_or items.plan.items items.next planned = search rules in
    λ image h. has_item image items.found items.plan.items items.next items.came c.in_ok-came.came items.reading c.in_ok-came.head planned within is c.in_ok-came.ensures.above
    c.in_ok-came.ensures.name c.in_ok-came.ensures.planned c.in_ok-came.ensures.head

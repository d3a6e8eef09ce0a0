-- The partitions of the map, where there is one.
use Rattle.std.proofs.Common.{◌≡◌, ◌∙◌, ◌++◌, ap, sym, append-nil}
use Rattle.std.specs.List.{range_with_len}
use Rattle.hfs_source.specs.PartitionMap.{partitions_among, partitions_in, partitions_of_map}
use Rattle.hfs_source.proofs.Entries.{partitions_found}
use Rattle.hfs_source.proofs.Handed.{done}
use Rattle.hfs_source.proofs.partition_map.push_partitions.Goals as goal

pub returns-in_ok-count-in-Some-clause-found : goal.returns-in_ok-count-in-Some-clause-found
returns-in_ok-count-in-Some-clause-found g c =
    let len = c.args.len in
    let found = c.args.found.now.items in
    let items = c.push_entries.new.found.items in
    let count = c.in_ok-count-in-Some.count in
    done c.push_entries.result (g.S.PlacedBytes.Holds c.push_entries.new.source)
    (λ file. items ≡ found ++ partitions_among c.in-Some.block len (range_with_len 1 count) file) (λ file. items ≡ found ++ partitions_in len file)
    (λ file h made.
    let before = c.push_entries.ensures.held file h in
    partitions_found len c.in-Some.block count found items file c.in_ok-block.field-0 (c.in_ok-block.ensures.block file (c.in_ok-count-in-Some.ensures.held file before))
    c.in-Some.is (c.in_ok-count-in-Some.ensures.count file before) made)
    c.push_entries.ensures.found

pub returns-in-None-clause-found : goal.returns-in-None-clause-found
unfolding partitions_in
returns-in-None-clause-found g c = λ file h.
    sym (append-nil c.args.found.now.items)
    ∙ ap (λ o. c.args.found.now.items ++ partitions_of_map c.args.len file o) (sym c.in-None.is ∙ c.in_ok-block.ensures.block file h)

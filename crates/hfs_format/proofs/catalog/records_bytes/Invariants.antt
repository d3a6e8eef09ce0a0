use Rattle.std.proofs.Common.{◌≡◌, ◌+◌, ◌*◌, ◌≤◌, take}
use Rattle.std.specs.List.{sum_by}
use Rattle.hfs_format.specs.Catalogs.{folder_bytes, item_bytes}
use Rattle.hfs_format.proofs.catalog.records_bytes.Given as goal

abbrev pub invariant-loop-item : goal.invariant-loop-item
invariant-loop-item l = record {
  bytes : l.bytes ≡ folder_bytes l.name_len + sum_by item_bytes (take l.item-index l.items);
  few : l.bytes ≤ 1024 + 1024 * l.item-index;
}

-- A payload that was given.
use Rattle.std.specs.Prelude.{◌≡◌, List, map}
use Rattle.hfs_bag.specs.declared.giving.GivenPayload.{GivenPayload}
use Rattle.hfs_bag.specs.Items.{BagItem, item_digests}
use Rattle.hfs_bag.specs.Bags.{bytes_in, payload}

-- this is kept of the payload of these items: the digests of their files, and how many bytes these have
pub record IsPayloadOf (given : GivenPayload) (items : List BagItem) : Type 0 where
  pub digests_are : given.digests.items ≡ map item_digests items
  pub bytes_are : given.bytes ≡ bytes_in (payload items)

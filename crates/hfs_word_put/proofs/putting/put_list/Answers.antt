-- The list with its places.
use Rattle.std.proofs.Common.{◌≡◌, ℕ, List, inr, subst, rules}
use Rattle.hfs_blocks.specs.Blocks.{block_at}
use Rattle.hfs_check.specs.Parts.{mdb_in}
use Rattle.hfs_check.specs.VolumeOf.{volume_of}
use Rattle.hfs_word_put.specs.Laid.{IsUnlaid, wants_of}
use Rattle.hfs_word_put.specs.Placed.{IsPlaced}
use Rattle.hfs_word_put.specs.Sums.{put_sums}
use Rattle.hfs_word_put.proofs.putting.put_list.Goals as goal

pub returns-in-Ok-clause-put : goal.returns-in-Ok-clause-put
returns-in-Ok-clause-put c =
    let sums : c.sums_of-sums.result ≡ put_sums c.in_ok-list.list.places.items (mdb_in (block_at c.lay_all.new.volume.current)).free_blocks = search rules in
    let placed = subst (λ (image : List ℕ). IsPlaced (volume_of image) c.args.order.now c.args.items.now c.in_ok-list.list) c.requires c.in_ok-list.ensures in
    record { list = c.in_ok-list.list; placed = placed; over = c.in-Ok.ensures.put; directory = c.in-Ok.ensures.directory; sums_are = sums }

pub returns-clause-fault : goal.returns-clause-fault
returns-clause-fault c =
    inr (record {
      list = c.in_ok-list.list;
      placed = subst (λ (image : List ℕ). IsPlaced (volume_of image) c.args.order.now c.args.items.now c.in_ok-list.list) c.requires c.in_ok-list.ensures;
      image = c.lay_all.new.volume.current;
      unlaid = subst (λ (image : List ℕ). IsUnlaid c.in_ok-list.list c.args.order.now.now c.args.items.now (wants_of (block_at image) c.in_ok-list.list.places.items)
          (volume_of c.args.volume.now.base) c.lay_all.new.volume.current c.in-Err.fault) c.requires c.in-Err.ensures.fault;
    })

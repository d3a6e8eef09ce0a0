-- Each item has its place, so no line is told.
use Rattle.std.proofs.Common.{◌≡◌, map, Some, rules}
use Rattle.hfs_check.specs.VolumeOf.{volume_of}
use Rattle.hfs_put.specs.PlacedSources.{decisions, item_put}
use Rattle.hfs_word_put.proofs.Places.{none_told}
use Rattle.hfs_word_put.proofs.placing.find_places.Goals as goal

pub returns-in-All-clause-none : goal.returns-in-All-clause-none
returns-in-All-clause-none c =
    let placed : map item_put (decisions (volume_of c.args.volume.now.current) c.args.target c.args.replace c.args.items.now) ≡ map Some c.in-All.places.items = search rules in
    none_told c.args.items.now _ c.in-All.places.items placed

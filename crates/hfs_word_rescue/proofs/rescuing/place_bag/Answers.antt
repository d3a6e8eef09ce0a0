-- A folder that did not get its place is taken away, and the fault names a path of the folder.
use Rattle.std.proofs.Common.{Global}
use Rattle.std.specs.Prelude.{string_bytes}
use Rattle.hfs_word_take.proofs.PlacedBagLemmas.{left_away}
use Rattle.hfs_word_rescue.proofs.PlacedLemmas.{unplaced_told}
use Rattle.hfs_word_rescue.proofs.rescuing.place_bag.Goals as goal

pub returns-in-Err-clause-fault : goal.returns-in-Err-clause-fault
returns-in-Err-clause-fault g c = unplaced_told c.args.words.now c.in-Err.back.fault c.of_shelf.result c.of_shelf.ensures c.in-Err.ensures.told

pub returns-in-Err-clause-away : goal.returns-in-Err-clause-away
returns-in-Err-clause-away g c =
    left_away c.in-Err.back.fault c.of_shelf.result (string_bytes {Z = Global} c.args.shelf.folder) (g.Y.FileSystem.did c.args.shelf.system)
    (g.Y.FileSystem.did c.in-Err.back.system) c.of_shelf.ensures c.in-Err.ensures.away

pub returns-in-Err-clause-told : goal.returns-in-Err-clause-told
returns-in-Err-clause-told g c = (c.in-Err.back.fault, c.in-Err.ensures.told, c.of_shelf.ensures)

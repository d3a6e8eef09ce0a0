-- Among few numbers it is the place of the one that was found.
use Rattle.hfs_blocks.proofs.TableLemmas.{place-among}
use Rattle.hfs_blocks.proofs.table.place_in_table.Goals as goal

pub returns-then-numbers-le-FEW : goal.returns-then-numbers-le-FEW
returns-then-numbers-le-FEW c = place-among c.args.numbers.now c.args.places.now.entries c.args.n c.place_among.result c.requires c.place_among.ensures

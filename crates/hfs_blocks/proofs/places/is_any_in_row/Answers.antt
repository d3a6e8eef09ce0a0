-- The blocks are in the row that was found, or in none.
use Rattle.hfs_blocks.proofs.PlaceLemmas.{none-in_row, none-no_row}
use Rattle.hfs_blocks.proofs.places.is_any_in_row.Goals as goal

pub returns-in-Some : goal.returns-in-Some
returns-in-Some c = λ none.
    none-in_row c.args.places.now.entries c.in-Some.row.now c.args.from c.args.until c.requires.some c.requires.one c.in-Some.ensures.value (c.is_any_taken.ensures none)

pub returns-in-None : goal.returns-in-None
returns-in-None c = λ none. none-no_row c.args.places.now.entries c.args.from c.args.until c.requires.some c.requires.one c.in-None.ensures.value

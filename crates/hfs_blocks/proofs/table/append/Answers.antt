-- What came behind the others makes a table with the places of the run.
use Rattle.std.proofs.Common.{arith}
use Rattle.hfs_blocks.proofs.TableLemmas.{table-appended, laid-appended}
use Rattle.hfs_blocks.proofs.table.append.Goals as goal

pub overflow_add-place : goal.overflow_add-place
overflow_add-place c = record { fits = omega (arith, c.len.ensures, c.requires.room.few) }

pub returns-clause-table : goal.returns-clause-table
returns-clause-table c =
    table-appended c.args.numbers.now.items c.push_numbers.new.numbers.items c.args.blocks.now.items c.args.run.now c.extend_from_slice.new.self.items c.args.places.now.entries
    c.set_places.new.places.entries c.args.first _ c.requires.table (omega (arith, c.len.ensures, c.args.numbers.now.ok.0)) c.push_numbers.ensures.numbers c.in-Ok.ensures.items
    c.set_places.ensures.placed c.requires.none c.requires.whole

pub returns-clause-laid : goal.returns-clause-laid
returns-clause-laid c =
    laid-appended c.args.numbers.now.items c.push_numbers.new.numbers.items c.args.blocks.now.items c.args.run.now c.extend_from_slice.new.self.items c.args.places.now.entries
    c.set_places.new.places.entries c.args.first _ c.requires.table (omega (arith, c.len.ensures, c.args.numbers.now.ok.0)) c.push_numbers.ensures.numbers c.in-Ok.ensures.items
    c.set_places.ensures.placed c.requires.none c.requires.whole

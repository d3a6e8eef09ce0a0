use Rattle.hfs_items.proofs.TableLemmas.{tables_are_inventories}
use Rattle.hfs_items.proofs.laws.tables_are_inventories.Goals as goal

pub returns : goal.returns
returns c = tables_are_inventories

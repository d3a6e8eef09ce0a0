use Rattle.std.proofs.Common.{◌≡◌, map, take}
use Rattle.hfs_word_make.specs.Items.{new_item_of}
use Rattle.hfs_word_make.proofs.items.new_items.Given as goal

abbrev pub invariant-loop-item : goal.invariant-loop-item
invariant-loop-item l = l.new.items ≡ map new_item_of (take l.item-index l.items)

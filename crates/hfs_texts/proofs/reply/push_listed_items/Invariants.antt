-- what came so far is appended
use Rattle.std.proofs.Common.{◌≡◌, ◌++◌, string_bytes, take}
use Rattle.std.specs.List.{flat_map}
use Rattle.hfs_texts.specs.Answers.{listed_item}
use Rattle.hfs_texts.proofs.reply.push_listed_items.Given as goal

abbrev pub invariant-loop-item : goal.invariant-loop-item
invariant-loop-item l = string_bytes l.text ≡ string_bytes l.initial.text ++ flat_map listed_item (take l.item-index l.items)

-- what came so far is appended
use Rattle.std.proofs.Common.{◌≡◌, ◌++◌, string_bytes, take}
use Rattle.std.specs.List.{flat_map}
use Rattle.hfs_texts.specs.Lines.{spaced_extent}
use Rattle.hfs_texts.proofs.text.push_spaced_extents.Given as goal

abbrev pub invariant-loop-extent : goal.invariant-loop-extent
invariant-loop-extent l = string_bytes l.text ≡ string_bytes l.initial.text ++ flat_map spaced_extent (take l.extent-index l.extents)

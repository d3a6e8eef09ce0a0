-- the lines so far are appended, and are written
use Rattle.std.proofs.Common.{◌≡◌, take}
use Rattle.std.specs.List.{All, flat_map}
use Rattle.hfs_scripts.specs.Texts.{fed}
use Rattle.hfs_scripts.specs.Readable.{IsWritten}
use Rattle.hfs_scripts.proofs.writing.write_lines.Given as goal

abbrev pub invariant-loop-place : goal.invariant-loop-place
invariant-loop-place l = record { text : l.text.items ≡ flat_map fed (take l.place l.lines); written : All (IsWritten l.now) (take l.place l.lines) }

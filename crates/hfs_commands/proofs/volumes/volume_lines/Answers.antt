-- No line where nothing was found.
use Rattle.std.proofs.Common.{◌≡◌, ◌<◌, length, rules}
use Rattle.std.specs.Prelude.{string_bytes}
use Rattle.hfs_commands.proofs.VolumeLines.{lines_none, lines_some}
use Rattle.hfs_commands.proofs.volumes.volume_lines.Goals as goal

pub returns-then-is_empty-clause-told : goal.returns-then-is_empty-clause-told
returns-then-is_empty-clause-told g c = λ file h.
    let none : length c.in_ok-ranges.ranges.items ≡ 0 = search rules in
    lines_none c.args.layout c.args.others c.in_ok-ranges.ranges.items file (c.in_ok-ranges.ensures.found file h) none

pub returns-clause-told : goal.returns-clause-told
returns-clause-told g c = λ file h.
    let some : 0 < length c.in_ok-ranges.ranges.items = search rules in
    lines_some c.args.layout c.args.others c.in_ok-ranges.ranges.items c.deref.result.now (string_bytes c.new-text.result) (string_bytes c.push_lines.new.text) file
    (c.in_ok-ranges.ensures.found file (c.in_ok-push_lines.ensures.held file h)) some c.deref.ensures.value c.new-text.ensures.bytes (c.in_ok-push_lines.ensures.lines file h)

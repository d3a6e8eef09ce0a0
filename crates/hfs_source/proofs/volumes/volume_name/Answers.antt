-- The name stands in the block that was read.
use Rattle.std.proofs.Common.{◌≡◌, ◌∙◌, ◌+◌, ap, rules}
use Rattle.hfs_fields.specs.Mdb.{bytes_at}
use Rattle.hfs_source.specs.Ranges.{signed_name}
use Rattle.hfs_source.proofs.Shorter.{volume_name_in-short, volume_name_in-long}
use Rattle.hfs_source.proofs.volumes.volume_name.Goals as goal

pub returns-then-range-lt-SHORTEST-clause-name : goal.returns-then-range-lt-SHORTEST-clause-name
returns-then-range-lt-SHORTEST-clause-name g c = λ file h. volume_name_in-short c.args.range file c.if-range-lt-SHORTEST.true

pub returns-clause-name : goal.returns-clause-name
returns-clause-name g c = λ file h.
    let place : c.in-Some.place ≡ c.args.range.start + 1024 = search rules in
    c.signed_name.ensures ∙ ap signed_name (c.in_ok-block.ensures.bytes file h ∙ ap (λ k. bytes_at k 64 file) place) ∙ volume_name_in-long c.args.range file c.if-range-lt-SHORTEST.false

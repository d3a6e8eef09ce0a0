-- The bytes before the sum, the sum, and those behind it.
use Rattle.std.proofs.Common.{◌≡◌, subst}
use Rattle.std.specs.Io.KnownBytes.{Appends}
use Rattle.hfs_fields.proofs.OutcomeLemmas.{on_err, on_ok, on_err_then}
use Rattle.hfs_source.specs.Sums.{sum_of}
use Rattle.hfs_texts.specs.Writing.{AppendsFront}
use Rattle.hfs_volume.specs.InFile.{changed_in, OfSumHead}
use Rattle.hfs_volume.proofs.InFiles.{of-range, sum_head-first, sum_head-sum, sum_head-last, sum_head-all}
use Rattle.hfs_volume.proofs.in_file.write_sum_head.Goals as goal

pub returns-in_err-write_span-clause-part : goal.returns-in_err-write_span-clause-part
returns-in_err-write_span-clause-part g c =
    let range = c.args.range in
    let changed = c.args.changed.now in
    let sum = c.in_ok-sum.sum in
    let old = g.W.Write.contents c.args.writer.now in
    let now = g.W.Write.contents c.write_span.new.writer in
    let part : OfSumHead (g.S.PlacedBytes.Holds c.write_span.new.source) range c.args.sum_at changed (AppendsFront old now) =
    λ file held lies.
    sum_head-first range c.args.sum_at (changed_in range changed file) file c.requires.before sum
    (of-range (g.S.PlacedBytes.Holds c.range_sum.new.source) range changed (λ bytes. sum ≡ sum_of bytes) c.in_ok-sum.ensures.sum file
    (c.write_span.ensures.narrows file held) lies)
    old now (c.in_err-write_span.ensures.part file held) in
    on_err _ _ part

pub returns-in_default-clause-part : goal.returns-in_default-clause-part
returns-in_default-clause-part g c =
    let range = c.args.range in
    let changed = c.args.changed.now in
    let sum = c.in_ok-sum.sum in
    let old = g.W.Write.contents c.args.writer.now in
    let one = g.W.Write.contents c.write_span.new.writer in
    let now = g.W.Write.contents c.put.new.writer in
    λ file held lies.
    sum_head-sum range c.args.sum_at (changed_in range changed file) file c.requires.before sum
    (of-range (g.S.PlacedBytes.Holds c.range_sum.new.source) range changed (λ bytes. sum ≡ sum_of bytes) c.in_ok-sum.ensures.sum file
    (c.write_span.ensures.narrows file held) lies)
    old one (c.in_ok-write_span.ensures.written file held) now
    (subst (AppendsFront one now) c.to_be_bytes.ensures c.in_default.ensures.err)

pub returns-clause-written : goal.returns-clause-written
returns-clause-written g c =
    let range = c.args.range in
    let changed = c.args.changed.now in
    let sum = c.in_ok-sum.sum in
    let old = g.W.Write.contents c.args.writer.now in
    let one = g.W.Write.contents c.write_span.new.writer in
    let two = g.W.Write.contents c.put.new.writer in
    let now = g.W.Write.contents c.write_span-2.new.writer in
    on_ok c.write_span-2.result _ _ (λ own file held lies.
    let earlier = c.write_span-2.ensures.narrows file held in
    sum_head-all range c.args.sum_at (changed_in range changed file) file c.requires.before sum
    (of-range (g.S.PlacedBytes.Holds c.range_sum.new.source) range changed (λ bytes. sum ≡ sum_of bytes) c.in_ok-sum.ensures.sum file
    (c.write_span.ensures.narrows file earlier) lies)
    old one (c.in_ok-write_span.ensures.written file earlier) two (subst (Appends one two) c.to_be_bytes.ensures c.in-Ok.ensures.ok)
    now (own file held))
    c.write_span-2.ensures.written

pub returns-clause-part : goal.returns-clause-part
returns-clause-part g c =
    let range = c.args.range in
    let changed = c.args.changed.now in
    let sum = c.in_ok-sum.sum in
    let old = g.W.Write.contents c.args.writer.now in
    let one = g.W.Write.contents c.write_span.new.writer in
    let two = g.W.Write.contents c.put.new.writer in
    let now = g.W.Write.contents c.write_span-2.new.writer in
    on_err_then c.write_span-2.result _ _ (λ own file held lies.
    let earlier = c.write_span-2.ensures.narrows file held in
    sum_head-last range c.args.sum_at (changed_in range changed file) file c.requires.before sum
    (of-range (g.S.PlacedBytes.Holds c.range_sum.new.source) range changed (λ bytes. sum ≡ sum_of bytes) c.in_ok-sum.ensures.sum file
    (c.write_span.ensures.narrows file earlier) lies)
    old one (c.in_ok-write_span.ensures.written file earlier) two (subst (Appends one two) c.to_be_bytes.ensures c.in-Ok.ensures.ok)
    now (own file held))
    c.write_span-2.ensures.part

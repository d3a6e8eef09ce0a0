-- What stands before the image, the image, and what stands behind it.
use Rattle.std.specs.Io.KnownBytes.{Appends}
use Rattle.hfs_fields.proofs.OutcomeLemmas.{on_err, on_ok, on_err_then}
use Rattle.hfs_texts.specs.Writing.{AppendsFront}
use Rattle.hfs_volume.specs.InFile.{OfFileWith}
use Rattle.hfs_volume.proofs.InFiles.{of-range, lies, file-head, file-image, file-behind, file-all}
use Rattle.hfs_volume.proofs.in_file.write_file_with.Goals as goal

pub returns-in_err-write_head-clause-part : goal.returns-in_err-write_head-clause-part
returns-in_err-write_head-clause-part g c =
    let place = c.args.place.now in
    let changed = c.args.changed.now in
    let end = c.in-Some.end in
    let all = c.len-all.result in
    let old = g.W.Write.contents c.args.writer.now in
    let now = g.W.Write.contents c.write_head.new.writer in
    let part : OfFileWith (g.S.PlacedBytes.Holds c.write_head.new.source) place changed (AppendsFront old now) =
    λ file held.
    let long = c.len-all.ensures file (c.write_head.ensures.narrows file held) in
    file-head place changed file end all c.in-Some.ensures.end long c.in-Some.ensures.within old now
    (c.in_err-write_head.ensures.part file held (lies place changed file end all c.in-Some.ensures.end long c.in-Some.ensures.within)) in
    on_err _ _ part

pub returns-in_err-write_range-clause-part : goal.returns-in_err-write_range-clause-part
returns-in_err-write_range-clause-part g c =
    let place = c.args.place.now in
    let changed = c.args.changed.now in
    let end = c.in-Some.end in
    let all = c.len-all.result in
    let old = g.W.Write.contents c.args.writer.now in
    let one = g.W.Write.contents c.write_head.new.writer in
    let now = g.W.Write.contents c.write_range.new.writer in
    let Holds = g.S.PlacedBytes.Holds c.write_range.new.source in
    let part : OfFileWith Holds place changed (AppendsFront old now) =
    λ file held.
    let earlier = c.write_range.ensures.narrows file held in
    let long = c.len-all.ensures file (c.write_head.ensures.narrows file earlier) in
    let there = lies place changed file end all c.in-Some.ensures.end long c.in-Some.ensures.within in
    file-image place changed file end all c.in-Some.ensures.end long c.in-Some.ensures.within old one
    (c.in_ok-write_head.ensures.written file earlier there) now
    (of-range Holds place.range changed (AppendsFront one now) c.in_err-write_range.ensures.part file held there) in
    on_err _ _ part

pub returns-clause-written : goal.returns-clause-written
returns-clause-written g c =
    let place = c.args.place.now in
    let changed = c.args.changed.now in
    let end = c.in-Some.end in
    let all = c.len-all.result in
    let old = g.W.Write.contents c.args.writer.now in
    let one = g.W.Write.contents c.write_head.new.writer in
    let two = g.W.Write.contents c.write_range.new.writer in
    let now = g.W.Write.contents c.write_span.new.writer in
    on_ok c.write_span.result _ _ (λ own file held.
    let later = c.write_span.ensures.narrows file held in
    let earlier = c.write_range.ensures.narrows file later in
    let long = c.len-all.ensures file (c.write_head.ensures.narrows file earlier) in
    let there = lies place changed file end all c.in-Some.ensures.end long c.in-Some.ensures.within in
    file-all place changed file end all c.in-Some.ensures.end long c.in-Some.ensures.within old one
    (c.in_ok-write_head.ensures.written file earlier there) two
    (of-range (g.S.PlacedBytes.Holds c.write_range.new.source) place.range changed (Appends one two)
    c.in_ok-write_range.ensures.written file later there)
    now (own file held))
    c.write_span.ensures.written

pub returns-clause-part : goal.returns-clause-part
returns-clause-part g c =
    let place = c.args.place.now in
    let changed = c.args.changed.now in
    let end = c.in-Some.end in
    let all = c.len-all.result in
    let old = g.W.Write.contents c.args.writer.now in
    let one = g.W.Write.contents c.write_head.new.writer in
    let two = g.W.Write.contents c.write_range.new.writer in
    let now = g.W.Write.contents c.write_span.new.writer in
    on_err_then c.write_span.result _ _ (λ own file held.
    let later = c.write_span.ensures.narrows file held in
    let earlier = c.write_range.ensures.narrows file later in
    let long = c.len-all.ensures file (c.write_head.ensures.narrows file earlier) in
    let there = lies place changed file end all c.in-Some.ensures.end long c.in-Some.ensures.within in
    file-behind place changed file end all c.in-Some.ensures.end long c.in-Some.ensures.within old one
    (c.in_ok-write_head.ensures.written file earlier there) two
    (of-range (g.S.PlacedBytes.Holds c.write_range.new.source) place.range changed (Appends one two)
    c.in_ok-write_range.ensures.written file later there)
    now (own file held))
    c.write_span.ensures.part

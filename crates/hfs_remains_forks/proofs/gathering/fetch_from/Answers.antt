-- Those that follow one another are read together.
use Rattle.std.proofs.Common.{◌≡◌, ℕ, ◌+◌, ◌-◌, ◌<◌, ◌≤◌, None, Some, slice_index_or, sym, ap, ◌∙◌, arith, rules}
use Rattle.hfs_space.specs.Forks.{blocks_each}
use Rattle.hfs_catalog.proofs.Indexed.{same_some}
use Rattle.hfs_remains.specs.Allocation.{start_of}
use Rattle.hfs_image.proofs.Gathered.{reads-range}
use Rattle.hfs_remains_forks.proofs.GatherLemmas.{row-ends, row-read}
use Rattle.hfs_remains_forks.proofs.gathering.fetch_from.Goals as goal

pub returns-clause-has : goal.returns-clause-has
returns-clause-has g c =
    let mdb = c.args.mdb.now in
    let b = c.in-Some.b in
    let step = c.side_by_side-step.result in
    let last : slice_index_or c.args.file.now (c.args.i + (step - 1)) None ≡ Some c.in-Some-file.last = search rules in
    let lower : step - 1 < step = omega (arith, c.side_by_side-step.ensures.few.0) in
    let number : c.in-Some-file.last ≡ b + (step - 1) = same_some c.in-Some-file.last (b + (step - 1)) (sym last ∙ c.side_by_side-step.ensures.beside (step - 1) lower) in
    row-read c.fetch_range.new.read mdb c.args.file.now c.args.i b step c.start_of-start.result (c.start_of.result + blocks_each mdb)
    c.side_by_side-step.ensures.few.0 c.side_by_side-step.ensures.beside c.start_of-start.ensures.start
    (ap (λ (n : ℕ). n + blocks_each mdb) (c.start_of.ensures.start ∙ ap (start_of mdb) number)) c.in_ok-fetch_range.ensures.has

pub returns-clause-reads : goal.returns-clause-reads
returns-clause-reads g c =
    let mdb = c.args.mdb.now in
    let b = c.in-Some.b in
    let step = c.side_by_side-step.result in
    let last : slice_index_or c.args.file.now (c.args.i + (step - 1)) None ≡ Some c.in-Some-file.last = search rules in
    let lower : step - 1 < step = omega (arith, c.side_by_side-step.ensures.few.0) in
    let number : c.in-Some-file.last ≡ b + (step - 1) = same_some c.in-Some-file.last (b + (step - 1)) (sym last ∙ c.side_by_side-step.ensures.beside (step - 1) lower) in
    let ends : c.start_of-start.result ≤ c.start_of.result + blocks_each mdb =
    row-ends mdb b step c.start_of-start.result (c.start_of.result + blocks_each mdb) c.side_by_side-step.ensures.few.0 c.start_of-start.ensures.start
    (ap (λ (n : ℕ). n + blocks_each mdb) (c.start_of.ensures.start ∙ ap (start_of mdb) number)) in
    reads-range (g.S.BlockSource.image c.args.source.now) c.args.count c.args.read.now c.fetch_range.new.read c.start_of-start.result
    (c.start_of.result + blocks_each mdb - c.start_of-start.result) (omega (arith, ends, c.start_of.ensures.room)) c.in_ok-fetch_range.ensures.grown
    c.in_ok-fetch_range.ensures.stays c.in_ok-fetch_range.ensures.within

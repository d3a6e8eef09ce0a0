-- The master directory block, and what is needed behind a right one.
use Rattle.std.proofs.Common.{◌≡◌, ◌<◌, true, arith, rules}
use Rattle.std.specs.Prelude.{is_some}
use Rattle.hfs_check.specs.Faults as faults
use Rattle.hfs_check.specs.Parts.{mdb_in}
use Rattle.hfs_source.specs.Sparse.{sparse}
use Rattle.hfs_image.proofs.Gathered.{reads-block, reads-on, reads-start, needs_two}
use Rattle.hfs_source.proofs.Seen.{sees_on}
use Rattle.hfs_image.proofs.SeenStart.{seen-start}
use Rattle.hfs_image.proofs.gathering.gather_needed.Goals as goal

pub returns-then-is_some-clause-needed : goal.returns-then-is_some-clause-needed
returns-then-is_some-clause-needed g c =
    let wrong : is_some (faults.mdb_fault c.args.count (mdb_in (sparse c.fetch.new.read))) ≡ true = search rules in
    needs_two c.args.count c.fetch.new.read wrong c.in_ok-fetch.ensures.has

pub returns-then-is_some-clause-told : goal.returns-then-is_some-clause-told
returns-then-is_some-clause-told g c =
    let lt : 2 < c.args.count = omega (arith, c.requires) in
    (reads-start (g.S.BlockSource.image c.args.source.now) c.args.count c.new-read.result c.fetch.new.read c.new-read.ensures
    (reads-block (g.S.BlockSource.image c.args.source.now) c.args.count c.new-read.result c.fetch.new.read 2 lt
    c.in_ok-fetch.ensures.grown c.in_ok-fetch.ensures.stays c.in_ok-fetch.ensures.within)).0

pub returns-then-is_some-clause-within : goal.returns-then-is_some-clause-within
returns-then-is_some-clause-within g c =
    let lt : 2 < c.args.count = omega (arith, c.requires) in
    (reads-start (g.S.BlockSource.image c.args.source.now) c.args.count c.new-read.result c.fetch.new.read c.new-read.ensures
    (reads-block (g.S.BlockSource.image c.args.source.now) c.args.count c.new-read.result c.fetch.new.read 2 lt
    c.in_ok-fetch.ensures.grown c.in_ok-fetch.ensures.stays c.in_ok-fetch.ensures.within)).1

pub returns-clause-told : goal.returns-clause-told
returns-clause-told g c =
    let lt : 2 < c.args.count = omega (arith, c.requires) in
    (reads-start (g.S.BlockSource.image c.args.source.now) c.args.count c.new-read.result c.gather_rest.new.read c.new-read.ensures
    (reads-on (g.S.BlockSource.image c.args.source.now) (g.S.BlockSource.image c.fetch.new.source) c.args.count c.new-read.result c.fetch.new.read
    c.gather_rest.new.read c.in_ok-fetch.ensures.image
    (reads-block (g.S.BlockSource.image c.args.source.now) c.args.count c.new-read.result c.fetch.new.read 2 lt
    c.in_ok-fetch.ensures.grown c.in_ok-fetch.ensures.stays c.in_ok-fetch.ensures.within)
    c.in_ok-gather_rest.ensures.reads)).0

pub returns-clause-within : goal.returns-clause-within
returns-clause-within g c =
    let lt : 2 < c.args.count = omega (arith, c.requires) in
    (reads-start (g.S.BlockSource.image c.args.source.now) c.args.count c.new-read.result c.gather_rest.new.read c.new-read.ensures
    (reads-on (g.S.BlockSource.image c.args.source.now) (g.S.BlockSource.image c.fetch.new.source) c.args.count c.new-read.result c.fetch.new.read
    c.gather_rest.new.read c.in_ok-fetch.ensures.image
    (reads-block (g.S.BlockSource.image c.args.source.now) c.args.count c.new-read.result c.fetch.new.read 2 lt
    c.in_ok-fetch.ensures.grown c.in_ok-fetch.ensures.stays c.in_ok-fetch.ensures.within)
    c.in_ok-gather_rest.ensures.reads)).1

pub returns-in_err-fetch-clause-narrows : goal.returns-in_err-fetch-clause-narrows
returns-in_err-fetch-clause-narrows g c = c.in_err-fetch.ensures.sees.held

pub returns-then-is_some-clause-narrows : goal.returns-then-is_some-clause-narrows
returns-then-is_some-clause-narrows g c = c.in_ok-fetch.ensures.sees.held

pub returns-then-is_some-clause-seen : goal.returns-then-is_some-clause-seen
returns-then-is_some-clause-seen g c = seen-start c.new-read.ensures c.in_ok-fetch.ensures.sees

pub returns-in_err-gather_rest-clause-narrows : goal.returns-in_err-gather_rest-clause-narrows
returns-in_err-gather_rest-clause-narrows g c = (sees_on c.in_ok-fetch.ensures.sees c.in_err-gather_rest.ensures.sees).held

pub returns-clause-narrows : goal.returns-clause-narrows
returns-clause-narrows g c = (sees_on c.in_ok-fetch.ensures.sees c.in_ok-gather_rest.ensures.sees).held

pub returns-clause-seen : goal.returns-clause-seen
returns-clause-seen g c = seen-start c.new-read.ensures (sees_on c.in_ok-fetch.ensures.sees c.in_ok-gather_rest.ensures.sees)

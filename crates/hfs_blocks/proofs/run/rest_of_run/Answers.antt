-- The nodes behind one of a run stand as far behind its first.
use Rattle.std.proofs.Common.{◌≡◌, ◌+◌, ◌-◌, ◌∙◌, get_or, arith}
use Rattle.hfs_blocks.specs.declared.run.Run.{Run}
use Rattle.hfs_blocks.proofs.FileRuns.{block-is, run-ends}
use Rattle.hfs_blocks.proofs.run.rest_of_run.Goals as goal

abbrev none : Run
none = record { first = 0; count = 0; before = 0 }

pub returns-clause-some : goal.returns-clause-some
returns-clause-some c =
    let begins = c.place_of.ensures.begins none in
    let ends = c.place_of.ensures.ends none in
    omega (arith, begins, ends)

pub returns-clause-within : goal.returns-clause-within
returns-clause-within c =
    let begins = c.place_of.ensures.begins none in
    let within = run-ends c.args.runs.now c.place_of.result none c.requires.small.counted c.place_of.ensures.within in
    omega (arith, begins, within, c.requires.within)

pub returns-clause-numbers : goal.returns-clause-numbers
returns-clause-numbers c = λ i lt.
    let run = get_or c.args.runs.now c.place_of.result none in
    let begins = c.place_of.ensures.begins none in
    block-is c.args.runs.now (c.args.n + i) c.place_of.result none c.requires.small.counted c.place_of.ensures.within (omega (arith, begins)) (omega (arith, begins, lt))
    ∙ (let sum : run.first + (c.args.n + i - run.before) ≡ run.first + (c.args.n - run.before) + i = omega (arith, begins) in sum)

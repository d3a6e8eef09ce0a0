-- By the next run.
use Rattle.std.proofs.Common.{◌∙◌, ◌-◌, min, sym, arith}
use Rattle.hfs_put.specs.Runs.{end_of}
use Rattle.hfs_put.proofs.OrderLemmas.{next-ends}
use Rattle.hfs_put.proofs.PieceLemmas.{piece-before, piece-behind, piece-in, piece-next}
use Rattle.hfs_put.proofs.piece.piece_at.Goals as goal

pub returns-then-at-start-clause-bytes : goal.returns-then-at-start-clause-bytes
returns-then-at-start-clause-bytes c = piece-before c.args.start c.args.at c.least.result c.args.runs.now (omega (arith, c.least.ensures))

pub piece_before-requires-clause-ends : goal.piece_before-requires-clause-ends
piece_before-requires-clause-ends c = next-ends c.args.runs.now (c.args.at - c.args.start) c.in-Some.run' (sym c.next_run.ensures ∙ c.in-Some.is)

pub returns-in-Some-clause-bytes : goal.returns-in-Some-clause-bytes
returns-in-Some-clause-bytes c =
    let run = c.in-Some.run' in
    let byte = c.args.at - c.args.start in
    let ends = next-ends c.args.runs.now byte run (sym c.next_run.ensures ∙ c.in-Some.is) in
    piece-next c.args.start c.args.at (min c.args.room (run.place - byte)) (min c.args.room (end_of run - byte)) c.args.runs.now run c.piece_before.result (omega arith)
    (sym c.next_run.ensures ∙ c.in-Some.is) c.piece_before.ensures.before (λ less. omega (arith, less)) c.piece_before.ensures.in_run (λ inside. omega (arith, ends))

pub returns-in-Some-clause-inside : goal.returns-in-Some-clause-inside
returns-in-Some-clause-inside c =
    let run = c.in-Some.run' in
    let byte = c.args.at - c.args.start in
    let ends = next-ends c.args.runs.now byte run (sym c.next_run.ensures ∙ c.in-Some.is) in
    piece-in c.args.start c.args.at (min c.args.room (run.place - byte)) (min c.args.room (end_of run - byte)) c.args.runs.now run c.piece_before.result (omega arith)
    (sym c.next_run.ensures ∙ c.in-Some.is) c.piece_before.ensures.before c.piece_before.ensures.in_run (λ inside. omega (arith, ends))

pub returns-in-None-clause-bytes : goal.returns-in-None-clause-bytes
returns-in-None-clause-bytes c = piece-behind c.args.start c.args.at c.args.room c.args.runs.now (omega arith) (sym c.next_run.ensures ∙ c.in-None.is)

use Rattle.std.proofs.Common.{◌++◌, ◌∷◌, [], sym, ◌∙◌, arith}
use Rattle.std.proofs.lemmas.List.FromFn.{map-range_with_len_more}
use Rattle.hfs_remains.specs.Allocation.{is_there}
use Rattle.hfs_remains.proofs.FileLemmas.{marks-tell, few-marks}
use Rattle.hfs_remains.proofs.tree_file.marks_of.Goals as goal

pub loop-b-preserved : goal.loop-b-preserved
loop-b-preserved c =
    c.in_ok-push.ensures.items
    ∙ (λ t. c.loop-b.invariant t ++ c.is_there.ensures t ∷ [])
    ∙ sym (map-range_with_len_more (is_there c.args.total c.args.mdb.now) 0 c.loop-b.b c.loop-b.b (omega arith))

pub returns-clause-marks : goal.returns-clause-marks
returns-clause-marks c = marks-tell c.args.total c.args.mdb.now c.loop-b.marks.items c.loop-b.b c.loop-b.invariant (omega arith)

pub returns-clause-few : goal.returns-clause-few
returns-clause-few c = omega (arith, few-marks c.args.total c.args.mdb.now c.loop-b.marks.items c.loop-b.b c.loop-b.invariant)

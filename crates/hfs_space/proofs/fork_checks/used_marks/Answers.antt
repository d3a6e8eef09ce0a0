use Rattle.std.proofs.Common.{◌≡◌, Bool, false, List, replicate, get_or, length, ap, ◌∙◌, arith}
use Rattle.std.proofs.lemmas.List.{get_or-replicate}
use Rattle.hfs_space.specs.Runs.{forks_with}
use Rattle.hfs_space.proofs.UsedMarks.{are-marks, written}
use Rattle.hfs_space.proofs.fork_checks.used_marks.Goals as goal

pub returns-clause-marks : goal.returns-clause-marks
returns-clause-marks c =
    λ k d b lt.
    let clear : c.in_ok-marks.marks.items ≡ replicate (length c.args.overflow.now) false = c.in_ok-marks.ensures.items_if_clones_equal (λ y same. same) in
    ap (λ (l : List Bool). get_or l k b) (written c.in_ok-marks.marks.len c.mark_used.new.marks c.in_ok-marks.marks.items (omega arith) (omega arith))
    ∙ are-marks c.args.overflow.now (forks_with c.args.mdb.now c.args.files.now) c.deref_mut.result.now c.mark_used.new.marks
    (λ k' b' lt'. ap (λ (l : List Bool). get_or l k' b') (c.deref_mut.ensures.value ∙ clear) ∙ get_or-replicate (length c.args.overflow.now) k' false b' lt') c.mark_used.ensures k d b lt

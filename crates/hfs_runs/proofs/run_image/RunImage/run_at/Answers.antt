-- What was read, and what the run made of it.
use Rattle.std.proofs.Common.{ℕ, ap, sym, subst}
use Rattle.hfs_runs.specs.declared.pieces.Answers.{Answers}
use Rattle.hfs_runs.specs.Pieces.{text_of_pieces}
use Rattle.hfs_source.specs.Images.{OfEach}
use Rattle.hfs_runs.specs.Running.{IsNeededRunOf}
use Rattle.hfs_runs.proofs.RunNeeded.{mountable-old, sound-new, needed-run, seen-then, started}
use Rattle.hfs_runs.proofs.run_image.RunImage.run_at.Goals as goal

pub fetch_named_forks-requires : goal.fetch_named_forks-requires
fetch_named_forks-requires g c =
    mountable-old (g.S.BlockSource.Holds c.self.inside.source) (g.S.BlockSource.Holds c.self.inside.source) c.self.inside.len c.self.inside.working
    c.self.inside.working c.self.invariant

pub run_needed_at-requires-clause-sound : goal.run_needed_at-requires-clause-sound
run_needed_at-requires-clause-sound g c = λ κs live.
    sound-new (g.S.BlockSource.Holds c.self.inside.source) (g.S.BlockSource.Holds c.self.inside.source) c.self.inside.len c.self.inside.working
    c.fetch_named_forks.new.working c.self.invariant c.fetch_named_forks.ensures.mountable

pub returns-in-Ok-run_needed_at-clause-ran : goal.returns-in-Ok-run_needed_at-clause-ran
returns-in-Ok-run_needed_at-clause-ran g c =
    let made = c.ran_image.result in
    let then : OfEach (g.S.BlockSource.Holds made.image.source) (g.S.BlockSource.Holds c.fetch_named_forks.new.source) = λ image h.
    c.look_again.ensures.narrows image (subst (λ s. g.S.BlockSource.Holds s image) c.ran_image.ensures.source h) in
    subst (λ (n : ℕ). IsNeededRunOf (g.S.BlockSource.Holds made.image.source) n c.args.script made.image.patch (text_of_pieces made.answers) made.whole made.shown
    made.answers.replies.workers.items)
    (ap (λ s. s.1) c.self.view_is)
    (needed-run (g.S.BlockSource.Holds c.self.inside.source) (g.S.BlockSource.Holds made.image.source) c.self.inside.len c.self.inside.working
    c.fetch_named_forks.new.working c.self.invariant c.fetch_named_forks.ensures.mountable c.args.script made.image.patch (text_of_pieces made.answers)
    made.whole made.shown made.answers.replies.workers.items c.in-Ok-run_needed_at.ran c.ran_image.ensures.patch (ap text_of_pieces c.ran_image.ensures.answers) c.ran_image.ensures.whole
    c.ran_image.ensures.shown (ap (λ (a : Answers). a.replies.workers.items) c.ran_image.ensures.answers) c.in-Ok-run_needed_at.ensures.ran c.in-Ok.ensures.forks
    (seen-then c.self.invariant.seen c.fetch_named_forks.ensures.sees then))

pub returns-in-Ok-run_needed_at-clause-narrows : goal.returns-in-Ok-run_needed_at-clause-narrows
returns-in-Ok-run_needed_at-clause-narrows g c = λ image h.
    let made = c.ran_image.result in
    let looked = subst (λ s. g.S.BlockSource.Holds s image) c.ran_image.ensures.source h in
    subst (λ s. g.S.BlockSource.Holds s image) (ap (λ s. s.0) c.self.view_is)
    (c.fetch_named_forks.ensures.sees.held image (c.look_again.ensures.narrows image looked))

pub returns-in-Ok-run_needed_at-clause-settled : goal.returns-in-Ok-run_needed_at-clause-settled
returns-in-Ok-run_needed_at-clause-settled g c = subst (λ s. g.S.Watched.settled s) (sym c.ran_image.ensures.source) c.in-Ok-look_again.ensures.settled

pub returns-clause-fault : goal.returns-clause-fault
returns-clause-fault g c = started c.args.script c.args.path c.in-Err.fault c.run_fault.result c.run_fault.ensures c.in-Err.ensures.err

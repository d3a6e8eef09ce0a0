-- The blocks that become zeros are among those of the image; then the patch lies over them, and all over what was kept.
use Rattle.std.proofs.Common.{sym, subst}
use Rattle.hfs_blocks.specs.Layers.{Numbered, changes, over, AreWithin, HasJoined, IsLaid}
use Rattle.hfs_space.specs.Flags.{flagged}
use Rattle.hfs_space.proofs.Joined.{has_blocks, laid_with}
use Rattle.hfs_space.proofs.RunLemmas.{again_within}
use Rattle.hfs_space.proofs.laying.lay_change.Goals as goal

pub lay_over-requires : goal.lay_over-requires
lay_over-requires g c =
    subst (λ (all : Numbered). AreWithin (changes all) (g.B.Blocks.total c.args.below.now)) (sym c.made_or.ensures)
    (c.in_ok-all.ensures.within (again_within (g.B.Blocks.total c.args.below.now) c.args.runs.now c.args.kept.now c.in_ok-again.again c.requires.runs c.in_ok-again.ensures))

pub returns-clause-joined : goal.returns-clause-joined
returns-clause-joined g c =
    let joined = subst (λ (all : Numbered). HasJoined (changes c.args.kept.now) (changes all) (changes c.lay_over.new.kept)) c.made_or.ensures c.in_ok-lay_over.ensures.joined in
    has_blocks c.args.patch.now c.args.runs.now c.args.kept.now c.in_ok-again.again _ c.lay_over.new.kept c.args.flags.now c.flag_runs.new.flags c.in_ok-again.ensures c.in_ok-all.ensures.all joined c.flag_runs.ensures

pub returns-clause-laid : goal.returns-clause-laid
returns-clause-laid g c =
    let below = g.B.Blocks.blocks c.args.below.now in
    let joined = subst (λ (all : Numbered). HasJoined (changes c.args.kept.now) (changes all) (changes c.lay_over.new.kept)) c.made_or.ensures c.in_ok-lay_over.ensures.joined in
    let laid = subst (λ (all : Numbered). IsLaid (over (flagged c.args.flags.now) below) c.args.kept.now all c.lay_over.new.kept) c.made_or.ensures c.in_ok-lay_over.ensures.laid in
    laid_with c.args.patch.now c.args.runs.now c.args.kept.now c.in_ok-again.again _ c.lay_over.new.kept c.args.flags.now c.flag_runs.new.flags below c.in_ok-again.ensures c.in_ok-all.ensures.all joined laid c.flag_runs.ensures

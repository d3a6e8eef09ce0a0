-- What came first, the zeros of forks, and those that went back.
use Rattle.std.proofs.Common.{◌∙◌, ap, refl}
use Rattle.hfs_volume.specs.declared.base.BaseBlocks.{BaseBlocks}
use Rattle.hfs_copy.proofs.KeptBlocks.{few-in, kept-so}
use Rattle.hfs_copy.proofs.keeping.kept_blocks.Goals as goal

pub keep_given_back-requires : goal.keep_given_back-requires
keep_given_back-requires c = few-in c.args.volume.now.base c.args.free.now c.in_ok-base.ensures.sound.len c.requires.free

pub returns-clause-kept : goal.returns-clause-kept
returns-clause-kept c =
    let both = kept-so c.changes-changed.result.now c.over-now.result.changed.now c.changes-changed.result.now c.args.volume.now c.over-now.result.below.now.base.now c.count.result
    c.args.forks.now c.args.free.now c.new-kept.result c.keep_all_changed.new.kept c.keep_zeros_in.new.kept c.keep_given_back.new.kept c.over-now.ensures.changed refl
    (ap (λ (b : BaseBlocks). b.base.now) c.over-now.ensures.below ∙ c.blocks-below.ensures ∙ c.in_ok-base.ensures.base) c.count.ensures c.new-kept.ensures c.changes-changed.ensures.current
    c.changes-changed.ensures.changed c.over-now.result.whole c.requires.forks c.requires.free c.in_ok-keep_all_changed.ensures c.in_ok-keep_zeros_in.ensures
    c.in_ok-keep_given_back.ensures in
    both.0

pub returns-clause-makes : goal.returns-clause-makes
returns-clause-makes c =
    let both = kept-so c.changes-changed.result.now c.over-now.result.changed.now c.changes-changed.result.now c.args.volume.now c.over-now.result.below.now.base.now c.count.result
    c.args.forks.now c.args.free.now c.new-kept.result c.keep_all_changed.new.kept c.keep_zeros_in.new.kept c.keep_given_back.new.kept c.over-now.ensures.changed refl
    (ap (λ (b : BaseBlocks). b.base.now) c.over-now.ensures.below ∙ c.blocks-below.ensures ∙ c.in_ok-base.ensures.base) c.count.ensures c.new-kept.ensures c.changes-changed.ensures.current
    c.changes-changed.ensures.changed c.over-now.result.whole c.requires.forks c.requires.free c.in_ok-keep_all_changed.ensures c.in_ok-keep_zeros_in.ensures
    c.in_ok-keep_given_back.ensures in
    both.1

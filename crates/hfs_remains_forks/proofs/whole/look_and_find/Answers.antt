-- The images that hold at the end held behind the look.
use Rattle.hfs_source.specs.Images.{FailsWhere, OfEach}
use Rattle.std.proofs.Common.{◌≡◌, rules}
use Rattle.hfs_source.specs.declared.fetching.SparseFault.TheVariants.{ReadFailed}
use Rattle.hfs_remains_forks.proofs.LookLemmas.{err_failed, err_narrows, ok_narrows}
use Rattle.hfs_remains_forks.proofs.whole.look_and_find.Goals as goal

pub returns-in-Ok-clause-narrows : goal.returns-in-Ok-clause-narrows
returns-in-Ok-clause-narrows g c =
    let held : OfEach (g.S.PlacedBlocks.Holds c.in-Ok.image) (g.S.PlacedBlocks.Holds c.args.source.blocks) = search rules in
    ok_narrows c.find_sound.result (g.S.PlacedBlocks.Holds c.in-Ok.image) (g.S.PlacedBlocks.Holds c.args.source.blocks)
    (λ made. g.S.PlacedBlocks.Holds made.source.blocks) c.find_sound.ensures.narrows held

pub returns-in-Ok-clause-back : goal.returns-in-Ok-clause-back
returns-in-Ok-clause-back g c =
    let held : OfEach (g.S.PlacedBlocks.Holds c.in-Ok.image) (g.S.PlacedBlocks.Holds c.args.source.blocks) = search rules in
    err_narrows c.find_sound.result (g.S.PlacedBlocks.Holds c.in-Ok.image) (g.S.PlacedBlocks.Holds c.args.source.blocks)
    (λ back. g.S.PlacedBlocks.Holds back.source.blocks) c.find_sound.ensures.back held

pub returns-in-Ok-clause-failed : goal.returns-in-Ok-clause-failed
returns-in-Ok-clause-failed g c =
    let later : FailsWhere (g.S.PlacedBlocks.Fails c.in-Ok.image) (g.S.PlacedBlocks.Fails c.args.source.blocks) = search rules in
    err_failed c.find_sound.result (λ back. back.fault ≡ ReadFailed) (g.S.PlacedBlocks.Holds c.args.source.blocks)
    (g.S.PlacedBlocks.Fails c.in-Ok.image) (g.S.PlacedBlocks.Fails c.args.source.blocks)
    c.len-len.result c.len-len.ensures later c.find_sound.ensures.failed

pub find_sound-requires-clause-long : goal.find_sound-requires-clause-long
find_sound-requires-clause-long g c =
    let held : OfEach (g.S.PlacedBlocks.Holds c.in-Ok.image) (g.S.PlacedBlocks.Holds c.args.source.blocks) = search rules in
    λ image h. c.len-len.ensures image (held image h)

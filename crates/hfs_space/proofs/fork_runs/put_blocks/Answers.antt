-- The bytes are cut into blocks, which are put.
use Rattle.std.proofs.Common.{sym, subst, arith}
use Rattle.hfs_blocks.specs.Layers.{Numbered, changes, AreWithin}
use Rattle.hfs_space.proofs.BlockSteps.{blocks-put, within-put}
use Rattle.hfs_space.proofs.fork_runs.put_blocks.Goals as goal

pub put_run-requires : goal.put_run-requires
put_run-requires g c =
    let few = g.met.B.Blocks.few c.args.below.now in
    omega (arith, few, c.requires.within, c.as_chunks.ensures.front_len)

pub returns-in_err-put_run-clause-within : goal.returns-in_err-put_run-clause-within
returns-in_err-put_run-clause-within g c = λ was. subst (λ (p : Numbered). AreWithin (changes p) (g.B.Blocks.total c.args.below.now)) (sym c.in_err-put_run.ensures.kept) was

pub returns-clause-part : goal.returns-clause-part
returns-clause-part g c =
    blocks-put c.args.first c.args.bytes.now _ (changes c.args.patch.now) (changes c.put_run.new.self) (g.B.Blocks.blocks c.args.below.now) c.as_chunks.ensures.front c.as_chunks.ensures.front_len
    c.requires.whole c.in_ok-put_run.ensures.written

pub returns-clause-within : goal.returns-clause-within
returns-clause-within g c = λ was.
    within-put c.args.first c.args.bytes.now _ (changes c.args.patch.now) (changes c.put_run.new.self) (g.B.Blocks.blocks c.args.below.now) c.as_chunks.ensures.front c.as_chunks.ensures.front_len
    c.requires.whole c.in_ok-put_run.ensures.written (g.B.Blocks.total c.args.below.now) c.requires.within was

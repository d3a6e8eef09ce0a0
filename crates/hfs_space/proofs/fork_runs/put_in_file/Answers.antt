-- The block in which the bytes stand is one of the file's.
use Rattle.std.proofs.Common.{◌/◌}
use Rattle.std.specs.List.{flat_map}
use Rattle.hfs_blocks.specs.Blocks.{run_of}
use Rattle.hfs_blocks.specs.Layers.{changes, over, length-over}
use Rattle.hfs_space.proofs.Puts.{place-small}
use Rattle.hfs_space.proofs.PartSteps.{HasPart-one}
use Rattle.hfs_space.proofs.fork_runs.put_in_file.Goals as goal

pub overflow_cast-at : goal.overflow_cast-at
overflow_cast-at g c = record { fits = place-small c.args.runs.now (g.B.Blocks.total c.args.below.now) (c.args.at / 512) c.requires.runs c.requires.inside }

pub put_part-requires-clause-within : goal.put_part-requires-clause-within
put_part-requires-clause-within g c = c.block_of-n.ensures.inside (g.B.Blocks.total c.args.below.now) c.requires.runs

pub returns-clause-part : goal.returns-clause-part
returns-clause-part g c =
    let below = g.B.Blocks.blocks c.args.below.now in
    let within = c.block_of-n.ensures.inside (g.B.Blocks.total c.args.below.now) c.requires.runs in
    HasPart-one (flat_map run_of c.args.runs.now) c.args.at c.block_of-n.result c.args.part.now (over (changes c.args.patch.now) below) (over (changes c.put_part.new.patch) below)
    c.requires.different c.requires.inside c.block_of-n.ensures.number
    (length-over (changes c.args.patch.now) below c.block_of-n.result c.in_ok-put_part.ensures.whole.0 (g.met.B.Blocks.whole c.args.below.now c.block_of-n.result within))
    c.requires.one c.in_ok-put_part.ensures.part c.in_ok-put_part.ensures.others

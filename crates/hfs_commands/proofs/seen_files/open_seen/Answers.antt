-- The blocks that are handed back, or that the volume lies in, are those of what was asked for.
use Rattle.hfs_commands.specs.Unopened.{HasNoPart}
use Rattle.hfs_commands.proofs.SeenLemmas.{blocks_of_same}
use Rattle.hfs_commands.proofs.UnopenedLemmas.{refused_part}
use Rattle.hfs_commands.proofs.seen_files.open_seen.Goals as goal
use Rattle.hfs_source.specs.declared.asking.Counted.TheVariants.{Volumes}

pub returns-in-Err-clause-told : goal.returns-in-Err-clause-told
returns-in-Err-clause-told g c =
    let part = c.in_ok-part.part in
    let left = c.in-Err.field-0.source in
    refused_part c.args.path (HasNoPart Volumes c.args.volume) left c.in-Err.field-0.fault c.of_needed-fault.result
    c.of_needed-fault.ensures.read c.of_needed-fault.ensures.memory c.of_needed-fault.ensures.refused c.in-Err.ensures.refused Volumes c.args.volume
    (record {
      part = part;
      asked = c.in_ok-part.ensures.asked;
      blocks = blocks_of_same part c.part_blocks.result.blocks left.blocks c.part_blocks.ensures.part c.in-Err.ensures.back;
    })

pub returns-in-Ok-clause-part : goal.returns-in-Ok-clause-part
returns-in-Ok-clause-part g c =
    let part = c.in_ok-part.part in
    record {
      part = part;
      asked = c.in_ok-part.ensures.asked;
      blocks = blocks_of_same part c.part_blocks.result.blocks c.in-Ok.image c.part_blocks.ensures.part c.in-Ok.ensures.same;
    }

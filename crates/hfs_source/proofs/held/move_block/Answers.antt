-- The bytes of one block are copied, and what stands before and behind is the same.
use Rattle.std.proofs.Common.{rules}
use Rattle.hfs_source.proofs.BlockBytes.{moved-block, blocks-before, blocks-behind}
use Rattle.hfs_source.proofs.held.move_block.Goals as goal

pub returns-then-to-from-clause-moved : goal.returns-then-to-from-clause-moved
returns-then-to-from-clause-moved c =
    moved-block c.args.bytes.now.items c.copy_within.new.self.items c.args.from c.args.to c.requires.before c.requires.there (search rules)
    c.copy_within.ensures.by_index.0

pub returns-then-to-from-clause-before : goal.returns-then-to-from-clause-before
returns-then-to-from-clause-before c =
    blocks-before c.args.bytes.now.items c.copy_within.new.self.items c.args.from c.args.to c.requires.before c.requires.there (search rules)
    c.copy_within.ensures.by_index.1

pub returns-then-to-from-clause-behind : goal.returns-then-to-from-clause-behind
returns-then-to-from-clause-behind c =
    blocks-behind c.args.bytes.now.items c.copy_within.new.self.items c.args.from c.args.to c.requires.before c.requires.there (search rules)
    c.copy_within.ensures.by_index.2

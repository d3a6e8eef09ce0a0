-- A block of zeros is held by its number, and any other at its place.
use Rattle.std.proofs.Common.{None, Some, refl, sym, ap, ◌∙◌}
use Rattle.hfs_blocks.specs.Blocks.{block_at}
use Rattle.hfs_source.proofs.BlockBytes.{range-block}
use Rattle.hfs_source.proofs.PuttingIn.{put-by}
use Rattle.hfs_source.proofs.held.Held.put_in.Goals as goal

pub returns-then-is_zeros-clause-put : goal.returns-then-is_zeros-clause-put
returns-then-is_zeros-clause-put c =
    put-by c.args.self.now.bytes.items c.args.self.now.bytes.items c.args.self.now.places.entries c.insert.new.self.entries c.args.self.now.count
    c.requires.held.placed (λ k lt. refl) c.args.n None _ (c.in_ok-insert.ensures.updates.0)
    (sym (c.is_zeros.ensures c.if-is_zeros.true) ∙ range-block c.deref.result.now c.args.from ∙ ap (λ l. block_at l c.args.from) c.deref.ensures.value)

pub returns-clause-put : goal.returns-clause-put
returns-clause-put c =
    put-by c.args.self.now.bytes.items c.move_block.new.bytes.items c.args.self.now.places.entries c.insert-2.new.self.entries c.args.self.now.count
    c.requires.held.placed c.move_block.ensures.before c.args.n (Some c.args.self.now.count) _ (c.in_ok-insert-2.ensures.updates.0) c.move_block.ensures.moved

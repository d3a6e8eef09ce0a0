-- the uses of the blocks so far
use Rattle.std.proofs.Common.{◌≡◌, map, false}
use Rattle.std.specs.List.{range_with_len}
use Rattle.hfs_page.specs.Uses.{unowned}
use Rattle.hfs_remains_page.proofs.pictures.no_uses.Given as goal

abbrev pub invariant-loop-block : goal.invariant-loop-block
invariant-loop-block l = l.uses.items ≡ map (λ block. unowned false) (range_with_len 0 l._block)

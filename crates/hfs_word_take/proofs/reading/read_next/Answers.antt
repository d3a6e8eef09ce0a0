-- The next bytes of a fork are those that its reader gives.
use Rattle.std.proofs.Common.{false, List, ℕ, OnOk, sym, subst}
use Rattle.hfs_bag.specs.Forks.{ReadsOn, fork_rest}
use Rattle.hfs_source.specs.Images.{OfEach}
use Rattle.hfs_word_take.specs.declared.reading.Reading.{Reading}
use Rattle.hfs_word_take.specs.Reading.{reading_rest}
use Rattle.hfs_word_take.proofs.reading.read_next.Goals as goal

pub returns-in-Fork-clause-read : goal.returns-in-Fork-clause-read
returns-in-Fork-clause-read g c =
    subst (λ (r : Reading). OnOk c.read_fork.result (OfEach (g.S.PlacedBlocks.Holds c.read_fork.new.source.image)
    (λ (bytes : List ℕ). ReadsOn c.read_fork.new.piece.items (reading_rest bytes r) (fork_rest false bytes c.read_fork.new.fork)))) (sym c.in-Fork.is) (c.read_fork.ensures.read false)

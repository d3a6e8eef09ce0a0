-- A read of bytes that a file in memory has never fails.
use Rattle.hfs_put_sources.proofs.FileReads.{memory_reads}
use Rattle.hfs_put_sources.proofs.memory.MemoryTreeHostTree.open.Goals as goal

pub returns-in-Some-clause-unread : goal.returns-in-Some-clause-unread
returns-in-Some-clause-unread c = λ read held some. absurd (memory_reads _ _ held some)

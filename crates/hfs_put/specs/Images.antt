-- What a file with forks laid in it may be, by what was read.
use Rattle.std.specs.Prelude.{ℕ, List}
use Rattle.hfs_put_sources.specs.Trees.{Tree}
use Rattle.hfs_put.specs.Laid.{IsLaid}
use Rattle.hfs_put.specs.declared.laid.LaidForks.{LaidForks}

-- by the files that its own bytes may be, and the trees that may be the host's
abbrev pub laid_images : {B H : Type 0} → (B → List ℕ → Type 0) → (H → Tree → Type 0) → LaidForks B H → List ℕ → Type 0
laid_images Bytes Hosts laid = IsLaid (Bytes laid.bytes) (Hosts laid.files) laid.start laid.items.items laid.runs.items

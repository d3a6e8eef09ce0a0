-- Where the bytes of forks lie, of an image of which only the needed blocks are read.
use Rattle.std.specs.Prelude.{◌≡◌, ℕ, List, length, take, Err, Option, IfSome}
use Rattle.std.specs.List.{flat_map}
use Rattle.hfs_blocks.specs.Blocks.{run_of}
use Rattle.hfs_source.specs.Writing.{blocks_of}
use Rattle.hfs_model.specs.declared.call.Fork.{Fork}
use Rattle.hfs_model.specs.declared.call.Fork.TheVariants.{DataFork, ResFork}
use Rattle.hfs_model.specs.declared.reply.Reply.{Reply}
use Rattle.hfs_image.specs.declared.fork_runs.ForkRuns.{ForkRuns}
use Rattle.hfs_image.specs.Forks.{IsForkNamed, OfForkNamed}

-- the first bytes of the blocks of runs
abbrev pub run_bytes : ForkRuns → List ℕ → List ℕ
run_bytes found image = take found.length (blocks_of image (flat_map run_of found.runs.items))

-- where the image's bytes are known, these are those that lie there, and they are as many as are told
abbrev pub IsForkBytes : Option (List ℕ) → ForkRuns → List ℕ → Type 0
IsForkBytes known found bytes = IfSome known (λ image. (bytes ≡ run_bytes found image) × (length bytes ≡ found.length))

-- where the image's bytes are known, and are so many, the fork that its volume has under that name lies there
abbrev pub AreRunsNamed : Option (List ℕ) → ℕ → ℕ → List ℕ → Fork → ForkRuns → Type 0
AreRunsNamed known len dir name fork found = OfForkNamed known len dir name fork (IsForkBytes known found)

-- this reply refuses either fork
abbrev pub RefusesForks : Option (List ℕ) → ℕ → ℕ → List ℕ → Reply → Type 0
RefusesForks known len dir name reply = IsForkNamed known len dir name DataFork (Err reply) × IsForkNamed known len dir name ResFork (Err reply)

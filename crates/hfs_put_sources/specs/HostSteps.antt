-- What was asked of the system, and what that says about the tree.
use Rattle.std.specs.Prelude.{◌≡◌, ℕ, List, [], ◌∷◌, ⊤, Option}
use Rattle.hfs_source.specs.Steps.{IsReadFrom, ReadStep}
use Rattle.hfs_put_sources.specs.declared.entry.Look.{Look}
use Rattle.hfs_put_sources.specs.Trees.{Listed, Tree}

-- what lies in a folder was listed; a path was looked at; what a path leads to was looked at; a file was read so
pub data HostStep : Type 0 where
  listed : List ℕ → List Listed → HostStep
  looked : List ℕ → Option Look → HostStep
  followed : List ℕ → Option Look → HostStep
  read_so : List ℕ → List ReadStep → HostStep

-- the tree has what each of these steps gave, of which the last is first
abbrev pub IsSeenBy : List HostStep → Tree → Type 0
IsSeenBy [] host = ⊤
IsSeenBy (listed folder entries ∷ before) host = (entries ≡ host.entries folder) × IsSeenBy before host
IsSeenBy (looked path look ∷ before) host = (look ≡ host.look path) × IsSeenBy before host
IsSeenBy (followed path look ∷ before) host = (look ≡ host.target path) × IsSeenBy before host
IsSeenBy (read_so path steps ∷ before) host = IsReadFrom steps (host.bytes path) × IsSeenBy before host

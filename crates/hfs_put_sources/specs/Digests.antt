-- The digests that bags give for their files, and files that have others.
use Rattle.std.specs.Prelude.{◌≡◌, ℕ, Bool, false, not, if◌then◌else◌, List, [], ◌∷◌, ◌++◌, Option, Some, None, codes, bytes_eq}
use Rattle.std.specs.Option.{option_or}
use Rattle.sha2.specs.Sha256.{sha256}
use Rattle.hfs_put_sources.specs.Lines.{lines}
use Rattle.hfs_put_sources.specs.Manifests.{digest_in, path_in}
use Rattle.hfs_put_sources.specs.Items.{PlannedItem}
use Rattle.hfs_put_sources.specs.Paths.{entry_path}
use Rattle.hfs_put_sources.specs.Plans.{is_file}
use Rattle.hfs_put_sources.specs.Trees.{Tree}
use Rattle.hfs_put_sources.specs.Later.{Entries, last_told, told_at}
use Rattle.hfs_put_sources.specs.Tags.{tag_text, without_return}

-- the digest that a line of a manifest gives for a path, where this precedes its own
abbrev pub digest_by_line : List ℕ → List ℕ → List ℕ → Option (List ℕ)
digest_by_line front path line = if bytes_eq (front ++ path_in (without_return line)) path then digest_in (without_return line) else None

-- that its lines give
abbrev pub digest_by_lines : List ℕ → List ℕ → List ℕ → Option (List ℕ)
digest_by_lines front text path = last_told (digest_by_line front path) (lines text)

-- that the manifest of a source gives
abbrev pub digest_by_source : Tree → List ℕ → List ℕ → Option (List ℕ)
digest_by_source host path source = digest_by_lines (entry_path source []) (tag_text host source (codes "manifest-sha256.txt")) path

-- that those of all sources give
abbrev pub digest_by : Tree → List (List ℕ) → List ℕ → Option (List ℕ)
digest_by host sources path = last_told (digest_by_source host path) sources

-- these are the digests that the sources give for any path
abbrev pub AreDigestsOf : List (List ℕ) → Entries (List ℕ) → Tree → Type 0
AreDigestsOf sources digests host = (path : List ℕ) → told_at digests path ≡ digest_by host sources path

-- ---- files

abbrev pub differs : Option (List ℕ) → List ℕ → Bool
differs (Some told) found = not (bytes_eq told found)
differs None found = false

-- the bytes of the file at a path have another digest than the one that is given
abbrev pub is_wrong : Tree → Option (List ℕ) → List ℕ → Bool
is_wrong host told path = differs told (sha256 (host.bytes path))

-- the path, where the file that it leads to is so
abbrev pub wrong_at : Tree → (List ℕ → Option (List ℕ)) → Option (List ℕ) → Option (List ℕ)
wrong_at host told (Some path) = if is_wrong host (told path) path then Some path else None
wrong_at host told None = None

-- the path of an item's own file
abbrev pub own_path : PlannedItem → Option (List ℕ)
own_path item = if is_file item.plan.own then Some item.path else None

-- that of the file that belongs to it by its name
abbrev pub double_path : PlannedItem → Option (List ℕ)
double_path item = if is_file item.plan.double then item.double else None

-- the path of the first of both that is wrong
abbrev pub wrong_of : Tree → (List ℕ → Option (List ℕ)) → PlannedItem → Option (List ℕ)
wrong_of host told item = option_or (wrong_at host told (own_path item)) (wrong_at host told (double_path item))

-- the path of the first file of these items that is wrong
unfoldable pub first_wrong : Tree → (List ℕ → Option (List ℕ)) → List PlannedItem → Option (List ℕ)
first_wrong host told [] = None
first_wrong host told (item ∷ items) = option_or (wrong_of host told item) (first_wrong host told items)

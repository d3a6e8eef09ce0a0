-- What a folder's path is without slashes at its end.
use Rattle.std.specs.Prelude.{◌≡◌, ℕ, List, ◌==◌, ◌&&◌, not, if◌then◌else◌, codes, length}
use Rattle.std.specs.Str.Pattern.{FindsCharSuffix, IsTrimEndMatches}

-- what is left of a path, or a slash where nothing is left of one that had a character
abbrev pub left_or_root : List ℕ → List ℕ → List ℕ
left_or_root path left = if (length left == 0) && not (length path == 0) then codes "/" else left

-- the path without the slashes at its end; a slash alone stays
abbrev pub IsFolderPath : List ℕ → List ℕ → Type 0
IsFolderPath path folder = (left : List ℕ) × IsTrimEndMatches (FindsCharSuffix 47) path left × (folder ≡ left_or_root path left)

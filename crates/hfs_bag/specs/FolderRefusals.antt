-- What making a folder that is refused is as a step.
use Rattle.std.specs.Prelude.{◌≡◌, ◌≢◌, ◌⊎◌, ℕ, List, ◌∷◌, true}
use Rattle.std.specs.declared.io.ErrorKind.{ErrorKind}
use Rattle.std.specs.declared.io.ErrorKind.TheVariants.{AlreadyExists}
use Rattle.hfs_bag.specs.SystemSteps.{SystemStep, made_folder, looked, done, failed}

-- something has the path, by the kind of the error; or making a folder there failed
abbrev pub IsFolderRefused : ErrorKind → List ℕ → List SystemStep → List SystemStep → Type 0
IsFolderRefused kind path old new =
    ((kind ≡ AlreadyExists) × (new ≡ done (looked path true) ∷ old)) ⊎ ((kind ≢ AlreadyExists) × (new ≡ failed (made_folder path) ∷ old))

-- What lies in a folder, when one thing more was made in it.
use Rattle.std.proofs.Common.{◌≡◌, ℕ, Bool, true, List, [], ◌∷◌, ◌++◌, Option, Some, None, refl, ap, ◌∙◌, inl, inr}
use Rattle.std.specs.Prelude.{if◌then◌else◌, option_map, unwrap_or}
use Rattle.std.proofs.lemmas.Bool.{eq-eqb}
use Rattle.hfs_bag.specs.Entries.{ShelfEntry, with_folder, with_file, with_piece, with_time}
use Rattle.hfs_bag.proofs.Beginnings.{time_last, time_piece}
use Rattle.hfs_bag.specs.ShelfPaths.{path_within}
use Rattle.hfs_bag.specs.MadeFolders.{given_by, path_in, made_in}
use Rattle.std.specs.declared.io.ErrorKind.{ErrorKind}
use Rattle.hfs_bag.specs.FolderRefusals.{IsFolderRefused}
use Rattle.hfs_bag.specs.SystemSteps.{SystemStep, done, failed, looked, made_folder, opened, wrote}

path_in-next : (c : ℕ) (folder path : List ℕ) → path_in (c ∷ folder) (c ∷ path) ≡ path_in folder path
path_in-next c folder path = ap (λ t. if t then path_in folder path else None) (eq-eqb c c refl)

pub path_in-slash : (folder path : List ℕ) → path_in folder (folder ++ 47 ∷ path) ≡ Some path
path_in-slash [] path = refl
path_in-slash (c ∷ folder) path = path_in-next c folder (folder ++ 47 ∷ path) ∙ path_in-slash folder path

-- a path in a folder is there
pub path_in-within : (folder path : List ℕ) → path_in folder (path_within folder path) ≡ Some path
unfolding path_within
path_in-within folder path = path_in-slash folder path

-- a folder is not in itself
pub path_in-itself : (folder : List ℕ) → path_in folder folder ≡ None
path_in-itself [] = refl
path_in-itself (c ∷ folder) = path_in-next c folder folder ∙ path_in-itself folder

pub made_in-folder : (folder path : List ℕ) (before : List SystemStep) → made_in folder (done (made_folder (path_within folder path)) ∷ before) ≡ with_folder (made_in folder before) path
made_in-folder folder path before = ap (λ o. unwrap_or (option_map (with_folder (made_in folder before)) o) []) (path_in-within folder path)

pub made_in-file : (folder path : List ℕ) (before : List SystemStep) → made_in folder (done (opened true (path_within folder path)) ∷ before) ≡ with_file (made_in folder before) path None
made_in-file folder path before = ap (λ o. unwrap_or (option_map (λ (p : List ℕ). with_file (made_in folder before) p None) o) []) (path_in-within folder path)

pub made_in-itself : (folder : List ℕ) (before : List SystemStep) → made_in folder (done (made_folder folder) ∷ before) ≡ []
made_in-itself folder before = ap (λ o. unwrap_or (option_map (with_folder (made_in folder before)) o) []) (path_in-itself folder)

-- after a row of calls
pub grown_folder : (folder path whole : List ℕ) (given : List ShelfEntry) (time : Option ℕ) (mid new : List SystemStep) → whole ≡ path_within folder path → time ≡ None → given_by folder time mid ≡ given
    → new ≡ done (made_folder whole) ∷ mid → given_by folder time new ≡ with_folder given path
grown_folder folder path whole given None mid new at none was is =
    ap (made_in folder) (is ∙ ap (λ (w : List ℕ). done (made_folder w) ∷ mid) at) ∙ made_in-folder folder path mid ∙ ap (λ (g : List ShelfEntry). with_folder g path) was
grown_folder folder path whole given (Some seconds) mid new at none was is = cc

one_file : (folder path whole : List ℕ) (given : List ShelfEntry) (new_one : Bool) (was : Option ℕ) (mid new : List SystemStep) → new_one ≡ true → whole ≡ path_within folder path → was ≡ None
    → given_by folder was mid ≡ given → new ≡ done (opened new_one whole) ∷ mid → made_in folder new ≡ with_file given path None
one_file folder path whole given new_one None mid new so at none before is =
    ap (made_in folder) (is ∙ ap (λ (b : Bool). done (opened b whole) ∷ mid) so ∙ ap (λ (w : List ℕ). done (opened true w) ∷ mid) at) ∙ made_in-file folder path mid
    ∙ ap (λ (g : List ShelfEntry). with_file g path None) before
one_file folder path whole given new_one (Some seconds) mid new so at none before is = cc

pub grown_file : (folder path whole : List ℕ) (given : List ShelfEntry) (new_one : Bool) (was time : Option ℕ) (mid new : List SystemStep) → new_one ≡ true → whole ≡ path_within folder path → was ≡ None
    → given_by folder was mid ≡ given → new ≡ done (opened new_one whole) ∷ mid → given_by folder time new ≡ with_file given path time
grown_file folder path whole given new_one was None mid new so at none before is = one_file folder path whole given new_one was mid new so at none before is
grown_file folder path whole given new_one was (Some seconds) mid new so at none before is =
    ap (λ (xs : List ShelfEntry). with_time xs seconds) (one_file folder path whole given new_one was mid new so at none before is) ∙ time_last given path seconds

pub grown_piece : (folder : List ℕ) (time : Option ℕ) (old new : List SystemStep) (piece : List ℕ) → new ≡ done (wrote piece) ∷ old → given_by folder time new ≡ with_piece (given_by folder time old) piece
grown_piece folder None old new piece is = ap (made_in folder) is
grown_piece folder (Some seconds) old new piece is =
    ap (λ (steps : List SystemStep). with_time (made_in folder steps) seconds) is ∙ time_piece (made_in folder old) seconds piece

-- what was asked in vain
pub none_written : (folder : List ℕ) (time : Option ℕ) (old new : List SystemStep) (piece : List ℕ) → new ≡ failed (wrote piece) ∷ old → given_by folder time new ≡ given_by folder time old
none_written folder time old new piece is = ap (given_by folder time) is ∙ same time
  where
    same : (t : Option ℕ) → given_by folder t (failed (wrote piece) ∷ old) ≡ given_by folder t old
    same None = refl
    same (Some seconds) = refl

pub none_opened : (folder path : List ℕ) (time : Option ℕ) (new_one : Bool) (old new : List SystemStep) → new ≡ failed (opened new_one path) ∷ old → given_by folder time new ≡ given_by folder time old
none_opened folder path time new_one old new is = ap (given_by folder time) is ∙ same time
  where
    same : (t : Option ℕ) → given_by folder t (failed (opened new_one path) ∷ old) ≡ given_by folder t old
    same None = refl
    same (Some seconds) = refl

pub none_made : (folder path : List ℕ) (time : Option ℕ) (kind : ErrorKind) (old new : List SystemStep) → IsFolderRefused kind path old new → given_by folder time new ≡ given_by folder time old
none_made folder path time kind old new (inl is) = ap (given_by folder time) is.1 ∙ same time
  where
    same : (t : Option ℕ) → given_by folder t (done (looked path true) ∷ old) ≡ given_by folder t old
    same None = refl
    same (Some seconds) = refl
none_made folder path time kind old new (inr is) = ap (given_by folder time) is.1 ∙ same time
  where
    same : (t : Option ℕ) → given_by folder t (failed (made_folder path) ∷ old) ≡ given_by folder t old
    same None = refl
    same (Some seconds) = refl

pub ruleset growing = (grown_folder, grown_file, grown_piece, none_written, none_opened, none_made)

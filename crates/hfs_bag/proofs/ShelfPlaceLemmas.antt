-- A shelf's place where one thing more was made in its folder.
use Rattle.std.proofs.Common.{◌≡◌, ◌∙◌, ℕ, Bool, true, List, [], ◌∷◌, Option, Some, ap, sym}
use Rattle.hfs_bag.specs.ShelfPaths.{path_within}
use Rattle.hfs_bag.specs.ShelfPlaces.{ShelfPlace, others_in, shelf_place, with_other}
use Rattle.hfs_bag.specs.SystemSteps.{Asked, SystemStep, done, failed, made_folder, opened, wrote}
use Rattle.hfs_bag.proofs.FolderLemmas.{path_in-within}

abbrev with_others : List ℕ → List SystemStep → ShelfPlace
with_others folder others = record { folder = folder; others = others }

-- the same others at the same path
same_place : (folder now : List ℕ) (old new : List SystemStep) → now ≡ folder → others_in folder new ≡ others_in folder old → shelf_place now new ≡ shelf_place folder old
same_place folder now old new same others =
    ap (λ (f : List ℕ). shelf_place f new) same ∙ ap (with_others folder) others

pub place_closed : (folder mid now : List ℕ) (old closed new : List SystemStep) → mid ≡ folder → now ≡ mid → others_in mid closed ≡ others_in folder old → new ≡ closed
    → shelf_place now new ≡ shelf_place folder old
place_closed folder mid now old closed new at same others is =
    same_place folder now old new (same ∙ at) (ap (others_in folder) is ∙ ap (λ (f : List ℕ). others_in f closed) (sym at) ∙ others)

pub place_failed : (folder mid now : List ℕ) (asked : Asked) (old closed new : List SystemStep) → mid ≡ folder → now ≡ mid → others_in mid closed ≡ others_in folder old → new ≡ failed asked ∷ closed
    → shelf_place now new ≡ shelf_place folder old
place_failed folder mid now asked old closed new at same others is =
    same_place folder now old new (same ∙ at) (ap (others_in folder) is ∙ ap (λ (f : List ℕ). others_in f closed) (sym at) ∙ others)

others_folder : (folder path : List ℕ) (before : List SystemStep) → others_in folder (done (made_folder (path_within folder path)) ∷ before) ≡ others_in folder before
others_folder folder path before =
    ap (λ (o : Option (List ℕ)). with_other o (done (made_folder (path_within folder path))) (others_in folder before)) (path_in-within folder path)

others_file : (folder path : List ℕ) (before : List SystemStep) → others_in folder (done (opened true (path_within folder path)) ∷ before) ≡ others_in folder before
others_file folder path before =
    ap (λ (o : Option (List ℕ)). with_other o (done (opened true (path_within folder path))) (others_in folder before)) (path_in-within folder path)

pub place_folder : (folder mid now path whole : List ℕ) (old closed new : List SystemStep) → mid ≡ folder → now ≡ mid → others_in mid closed ≡ others_in folder old → whole ≡ path_within mid path
    → new ≡ done (made_folder whole) ∷ closed → shelf_place now new ≡ shelf_place folder old
place_folder folder mid now path whole old closed new at same others within is =
    same_place folder now old new (same ∙ at)
    (ap (others_in folder) is ∙ ap (λ (w : List ℕ). others_in folder (done (made_folder w) ∷ closed)) (within ∙ ap (λ (f : List ℕ). path_within f path) at)
    ∙ others_folder folder path closed ∙ ap (λ (f : List ℕ). others_in f closed) (sym at) ∙ others)

pub place_file : (folder mid now path whole : List ℕ) (new_one : Bool) (old closed new : List SystemStep) → mid ≡ folder → now ≡ mid → others_in mid closed ≡ others_in folder old
    → whole ≡ path_within mid path → new_one ≡ true → new ≡ done (opened new_one whole) ∷ closed → shelf_place now new ≡ shelf_place folder old
place_file folder mid now path whole new_one old closed new at same others within is_new is =
    same_place folder now old new (same ∙ at)
    (ap (others_in folder) is ∙ ap (λ (b : Bool). others_in folder (done (opened b whole) ∷ closed)) is_new
    ∙ ap (λ (w : List ℕ). others_in folder (done (opened true w) ∷ closed)) (within ∙ ap (λ (f : List ℕ). path_within f path) at)
    ∙ others_file folder path closed ∙ ap (λ (f : List ℕ). others_in f closed) (sym at) ∙ others)

pub place_wrote : (folder now piece : List ℕ) (old new : List SystemStep) → now ≡ folder → new ≡ done (wrote piece) ∷ old → shelf_place now new ≡ shelf_place folder old
place_wrote folder now piece old new same is = same_place folder now old new same (ap (others_in folder) is)

pub place_unwritten : (folder now piece : List ℕ) (old new : List SystemStep) → now ≡ folder → new ≡ failed (wrote piece) ∷ old → shelf_place now new ≡ shelf_place folder old
place_unwritten folder now piece old new same is = same_place folder now old new same (ap (others_in folder) is)

pub ruleset placed_so = (place_closed, place_failed, place_folder, place_file, place_wrote, place_unwritten)

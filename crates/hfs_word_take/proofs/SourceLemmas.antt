-- The items of an image that holds.
use Rattle.std.proofs.Common.{◌≡◌, false, List, [], ◌∷◌, length, drop, Option, Some, None, Result, Ok, Err, refl, sym, ap, ◌∙◌, arith, ℕ}
use Rattle.std.specs.Prelude.{IfOk}
use Rattle.std.specs.List.{flat_map}
use Rattle.hfs_blocks.specs.Blocks.{run_of}
use Rattle.hfs_items.specs.Levels.{GivesRow, Going}
use Rattle.hfs_items.specs.ToldRows.{ToldRow, told_rows}
use Rattle.hfs_model.specs.declared.call.Fork.{Fork}
use Rattle.hfs_model.specs.declared.reply.Info.{Info}
use Rattle.hfs_model.specs.declared.reply.ItemKind.{ItemKind}
use Rattle.hfs_model.specs.declared.reply.ItemKind.TheVariants as kind
use Rattle.hfs_model.specs.declared.reply.Reply.{Reply}
use Rattle.hfs_image.specs.declared.fork_runs.ForkRuns.{ForkRuns}
use Rattle.hfs_image.specs.Forks.{named_fork}
use Rattle.hfs_image.specs.SeenFiles.{LiesInRuns, RefusesFork}
use Rattle.hfs_word_take.proofs.RootLemmas.{HasSomeRow}
use Rattle.hfs_word_take.specs.Items.{bytes_or_none, entries_in, fork_told, of_file, table_text}
use Rattle.hfs_source.specs.Images.{OfEach}
use Rattle.hfs_bag.specs.declared.fork_reading.ForkReading.{ForkReading}
use Rattle.hfs_bag.specs.Forks.{fork_rest}
use Rattle.hfs_word_take.specs.Reading.{AreBegunBy, BeginsWith, IsEmptyFork, LiesThere, first_bytes}

-- ---- forks

of-file : (k : ItemKind) (bytes : List ℕ) → k ≡ kind.File → bytes ≡ of_file k bytes
of-file k bytes is = sym (ap (λ (x : ItemKind). of_file x bytes) is)

of-none : (k : ItemKind) → of_file k [] ≡ []
of-none kind.Folder = refl
of-none kind.File = refl

pub fork_lies : (fork : Fork) (info : Info) (found : ForkRuns) (image : List ℕ) → info.kind ≡ kind.File → LiesInRuns info.parent info.name fork found image
    → LiesThere fork info found image
fork_lies fork info found image file lies =
    let told : fork_told (entries_in image) fork info ≡ lies.bytes =
    sym (of-file info.kind (bytes_or_none (named_fork (entries_in image) info.parent info.name fork)) file) ∙ ap bytes_or_none lies.has in
    record {
      bytes = sym (told ∙ lies.so.0);
      len = ap length told ∙ lies.so.1;
    }

-- a fork that is refused has no bytes
pub fork_refused : (fork : Fork) (info : Info) (reply : Reply) (image : List ℕ) → RefusesFork info.parent info.name fork reply image → IsEmptyFork fork info image
fork_refused fork info reply image refused = ap (λ (r : Result (List ℕ) Reply). of_file info.kind (bytes_or_none r)) refused ∙ of-none info.kind

-- and a folder has none
pub folder_empty : (fork : Fork) (info : Info) (image : List ℕ) → info.kind ≡ kind.Folder → IsEmptyFork fork info image
folder_empty fork info image folder =
    ap (λ (k : ItemKind). of_file k (bytes_or_none (named_fork (entries_in image) info.parent info.name fork))) folder

-- a fork that is begun has all its bytes to come
pub fork_begun : (fork : Fork) (info : Info) (found : ForkRuns) (rest image : List ℕ) → LiesThere fork info found image
    → rest ≡ first_bytes image found.length (flat_map run_of found.runs.items) → rest ≡ fork_told (entries_in image) fork info
fork_begun fork info found rest image there is = is ∙ there.bytes

pub each_begun : {E : Type 0} (Holds : List ℕ → Type 0) (result : Result ForkReading E) (fork : Fork) (info : Info) (found : ForkRuns) → OfEach Holds (LiesThere fork info found)
    → ((image : List ℕ) → IfOk result (λ begun. fork_rest false image begun ≡ first_bytes image found.length (flat_map run_of found.runs.items)))
    → IfOk result (λ begun. OfEach Holds (λ image. fork_rest false image begun ≡ fork_told (entries_in image) fork info))
each_begun Holds (Ok begun) fork info found there is = λ image h. fork_begun fork info found (fork_rest false image begun) image (there image h) (is image)
each_begun Holds (Err e) fork info found there is = tt

-- ---- rows

-- these are all rows of an image's table
abbrev pub HasRows : List ToldRow → List ℕ → Type 0
HasRows rows image = rows ≡ told_rows (entries_in image)

behind-row : (row : Option Info) (old new : Going) → GivesRow old new row → new.left ≡ drop 1 old.left
behind-row None old new gives = gives.1 ∙ ap (drop 1) (sym gives.0)
behind-row (Some info) old new gives = ap (drop 1) (sym gives)

-- behind the first row come those of the items below the root
pub rows_behind : (image : List ℕ) (old new : Going) (row : Option Info) → HasRows old.left image → GivesRow old new row
    → new.left ≡ drop 1 (told_rows (entries_in image))
rows_behind image old new row has gives = behind-row row old new gives ∙ ap (drop 1) has

first-row : (info : Info) (old new : Going) (rows : List ToldRow) → GivesRow old new (Some info) → old.left ≡ rows → BeginsWith info rows
first-row info old new [] gives is = absurd (omega (arith, ap length (sym gives ∙ is)))
first-row info old new (row ∷ rows) gives is = same-info row (record { path = new.path; info = info }) rows new.left (sym is ∙ gives)
  where
    same-info : (x y : ToldRow) (xs ys : List ToldRow) → x ∷ xs ≡ y ∷ ys → x.info ≡ y.info
    same-info x y xs ys e = cc

-- the first row is that of the root, where there are rows
pub begins_with : (image : List ℕ) (old new : Going) (row : Option Info) → HasSomeRow image → HasRows old.left image → GivesRow old new row
    → AreBegunBy row (told_rows (entries_in image))
begins_with image old new None some has gives = some (sym has ∙ gives.0)
begins_with image old new (Some info) some has gives = first-row info old new (told_rows (entries_in image)) gives has

-- the table that is begun has all its text to come
pub table_begun : (image : List ℕ) (going : Going) → HasRows going.left image → table_text going.left ≡ table_text (told_rows (entries_in image))
table_begun image going has = ap table_text has

-- An image with changed blocks laid over it, and a file in which one lies, as what a file is to hold.
use Rattle.std.proofs.Common.{ℕ, List, sym, subst}
use Rattle.hfs_blocks.specs.Layers.{Numbered}
use Rattle.hfs_source.specs.Images.{OfEach}
use Rattle.hfs_volume.specs.Patched.{OfPatched}
use Rattle.hfs_volume.specs.InFile.{OfFileWith}
use Rattle.hfs_volume.specs.declared.in_file.ImagePlace.{ImagePlace}
use Rattle.hfs_commands.specs.Images.{IsFileWith, IsPatchedOf}

-- what holds of each image with the changed blocks in place of its own, where fewer hold by then
pub of-patched : (Held Then : List ℕ → Type 0) (len : ℕ) (changed : Numbered) (Fact : List ℕ → Type 0) → OfEach Then Held → OfPatched Held len changed Fact
    → OfEach (IsPatchedOf Then len changed) Fact
of-patched Held Then len changed Fact narrows h = λ bytes is. subst Fact (sym is.is) (h is.image (narrows is.image is.held) is.long)

-- what holds of each file with the image in it changed, where fewer hold by then
pub of-file : (Held Then : List ℕ → Type 0) (place : ImagePlace) (changed : Numbered) (Fact : List ℕ → Type 0) → OfEach Then Held
    → OfFileWith Held place changed Fact → OfEach (IsFileWith Then place changed) Fact
of-file Held Then place changed Fact narrows h = λ bytes is. subst Fact (sym is.is) (h is.file (narrows is.file is.held))

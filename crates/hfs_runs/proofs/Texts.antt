-- The text of a caller.
use Rattle.std.proofs.Common.{◌≡◌, ℕ, ◌++◌, codes, refl}
use Rattle.std.specs.Fmt.{decimal}
use Rattle.hfs_scripts.specs.declared.lines.Caller.TheVariants.{Worker, Viewer}
use Rattle.hfs_scripts.specs.Texts.{caller_text}

pub worker_text : (number : ℕ) → caller_text (Worker number) ≡ decimal number
unfolding caller_text
worker_text number = refl

pub viewer_text : (number : ℕ) → caller_text (Viewer number) ≡ codes "v" ++ decimal number
unfolding caller_text
viewer_text number = refl

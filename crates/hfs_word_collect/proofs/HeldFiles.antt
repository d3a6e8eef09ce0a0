-- Reads of files that are held, such as those from pipes.
use Rattle.std.proofs.Common.{◌≡◌, ℕ, ◌+◌, ◌<◌, List, length, Option, Some, None, subst, sym}
use Rattle.std.proofs.lemmas.Option.{none-some}
use Rattle.std.specs.Arc.{arc_value}
use Rattle.std.specs.Prelude.{IfSome}
use Rattle.hfs_commands.specs.declared.opened_file.StoredFile.{StoredFile}
use Rattle.hfs_commands.specs.declared.opened_file.StoredFile.TheVariants.{Seekable, Whole}
use Rattle.hfs_commands.specs.OpenedFiles.{stored_bytes, stored_failures}
use Rattle.hfs_source.specs.Images.{AllFail, FailsWhere}
use Rattle.hfs_word_collect.specs.Files.{IsLentOf, IsNotHeld, held_failures}

-- of one whose bytes these are, only past its end
whole-fails : {F : Type 0} (file : StoredFile F) (bytes : List ℕ) → stored_bytes file ≡ Some bytes → (place count : ℕ) → stored_failures file place count → length bytes < place + count
whole-fails (Seekable file) bytes is place count fails = absurd (none-some bytes is)
whole-fails (Whole all) bytes is place count fails = subst (λ (b : Option (List ℕ)). IfSome b (λ own. length own < place + count)) is fails

-- what is lent fails where what is held does
pub lent_failures : {F : Type 0} (held : Option (StoredFile F)) (file : StoredFile F) → IsLentOf held file → FailsWhere (stored_failures file) (held_failures held)
lent_failures None file lent place count fails = tt
lent_failures (Some (Seekable kept)) file lent place count fails = tt
lent_failures (Some (Whole all)) file lent place count fails = whole-fails file (arc_value all).items lent place count fails

-- a file that isn't held may fail anywhere
pub unheld_fail : {F : Type 0} (held : Option (StoredFile F)) → IfSome held IsNotHeld → AllFail (held_failures held)
unheld_fail None unheld place count = tt
unheld_fail (Some (Seekable kept)) unheld place count = tt
unheld_fail (Some (Whole all)) unheld place count = absurd (none-some (arc_value all).items (sym unheld))

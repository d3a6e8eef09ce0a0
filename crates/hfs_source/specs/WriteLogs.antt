-- Steps of the program, as a log keeps them.
use Rattle.std.specs.Prelude.{List, ◌∷◌}
use Rattle.hfs_source.specs.Writes.{WriteStep, went, wrote, sized, strayed, spoiled}
use Rattle.hfs_source.specs.declared.write_log.WriteNote.{WriteNote}
use Rattle.hfs_source.specs.declared.write_log.WriteNote.TheVariants.{Went, Wrote, Sized, Strayed, Spoiled}

-- these steps, and then this one
abbrev pub with_note : List WriteStep → WriteNote → List WriteStep
with_note steps (Went place) = went place ∷ steps
with_note steps (Wrote piece) = wrote piece.now ∷ steps
with_note steps (Sized len) = sized len ∷ steps
with_note steps Strayed = strayed ∷ steps
with_note steps Spoiled = spoiled ∷ steps

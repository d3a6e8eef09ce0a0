-- The text of a date's field.
use Rattle.std.proofs.Common.{◌≡◌, refl, ℕ, inl, inr}
use Rattle.std.specs.Prelude.{◌==◌}
use Rattle.std.proofs.lemmas.Bool.{cases_Bool}
use Rattle.hfs_texts.specs.Moments.{moment}
use Rattle.hfs_table.specs.Cells.{cell_text}
use Rattle.hfs_table.specs.Columns.{moment_cell}

pub date_text : (date : ℕ) → cell_text (moment_cell date) ≡ moment date
unfolding moment
date_text date = elim (cases_Bool (date == 0)) [ inl e ↦ rw e refl | inr e ↦ rw e refl ]

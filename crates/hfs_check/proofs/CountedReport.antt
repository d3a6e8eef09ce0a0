-- The counts of a sound volume are those of its report.
use Rattle.std.proofs.Common.{◌≡◌, ℕ, List, None, ap, ◌∙◌}
use Rattle.hfs_fields.specs.declared.mdb.Mdb.{Mdb}
use Rattle.hfs_space.specs.Bitmap.{clear_count}
use Rattle.hfs_space.specs.Faults.{stray_count}
use Rattle.hfs_catalog.specs.Sound.{counts_of}
use Rattle.hfs_check.specs.declared.reported.Alternate.{Alternate}
use Rattle.hfs_check.specs.Parts.{Blocks, mdb_in, catalog_in, owned_in}
use Rattle.hfs_check.specs.Report.{alternate_in, sound_report}
use Rattle.hfs_check.specs.Sound.{AreBlocksSound}

stray-is : (blocks : Blocks) (mdb : Mdb) (owned : List ℕ) → mdb ≡ mdb_in blocks → owned ≡ owned_in blocks
    → stray_count blocks mdb owned ≡ stray_count blocks (mdb_in blocks) (owned_in blocks)
stray-is blocks mdb owned is e = λ i. stray_count blocks (is i) (e i)

pub report-is : (total : ℕ) (blocks : Blocks) (mdb : Mdb) (owned : List ℕ) (free stray : ℕ) (alternate : Alternate)
    → AreBlocksSound total blocks → mdb ≡ mdb_in blocks → owned ≡ owned_in blocks
    → free ≡ mdb.free_blocks → alternate ≡ alternate_in total blocks → stray ≡ stray_count blocks mdb owned
    → record { fault = None; files = mdb.files; folders = mdb.folders; free = free; alternate = alternate; unowned = stray } ≡ sound_report total blocks
unfolding sound_report
report-is total blocks mdb owned free stray alternate sound is e is_free is_alternate is_stray =
    let files : mdb.files ≡ (counts_of (catalog_in blocks)).files = ap (λ (m : Mdb). m.files) is ∙ sound.counts.files in
    let folders : mdb.folders ≡ (counts_of (catalog_in blocks)).folders = ap (λ (m : Mdb). m.folders) is ∙ sound.counts.folders in
    let clear : free ≡ clear_count blocks (mdb_in blocks).bitmap_start (mdb_in blocks).allocation_blocks = is_free ∙ ap (λ (m : Mdb). m.free_blocks) is ∙ sound.space.counted in
    let counted : stray ≡ stray_count blocks (mdb_in blocks) (owned_in blocks) = is_stray ∙ stray-is blocks mdb owned is e in
    λ i. record { fault = None; files = files i; folders = folders i; free = clear i; alternate = is_alternate i; unowned = counted i }

-- of one block, or piece by piece
use Rattle.std.specs.Prelude.{codes}
use Rattle.hfs_page.specs.Texts.{told_number}
use Rattle.hfs_page.specs.Picture.{blocks_text}
use Rattle.hfs_page.proofs.Joins.{joined-ok}
use Rattle.hfs_page.proofs.picture.push_blocks.Goals as goal

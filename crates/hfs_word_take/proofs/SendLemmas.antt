-- A file that was opened may go to another thread where what it is read from may.
use denote.RattleType.{RattleType}
use denote.Param.Send.{IsSend, sendable}
use denote.Param.SendFields.{variants_send}
use Rattle.std.proofs.Crossing.{crosses}
use Rattle.std.specs.declared.io.traits.Read as Read
use Rattle.std.specs.declared.io.traits.Seek as Seek
use Rattle.hfs_commands.specs.contracts.opened_file.OpenedFile as opened
use Rattle.hfs_commands.specs.contracts.opened_file.StoredFile as stored
use Rattle.hfs_source.proofs.data.UserData.TheSendSync as user
use Rattle.hfs_source.proofs.blocks.BlocksOf.TheSendSync as blocks
use Rattle.hfs_source.proofs.range.RangeBytes.TheSendSync as range
use Rattle.hfs_source.specs.contracts.blocks.BlocksOf as blocks_of
use Rattle.hfs_source.specs.contracts.range.RangeBytes as ranges

stored_send : (F : RattleType) (r : Read.Ghosts F.Denot) (s : Seek.Ghosts F.Denot) → IsSend F → IsSend (stored.the_row F r s)
stored_send F r s sent = search (crosses, sendable) depth 20

-- `search` alone gives up at a limit here: each variant's law is given
opened_send : (F : RattleType) (r : Read.Ghosts F.Denot) (s : Seek.Ghosts F.Denot) → IsSend F → IsSend (opened.the_row F r s)
opened_send F r s sent =
    let plain = stored_send F r s sent in
    let user_data = user.the_send (stored.the_row F r s) plain in
    variants_send (opened.enum F r s) ((plain, tt), ((user_data, tt), tt))

-- a part of it may, too
pub part_send : (F : RattleType) (r : Read.Ghosts F.Denot) (s : Seek.Ghosts F.Denot) → IsSend F → IsSend (blocks_of.the_row (ranges.the_row (opened.the_row F r s)))
part_send F r s sent = blocks.the_send (ranges.the_row (opened.the_row F r s)) (range.the_send (opened.the_row F r s) (opened_send F r s sent))

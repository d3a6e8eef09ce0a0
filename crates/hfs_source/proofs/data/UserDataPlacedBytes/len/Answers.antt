-- Each sector has 2,048 bytes of user data.
use Rattle.std.proofs.Common.{◌∙◌, ◌*◌, ◌/◌, ap, length}
use Rattle.hfs_source.proofs.DataLemmas.{length-user_data_of}
use Rattle.hfs_source.proofs.data.UserDataPlacedBytes.len.Goals as goal

pub returns : goal.returns
returns g c = λ part held. ap length held.2 ∙ length-user_data_of held.0 ∙ ap (λ n. n / 2352 * 2048) (c.len.ensures held.0 held.1)

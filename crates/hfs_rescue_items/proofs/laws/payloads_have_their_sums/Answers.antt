use Rattle.hfs_rescue_items.proofs.LawsProved.{payloads_have_their_sums}
use Rattle.hfs_rescue_items.proofs.laws.payloads_have_their_sums.Goals as goal

pub returns : goal.returns
returns c = payloads_have_their_sums

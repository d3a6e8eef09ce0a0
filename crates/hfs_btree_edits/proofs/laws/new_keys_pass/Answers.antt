use Rattle.std.specs.Prelude.{◌≡◌, true}
use Rattle.hfs_btree_edits.proofs.KeptKeyLemmas.{keys-hold_with}
use Rattle.hfs_btree_edits.proofs.laws.new_keys_pass.Goals as goal

pub returns : goal.returns
returns g c = λ key old new h test was own. keys-hold_with g.K.Key old new key h (λ k. test k ≡ true) was own

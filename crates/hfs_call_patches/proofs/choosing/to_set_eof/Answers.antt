-- The model's choice of what was found.
use Rattle.std.proofs.Common.{◌≡◌, sym, subst, Ok}
use Rattle.std.specs.Prelude.{IfOk}
use Rattle.hfs_call_patches.specs.Found.{ChoosesSetEof}
use Rattle.hfs_call_patches.proofs.Choices.{set_eof_chosen, short_found}
use Rattle.hfs_call_patches.proofs.choosing.to_set_eof.Goals as goal

pub returns-clause-chooses : goal.returns-clause-chooses
returns-clause-chooses c = subst (ChoosesSetEof c.args.found c.args.length) (sym c.if_short.ensures) (set_eof_chosen c.args.found c.args.length)

pub returns-clause-found : goal.returns-clause-found
returns-clause-found c = subst (λ r. IfOk r (λ f. c.args.found ≡ Ok f)) (sym c.if_short.ensures) (short_found c.args.found c.args.length)

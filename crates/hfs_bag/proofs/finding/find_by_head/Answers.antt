-- As of the head with zeros behind it.
use Rattle.std.proofs.Common.{◌≡◌, ℕ, List, length, Vec, Global, refl}
use Rattle.std.proofs.lemmas.Result.{IfOk-at_ok}
use Rattle.hfs_source.specs.declared.ranges.FoundRange.{FoundRange}
use Rattle.hfs_source.specs.Found.{found_by}
use Rattle.hfs_bag.specs.Heads.{IsHeadOf}
use Rattle.hfs_bag.proofs.Alike.{find_told}
use Rattle.hfs_bag.proofs.finding.find_by_head.Goals as goal

pub returns-in-Ok-clause-found : goal.returns-in-Ok-clause-found
returns-in-Ok-clause-found c =
    IfOk-at_ok (λ (found : Vec FoundRange Global). (file : List ℕ) → length file ≡ c.args.len → IsHeadOf c.args.head.now file → found.items ≡ found_by c.args.layout file) c.in-Ok.is
    (find_told c.find_in_layout.result c.args.layout c.args.head.now c.args.len _ _ c.second_header-second.ensures refl (c.find_in_layout.ensures.held _ refl) c.find_in_layout.ensures.found)

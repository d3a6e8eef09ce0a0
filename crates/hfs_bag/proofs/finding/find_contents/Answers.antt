-- By its first bytes.
use Rattle.std.proofs.Common.{◌≡◌, ℕ, List, length, subst, sym}
use Rattle.hfs_bag.specs.Heads.{IsHeadOf}
use Rattle.hfs_bag.proofs.finding.find_contents.Goals as goal

pub returns-clause-found : goal.returns-clause-found
returns-clause-found g c = λ file h.
    let long : length file ≡ c.len-len.result = c.len-len.ensures file (c.in_ok-head.ensures.held file h) in
    c.in_ok-found.ensures.found file long (subst (λ (bytes : List ℕ). IsHeadOf bytes file) (sym c.deref.ensures.value) (c.in_ok-head.ensures.head file h long))

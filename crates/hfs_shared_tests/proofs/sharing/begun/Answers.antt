use Rattle.std.proofs.Common.{subst}
use Rattle.std.specs.Prelude.{◌≡◌, IfSome}
use Rattle.std.proofs.lemmas.List.Elements.{All-pop}
use Rattle.hfs_shared.specs.Histories.{Known}
use Rattle.hfs_shared_tests.proofs.sharing.begun.Goals as goal

pub returns-in-Some : goal.returns-in-Some
returns-in-Some g c =
    subst (λ o. IfSome o (λ (k : Known). k.book ≡ c.in-Ok.parts.book)) c.in-Some.is
    (All-pop (λ (k : Known). k.book ≡ c.in-Ok.parts.book) _ _ _ c.pop.ensures.items c.in-Ok.ensures).1

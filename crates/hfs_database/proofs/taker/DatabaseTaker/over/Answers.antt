-- No row was put.
use Rattle.std.proofs.Common.{◌≡◌, None, Some, subst, sym}
use Rattle.hfs_database.specs.declared.row_fault.TakerFault.TheVariants.{CannotWrite}
use Rattle.sqlite.specs.Held.{Held}
use Rattle.hfs_database.specs.Transactions.{HasPutSince, KeepsFile, no_rows}
use Rattle.hfs_database.proofs.Keeping.{keeps_itself}
use Rattle.hfs_database.proofs.RowLemmas.{puts_none}
use Rattle.hfs_database.proofs.taker.DatabaseTaker.over.Goals as goal

pub invariant_of-result : goal.invariant_of-result
invariant_of-result g c =
    let now = c.args.conn.now in
    let history = c.args.history.now in
    record {
      keeps = ∣ subst (λ (held : Held _). KeepsFile g.S.Store held now) (sym c.requires.start) (keeps_itself g.S.Store now) ∣₁;
      refused = ∣ (λ wrong. absurd (let e : None ≡ Some CannotWrite = wrong in cc)) ∣₁;
      put = ∣ (λ fine. subst (λ (held : Held _). HasPutSince g.S.Store held history.given.rows now no_rows) (sym c.requires.start) (puts_none g.S.Store now history.given.rows c.requires.nothing)) ∣₁;
    }

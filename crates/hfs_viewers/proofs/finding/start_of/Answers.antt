-- A piece begins where the one before it ends.
use Rattle.std.proofs.Common.{◌≡◌, ℕ, ◌-◌, ◌∙◌, suc, take, sym, ap, arith}
use Rattle.hfs_viewers.specs.Pieces.{end_of}
use Rattle.hfs_viewers.proofs.Placed.{ends-at}
use Rattle.hfs_viewers.proofs.finding.start_of.Goals as goal

pub returns : goal.returns
returns c =
    let next : suc (c.args.number - 1) ≡ c.args.number = omega arith in
    sym (ap (λ (n : ℕ). end_of 0 (take n c.args.pieces.now)) (sym next) ∙ ends-at 0 (c.args.number - 1) c.args.pieces.now c.index-pieces-number.result (omega (arith, c.requires)))

use Rattle.std.proofs.Common.{◌≡◌, true, false, List, length, subst, ◌∙◌, arith}
use Rattle.std.specs.Prelude.{IfOk, ◌&&◌, nat_le}
use Rattle.std.proofs.lemmas.Bool.{le-leb, lt-leb}
use Rattle.hfs_repair.specs.Fields.{PlacedNumber}
use Rattle.hfs_fields.proofs.DecisionLemmas.{both_true as both-true}
use Rattle.hfs_repair.proofs.Openings.{first-false, second-false}
use Rattle.hfs_repair.proofs.Mendable.{image-right, image-wrong}
use Rattle.hfs_repair.proofs.wrong.wrong_numbers.Goals.{then-image-gt2147483648-via-then-image-gt2147483648, then-image-gt2147483648-via-else-image-gt2147483648+then-image-lt1536}
use Rattle.hfs_repair.proofs.wrong.wrong_numbers.Goals as goal

pub returns-then-image-gt2147483648 : goal.returns-then-image-gt2147483648
returns-then-image-gt2147483648 c =
    let n = length c.args.image.now in
    let wrong : (nat_le n 2147483648 && nat_le 1536 n) ≡ false =
    elim c.then-image-gt2147483648.branch [
      | then-image-gt2147483648-via-then-image-gt2147483648 w ↦ first-false (nat_le n 2147483648) (nat_le 1536 n) (let gt = w.if-image-gt2147483648.true in lt-leb n 2147483648 (omega arith))
      | then-image-gt2147483648-via-else-image-gt2147483648+then-image-lt1536 w ↦ second-false (nat_le n 2147483648) (nat_le 1536 n) (let lt = w.if-image-lt1536.true in lt-leb 1536 n (omega arith))
    ] in
    c.new.ensures.items ∙ image-wrong c.args.image.now wrong

pub returns : goal.returns
returns c =
    let n = length c.args.image.now in
    let right : (nat_le n 2147483648 && nat_le 1536 n) ≡ true =
    both-true _ _ (le-leb n 2147483648 (let most = c.if-image-gt2147483648.false in omega arith)) (le-leb 1536 n (let least = c.if-image-lt1536.false in omega arith)) in
    subst (λ (ns : List PlacedNumber). IfOk c.wrong_in_blocks.result (λ wrong. wrong.items ≡ ns)) (image-right c.args.image.now right) c.wrong_in_blocks.ensures

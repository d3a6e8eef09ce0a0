-- The first nine of the parts that `split` gives.
use Rattle.std.proofs.Common.{◌≡◌, ◌∙◌, List, map, Option, Result, Ok, Err, IfOk, ap, nat_eq, rules, tests}
use Rattle.std.specs.Iterator.{DrainsIf}
use Rattle.std.proofs.lemmas.Iterator.{YieldsList, YieldsList-from_take, items_from_drains}
use Rattle.std.proofs.lemmas.Iterator.Consumers.{YieldsList-at}
use Rattle.std.proofs.lemmas.Iterator.Splits.{YieldsList-from_slice_split}
use Rattle.arrayvec.specs.ArrayVec.{ArrayVec}
use Rattle.hfs_scripts.specs.Fields.{fields_of}
use Rattle.hfs_scripts.proofs.fields.split_fields.Goals as goal

-- what is read of each item that was collected
read-collected : {S A B E : Type 0} {steps : S → Option A → S → Type 0} {read : A → B} {s : S} {all : List B} (r : Result (ArrayVec A) E)
    → IfOk r (λ v. (xs : List A) × DrainsIf steps (Unit {0}) s xs × (v.items ≡ xs)) → YieldsList steps read s all → IfOk r (λ v. map read v.items ≡ all)
read-collected {read = read} (Ok v) ran road = ap (map read) ran.2 ∙ items_from_drains ran.0 ran.1 road
read-collected (Err e) ran road = tt

pub returns : goal.returns
unfolding fields_of
returns c =
    read-collected _ c.collect.ensures.ran
    (YieldsList-from_take 9
    (YieldsList-at c.take.ensures.source
    (YieldsList-from_slice_split _ (λ byte. nat_eq byte 9) c.args.line.now c.split.ensures.rest c.split.ensures.done c.split.ensures.closure (λ x b q k. search (rules, tests))))
    c.take.ensures.count)

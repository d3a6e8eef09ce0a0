-- A write takes the front of what is left, and an error takes nothing.
use Rattle.std.proofs.Common.{◌≡◌, ℕ, ◌+◌, ◌-◌, ◌≤◌, List, ◌++◌, arith, take, drop, length, length-take, sym, ap, ◌∙◌, subst}
use Rattle.std.specs.Io.KnownBytes.{Appends}
use Rattle.std.proofs.KnownBytes.{Appends-trans, Appends-kept}
use Rattle.std.proofs.lemmas.List.{take-take}
use Rattle.std.proofs.Math.Seq.{take-add}
use Rattle.hfs_texts.proofs.output.put.Goals as goal
use Rattle.hfs_texts.proofs.output.put.Goals.{in-Ok, in-Err+else-ne}

take_part : (a more room : ℕ) (xs : List ℕ) → more ≤ room → take a xs ++ take more (take room (drop a xs)) ≡ take (a + more) xs
take_part a more room xs within = ap (λ l. take a xs ++ l) (take-take more room (drop a xs) within) ∙ sym (take-add a more xs)

pub loop-turn-preserved : goal.loop-turn-preserved
loop-turn-preserved g c =
    let before = c.loop-turn.invariant in
    let bytes = c.args.bytes.now in
    elim c.match-write.branch [
      | in-Ok w ↦
          let taken = w.in-Ok.ensures.bound in
          let room = length bytes - c.loop-turn.count in
          let fits : w.in-Ok.more ≤ room = omega (arith, length-take room (drop c.loop-turn.count bytes)) in
          rw w.count-is (omega (arith, fits), subst (Appends _ _) (take_part c.loop-turn.count w.in-Ok.more room bytes fits) (Appends-trans _ _ _ _ _ before.1 w.in-Ok.ensures.bytes))
      | in-Err+else-ne w ↦
          rw w.count-is (before.0, Appends-kept _ _ _ _ before.1 w.in-Err.ensures.bytes)
    ]

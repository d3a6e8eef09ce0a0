use Rattle.std.proofs.Common.{◌≡◌, ℕ, ◌<◌, true, None, slice_index_or, sym, ap, ◌∙◌, subst, arith, inl, inr}
use Rattle.std.specs.Option.{is_some}
use Rattle.std.proofs.lemmas.Bool.{cases_lt}
use Rattle.hfs_remains_places.specs.Paths.{is_folder_at}
use Rattle.hfs_remains_places.proofs.paths.Frame.place_all.Goals as goal

pub loop-i-init : goal.loop-i-init
loop-i-init c = record { all = c.requires.all; right = c.requires.right; known = λ k none folder. absurd (omega (arith, none)) }

pub loop-i-preserved : goal.loop-i-preserved
loop-i-preserved c =
    let things = c.args.self.now.things.now in
    record {
      all = c.in_ok-place_next.ensures.all;
      right = c.in_ok-place_next.ensures.right;
      known = λ k lt folder.
          elim (cases_lt k c.loop-i.i) [
            | inl before ↦ c.in_ok-place_next.ensures.keeps k (c.loop-i.invariant.known k before folder)
            | inr here ↦
                let same : k ≡ c.loop-i.i = omega (arith, lt, here) in
                ap (λ (n : ℕ). is_some (slice_index_or c.place_next.new.paths n None)) same ∙ c.in_ok-place_next.ensures.known (ap (is_folder_at things) (sym same) ∙ folder)
          ];
    }

pub returns-clause-known : goal.returns-clause-known
returns-clause-known c = λ k lt folder. c.loop-i.invariant.known k (omega (arith, lt, c.len-count.ensures)) folder

-- No call was made yet.
use Rattle.std.proofs.Common.{◌≡◌, ◌<◌, ℕ, zero, suc, get_or, replicate, List, [], ◌∷◌, ◌++◌, refl, sym, ap, subst, rules, arith}
use Rattle.hfs_check.specs.VolumeOf.{volume_of}
use Rattle.hfs_model.specs.Volume.{Volume}
use Rattle.hfs_model.specs.declared.journal.Entry.{Entry}
use Rattle.hfs_shared.specs.Journals.{IsLegal}
use Rattle.hfs_shared.specs.Desks.{IsHeadline, IsCounted}
use Rattle.hfs_shared.proofs.desk.Desk.new.Goals as goal

some-none : (e : Entry) (rest : List Entry) → [] ≡ e ∷ rest → ⊥
some-none e rest is = cc

none_legal : (v : Volume) → IsLegal v []
none_legal v [] e rest is = absurd (some-none e rest is)
none_legal v (x ∷ xs) e rest is = absurd (some-none x (xs ++ e ∷ rest) is)

one_at : (n w : ℕ) → w < n → ◌≡◌ {A = ℕ} (get_or (replicate n 1) w 0) 1
one_at zero w lt = absurd (omega (arith, lt))
one_at (suc n) zero lt = refl
one_at (suc n) (suc w) lt = one_at n w (omega (arith, lt))

pub invariant_of-result : goal.invariant_of-result
invariant_of-result c =
    let headline : IsHeadline c.args.volume.base c.args.volume.current c.args.volume.written [] = record {
      agrees = search rules;
      made = search rules;
      legal = none_legal (volume_of c.args.volume.base);
      follows = ap volume_of c.requires.fresh;
    } in
    let counted : IsCounted c.in-Ok.next.items [] = record {
      counts = λ w lt. search (rules, c.in-Ok.ensures.items_if_clones_equal, one_at c.args.workers w (omega (arith, lt, c.in-Ok.ensures.len, c.in-Ok.next.ok)));
      none = λ w more. refl;
      nobody = refl;
      few = omega (arith, c.in-Ok.ensures.len, c.requires.workers);
    } in
    subst (λ (j : List Entry). IsHeadline c.args.volume.base c.args.volume.current c.args.volume.written j × IsCounted c.in-Ok.next.items j)
    (sym c.new.ensures.items) (headline, counted)

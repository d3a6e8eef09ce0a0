-- The open folders are left, the innermost first.
use Rattle.std.proofs.Common.{◌≡◌, ℕ, Bool, true, false, cond, List, [], ◌∷◌, ◌++◌, map, reverse, Option, Result, Ok, sym, ◌∙◌, ap, subst}
use Rattle.std.proofs.lemmas.List.{map-append, reverse-append}
use Rattle.hfs_model.specs.Volume.{Volume}
use Rattle.hfs_put_plan.specs.Accepted.{next}
use Rattle.hfs_put_plan.specs.Put.{Open, Refused, is_at, left}
use Rattle.hfs_put.specs.Faults.{IsLayFault}
use Rattle.hfs_put.specs.Folders.{one_left, open_of, opens}
use Rattle.hfs_put.specs.declared.faults.LayFault.{LayFault}
use Rattle.hfs_put.specs.declared.folders.OpenFolder.{OpenFolder}
use Rattle.hfs_put.proofs.CallRows.{next-lay}

pub opens-more : (now : ℕ) (fs : List OpenFolder) (f : OpenFolder) → opens now (fs ++ f ∷ []) ≡ open_of now f ∷ opens now fs
opens-more now fs f = ap reverse (map-append (open_of now) fs (f ∷ [])) ∙ reverse-append (map (open_of now) fs) (open_of now f ∷ [])

module _ (parent : Option ℕ) (now : ℕ) where
  abbrev Left : Type 0
  Left = Result (Volume × List Open) Refused

  abbrev behind : Bool → Volume → OpenFolder → List OpenFolder → Left
  behind b v f fs = cond b (Ok (v, open_of now f ∷ opens now fs)) (next (one_left now f v) (λ w. left parent w (opens now fs)))

  first-left : (v : Volume) (fs all : List OpenFolder) (f : OpenFolder) (b : Bool) → all ≡ fs ++ f ∷ [] → is_at parent f.place ≡ b
      → left parent v (opens now all) ≡ behind b v f fs
  first-left v fs all f b are test =
      ap (λ (l : List OpenFolder). left parent v (opens now l)) are ∙ ap (left parent v) (opens-more now fs f) ∙ ap (λ (t : Bool). behind t v f fs) test

  pub left_there : (v : Volume) (fs all : List OpenFolder) (f : OpenFolder) → all ≡ fs ++ f ∷ [] → is_at parent f.place ≡ true
      → left parent v (opens now all) ≡ Ok (v, opens now all)
  left_there v fs all f are test =
      first-left v fs all f true are test ∙ ap (λ (os : List Open). Ok (v, os)) (sym (ap (opens now) are ∙ opens-more now fs f))

  pub left_step : (r : Left) (v w : Volume) (fs all : List OpenFolder) (f : OpenFolder) → all ≡ fs ++ f ∷ [] → is_at parent f.place ≡ false
      → one_left now f v ≡ Ok w → r ≡ left parent v (opens now all) → r ≡ left parent w (opens now fs)
  left_step r v w fs all f are test done before =
      before ∙ first-left v fs all f false are test ∙ ap (λ (o : Result Volume Refused). next o (λ u. left parent u (opens now fs))) done

  pub left_fault : (r : Left) (v : Volume) (fs all : List OpenFolder) (f : OpenFolder) (image : List ℕ) (fault : LayFault) → all ≡ fs ++ f ∷ [] → is_at parent f.place ≡ false
      → IsLayFault (one_left now f v) image fault → r ≡ left parent v (opens now all) → IsLayFault r image fault
  left_fault r v fs all f image fault are test h before =
      subst (λ (o : Left). IsLayFault o image fault) (sym (before ∙ first-left v fs all f false are test))
      (next-lay (one_left now f v) (λ u. left parent u (opens now fs)) image fault h)

  pub left_none : (r : Left) (v : Volume) (all : List OpenFolder) → all ≡ [] → r ≡ left parent v (opens now all) → r ≡ Ok (v, opens now all)
  left_none r v all none before =
      before ∙ ap (λ (l : List OpenFolder). left parent v (opens now l)) none ∙ ap (λ (l : List OpenFolder). Ok (v, opens now l)) (sym none)

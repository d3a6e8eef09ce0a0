-- Lemmas about the definitions of specs/Roots.antt.
use Rattle.std.proofs.Common.{◌≡◌, inl, inr, ⊎_elim, ℕ, ◌≤◌, ◌<◌, List, [], ◌∷◌, ◌++◌, refl, sym, ap, ◌∙◌, subst, arith, Option, Some}
use Rattle.std.specs.Bool.{IsTrue}
use Rattle.std.specs.Ordering.{ordering_then}
use Rattle.std.specs.declared.cmp.Ordering.{Ordering}
use Rattle.std.specs.declared.cmp.Ordering.TheVariants.{Less, Greater}
use Rattle.std.specs.Cmp.{nat_cmp_is}
use Rattle.std.proofs.lemmas.Bool.{eqb-true, and_parts}
use Rattle.hfs_fields.specs.declared.key.CatKey.{CatKey}
use Rattle.hfs_fields.specs.Keys.{cat_cmp}
use Rattle.hfs_fields.specs.Order.{name_cmp}
use Rattle.hfs_fields.specs.Records.{is_item, item_id}
use Rattle.hfs_fields.specs.Members.{In}
use Rattle.hfs_fields.proofs.MemberLemmas.{each_in, found_in, in-left, in-right}
use Rattle.hfs_btree.specs.Pairs.{Rises}
use Rattle.hfs_btree_edits.specs.Edits.{IsAboveFirst}
use Rattle.hfs_catalog.specs.Records.{Record, Catalog, has_id}
use Rattle.hfs_catalog.specs.Sound.{HasRightId, AreIdsSound, IsRoot, IsGiven}
use Rattle.hfs_record_edits.specs.Swaps.{Swaps, list_of}
use Rattle.hfs_record_edits.specs.Roots.{HasRoot}
use Rattle.hfs_catalog.proofs.Steps.{parents_rise}
use Rattle.hfs_fields.proofs.PartLemmas.{in_parts}

-- a sound catalog has it
pub sound_has_root : (next : ℕ) (catalog : Catalog) → AreIdsSound next catalog → HasRoot catalog
sound_has_root next catalog ids =
    let found = found_in (has_id 2) catalog ids.root.0 ids.root.1 in
    let both = and_parts (is_item ids.root.0.1) _ found.1 in
    let id : item_id ids.root.0.1 ≡ 2 = eqb-true (item_id ids.root.0.1) 2 both.1 in
    record {
      root = ids.root.0;
      there = found.0;
      parent = ⊎_elim
          (λ (is : IsRoot ids.root.0). is.parent)
          (λ (given : IsGiven next ids.root.0). absurd (omega (arith, given.least, id)))
          (each_in (λ (r : Record). IsTrue (is_item r.1) → HasRightId next r) catalog ids.root.0 ids.each found.0 both.0);
    }

module _ {X : Type 0} (went come : Option X) (old new : List X) (swap : Swaps went come old new) where
  -- what stood there stands there, unless it is what went
  pub swapped_in : (x : X) → (In x (list_of went) → ⊥) → In x old → In x new
  swapped_in x other there =
      subst (In x) (sym swap.is)
      (⊎_elim
      (λ (before : In x swap.before). in-left x swap.before (list_of come ++ swap.behind) before)
      (λ (rest : In x (list_of went ++ swap.behind)).
      ⊎_elim
      (λ (is : In x (list_of went)). absurd (other is))
      (λ (behind : In x swap.behind). in-right x swap.before (list_of come ++ swap.behind) (in-right x (list_of come) swap.behind behind))
      (in_parts x (list_of went) swap.behind rest))
      (in_parts x swap.before (list_of went ++ swap.behind) (subst (In x) swap.was there)))

-- the root stays, unless it is what went
pub root_stays : (went come : Option Record) (old new : Catalog) → Swaps went come old new → ((r : Record) → In r (list_of went) → 2 ≤ r.0.parent) → HasRoot old → HasRoot new
root_stays went come old new swap other has = record {
  root = has.root;
  there = swapped_in went come old new swap has.root (λ is. let high = other has.root is in omega (arith, high, has.parent)) has.there;
  parent = has.parent;
}

-- the root stays, also where a record of the same parent stands in its place
pub root_set : (r s : Record) (old new : Catalog) → Swaps (Some r) (Some s) old new → s.0.parent ≡ r.0.parent → HasRoot old → HasRoot new
root_set r s old new swap same has =
    ⊎_elim
    (λ (before : In has.root swap.before). kept (in-left has.root swap.before (s ∷ swap.behind) before))
    (λ (rest : In has.root (r ∷ swap.behind)).
    ⊎_elim
    (λ (is : r ≡ has.root). record { root = s; there = subst (In s) (sym swap.is) (in-right s swap.before (s ∷ swap.behind) (inl refl)); parent = same ∙ ap (λ (q : Record). q.0.parent) is ∙ has.parent })
    (λ (behind : In has.root swap.behind). kept (in-right has.root swap.before (s ∷ swap.behind) (inr behind)))
    rest)
    (in_parts has.root swap.before (r ∷ swap.behind) (subst (In has.root) swap.was has.there))
  where
    kept : In has.root (swap.before ++ (s ∷ swap.behind)) → HasRoot new
    kept there = record { root = has.root; there = subst (In has.root) (sym swap.is) there; parent = has.parent }

-- ---- keys that are above the first

not_less : (o : Ordering) → ordering_then Greater o ≡ Less → ⊥
not_less o e = cc

pub below_by_parent : (x y : CatKey) → x.parent < y.parent → cat_cmp x y ≡ Less
below_by_parent x y lt = ap (λ (o : Ordering). ordering_then o (name_cmp x.name y.name)) (sym (nat_cmp_is x.parent y.parent Less lt))

pub above_root : (catalog : Catalog) (key : CatKey) → Rises cat_cmp catalog → HasRoot catalog → 2 ≤ key.parent → IsAboveFirst cat_cmp key catalog
above_root [] key rises has high = absurd has.there
above_root (r ∷ rest) key rises has high = below_by_parent r.0 key (omega (arith, low, high))
  where
    low : r.0.parent ≤ 1
    low = ⊎_elim
        (λ (here : r ≡ has.root). omega (arith, ap (λ (q : Record). q.0.parent) here, has.parent))
        (λ (later : In has.root rest). let le = parents_rise r.0 has.root.0 (each_in (λ (q : Record). cat_cmp r.0 q.0 ≡ Less) rest has.root rises.0 later) in omega (arith, le, has.parent))
        has.there

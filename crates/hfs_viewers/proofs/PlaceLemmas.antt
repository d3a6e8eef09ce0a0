-- Lemmas about the definitions of specs/Places.antt.
use Rattle.std.specs.Prelude.{◌≡◌, IsTrue, refl}
use Rattle.std.proofs.Common.{ap}
use Rattle.std.specs.declared.cmp.Ordering.{Ordering}
use Rattle.std.specs.declared.cmp.Ordering.TheVariants.{Less, Equal, Greater}
use Rattle.std.specs.Ordering.{nat_cmp, is_eq, ordering_then}
use Rattle.std.specs.Cmp.{tied_itself}
use Rattle.hfs_fields.specs.Order.{name_cmp, same_name}
use Rattle.hfs_model.proofs.Facts.{true_false}
use Rattle.hfs_viewers.specs.declared.place.Place.{Place}
use Rattle.hfs_viewers.specs.Places.{place_cmp, place_cmp_total}

-- a place ties with itself
pub level : (p : Place) → place_cmp p p ≡ Equal
level p = tied_itself place_cmp_total p

-- names at places that tie are the same
pub names_level : (p q : Place) → place_cmp p q ≡ Equal → IsTrue (same_name p.name q.name)
names_level p q e = ap is_eq (second (nat_cmp p.parent q.parent) e)
  where
    second : (r : Ordering) → ordering_then r (name_cmp p.name q.name) ≡ Equal → name_cmp p.name q.name ≡ Equal
    second Less e = absurd (true_false (is_eq Less) (ap is_eq e) refl)
    second Equal e = e
    second Greater e = absurd (true_false (is_eq Greater) (ap is_eq e) refl)

-- Maps and sets in the order of their numbers: what is looked up in them by equal numbers.
use Rattle.std.proofs.Common.{◌≡◌, ℕ, Bool, true, cond, ◌||◌, nat_eq, List, Option, Some, sym, ◌∙◌, ap}
use Rattle.std.specs.List.{list_any}
use Rattle.std.specs.Ordering.{nat_cmp}
use Rattle.std.specs.Map.{lookup}
use Rattle.std.specs.BTreeMap.{is_at}
use Rattle.hfs_catalog.specs.Indexes.{Numbered, number_of, with_number, has_number}
use Rattle.hfs_fields.proofs.OrderLemmas.{same_number}
use Rattle.hfs_fields.proofs.DecisionLemmas.{or_there}

-- ---- maps

pub number_there : (numbers : Numbered) (id : ℕ) → lookup (is_at (nat_cmp id)) numbers ≡ number_of numbers id
number_there numbers id = ap (λ (t : ℕ → Bool). lookup t numbers) (same_number id)

pub number_put : (old new : Numbered) (id n : ℕ)
    → ((k : ℕ) → lookup (is_at (nat_cmp k)) new ≡ cond (is_at (nat_cmp id) k) (Some n) (lookup (is_at (nat_cmp k)) old))
    → number_of new ≡ with_number (number_of old) id n
number_put old new id n is = λ i k. at k i
  where
    at : (k : ℕ) → number_of new k ≡ with_number (number_of old) id n k
    at k =
        sym (number_there new k) ∙ is k
        ∙ ap (λ (t : ℕ → Bool). cond (t k) (Some n) (lookup (is_at (nat_cmp k)) old)) (same_number id)
        ∙ ap (λ (o : Option ℕ). cond (nat_eq id k) (Some n) o) (number_there old k)

-- ---- sets

pub id_there : (ids : List ℕ) (id : ℕ) → list_any (is_at (nat_cmp id)) ids ≡ has_number ids id
id_there ids id = ap (λ (t : ℕ → Bool). list_any t ids) (same_number id)

pub id_put : (old new : List ℕ) (id : ℕ)
    → ((k : ℕ) → list_any (is_at (nat_cmp k)) new ≡ cond (is_at (nat_cmp id) k) true (list_any (is_at (nat_cmp k)) old))
    → (k : ℕ) → has_number new k ≡ (has_number old k || nat_eq id k)
id_put old new id is k =
    sym (id_there new k) ∙ is k
    ∙ ap (λ (t : ℕ → Bool). cond (t k) true (list_any (is_at (nat_cmp k)) old)) (same_number id)
    ∙ ap (λ (b : Bool). cond (nat_eq id k) true b) (id_there old k)
    ∙ or_there (nat_eq id k) (has_number old k)

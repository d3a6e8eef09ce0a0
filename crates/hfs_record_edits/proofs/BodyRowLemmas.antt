-- The bodies of an extents tree's records, which are all of one length.
use Rattle.std.proofs.Common.{◌≡◌, ℕ, ◌≤◌, List, [], ◌∷◌, length, arith, Bool, true, false}
use Rattle.std.specs.Prelude.{Option, Some, cond}
use Rattle.std.specs.Ordering.{is_eq}
use Rattle.std.proofs.lemmas.Bool.{eqb-true}
use Rattle.hfs_fields.specs.declared.key.ExtKey.{ExtKey}
use Rattle.hfs_fields.specs.Keys.{ext_cmp, is_ext_leaf}
use Rattle.hfs_btree.specs.Keys.{ext_allowed}
use Rattle.hfs_btree.specs.Pairs.{lookup}
use Rattle.hfs_fields.specs.Each.{Each}
use Rattle.hfs_fields.proofs.ElementLemmas.{each-mono, each-map}
use Rattle.hfs_fields.proofs.PartLemmas.{flat-each}
use Rattle.hfs_btree.specs.Tree.{Store, records_in, pair_of, pairs}
use Rattle.hfs_btree.specs.Header.{depth_of, root_level, leaves}
use Rattle.hfs_btree.specs.Sound.{IsRight, IsSound}
use Rattle.hfs_btree.proofs.LevelLemmas.{each-spots}
use Rattle.hfs_btree.proofs.DescentLemmas.{leaves-right, leaf-entries}
use Rattle.hfs_btree_edits.specs.Conditions.{IsThere, IsNoLonger}
use Rattle.hfs_space.specs.Extents.{Overflow}
use Rattle.hfs_space.specs.TreeKeys.{ext_keys, overflow_of}

abbrev IsLong : ExtKey × List ℕ → Type 0
IsLong r = length r.1 ≡ 12

leaf-long : (nodes : Store) (l n r : ℕ) → IsRight ext_keys nodes (record { left = l; n = n; right = r; above = 0 }) → Each IsLong (pairs ext_keys nodes n)
leaf-long nodes l n r right =
    each-map IsLong (pair_of ext_keys) (records_in nodes n)
    (each-mono (λ e. is_ext_leaf e ≡ true) (λ e. IsLong (pair_of ext_keys e)) (records_in nodes n) (λ e is. eqb-true _ _ (ext_allowed e is)) (leaf-entries ext_keys nodes l n r right))

all-long : (nodes : Store) → IsSound ext_keys nodes → Each IsLong (overflow_of nodes)
all-long nodes sound =
    flat-each IsLong (pairs ext_keys nodes) (leaves ext_keys nodes)
    (each-spots (IsRight ext_keys nodes) (λ n. Each IsLong (pairs ext_keys nodes n)) 0 (λ l n r right. leaf-long nodes l n r right) 0 (leaves ext_keys nodes)
    (leaves-right ext_keys nodes (depth_of nodes) (root_level nodes) sound.structure.levels.each))

long-by : (b : Bool) (body old : List ℕ) (o : Option (List ℕ)) → length body ≤ length old → (IsThere o → IsNoLonger body o) → IsThere (cond b (Some old) o) → IsNoLonger body (cond b (Some old) o)
long-by true body old o le rest there = le
long-by false body old o le rest there = rest there

no-longer : (key : ExtKey) (body : List ℕ) (rs : Overflow) → length body ≡ 12 → Each IsLong rs → IsThere (lookup ext_cmp key rs) → IsNoLonger body (lookup ext_cmp key rs)
no-longer key body [] long h there = there
no-longer key body (r ∷ rs) long h there =
    let same = h.0 in
    long-by (is_eq (ext_cmp key r.0)) body r.1 (lookup ext_cmp key rs) (omega (arith, long, same)) (no-longer key body rs long h.1) there

pub body-fits : (nodes : Store) (key : ExtKey) (body : List ℕ) → IsSound ext_keys nodes → length body ≡ 12 → IsThere (lookup ext_cmp key (overflow_of nodes)) → IsNoLonger body (lookup ext_cmp key (overflow_of nodes))
body-fits nodes key body sound long there = no-longer key body (overflow_of nodes) long (all-long nodes sound) there

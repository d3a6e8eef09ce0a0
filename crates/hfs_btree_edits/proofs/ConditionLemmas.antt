-- Lemmas about the definitions of specs/Conditions.antt.
use Rattle.std.specs.Prelude.{List, [], ℕ, Option, Some, None}
use Rattle.std.proofs.Common.{arith}
use Rattle.hfs_btree_edits.specs.Conditions.{IsThere, IsNoLonger}

pub no_longer-there : (body : List ℕ) (o : Option (List ℕ)) → IsNoLonger body o → IsThere o
no_longer-there body None h = h
no_longer-there body (Some old) h = tt

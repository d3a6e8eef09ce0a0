-- Lemmas about the definitions of specs/Pairs.antt.
use Rattle.std.specs.Prelude.{◌≡◌}
use Rattle.std.specs.declared.cmp.Ordering.TheVariants.{Less}
use Rattle.hfs_fields.specs.Each.{Each}
use Rattle.hfs_btree.specs.Pairs.{Order, Pairs}

-- the key is below each key of the pairs
abbrev pub IsBelow : {K : Type 0} → Order K → K → Pairs K → Type 0
IsBelow cmp key ps = Each (λ p. cmp key p.0 ≡ Less) ps

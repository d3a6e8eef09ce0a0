-- Of blocks that calls wrote those that a patch has.
use Rattle.std.proofs.Common.{◌≡◌, ℕ, Bool, true, false, true≢false, cond, List, [], ◌∷◌, Option, Some, None, IsSome, is_some, refl, sym, ap, ◌∙◌}
use Rattle.std.specs.List.{filter}
use Rattle.hfs_fields.specs.Each.{Each}
use Rattle.hfs_fields.proofs.ElementLemmas.{each-append, each-left, each-right}
use Rattle.hfs_blocks.specs.Blocks.{block_at}
use Rattle.hfs_blocks.specs.Layers.{Numbered, changes}
use Rattle.hfs_btree.specs.Sound.{IsOther}
use Rattle.hfs_check.specs.Agree.{AgreesBut, IsBesideAll, changing_blocks}

abbrev pub changed_of : Numbered → List ℕ → List ℕ
changed_of patch numbers = filter (λ n. is_some (changes patch n)) numbers

pub changed-each : (patch : Numbered) (numbers : List ℕ) → Each (λ n. IsSome (changes patch n)) (changed_of patch numbers)
changed-each patch [] = tt
changed-each patch (n ∷ ns) = by (is_some (changes patch n)) refl (changed-each patch ns)
  where
    by : (b : Bool) → is_some (changes patch n) ≡ b → Each (λ m. IsSome (changes patch m)) (changed_of patch ns)
        → Each (λ m. IsSome (changes patch m)) (cond b (n ∷ changed_of patch ns) (changed_of patch ns))
    by true some rest = (some, rest)
    by false none rest = rest

-- a block that the patch has is one of them, or none of all
other-of : (patch : Numbered) (n : ℕ) (numbers : List ℕ) → IsSome (changes patch n) → Each (IsOther n) (changed_of patch numbers) → Each (IsOther n) numbers
other-of patch n [] some other = tt
other-of patch n (m ∷ ms) some other = by (is_some (changes patch m)) refl other (other-of patch n ms some)
  where
    by : (b : Bool) → is_some (changes patch m) ≡ b → Each (IsOther n) (cond b (m ∷ changed_of patch ms) (changed_of patch ms))
        → (Each (IsOther n) (changed_of patch ms) → Each (IsOther n) ms) → Each (IsOther n) (m ∷ ms)
    by true there other rest = (other.0, rest other.1)
    by false none other rest = (λ (same : m ≡ n). true≢false (sym some ∙ ap (λ (k : ℕ). is_some (changes patch k)) (sym same) ∙ none), rest other)

-- bytes that agree except for the written blocks do so except for those that were changed
pub agrees-where : (patch : Numbered) (written old new : List ℕ) → AgreesBut written old new
    → ((n : ℕ) → changes patch n ≡ None → block_at new n ≡ block_at old n) → AgreesBut (changed_of patch written) old new
agrees-where patch written old new agrees same = record {
  sound = agrees.sound;
  len = agrees.len;
  kept = record {
    mdb = agrees.kept.mdb;
    bits = agrees.kept.bits;
    others = λ n beside. by n (changes patch n) refl beside;
    extents = agrees.kept.extents;
    catalog = agrees.kept.catalog;
    catalog_file = agrees.kept.catalog_file;
    stray = agrees.kept.stray;
  };
}
  where
    by : (n : ℕ) (o : Option (List ℕ)) → changes patch n ≡ o → IsBesideAll (changed_of patch written) (block_at old) n → block_at new n ≡ block_at old n
    by n None none beside = same n none
    by n (Some block) some beside =
        agrees.kept.others n
        (each-append (IsOther n) written (changing_blocks (block_at old))
        (other-of patch n written (ap is_some some) (each-left (IsOther n) (changed_of patch written) (changing_blocks (block_at old)) beside))
        (each-right (IsOther n) (changed_of patch written) (changing_blocks (block_at old)) beside))

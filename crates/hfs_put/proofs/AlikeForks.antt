-- Volumes that are the same but for the bytes of forks, with the same bytes in the forks of some files.
use Rattle.std.proofs.Common.{◌≡◌, ℕ, false, List, [], ◌∷◌, map, Option, Some, None, is_some, refl, sym, ap, ◌∙◌}
use Rattle.std.specs.FinMap as fin
use Rattle.hfs_model.specs.declared.item.Kind.{Kind}
use Rattle.hfs_model.specs.declared.item.Kind.TheVariants.{Folder, File}
use Rattle.hfs_model.specs.Volume.{Entry, Items, Volume}
use Rattle.hfs_model.specs.Alike.{AreAlike, bare_kind, bare_volume, no_file}
use Rattle.hfs_model.proofs.BareEntries.{by_keep}
use Rattle.hfs_model.proofs.MappedEntries.{mapped_entry, mapped_items, entries-mapped}
use Rattle.hfs_put_plan.specs.WithForks.{FileForks, forks_of, kind_with_forks, with_forks}
use Rattle.hfs_put.specs.Forks.{has_forks}

abbrev pub by_forks : List FileForks → ℕ → Kind → Kind
by_forks forks q k = kind_with_forks (forks_of forks q) k

-- ---- one change of kinds behind another

module _ (g h : ℕ → Kind → Kind) where
  abbrev both : ℕ → Kind → Kind
  both q k = g q (h q k)

  map-twice : (es : List Entry) → map (mapped_entry g) (map (mapped_entry h) es) ≡ map (mapped_entry both) es
  map-twice [] = refl
  map-twice (e ∷ es) = ap (λ (l : List Entry). mapped_entry both e ∷ l) (map-twice es)

  items-twice : (m : Items) → mapped_items g (mapped_items h m) ≡ mapped_items both m
  items-twice m = ap (λ (es : List Entry). fin.from_sorted es) (ap (map (mapped_entry g)) (entries-mapped h m) ∙ map-twice (fin.entries m))

map-same : (g h : ℕ → Kind → Kind) → ((q : ℕ) (k : Kind) → g q k ≡ h q k) → (es : List Entry) → map (mapped_entry g) es ≡ map (mapped_entry h) es
map-same g h same [] = refl
map-same g h same (e ∷ es) = λ i. (e.0, record e.1 { kind = same e.0 e.1.kind i }) ∷ map-same g h same es i

-- ---- bytes of some forks, and zeros in all others

kind-same : (o : Option FileForks) (k : Kind) → bare_kind (is_some o) (kind_with_forks o k) ≡ kind_with_forks o (bare_kind false k)
kind-same None k = refl
kind-same (Some own) (Folder kept) = refl
kind-same (Some own) (File file) = refl

module _ (forks : List FileForks) where
  bare-with : (v : Volume) → bare_volume (has_forks forks) (with_forks forks v) ≡ with_forks forks (bare_volume no_file v)
  bare-with v =
      ap (λ (items : Items). record v { items = items })
      (items-twice (by_keep (has_forks forks)) (by_forks forks) v.items
      ∙ ap (λ (es : List Entry). fin.from_sorted es)
      (map-same (λ q k. bare_kind (has_forks forks q) (by_forks forks q k)) (λ q k. by_forks forks q (bare_kind false k))
      (λ q k. kind-same (forks_of forks q) k) (fin.entries v.items))
      ∙ sym (items-twice (by_forks forks) (by_keep no_file) v.items))

  -- with these bytes they are the same in these files, too
  pub with-alike : (v w : Volume) → AreAlike no_file v w → AreAlike (has_forks forks) (with_forks forks v) (with_forks forks w)
  with-alike v w alike = bare-with v ∙ ap (with_forks forks) alike ∙ sym (bare-with w)

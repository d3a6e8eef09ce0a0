-- A volume with other bytes in its forks is one whose kinds were changed by their IDs.
use Rattle.std.proofs.Common.{◌≡◌, ⊎_elim, ℕ, Bool, cond, List, ◌∷◌, Option, Some, None, refl, sym, ap, ◌∙◌}
use Rattle.std.specs.Cmp.{nat_cmp_total}
use Rattle.std.specs.FinMap as fin
use Rattle.std.specs.FinMap.{nat_cmp-IsAntisymmetric}
use Rattle.std.specs.Option.{option_map}
use Rattle.std.proofs.lemmas.Bool.{cases_eq, eq-eqb, ne_eqb}
use Rattle.hfs_model.specs.declared.item.Item.{Item}
use Rattle.hfs_model.specs.declared.item.Kind.{Kind}
use Rattle.hfs_model.specs.declared.item.Kind.TheVariants.{Folder, File}
use Rattle.hfs_model.specs.Changes.{with_lock, new_folder}
use Rattle.hfs_model.specs.Children.{is_folder_kind}
use Rattle.hfs_model.specs.Lawful.{Has}
use Rattle.hfs_model.specs.Replies.{is_locked_file}
use Rattle.hfs_model.specs.Volume.{Items}
use Rattle.hfs_model.proofs.Keeps.{get_here, get_there}
use Rattle.hfs_put_plan.specs.WithForks.{FileForks, forks_of, kind_with_forks}
use Rattle.hfs_model.proofs.MappedEntries.{mapped_item, mapped_items, TellsSame, get-mapped}

-- each kind with these bytes
abbrev pub by_forks : List FileForks → ℕ → Kind → Kind
by_forks forks q k = kind_with_forks (forks_of forks q) k

folder-same : (o : Option FileForks) (k : Kind) → is_folder_kind (kind_with_forks o k) ≡ is_folder_kind k
folder-same None k = refl
folder-same (Some f) (Folder kept) = refl
folder-same (Some f) (File file) = refl

locked-same : (o : Option FileForks) (k : Kind) → is_locked_file (kind_with_forks o k) ≡ is_locked_file k
locked-same None k = refl
locked-same (Some f) (Folder kept) = refl
locked-same (Some f) (File file) = refl

lock-same : (b : Bool) (o : Option FileForks) (k : Kind) → with_lock b (kind_with_forks o k) ≡ kind_with_forks o (with_lock b k)
lock-same b None k = refl
lock-same b (Some f) (Folder kept) = refl
lock-same b (Some f) (File file) = refl

pub tells-forks : (forks : List FileForks) → TellsSame (by_forks forks)
tells-forks forks = record {
  folder = λ q k. folder-same (forks_of forks q) k;
  locked = λ q k. locked-same (forks_of forks q) k;
  lock = λ b q k. lock-same b (forks_of forks q) k;
}

-- a folder has no forks
pub folder-plain : (o : Option FileForks) → kind_with_forks o new_folder ≡ new_folder
folder-plain None = refl
folder-plain (Some f) = refl

-- ---- one file's forks before those of others

pub forks-here : (x : FileForks) (forks : List FileForks) → forks_of (x ∷ forks) x.id ≡ Some x
forks-here x forks = ap (λ (b : Bool). cond b (Some x) (forks_of forks x.id)) (eq-eqb x.id x.id refl)

pub forks-there : (x : FileForks) (forks : List FileForks) (q : ℕ) → (q ≡ x.id → ⊥) → forks_of (x ∷ forks) q ≡ forks_of forks q
forks-there x forks q other = ap (λ (b : Bool). cond b (Some x) (forks_of forks q)) (ne_eqb x.id q (λ (same : x.id ≡ q). other (sym same)))

-- ---- two changes that agree on each item

pub mapped-same : (g h : ℕ → Kind → Kind) (m : Items) → ((q : ℕ) (i : Item) → Has m q i → g q i.kind ≡ h q i.kind)
    → mapped_items g m ≡ mapped_items h m
mapped-same g h m same =
    fin.same_map nat_cmp_total nat_cmp-IsAntisymmetric (mapped_items g m) (mapped_items h m) (λ q. get-mapped g m q ∙ at q (fin.get m q) refl
    ∙ sym (get-mapped h m q))
  where
    at : (q : ℕ) (o : Option Item) → fin.get m q ≡ o → option_map (mapped_item g q) o ≡ option_map (mapped_item h q) o
    at q None is = refl
    at q (Some i) is = ap (λ (k : Kind). Some (record i { kind = k })) (same q i is)

pub mapped-none : (m : Items) → mapped_items (λ (q : ℕ) (k : Kind). k) m ≡ m
mapped-none m =
    fin.same_map nat_cmp_total nat_cmp-IsAntisymmetric (mapped_items (λ (q : ℕ) (k : Kind). k) m) m (λ q.
    get-mapped (λ (q : ℕ) (k : Kind). k) m q ∙ at (fin.get m q) q)
  where
    at : (o : Option Item) (q : ℕ) → option_map (mapped_item (λ (q : ℕ) (k : Kind). k) q) o ≡ o
    at None q = refl
    at (Some i) q = refl

-- an item whose kind is put anew is one whose kind is changed, where no other is changed otherwise
pub insert-is-mapped : (g h : ℕ → Kind → Kind) (m : Items) (n : ℕ) (i : Item) (k : Kind) → Has m n i → h n i.kind ≡ k
    → ((q : ℕ) (j : Item) → Has m q j → (q ≡ n → ⊥) → g q j.kind ≡ h q j.kind) → fin.insert (mapped_items g m) n (record i { kind = k })
    ≡ mapped_items h m
insert-is-mapped g h m n i k has here others =
    fin.same_map nat_cmp_total nat_cmp-IsAntisymmetric (fin.insert (mapped_items g m) n x) (mapped_items h m) (λ q. ⊎_elim
    (λ (e : q ≡ n). ap (fin.get (fin.insert (mapped_items g m) n x)) e ∙ get_here (mapped_items g m) n x
    ∙ ap (λ (c : Kind). Some (record i { kind = c })) (sym here)
    ∙ ap (option_map (mapped_item h n)) (sym has) ∙ sym (get-mapped h m n) ∙ ap (fin.get (mapped_items h m)) (sym e))
    (λ (ne : q ≡ n → ⊥). get_there (mapped_items g m) n x q ne ∙ get-mapped g m q ∙ at q (fin.get m q) refl ne ∙ sym (get-mapped h m q))
    (cases_eq q n))
  where
    x : Item
    x = record i { kind = k }

    at : (q : ℕ) (o : Option Item) → fin.get m q ≡ o → (q ≡ n → ⊥) → option_map (mapped_item g q) o ≡ option_map (mapped_item h q) o
    at q None is ne = refl
    at q (Some j) is ne = ap (λ (c : Kind). Some (record j { kind = c })) (others q j is ne)

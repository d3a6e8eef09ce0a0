-- Where a file is found behind a change of one of its forks.
use Rattle.std.proofs.Common.{◌≡◌, ℕ, Bool, true, false, cond, eqb, List, [], ◌∷◌, refl, sym, ◌∙◌, ap, Option, Some}
use Rattle.std.specs.Prelude.{T}
use Rattle.std.specs.declared.cmp.Ordering.TheVariants.{Less, Equal, Greater}
use Rattle.std.specs.Ordering.{nat_cmp, is_eq}
use Rattle.std.specs.Cmp.{nat_cmp_total, unsigned_ties}
use Rattle.std.specs.Option.{option_map_or, unwrap_or}
use Rattle.std.specs.List.{find}
use Rattle.std.specs.FinMap as map
use Rattle.std.specs.FinMap.Entries.{by_order, put, is_sorted}
use Rattle.std.proofs.lemmas.Bool.{eqb-true, eq-eqb}
use Rattle.hfs_model.specs.declared.item.Item.{Item}
use Rattle.hfs_model.specs.declared.call.Fork.{Fork}
use Rattle.hfs_model.specs.Volume.{Volume, Entry}
use Rattle.hfs_model.specs.Children.{entries_of, child_named, is_child_named, is_folder, is_folder_kind, has_id}
use Rattle.hfs_model.specs.Changes.{changed_to}
use Rattle.hfs_model.proofs.Counts.{first, second, find_none, none_some}
use Rattle.hfs_model.proofs.Facts.{none_is_some, same_some, true_false, found_has}
use Rattle.hfs_model.specs.Forks.{fork_bytes, item_with_fork}
use Rattle.hfs_model.specs.ForkCallLaws.{fork_named, HasChangedFork}
use Rattle.hfs_model.proofs.Tested.{IsFileNamed}
use Rattle.hfs_model.proofs.ForkLemmas.{own-fork, other-fork, same-sort}

-- ---- a scan of entries, of which one was put in the place of the one that it found

find-put : (p : Entry → Bool) (es : List Entry) (e : Entry) (x : Item) → find p es ≡ Some e → p (e.0, x) ≡ true → find p (put nat_cmp e.0 x es) ≡ Some (e.0, x)
find-put p [] e x is holds = absurd (none_is_some (find p []) e refl is)
find-put p (f ∷ fs) e x is holds = elim (nat_cmp e.0 f.0) as (λ r. nat_cmp e.0 f.0 ≡ r → find p (by_order r ((e.0, x) ∷ f ∷ fs) ((f.0, x) ∷ fs) (f ∷ put nat_cmp e.0 x fs)) ≡ Some (e.0, x)) [
  | Less ↦ λ lt. ap (λ (b : Bool). cond b (Some (e.0, x)) (find p (f ∷ fs))) holds
  | Equal ↦ λ eq.
      let same : f.0 ≡ e.0 = sym (eqb-true e.0 f.0 (unsigned_ties e.0 f.0 ∙ ap is_eq eq)) in
      ap (λ (k : ℕ). find p ((k, x) ∷ fs)) same ∙ ap (λ (b : Bool). cond b (Some (e.0, x)) (find p fs)) holds
  | Greater ↦ λ gt. elim (p f) as (λ (b : Bool). p f ≡ b → cond b (Some f) (find p fs) ≡ Some e → find p (f ∷ put nat_cmp e.0 x fs) ≡ Some (e.0, x)) [
    | true ↦ λ here found.
        let same : e.0 ≡ f.0 = ap (λ (y : Entry). y.0) (sym (same_some f e found)) in
        absurd (true_false (is_eq (nat_cmp e.0 f.0)) (sym (unsigned_ties e.0 f.0) ∙ eq-eqb e.0 f.0 same) (ap is_eq gt))
    | false ↦ λ other found. ap (λ (b : Bool). cond b (Some f) (find p (put nat_cmp e.0 x fs))) other ∙ find-put p fs e x found holds
  ] refl is
] refl

abbrev kind_in : Option Entry → Bool
kind_in o = option_map_or (λ (e : Entry). is_folder_kind e.1.kind) o false

folder-put : (es : List Entry) (q k : ℕ) (x i : Item) → T (is_sorted nat_cmp es) → map.find nat_cmp k es ≡ Some i → is_folder_kind x.kind ≡ is_folder_kind i.kind → is_folder (put nat_cmp k x es) q ≡ is_folder es q
folder-put [] q k x i h found same = absurd (none_some (map.find nat_cmp k []) i refl found)
folder-put (f ∷ fs) q k x i h found same = elim (nat_cmp k f.0) as (λ r. nat_cmp k f.0 ≡ r → cond (is_eq r) (Some f.1) (map.find nat_cmp k fs) ≡ Some i → is_folder (by_order r ((k, x) ∷ f ∷ fs) ((f.0, x) ∷ fs) (f ∷ put nat_cmp k x fs)) q ≡ is_folder (f ∷ fs) q) [
  | Less ↦ λ lt is. absurd (none_some _ i (find_none k f.0 fs lt (first _ _ h)) is)
  | Equal ↦ λ eq is.
      let item : f.1 ≡ i = ap (λ o. unwrap_or o i) is in
      elim (eqb f.0 q) as (λ (b : Bool). kind_in (cond b (Some (f.0, x)) (find (has_id q) fs)) ≡ kind_in (cond b (Some f) (find (has_id q) fs))) [
        | true ↦ same ∙ ap (λ (j : Item). is_folder_kind j.kind) (sym item)
        | false ↦ refl
      ]
  | Greater ↦ λ gt is. elim (eqb f.0 q) as (λ (b : Bool). kind_in (cond b (Some f) (find (has_id q) (put nat_cmp k x fs))) ≡ kind_in (cond b (Some f) (find (has_id q) fs))) [
    | true ↦ refl
    | false ↦ folder-put fs q k x i (second _ _ h) is same
  ]
] refl found

-- ---- a file with another fork

module _ (size : ℕ) (v : Volume) (dir : ℕ) (name : List ℕ) (fork : Fork) (e : Entry) (bytes : List ℕ) (now : ℕ) (may : IsFileNamed v dir name e) where
  abbrev item : Item
  item = item_with_fork size fork bytes now e.1

  abbrev pub new : Volume
  new = changed_to v (map.insert v.items e.0 item) now

  pub there : child_named (entries_of new) dir name ≡ Some (e.0, item)
  there =
      ap (λ (l : List Entry). find (is_child_named dir name) l) (map.entries-insert nat_cmp_total v.items e.0 item)
      ∙ find-put (is_child_named dir name) (entries_of v) e item may.item.child (found_has v.items (is_child_named dir name) e may.item.child).1

  pub folder_still : is_folder (entries_of new) dir ≡ true
  folder_still =
      ap (λ (l : List Entry). is_folder l dir) (map.entries-insert nat_cmp_total v.items e.0 item)
      ∙ folder-put (entries_of v) dir e.0 item e.1 (map.entries_sorted v.items) (sym (map.get-entries v.items e.0) ∙ (found_has v.items (is_child_named dir name) e may.item.child).0) (same-sort size fork bytes e.1.kind)
      ∙ may.item.folder

  pub was : (g : Fork) → fork_named v dir name g ≡ fork_bytes g e.1.kind
  was g = ap (λ (o : Option Entry). option_map_or (λ (x : Entry). fork_bytes g x.1.kind) o []) may.item.child

  is_now : (g : Fork) → fork_named new dir name g ≡ fork_bytes g item.kind
  is_now g = ap (λ (o : Option Entry). option_map_or (λ (x : Entry). fork_bytes g x.1.kind) o []) there

  pub changed : HasChangedFork v dir name fork bytes new
  changed = record {
    bytes_are = is_now fork ∙ own-fork size fork bytes e.1.kind may.file;
    others = λ other apart. is_now other ∙ other-fork size fork other bytes e.1.kind apart ∙ sym (was other);
  }

-- CatMove keeps a volume lawful: the chain of parents of every item still reaches the root.
use Rattle.std.proofs.Common.{◌≡◌, ◌⊎◌, inl, inr, ⊎_elim, ℕ, zero, suc, ◌+◌, ◌<◌, ◌≤◌, Bool, true, false, cond, ◌&&◌, eqb, IsTrue, List, length, refl, sym, ◌∙◌, ap, subst, arith, Ok, Err}
use Rattle.std.specs.Cmp.{eq_by_cmp_equiv}
use Rattle.std.specs.Option.{option_map}
use Rattle.std.specs.FinMap as map
use Rattle.std.proofs.lemmas.Bool.{cases_eq, eqb-true}
use Rattle.hfs_fields.specs.Order.{same_name, name_cmp_total}
use Rattle.hfs_model.specs.declared.item.Item.{Item}
use Rattle.hfs_model.specs.declared.codes.TheConstants.{NOT_A_FOLDER, BAD_MOVE, DUPLICATE, FOLDER_FULL}
use Rattle.hfs_model.specs.Volume.{Volume, Items, Entry}
use Rattle.hfs_model.specs.Children.{is_folder_kind, valence, entries_of}
use Rattle.hfs_model.specs.Chains.{Leads}
use Rattle.hfs_model.proofs.ChainLemmas.{leads_past, last_step}
use Rattle.hfs_model.specs.Lawful.{Has, IsFolder, AreLawful, IsLawful, LiesIn, parent_of}
use Rattle.hfs_model.specs.Choices.{to_move, is_bad_move, lies_in}
use Rattle.hfs_model.specs.Changes.{cat_move, moved, change}
use Rattle.hfs_model.proofs.Counts.{count_added}
use Rattle.hfs_model.proofs.Facts.{same_some, true_false, not_refused, folder_is, not_held, not_full, not_not}
use Rattle.hfs_model.proofs.Parents.{has_parent, parent_has, no_item, lies_in_is}
use Rattle.hfs_model.proofs.Keeps.{get_here, get_there, found_in, still_has, still_folder, turned_name}
use Rattle.hfs_model.proofs.KeepsCalls.{kept_touched, IsChild, child_chosen, chained, same_entry}

-- an item put under another parent
abbrev under : Item → ℕ → Item
under i d = record i { parent = d }

module _ (m : Items) (next k d : ℕ) (i : Item) (h : AreLawful m next) (has : Has m k i) (not_root : k ≡ 2 → ⊥) (into : IsFolder m d) (apart : LiesIn m d k → ⊥) (fresh : (b : ℕ) (j : Item) → Has m b j → d ≡ j.parent → IsTrue (same_name i.name j.name) → ⊥) (room : valence (map.entries m) d < 65535) where
  others : (q : ℕ) → (q ≡ k → ⊥) → parent_of (map.insert m k (under i d)) q ≡ parent_of m q
  others q ne = ap (option_map (λ (j : Item). j.parent)) (get_there m k (under i d) q ne)

  -- the new parent's chain doesn't pass the item, and so reaches the root as before
  parent_reaches : LiesIn (map.insert m k (under i d)) d 2
  parent_reaches =
      let chain = h.reach d into.item into.has in
      (chain.0, leads_past (parent_of m) (parent_of (map.insert m k (under i d))) k others chain.0 d 2 (λ j l. apart (j, l)) chain.1)

  item_reaches : LiesIn (map.insert m k (under i d)) k 2
  item_reaches = (suc parent_reaches.0, (d, has_parent _ k (under i d) (get_here m k (under i d)), parent_reaches.1))

  -- any other chain goes up as before, or comes to the item and goes on from there
  all_reach : (n q : ℕ) → Leads (parent_of m) n q 2 → LiesIn (map.insert m k (under i d)) q 2
  all_reach zero q l = (0, l)
  all_reach (suc n) q l = ⊎_elim
      (λ (e : q ≡ k). subst (λ (p : ℕ). LiesIn (map.insert m k (under i d)) p 2) (sym e) item_reaches)
      (λ (ne : q ≡ k → ⊥). let rest = all_reach n l.0 l.2 in (suc rest.0, (l.0, others q ne ∙ l.1, rest.1)))
      (cases_eq q k)

  folder_still : (p : ℕ) → IsFolder m p → IsFolder (map.insert m k (under i d)) p
  folder_still = still_folder m k i (under i d) has refl

  fits : (p : ℕ) → valence (map.entries (map.insert m k (under i d))) p ≤ valence (map.entries m) p + cond (eqb d p) 1 0 → valence (map.entries (map.insert m k (under i d))) p ≤ 65535
  fits p le = elim (eqb d p) as (λ (b : Bool). eqb d p ≡ b → valence (map.entries (map.insert m k (under i d))) p ≤ valence (map.entries m) p + cond b 1 0 → valence (map.entries (map.insert m k (under i d))) p ≤ 65535) [
    | true ↦ λ e most. let here : valence (map.entries m) p < 65535 = subst (λ (q : ℕ). valence (map.entries m) q < 65535) (eqb-true d p e) room in omega arith
    | false ↦ λ e most. omega (arith, h.room p)
  ] refl le

  pub kept_moved : AreLawful (map.insert m k (under i d)) next
  kept_moved = record {
    root = (h.root.0, still_has m k (under i d) 2 h.root.0 (λ (e : 2 ≡ k). not_root (sym e)) h.root.1, h.root.2, h.root.3);
    parents = λ q j new. ⊎_elim
        (λ old. inr (subst (λ (y : Item). IsFolder (map.insert m k (under i d)) y.parent) (sym old.1) (folder_still d into)))
        (λ old. ⊎_elim (λ (two : q ≡ 2). inl two) (λ (f : IsFolder m j.parent). inr (folder_still j.parent f)) (h.parents q j old.1))
        (found_in m k (under i d) q j new);
    reach = λ q j new. ⊎_elim
        (λ old. subst (λ (p : ℕ). LiesIn (map.insert m k (under i d)) p 2) (sym old.0) item_reaches)
        (λ old. let chain = h.reach q j old.1 in all_reach chain.0 q chain.1)
        (found_in m k (under i d) q j new);
    names = λ a b y z ha hb parents same. ⊎_elim
        (λ olda. ⊎_elim
        (λ oldb. olda.0 ∙ sym oldb.0)
        (λ oldb. absurd (fresh b z oldb.1 (sym (ap (λ (w : Item). w.parent) olda.1) ∙ parents) (subst (λ (w : Item). IsTrue (same_name w.name z.name)) olda.1 same)))
        (found_in m k (under i d) b z hb))
        (λ olda. ⊎_elim
        (λ oldb. absurd (fresh a y olda.1 (sym (ap (λ (w : Item). w.parent) oldb.1) ∙ sym parents) (subst (λ (w : Item). IsTrue (same_name w.name y.name)) oldb.1 (turned_name y.name z.name same))))
        (λ oldb. h.names a b y z olda.1 oldb.1 parents same)
        (found_in m k (under i d) b z hb))
        (found_in m k (under i d) a y ha);
    ids = λ q j new. ⊎_elim
        (λ old. subst (λ (p : ℕ). (p ≡ 2) ⊎ ((16 ≤ p) × (p < next))) (sym old.0) (h.ids k i has))
        (λ old. h.ids q j old.1)
        (found_in m k (under i d) q j new);
    new_id = h.new_id;
    room = λ p. fits p (count_added m k (under i d) p);
  }

-- ---- what an accepted move has tested

-- nothing lies in a file
not_in_file : (m : Items) (next k d : ℕ) (i : Item) → AreLawful m next → Has m k i → is_folder_kind i.kind ≡ false → IsFolder m d → LiesIn m d k → ⊥
not_in_file m next k d i h has file into l = chain l.0 l.1
  where
    -- no folder has the item's ID
    no_folder : IsFolder m k → ⊥
    no_folder f = true_false (is_folder_kind i.kind) (ap (λ (y : Item). is_folder_kind y.kind) (same_some _ _ (sym has ∙ f.has)) ∙ f.folder) file

    chain : (n : ℕ) → Leads (parent_of m) n d k → ⊥
    chain zero e = no_folder (subst (λ (p : ℕ). IsFolder m p) e into)
    chain (suc n) steps =
        let last = last_step (parent_of m) n d k steps in
        let child = parent_has m last.0 k last.1 in
        ⊎_elim
        (λ (two : last.0 ≡ 2).
        let root : child.0 ≡ h.root.0 = same_some _ _ (sym child.1 ∙ ap (map.get m) two ∙ h.root.1) in
        let one : k ≡ 1 = sym child.2 ∙ ap (λ (y : Item). y.parent) root ∙ h.root.2 in
        no_item m next h i (ap (map.get m) (sym one) ∙ has))
        (λ (f : IsFolder m child.0.parent). no_folder (subst (λ (p : ℕ). IsFolder m p) child.2 f))
        (h.parents last.0 child.0 child.1)

pub and_true : (a b : Bool) → (a && b) ≡ false → a ≡ true → b ≡ false
and_true true b e f = e
and_true false b e f = absurd (true_false false f refl)

not_inside : (v : Volume) (e : Entry) (d : ℕ) → IsLawful v → Has v.items e.0 e.1 → IsFolder v.items d → is_bad_move (entries_of v) e d ≡ false → LiesIn v.items d e.0 → ⊥
unfolding is_bad_move
not_inside v e d h has into fine l = elim (is_folder_kind e.1.kind) as (λ (b : Bool). is_folder_kind e.1.kind ≡ b → ⊥) [
  | true ↦ λ folder. true_false (lies_in (entries_of v) (length (entries_of v)) d e.0) ((lies_in_is v.items v.next_id d e.0 h).1 l) (and_true _ _ fine folder)
  | false ↦ λ file. not_in_file v.items v.next_id e.0 d e.1 h has file into l
] refl

not_the_root : (v : Volume) (dir : ℕ) (name : List ℕ) (e : Entry) → IsLawful v → IsChild v dir name e → e.0 ≡ 2 → ⊥
not_the_root v dir name e h child two =
    let root : e.1 ≡ h.root.0 = same_some _ _ (sym child.has ∙ ap (map.get v.items) two ∙ h.root.1) in
    let one : dir ≡ 1 = sym child.under ∙ ap (λ (y : Item). y.parent) root ∙ h.root.2 in
    no_item v.items v.next_id h child.folder.item (ap (map.get v.items) (sym one) ∙ child.folder.has)

pub cat_move_keeps : (v : Volume) (dir : ℕ) (name : List ℕ) (new_dir now : ℕ) → IsLawful v → IsLawful (cat_move v dir name new_dir now).0
unfolding cat_move to_move
cat_move_keeps v dir name new_dir now h = elim (to_move v dir name new_dir) as (λ r. to_move v dir name new_dir ≡ r → IsLawful (change v r (λ e m. moved m e dir new_dir now) now).0) [
  | Ok e ↦ λ is.
      let a = chained _ _ e is in
      let b = not_refused _ NOT_A_FOLDER _ e a.2 in
      let c = not_refused _ BAD_MOVE _ e b.1 in
      let f = not_refused _ DUPLICATE _ e c.1 in
      let g = not_refused _ FOLDER_FULL _ e f.1 in
      let same = same_entry a.0 e g.1 in
      let child = subst (λ (x : Entry). IsChild v dir name x) same (child_chosen v dir name a.0 a.1) in
      let into = folder_is v.items new_dir (not_not _ b.0) in
      let fine = subst (λ (x : Entry). is_bad_move (entries_of v) x new_dir ≡ false) same c.0 in
      kept_touched _ _ new_dir now (kept_touched _ _ dir now (kept_moved v.items v.next_id e.0 new_dir e.1 h child.has
      (not_the_root v dir name e h child) into
      (not_inside v e new_dir h child.has into fine)
      (λ q j has under alike. not_held v.items new_dir name f.0 q j has under (equals name e.1.name j.name child.named alike))
      (not_full v.items new_dir g.0)))
  | Err code ↦ λ is. h
] refl
  where
    -- the name that was asked for, the item's and the other's are the same
    equals : (name own other : List ℕ) → IsTrue (same_name own name) → IsTrue (same_name own other) → IsTrue (same_name other name)
    equals name own other a b = sym ((eq_by_cmp_equiv name_cmp_total).congr own other name b) ∙ a

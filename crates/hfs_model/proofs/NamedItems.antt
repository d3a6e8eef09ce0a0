-- Items that calls name: which of them come to a place, and what is read of them.
use Rattle.std.proofs.Common.{◌≡◌, ◌⊎◌, inl, inr, ⊎_elim, ℕ, ◌≤◌, Bool, true, false, cond, List, [], ◌∷◌, ◌++◌, drop, Option, Some, None, Result, Ok, Err, ℤ, IsTrue, refl, sym, ap, subst, ◌∙◌, arith}
use Rattle.std.specs.Prelude.{◌&&◌, ◌||◌, ◌==◌, not, nat_lt}
use Rattle.std.specs.FinMap as map
use Rattle.std.specs.Cmp.{nat_cmp_total, unsigned_ties}
use Rattle.std.specs.Option.{option_map_or, ok_or}
use Rattle.std.proofs.lemmas.Bool.{cases_eq, eq-eqb, ne_eqb, eqb-true}
use Rattle.hfs_fields.specs.Names.{is_item_name}
use Rattle.hfs_fields.specs.Order.{same_name}
use Rattle.hfs_fields.specs.Members.{In}
use Rattle.hfs_model.specs.declared.call.Call.{Call}
use Rattle.hfs_model.specs.declared.call.Call.TheVariants as call
use Rattle.hfs_model.specs.declared.codes.TheConstants.{BAD_NAME, FILE_ID_NOT_FOUND, FILE_ID_EXISTS, NOT_A_FILE, NOT_A_FOLDER, BAD_MOVE, DUPLICATE, FOLDER_FULL}
use Rattle.hfs_model.specs.declared.item.Item.{Item}
use Rattle.hfs_model.specs.declared.item.Kind.{Kind}
use Rattle.hfs_model.specs.declared.journal.Entry.{Entry as JournalEntry}
use Rattle.hfs_model.specs.declared.reply.Reply.{Reply}
use Rattle.hfs_model.specs.Volume.{Volume, Items, Entry}
use Rattle.hfs_model.specs.Children.{is_child_named, entries_of, entry_at, is_folder, is_folder_kind}
use Rattle.hfs_model.specs.Lawful.{Has}
use Rattle.hfs_model.specs.declared.journal.Want.{Want}
use Rattle.hfs_model.specs.Need.{step_within, need, full, wanting, step_wanting}
use Rattle.hfs_model.specs.Forks.{resized, written}
use Rattle.hfs_model.specs.ForkCalls.{to_set_eof, to_write_fork, set_eof, write_fork}
use Rattle.hfs_model.specs.declared.call.Fork.{Fork}
use Rattle.hfs_model.specs.Replies.{is_accepted, has_thread}
use Rattle.hfs_model.specs.Runs.{after, after_entry}
use Rattle.hfs_model.specs.Step.{step}
use Rattle.hfs_model.specs.Choices.{to_create, to_delete, to_rename, to_move, to_set_f_info, to_set_cat_info, file_to_change, is_locked, lock_code, is_held, is_full}
use Rattle.hfs_model.specs.Changes.{Outcome, create, delete, rename, cat_move, set_f_info, set_cat_info, set_lock, with_lock, change, add, touched, moved, new_item, new_file, new_folder}
use Rattle.hfs_model.specs.FileIds.{create_file_id, delete_file_id, to_create_file_id, to_delete_file_id, set_thread, file_of_id, unless_has_thread, if_has_thread}
use Rattle.hfs_model.proofs.Facts.{not_refused, has_entry, found_has, two_tests, none_is_some}
use Rattle.hfs_model.proofs.Keeps.{found_in}
use Rattle.hfs_model.proofs.KeepsCalls.{IsChild, child_chosen, file_chosen, set_f_info_chosen, set_cat_info_chosen, chained, same_entry, unlocked_is, err_is_ok}
use Rattle.hfs_model.proofs.KeepsFileIds.{same_change}
use Rattle.hfs_model.proofs.KeepsForks.{edited, set_eof_chosen, write_fork_chosen}
use Rattle.hfs_model.specs.Alike.{AreAlike, IsKeptAt, reads_fork}
use Rattle.hfs_model.specs.Named.{named_by, KeepsNamed, NamedStayKept, AskedAnswerAlike, AskedWantAlike}
use Rattle.hfs_model.proofs.AlikeLawsProved.{alike_volumes_answer_alike, alike_after, kept_forks_read_alike}

-- ---- where items stood before

-- an item of that ID stood in the same place
abbrev Was : Items → ℕ → Item → Type 0
Was m q i = (j : Item) × Has m q j × (j.parent ≡ i.parent) × (j.name ≡ i.name)

-- each item stood where it stands, or has one of these IDs
abbrev Comes : (ℕ → Bool) → Items → Items → Type 0
Comes keep m n = (q : ℕ) (i : Item) → Has n q i → Was m q i ⊎ (keep q ≡ true)

module _ (keep : ℕ → Bool) where
  comes-same : (m : Items) → Comes keep m m
  comes-same m q i has = inl (i, has, refl, refl)

  comes-then : (m n o : Items) → Comes keep m n → Comes keep n o → Comes keep m o
  comes-then m n o first second q i has = ⊎_elim
      (λ (was : Was n q i). ⊎_elim
      (λ (old : Was m q was.0). inl (old.0, old.1, old.2 ∙ was.2, old.3 ∙ was.3))
      (λ (kept : keep q ≡ true). inr kept)
      (first q was.0 was.1))
      (λ (kept : keep q ≡ true). inr kept)
      (second q i has)

  -- an item that is changed in its place
  comes-edited : (m : Items) (k : ℕ) (i x : Item) → Has m k i → i.parent ≡ x.parent → i.name ≡ x.name → Comes keep m (map.insert m k x)
  comes-edited m k i x has parent name q j new = ⊎_elim
      (λ (here : (q ≡ k) × (j ≡ x)).
      inl (i, ap (map.get m) here.0 ∙ has, parent ∙ ap (λ (y : Item). y.parent) (sym here.1), name ∙ ap (λ (y : Item). y.name) (sym here.1)))
      (λ (there : (q ≡ k → ⊥) × Has m q j). inl (j, there.1, refl, refl))
      (found_in m k x q j new)

  -- one that comes under one of these IDs
  comes-kept : (m : Items) (k : ℕ) (x : Item) → keep k ≡ true → Comes keep m (map.insert m k x)
  comes-kept m k x kept q j new = ⊎_elim
      (λ (here : (q ≡ k) × (j ≡ x)). inr (ap keep here.0 ∙ kept))
      (λ (there : (q ≡ k → ⊥) × Has m q j). inl (j, there.1, refl, refl))
      (found_in m k x q j new)

  comes-touched : (m : Items) (dir now : ℕ) → Comes keep m (touched m dir now)
  comes-touched m dir now = elim (entry_at (map.entries m) dir)
      as (λ (o : Option Entry). entry_at (map.entries m) dir ≡ o → Comes keep m (option_map_or (λ (e : Entry). map.insert m e.0 (record e.1 { modified = now })) o m)) [
        | None ↦ λ is. comes-same m
        | Some e ↦ λ is. comes-edited m e.0 e.1 (record e.1 { modified = now }) (has_entry m dir e is).1 refl refl
      ] refl

  comes-removed : (m : Items) (k : ℕ) → Comes keep m (map.remove m k)
  comes-removed m k q i has = ⊎_elim
      (λ (e : q ≡ k). absurd (none_is_some (map.get (map.remove m k) q) i (ap (map.get (map.remove m k)) e ∙ gone) has))
      (λ (ne : q ≡ k → ⊥). inl (i, sym (stays ne) ∙ has, refl, refl))
      (cases_eq q k)
    where
      gone : map.get (map.remove m k) k ≡ None
      gone = map.get-remove nat_cmp_total m k k ∙ ap (λ b. cond b None (map.get m k)) (sym (unsigned_ties k k) ∙ eq-eqb k k refl)

      stays : (q ≡ k → ⊥) → map.get (map.remove m k) q ≡ map.get m q
      stays ne = map.get-remove nat_cmp_total m k q ∙ ap (λ b. cond b None (map.get m q)) (sym (unsigned_ties q k) ∙ ne_eqb q k ne)

  -- ---- calls

  -- each item stood where it stands, or has one of these IDs, and no ID is given again
  record Follows (v w : Volume) : Type 0 where
    comes : Comes keep v.items w.items
    next : v.next_id ≤ w.next_id

  follows-same : (v : Volume) → Follows v v
  follows-same v = record { comes = comes-same v.items; next = omega arith }

  changes : (v : Volume) (chosen : Result Entry ℤ) (make : Entry → Items → Items) (now : ℕ)
      → ((e : Entry) → chosen ≡ Ok e → Comes keep v.items (make e v.items)) → Follows v (change v chosen make now).0
  changes v chosen make now h = elim chosen as (λ (r : Result Entry ℤ). chosen ≡ r → Follows v (change v r make now).0) [
    | Ok e ↦ λ is. record { comes = h e is; next = omega arith }
    | Err code ↦ λ is. follows-same v
  ] refl

  module _ (calls : List Call) (v : Volume) (h : KeepsNamed keep calls v) where
    child-kept : (c : Call) (dir : ℕ) (name : List ℕ) → In c calls → named_by c ≡ Some (dir, name) → (e : Entry) → IsChild v dir name e → keep e.0 ≡ true
    child-kept c dir name asked is e child = h.named c dir name asked is e.0 e.1 child.has (child.under, child.named)

    given : (dir : ℕ) (name : List ℕ) (id : ℕ) → to_create v dir name ≡ Ok id → v.next_id ≤ id
    unfolding to_create
    given dir name id is =
        let a = not_refused (is_locked v) (lock_code v) _ id is in
        let b = not_refused (not (is_item_name name)) BAD_NAME _ id a.1 in
        let c = not_refused (not (is_folder (entries_of v) dir)) NOT_A_FOLDER _ id b.1 in
        let d = not_refused (is_held (entries_of v) dir name) DUPLICATE _ id c.1 in
        let e = not_refused (is_full (entries_of v) dir || (v.next_id == 4294967295)) FOLDER_FULL (Ok v.next_id) id d.1 in
        let same : v.next_id ≡ id = same_ok v.next_id id e.1 in
        omega (arith, same)
      where
        same_ok : (x y : ℕ) → ◌≡◌ {A = Result ℕ ℤ} (Ok x) (Ok y) → x ≡ y
        same_ok x y e = cc

    -- a new item has the next ID
    adds : (kind : Kind) (dir : ℕ) (name : List ℕ) (now : ℕ) → Follows v (create kind v dir name now).0
    unfolding create
    adds kind dir name now =
        elim (to_create v dir name)
        as (λ (r : Result ℕ ℤ). to_create v dir name ≡ r → Follows v (add v r (λ id m. touched (map.insert m id (new_item kind dir name now)) dir now) now).0) [
          | Ok id ↦ λ is.
              let put = map.insert v.items id (new_item kind dir name now) in
              record {
                comes = comes-then v.items put (touched put dir now) (comes-kept v.items id (new_item kind dir name now) (h.made id (given dir name id is)))
                    (comes-touched put dir now);
                next = omega arith;
              }
          | Err code ↦ λ is. follows-same v
        ] refl

    deletes : (dir : ℕ) (name : List ℕ) (now : ℕ) → Follows v (delete v dir name now).0
    unfolding delete
    deletes dir name now = changes v (to_delete v dir name) (λ e m. touched (map.remove m e.0) dir now) now (λ e is.
        comes-then v.items (map.remove v.items e.0) (touched (map.remove v.items e.0) dir now) (comes-removed v.items e.0) (comes-touched (map.remove v.items e.0) dir now))

    renames : (dir : ℕ) (name new_name : List ℕ) (now : ℕ) → In (call.Rename dir name new_name now) calls → Follows v (rename v dir name new_name now).0
    unfolding rename to_rename
    renames dir name new_name now asked = changes v (to_rename v dir name new_name) (λ e m. map.insert m e.0 (record e.1 { name = new_name })) now (λ e is.
        let a = not_refused (is_locked v) (lock_code v) _ e is in
        let b = not_refused _ _ _ e a.1 in
        let c = chained _ _ e b.1 in
        let d = chained _ _ c.0 c.1 in
        let child = subst (λ (x : Entry). IsChild v dir name x) (unlocked_is c.0 d.0 d.2) (child_chosen v dir name d.0 d.1) in
        let same = same_entry c.0 e (not_refused _ _ _ e c.2).1 in
        let here = subst (λ (x : Entry). IsChild v dir name x) same child in
        comes-kept v.items e.0 (record e.1 { name = new_name }) (child-kept (call.Rename dir name new_name now) dir name asked refl e here))

    moves : (dir : ℕ) (name : List ℕ) (new_dir now : ℕ) → In (call.CatMove dir name new_dir now) calls → Follows v (cat_move v dir name new_dir now).0
    unfolding cat_move to_move
    moves dir name new_dir now asked = changes v (to_move v dir name new_dir) (λ e m. moved m e dir new_dir now) now (λ e is.
        let a = chained _ _ e is in
        let b = not_refused _ NOT_A_FOLDER _ e a.2 in
        let c = not_refused _ BAD_MOVE _ e b.1 in
        let f = not_refused _ DUPLICATE _ e c.1 in
        let g = not_refused _ FOLDER_FULL _ e f.1 in
        let child = subst (λ (x : Entry). IsChild v dir name x) (same_entry a.0 e g.1) (child_chosen v dir name a.0 a.1) in
        let put = map.insert v.items e.0 (record e.1 { parent = new_dir }) in
        comes-then v.items (touched put dir now) (touched (touched put dir now) new_dir now)
        (comes-then v.items put (touched put dir now)
        (comes-kept v.items e.0 (record e.1 { parent = new_dir }) (child-kept (call.CatMove dir name new_dir now) dir name asked refl e child))
        (comes-touched put dir now))
        (comes-touched (touched put dir now) new_dir now))

    -- an item that stands in the map, and is changed in its place
    edits : (chosen : Result Entry ℤ) (f : Item → Item) (now : ℕ) → ((i : Item) → i.parent ≡ (f i).parent) → ((i : Item) → i.name ≡ (f i).name)
        → ((e : Entry) → chosen ≡ Ok e → Has v.items e.0 e.1) → Follows v (change v chosen (λ e m. map.insert m e.0 (f e.1)) now).0
    edits chosen f now parent name there = changes v chosen (λ e m. map.insert m e.0 (f e.1)) now (λ e is.
        comes-edited v.items e.0 e.1 (f e.1) (there e is) (parent e.1) (name e.1))

    without_is : (e f : Entry) → unless_has_thread f ≡ Ok e → f ≡ e
    without_is e f is = same_entry f e (not_refused _ FILE_ID_EXISTS (Ok f) e (not_refused (is_folder_kind f.1.kind) NOT_A_FILE _ e is).1).1

    with_is : (e f : Entry) → if_has_thread f ≡ Ok e → f ≡ e
    with_is e f is = chosen (has_thread f.1.kind) (not_refused (is_folder_kind f.1.kind) NOT_A_FILE _ e is).1
      where
        chosen : (b : Bool) → ◌≡◌ {A = Result Entry ℤ} (cond b (Ok f) (Err FILE_ID_NOT_FOUND)) (Ok e) → f ≡ e
        chosen true is = same_entry f e is
        chosen false is = absurd (err_is_ok FILE_ID_NOT_FOUND e is)

    create_chosen : (dir : ℕ) (name : List ℕ) (e : Entry) → to_create_file_id v dir name ≡ Ok e → Has v.items e.0 e.1
    unfolding to_create_file_id
    create_chosen dir name e is =
        let step = chained _ _ e is in
        subst (λ (x : Entry). Has v.items x.0 x.1) (without_is e step.0 step.2) (child_chosen v dir name step.0 step.1).has

    entry_chosen : (id : ℕ) (e : Entry) → ok_or (entry_at (entries_of v) id) FILE_ID_NOT_FOUND ≡ Ok e → Has v.items e.0 e.1
    entry_chosen id e = elim (entry_at (entries_of v) id) as (λ (o : Option Entry). entry_at (entries_of v) id ≡ o → ok_or o FILE_ID_NOT_FOUND ≡ Ok e → Has v.items e.0 e.1) [
      | None ↦ λ found none. absurd (err_is_ok FILE_ID_NOT_FOUND e none)
      | Some f ↦ λ found same. subst (λ (x : Entry). Has v.items x.0 x.1) (same_entry f e same) (has_entry v.items id f found).1
    ] refl

    delete_chosen : (id : ℕ) (e : Entry) → to_delete_file_id v id ≡ Ok e → Has v.items e.0 e.1
    unfolding to_delete_file_id file_of_id
    delete_chosen id e is =
        let step = chained _ _ e (not_refused (is_locked v) (lock_code v) _ e is).1 in
        subst (λ (x : Entry). Has v.items x.0 x.1) (with_is e step.0 step.2) (entry_chosen id step.0 step.1)

    creates-id : (dir : ℕ) (name : List ℕ) (now : ℕ) → Follows v (create_file_id v dir name now).0
    unfolding create_file_id
    creates-id dir name now =
        subst (λ (w : Volume). Follows v w) (same_change v (to_create_file_id v dir name) (set_thread true) now)
        (changes v (to_create_file_id v dir name) (set_thread true) now (λ e is.
        comes-edited v.items e.0 e.1 _ (create_chosen dir name e is) refl refl))

    deletes-id : (id now : ℕ) → Follows v (delete_file_id v id now).0
    unfolding delete_file_id
    deletes-id id now = changes v (to_delete_file_id v id) (set_thread false) now (λ e is. comes-edited v.items e.0 e.1 _ (delete_chosen id e is) refl refl)

    sets-f-info : (dir : ℕ) (name info : List ℕ) (now : ℕ) → Follows v (set_f_info v dir name info now).0
    unfolding set_f_info
    sets-f-info dir name info now =
        edits (to_set_f_info v dir name) (λ i. record i { finder = info ++ drop 16 i.finder }) now (λ i. refl) (λ i. refl) (λ e is. (set_f_info_chosen v dir name e is).has)

    sets-cat-info : (dir : ℕ) (name : List ℕ) (created modified backup : ℕ) (info : List ℕ) (now : ℕ) → Follows v (set_cat_info v dir name created modified backup info now).0
    unfolding set_cat_info
    sets-cat-info dir name created modified backup info now =
        edits (to_set_cat_info v dir name) (λ i. record i { created = created; modified = modified; backup = backup; finder = info }) now
        (λ i. refl) (λ i. refl) (λ e is. (set_cat_info_chosen v dir name e is).has)

    sets-lock : (locked : Bool) (dir : ℕ) (name : List ℕ) (now : ℕ) → Follows v (set_lock locked v dir name now).0
    unfolding set_lock
    sets-lock locked dir name now =
        edits (file_to_change v dir name) (λ i. record i { kind = with_lock locked i.kind }) now (λ i. refl) (λ i. refl) (λ e is. (file_chosen v dir name e is).has)

    sets-eof : (size dir : ℕ) (name : List ℕ) (fork : Fork) (length now : ℕ) → Follows v (set_eof size v dir name fork length now).0
    unfolding set_eof
    sets-eof size dir name fork length now =
        edits (to_set_eof v dir name length) (edited size fork (resized length) now) now (λ i. refl) (λ i. refl) (λ e is. (set_eof_chosen v dir name length e is).has)

    writes-fork : (size dir : ℕ) (name : List ℕ) (fork : Fork) (offset : ℕ) (bytes : List ℕ) (now : ℕ) → Follows v (write_fork size v dir name fork offset bytes now).0
    unfolding write_fork
    writes-fork size dir name fork offset bytes now =
        edits (to_write_fork v dir name fork offset bytes) (edited size fork (written offset bytes) now) now (λ i. refl) (λ i. refl)
        (λ e is. (write_fork_chosen v dir name fork offset bytes e is).has)

    steps : (c : Call) → In c calls → Follows v (step v c).0
    steps (call.GetDirInfo dir) asked = follows-same v
    steps (call.GetCatInfo dir name) asked = follows-same v
    steps (call.GetIndexed dir index) asked = follows-same v
    steps (call.List dir) asked = follows-same v
    steps (call.ReadFork dir name fork offset count) asked = follows-same v
    steps (call.Create dir name now) asked = adds new_file dir name now
    steps (call.DirCreate dir name now) asked = adds new_folder dir name now
    steps (call.Delete dir name now) asked = deletes dir name now
    steps (call.Rename dir name new_name now) asked = renames dir name new_name now asked
    steps (call.CatMove dir name new_dir now) asked = moves dir name new_dir now asked
    steps (call.SetFInfo dir name info now) asked = sets-f-info dir name info now
    steps (call.SetCatInfo dir name created modified backup info now) asked = sets-cat-info dir name created modified backup info now
    steps (call.SetFLock dir name now) asked = sets-lock true dir name now
    steps (call.RstFLock dir name now) asked = sets-lock false dir name now
    steps (call.CreateFileId dir name now) asked = creates-id dir name now
    steps (call.DeleteFileId id now) asked = deletes-id id now
    steps (call.ResolveFileId id) asked = follows-same v
    steps (call.SetEof dir name fork length now) asked = sets-eof v.block_size dir name fork length now
    steps (call.WriteFork dir name fork offset bytes now) asked = writes-fork v.block_size dir name fork offset bytes now

    -- so what these calls name has one of these IDs behind one of them, too
    stays : (w : Volume) → Follows v w → KeepsNamed keep calls w
    stays w f = record {
      named = λ c dir name asked is q i has stands. ⊎_elim
          (λ (was : Was v.items q i).
          h.named c dir name asked is q was.0 was.1 (was.2 ∙ stands.0, subst (λ (n : List ℕ). IsTrue (same_name n name)) (sym was.3) stands.1))
          (λ (kept : keep q ≡ true). kept)
          (f.comes q i has);
      made = λ id above. h.made id (omega (arith, f.next, above));
    }

    enters : (e : JournalEntry) → In e.call calls → KeepsNamed keep calls (after_entry v e)
    enters e asked = by e.want
      where
        by : (o : Option Want) → KeepsNamed keep calls (option_map_or (λ _. v) o (step v e.call).0)
        by None = stays (step v e.call).0 (steps e.call asked)
        by (Some want) = h

-- ---- the laws

pub named_stay_kept : NamedStayKept
named_stay_kept keep calls v [] h asked = h
named_stay_kept keep calls v (e ∷ es) h asked = named_stay_kept keep calls (after_entry v e) es (enters keep calls v h e asked.0) asked.1

-- a call finds there an item with one of these IDs, if any
kept-at : (keep : ℕ → Bool) (calls : List Call) (v : Volume) → KeepsNamed keep calls v → (c : Call) (dir : ℕ) (name : List ℕ) → In c calls
    → named_by c ≡ Some (dir, name) → IsKeptAt keep v dir name
kept-at keep calls v h c dir name asked is e found =
    let here = found_has v.items (is_child_named dir name) e found in
    let tests = two_tests _ _ here.1 in
    h.named c dir name asked is e.0 e.1 here.0 (eqb-true e.1.parent dir tests.0, tests.1)

-- the reply of one of two outcomes
one-of : (b : Bool) (x y : Outcome) → (cond b x y).1 ≡ cond b x.1 y.1
one-of true x y = refl
one-of false x y = refl

module _ (keep : ℕ → Bool) (calls : List Call) (v w : Volume) (alike : AreAlike keep v w) (h : KeepsNamed keep calls v) where
  others-alike : (c : Call) → reads_fork c ≡ false → (step w c).1 ≡ (step v c).1
  others-alike c other = (alike_volumes_answer_alike keep v w c alike).reply other

  step-alike : (c : Call) → In c calls → (step w c).1 ≡ (step v c).1
  step-alike (call.GetDirInfo dir) asked = others-alike (call.GetDirInfo dir) refl
  step-alike (call.GetCatInfo dir name) asked = others-alike (call.GetCatInfo dir name) refl
  step-alike (call.GetIndexed dir index) asked = others-alike (call.GetIndexed dir index) refl
  step-alike (call.List dir) asked = others-alike (call.List dir) refl
  step-alike (call.ReadFork dir name fork offset count) asked =
      kept_forks_read_alike keep v w dir name fork offset count alike (kept-at keep calls v h (call.ReadFork dir name fork offset count) dir name asked refl)
  step-alike (call.Create dir name now) asked = others-alike (call.Create dir name now) refl
  step-alike (call.DirCreate dir name now) asked = others-alike (call.DirCreate dir name now) refl
  step-alike (call.Delete dir name now) asked = others-alike (call.Delete dir name now) refl
  step-alike (call.Rename dir name new_name now) asked = others-alike (call.Rename dir name new_name now) refl
  step-alike (call.CatMove dir name new_dir now) asked = others-alike (call.CatMove dir name new_dir now) refl
  step-alike (call.SetFInfo dir name info now) asked = others-alike (call.SetFInfo dir name info now) refl
  step-alike (call.SetCatInfo dir name created modified backup info now) asked =
      others-alike (call.SetCatInfo dir name created modified backup info now) refl
  step-alike (call.SetFLock dir name now) asked = others-alike (call.SetFLock dir name now) refl
  step-alike (call.RstFLock dir name now) asked = others-alike (call.RstFLock dir name now) refl
  step-alike (call.CreateFileId dir name now) asked = others-alike (call.CreateFileId dir name now) refl
  step-alike (call.DeleteFileId id now) asked = others-alike (call.DeleteFileId id now) refl
  step-alike (call.ResolveFileId id) asked = others-alike (call.ResolveFileId id) refl
  step-alike (call.SetEof dir name fork length now) asked = others-alike (call.SetEof dir name fork length now) refl
  step-alike (call.WriteFork dir name fork offset bytes now) asked = others-alike (call.WriteFork dir name fork offset bytes now) refl

  within-alike : (free depth : ℕ) (c : Call) → In c calls → (step_within free depth w c).1 ≡ (step_within free depth v c).1
  within-alike free depth c asked =
      one-of (is_accepted (step w c).1 && nat_lt free (need c depth)) (w, full free depth) (step w c)
      ∙ ap (λ (r : Reply). cond (is_accepted r && nat_lt free (need c depth)) (full free depth) r) (step-alike c asked)
      ∙ sym (one-of (is_accepted (step v c).1 && nat_lt free (need c depth)) (v, full free depth) (step v c))

  want-alike : (o : Option Want) (c : Call) → In c calls → (step_wanting o w c).1 ≡ (step_wanting o v c).1
  want-alike None c asked = step-alike c asked
  want-alike (Some want) c asked =
      one-of (is_accepted (step w c).1) (w, wanting want) (step w c)
      ∙ ap (λ (r : Reply). cond (is_accepted r) (wanting want) r) (step-alike c asked)
      ∙ sym (one-of (is_accepted (step v c).1) (v, wanting want) (step v c))

pub asked_answer_alike : AskedAnswerAlike
asked_answer_alike keep calls v w journal free depth c alike h asked_before asked =
    within-alike keep calls (after v journal) (after w journal) (alike_after keep v w journal alike)
    (named_stay_kept keep calls v journal h asked_before) free depth c asked

pub asked_want_alike : AskedWantAlike
asked_want_alike keep calls v w journal o c alike h asked_before asked =
    want-alike keep calls (after v journal) (after w journal) (alike_after keep v w journal alike)
    (named_stay_kept keep calls v journal h asked_before) o c asked

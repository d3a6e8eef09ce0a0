-- Create, where it is accepted.
use Rattle.std.proofs.Common.{◌≡◌, ℕ, ◌+◌, Bool, true, false, cond, List, refl, sym, ◌∙◌, ap, subst, Result, Ok, Err, ℤ, pos, negsuc}
use Rattle.std.specs.Prelude.{not, ◌||◌, ◌==◌}
use Rattle.std.specs.FinMap as map
use Rattle.std.specs.Ordering.{int_eq}
use Rattle.hfs_fields.specs.Names.{is_item_name}
use Rattle.hfs_model.specs.declared.call.Call.TheVariants as call
use Rattle.hfs_model.specs.declared.codes.TheConstants.{FOLDER_FULL, BAD_NAME, DUPLICATE, NOT_A_FOLDER}
use Rattle.hfs_model.specs.declared.reply.Reply.{Reply}
use Rattle.hfs_model.specs.Changes.{touched, new_file, new_item, add, create}
use Rattle.hfs_model.specs.Children.{is_folder, entries_of}
use Rattle.hfs_model.specs.Choices.{is_locked, lock_code, is_full, is_held, to_create}
use Rattle.hfs_model.specs.Replies.{refusal, is_accepted}
use Rattle.hfs_model.specs.Volume.{Volume}
use Rattle.hfs_put_plan.specs.Accepted.{accepted}
use Rattle.hfs_put_plan.proofs.AcceptedCalls.{same_ok, never_ok}
use Rattle.hfs_put_plan.proofs.MadeFiles.{IsMade, empty_file, created, created-made}
use Rattle.hfs_model.proofs.MappedCalls.{created_id}

-- ---- no code that refuses it is 0

record Refuses (r : Result ℕ ℤ) : Type 0 where
  told : (code : ℤ) → r ≡ Err code → int_eq code (pos 0) ≡ false

code-is : (x y : ℤ) → ◌≡◌ {A = Result ℕ ℤ} (Err x) (Err y) → x ≡ y
code-is x y e = cc

no-code : (x : ℕ) (y : ℤ) → ◌≡◌ {A = Result ℕ ℤ} (Ok x) (Err y) → ⊥
no-code x y e = cc

refuses : (b : Bool) (code : ℤ) (r : Result ℕ ℤ) → int_eq code (pos 0) ≡ false → Refuses r → Refuses (cond b (Err code) r)
refuses true code r other behind = record { told = λ c e. ap (λ (k : ℤ). int_eq k (pos 0)) (sym (code-is code c e)) ∙ other }
refuses false code r other behind = behind

lock-other : (b : Bool) → int_eq (cond b (negsuc 43) (negsuc 45)) (pos 0) ≡ false
lock-other true = refl
lock-other false = refl

create-refuses : (v : Volume) (dir : ℕ) (name : List ℕ) → Refuses (to_create v dir name)
unfolding to_create
create-refuses v dir name =
    refuses (is_locked v) (lock_code v) _ (lock-other v.hardware_locked)
    (refuses (not (is_item_name name)) BAD_NAME _ refl
    (refuses (not (is_folder (entries_of v) dir)) NOT_A_FOLDER _ refl
    (refuses (is_held (entries_of v) dir name) DUPLICATE _ refl
    (refuses (is_full (entries_of v) dir || (v.next_id == 4294967295)) FOLDER_FULL _ refl
    (record { told = λ c e. absurd (no-code v.next_id c e) })))))

-- ---- the new file

-- what was created: the volume, and the file in it
pub record IsCreated (v w : Volume) (dir : ℕ) (name : List ℕ) (now : ℕ) : Type 0 where
  pub made : IsMade w dir name now v.next_id (new_item new_file dir name now) empty_file
  pub next : w.next_id ≡ v.next_id + 1
  pub size : w.block_size ≡ v.block_size

module _ (v w : Volume) (dir : ℕ) (name : List ℕ) (now : ℕ) where
  pub created-accepted : accepted v (call.Create dir name now) ≡ Ok w → IsCreated v w dir name now
  unfolding create
  created-accepted is = at (to_create v dir name) refl is
    where
      here : (u : Volume) → u ≡ w → (id : ℕ) → to_create v dir name ≡ Ok id → u ≡ created new_file v dir name now → IsCreated v w dir name now
      here u same id is own = subst (λ (x : Volume). IsCreated v x dir name now) (sym own ∙ same)
          (record { made = created-made v dir name now id is; next = refl; size = refl })

      at : (r : Result ℕ ℤ) → to_create v dir name ≡ r
          → cond (is_accepted (add v r (λ id m. touched (map.insert m id (new_item new_file dir name now)) dir now) now).1)
          (Ok (add v r (λ id m. touched (map.insert m id (new_item new_file dir name now)) dir now) now).0)
          (Err (add v r (λ id m. touched (map.insert m id (new_item new_file dir name now)) dir now) now).1) ≡ Ok w → IsCreated v w dir name now
      at (Ok id) is done =
          here (record v { items = touched (map.insert v.items id (new_item new_file dir name now)) dir now; changed = now; next_id = v.next_id + 1 })
          (same_ok {A = Volume} {E = Reply} _ w done) id is
          (ap (λ (k : ℕ). record v {
            items = touched (map.insert v.items k (new_item new_file dir name now)) dir now;
            changed = now;
            next_id =
                v.next_id + 1;
          })
          (sym (created_id v dir name id is)))
      at (Err code) is done =
          absurd (never_ok {A = Volume} (refusal code) w (sym (ap (λ (b : Bool). cond b (Ok v) (Err (refusal code)))
          ((create-refuses v dir name).told code is)) ∙ done))

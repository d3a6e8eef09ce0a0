-- Calls that are accepted one after another, where the kinds of a volume were changed by their IDs.
use Rattle.std.proofs.Common.{◌≡◌, ℕ, ◌≤◌, Bool, true, false, cond, List, [], ◌∷◌, ◌++◌, Option, Some, None, refl, ◌∙◌, ap, Result, Ok, Err, arith}
use Rattle.std.specs.Prelude.{ℤ}
use Rattle.std.specs.List.{cons_option}
use Rattle.hfs_fields.specs.Each.{Each}
use Rattle.hfs_model.specs.declared.call.Call.{Call}
use Rattle.hfs_model.specs.declared.call.Call.TheVariants as call
use Rattle.hfs_model.specs.declared.item.Kind.{Kind}
use Rattle.hfs_model.specs.declared.reply.Reply.{Reply}
use Rattle.hfs_model.specs.Changes.{Outcome, change, add, create, delete, rename, cat_move, set_f_info, set_cat_info, set_lock}
use Rattle.hfs_model.specs.FileIds.{change_to_id, create_file_id, delete_file_id}
use Rattle.hfs_model.specs.ForkCalls.{set_eof, write_fork}
use Rattle.hfs_model.specs.Replies.{is_accepted}
use Rattle.hfs_model.specs.Step.{step}
use Rattle.hfs_model.specs.Volume.{Entry, Items, Volume}
use Rattle.hfs_put_plan.specs.Accepted.{next, accepted, all_accepted}
use Rattle.hfs_model.proofs.MappedCalls.{mapped_outcome}
use Rattle.hfs_model.proofs.MappedEntries.{mapped}

-- ---- results one behind the other

pub same_ok : {A E : Type 0} (x y : A) → ◌≡◌ {A = Result A E} (Ok x) (Ok y) → x ≡ y
same_ok x y e = cc

pub never_ok : {A E : Type 0} (x : E) (y : A) → ◌≡◌ {A = Result A E} (Err x) (Ok y) → ⊥
never_ok x y e = cc

-- what was accepted last was so behind what was accepted first
pub split : {A B E : Type 0} (r : Result A E) (f : A → Result B E) (y : B) → next r f ≡ Ok y → (x : A) × (r ≡ Ok x) × (f x ≡ Ok y)
split (Ok x) f y is = (x, refl, is)
split (Err e) f y is = absurd (never_ok e y is)

pub all-both : (v : Volume) (cs ds : List Call) → all_accepted v (cs ++ ds) ≡ next (all_accepted v cs) (λ w. all_accepted w ds)
all-both v [] ds = refl
all-both v (c ∷ cs) ds = at (accepted v c) (λ w. all-both w cs ds)
  where
    at : (r : Result Volume Reply) → ((w : Volume) → all_accepted w (cs ++ ds) ≡ next (all_accepted w cs) (λ u. all_accepted u ds))
        → next r (λ w. all_accepted w (cs ++ ds)) ≡ next (next r (λ w. all_accepted w cs)) (λ w. all_accepted w ds)
    at (Ok w) behind = behind w
    at (Err reply) behind = refl

-- a call that there may be, and those behind it
pub all-option : (v : Volume) (o : Option Call) (cs : List Call) → all_accepted v (cons_option o cs)
    ≡ next (all_accepted v (cons_option o [])) (λ w. all_accepted w cs)
all-option v None cs = refl
all-option v (Some c) cs = all-both v (c ∷ []) cs

-- the volume, or the reply that refuses the call
abbrev pub answered : Bool → Outcome → Result Volume Reply
answered b o = cond b (Ok o.0) (Err o.1)

-- what an accepted call leads to
pub accepted-is : (v w : Volume) (c : Call) (r : Reply) → step v c ≡ (w, r) → is_accepted r ≡ true → accepted v c ≡ Ok w
accepted-is v w c r is done =
    ap (λ (o : Outcome). answered (is_accepted o.1) o) is ∙ ap (λ (b : Bool). answered b (w, r)) done

-- ---- kinds changed

module _ (g : ℕ → Kind → Kind) where
  abbrev pub over : Result Volume Reply → Result Volume Reply
  over (Ok v) = Ok (mapped g v)
  over (Err reply) = Err reply

  -- the call does the same
  abbrev pub StepsOver : Volume → Call → Type 0
  StepsOver v c = step (mapped g v) c ≡ mapped_outcome g (step v c)

  pub accepted-over : (v : Volume) (c : Call) → StepsOver v c → accepted (mapped g v) c ≡ over (accepted v c)
  accepted-over v c same =
      ap (λ (o : Outcome). answered (is_accepted o.1) o) same ∙ at (is_accepted (step v c).1)
    where
      at : (b : Bool) → answered b (mapped_outcome g (step v c)) ≡ over (answered b (step v c))
      at true = refl
      at false = refl

  -- one part behind another
  pub next-over : (r s : Result Volume Reply) (f h : Volume → Result Volume Reply) → s ≡ over r → ((v : Volume) → r ≡ Ok v
      → f (mapped g v) ≡ over (h v))
      → next s f ≡ over (next r h)
  next-over (Ok v) s f h is same = ap (λ (t : Result Volume Reply). next t f) is ∙ same v refl
  next-over (Err reply) s f h is same = ap (λ (t : Result Volume Reply). next t f) is

  -- of any volume
  abbrev pub AlwaysOver : Call → Type 0
  AlwaysOver c = (v : Volume) → StepsOver v c

  pub all-over : (cs : List Call) → Each AlwaysOver cs → (v : Volume) → all_accepted (mapped g v) cs ≡ over (all_accepted v cs)
  all-over [] each v = refl
  all-over (c ∷ cs) each v =
      next-over (accepted v c) (accepted (mapped g v) c) (λ w. all_accepted w cs) (λ w. all_accepted w cs) (accepted-over v c (each.0 v))
      (λ w is. all-over cs each.1 w)

-- ---- the next ID, which only rises

change-next : (v : Volume) (r : Result Entry ℤ) (make : Entry → Items → Items) (now : ℕ) → v.next_id ≤ (change v r make now).0.next_id
change-next v (Ok e) make now = omega arith
change-next v (Err code) make now = omega arith

add-next : (v : Volume) (r : Result ℕ ℤ) (make : ℕ → Items → Items) (now : ℕ) → v.next_id ≤ (add v r make now).0.next_id
add-next v (Ok id) make now = omega arith
add-next v (Err code) make now = omega arith

id-next : (v : Volume) (r : Result Entry ℤ) (make : Entry → Items → Items) (now : ℕ) → v.next_id ≤ (change_to_id v r make now).0.next_id
id-next v (Ok e) make now = omega arith
id-next v (Err code) make now = omega arith

step-next : (v : Volume) (c : Call) → v.next_id ≤ (step v c).0.next_id
unfolding create delete rename cat_move set_f_info set_cat_info set_lock create_file_id delete_file_id set_eof write_fork
step-next v (call.GetDirInfo dir) = omega arith
step-next v (call.GetCatInfo dir name) = omega arith
step-next v (call.GetIndexed dir index) = omega arith
step-next v (call.List dir) = omega arith
step-next v (call.ReadFork dir name fork offset count) = omega arith
step-next v (call.Create dir name now) = add-next v _ _ now
step-next v (call.DirCreate dir name now) = add-next v _ _ now
step-next v (call.Delete dir name now) = change-next v _ _ now
step-next v (call.Rename dir name new_name now) = change-next v _ _ now
step-next v (call.CatMove dir name new_dir now) = change-next v _ _ now
step-next v (call.SetFInfo dir name info now) = change-next v _ _ now
step-next v (call.SetCatInfo dir name created modified backup info now) = change-next v _ _ now
step-next v (call.SetFLock dir name now) = change-next v _ _ now
step-next v (call.RstFLock dir name now) = change-next v _ _ now
step-next v (call.CreateFileId dir name now) = id-next v _ _ now
step-next v (call.DeleteFileId id now) = change-next v _ _ now
step-next v (call.ResolveFileId id) = omega arith
step-next v (call.SetEof dir name fork length now) = change-next v _ _ now
step-next v (call.WriteFork dir name fork offset bytes now) = change-next v _ _ now

accepted-next : (v w : Volume) (c : Call) → accepted v c ≡ Ok w → v.next_id ≤ w.next_id
accepted-next v w c is = at (is_accepted (step v c).1) is
  where
    at : (b : Bool) → answered b (step v c) ≡ Ok w → v.next_id ≤ w.next_id
    at true is = let same : (step v c).0.next_id ≡ w.next_id = ap (λ (x : Volume). x.next_id) (same_ok (step v c).0 w is) in omega
        (arith, step-next v c, same)
    at false is = absurd (never_ok (step v c).1 w is)

pub all-next : (v w : Volume) (cs : List Call) → all_accepted v cs ≡ Ok w → v.next_id ≤ w.next_id
all-next v w [] is = let same : v.next_id ≡ w.next_id = ap (λ (x : Volume). x.next_id) (same_ok v w is) in omega (arith, same)
all-next v w (c ∷ cs) is = at (accepted v c) refl (λ u behind. all-next u w cs behind) is
  where
    at : (r : Result Volume Reply) → accepted v c ≡ r → ((u : Volume) → all_accepted u cs ≡ Ok w → u.next_id ≤ w.next_id)
        → next r (λ u. all_accepted u cs) ≡ Ok w → v.next_id ≤ w.next_id
    at (Ok u) first behind is = let more : u.next_id ≤ w.next_id = behind u is in omega (arith, accepted-next v u c first, more)
    at (Err reply) first behind is = absurd (never_ok reply w is)

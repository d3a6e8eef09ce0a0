-- A file behind the calls that make it: its forks are zeros, and may be written.
use Rattle.std.proofs.Common.{◌≡◌, ℕ, ◌<◌, ◌≤◌, Bool, true, false, List, [], ◌∷◌, replicate, Option, None, refl, sym, ◌∙◌, ap, subst, Ok, arith}
use Rattle.std.specs.Prelude.{◌==◌}
use Rattle.std.specs.List.{cons_option}
use Rattle.std.proofs.lemmas.Bool.{eqb-true}
use Rattle.hfs_model.specs.declared.call.Call.{Call}
use Rattle.hfs_model.specs.declared.call.Call.TheVariants as call
use Rattle.hfs_model.specs.declared.call.Fork.TheVariants.{DataFork, ResFork}
use Rattle.hfs_model.specs.declared.item.File.{File as FileRecord}
use Rattle.hfs_model.specs.declared.item.Item.{Item}
use Rattle.hfs_model.specs.declared.item.Kind.TheVariants.{File}
use Rattle.hfs_model.specs.Changes.{new_file, new_item}
use Rattle.hfs_model.specs.ForkCalls.{file_to_write}
use Rattle.hfs_model.specs.Forks.{with_physical_length, fork_bytes}
use Rattle.hfs_model.specs.Volume.{Volume}
use Rattle.hfs_put_plan.specs.declared.over.Placing.{Placing}
use Rattle.hfs_put_plan.specs.Accepted.{accepted, all_accepted}
use Rattle.hfs_put_plan.specs.Calls.{unlock_call, delete_call, end_call}
use Rattle.hfs_put_plan.specs.WithForks.{FileForks, forks_of, kind_with_forks, with_forks}
use Rattle.hfs_put_plan.proofs.AcceptedCalls.{split, over, accepted-over, next-over, all-option, all-next}
use Rattle.hfs_put_plan.proofs.CreatedFiles.{created-accepted}
use Rattle.hfs_put_plan.proofs.EndOptions.{end_if, end-over, end-is}
use Rattle.hfs_put_plan.proofs.ForkMaps.{by_forks, tells-forks}
use Rattle.hfs_put_plan.proofs.MadeFiles.{IsMade, empty_file}
use Rattle.hfs_model.proofs.MappedCalls.{create-mapped}
use Rattle.hfs_put_plan.proofs.PartialBytes.{resized-empty}
use Rattle.hfs_put_plan.proofs.QuietCalls.{quiet-unlock, quiet-delete, quiet-over}
use Rattle.hfs_put_plan.proofs.WrittenPieces.{HasLength}

-- ---- the bytes of the file then

-- an empty file, with the ends of both forks
abbrev pub file_with_ends : ℕ → ℕ → ℕ → FileRecord
file_with_ends size data_len resource_len = end_if (resource_len == 0) size ResFork resource_len (end_if
    (data_len == 0) size DataFork data_len empty_file)

module _ (size : ℕ) (data_len resource_len : ℕ) where
  -- by whether each fork is empty
  abbrev file_if : Bool → Bool → FileRecord
  file_if no_data no_resource = end_if no_resource size ResFork resource_len (end_if no_data size DataFork data_len empty_file)

  none-is : (len : ℕ) → (len == 0) ≡ true → ◌≡◌ {A = List ℕ} [] (replicate len 0)
  none-is len t = ap (λ (n : ℕ). replicate n 0) (sym (eqb-true len 0 t))

  data-if : (a b : Bool) → (data_len == 0) ≡ a → fork_bytes DataFork (File (file_if a b)) ≡ replicate data_len 0
  data-if true true t = none-is data_len t
  data-if true false t = none-is data_len t
  data-if false true t = resized-empty data_len
  data-if false false t = resized-empty data_len

  resource-if : (a b : Bool) → (resource_len == 0) ≡ b → fork_bytes ResFork (File (file_if a b)) ≡ replicate resource_len 0
  resource-if true true t = none-is resource_len t
  resource-if false true t = none-is resource_len t
  resource-if true false t = resized-empty resource_len
  resource-if false false t = resized-empty resource_len

  pub data-zeros : fork_bytes DataFork (File (file_with_ends size data_len resource_len)) ≡ replicate data_len 0
  data-zeros = data-if (data_len == 0) (resource_len == 0) refl

  pub resource-zeros : fork_bytes ResFork (File (file_with_ends size data_len resource_len)) ≡ replicate resource_len 0
  resource-zeros = resource-if (data_len == 0) (resource_len == 0) refl

  -- the kept bytes have the lengths of the blocks of both, where they have bytes
  data-length-if : (a b : Bool) → (data_len == 0) ≡ a → (data_len ≡ 0 → ⊥) → HasLength size DataFork (file_if a b)
  unfolding with_physical_length
  data-length-if true b t some = absurd (some (eqb-true data_len 0 t))
  data-length-if false true t some = refl
  data-length-if false false t some = refl

  resource-length-if : (a b : Bool) → (resource_len == 0) ≡ b → (resource_len ≡ 0 → ⊥) → HasLength size ResFork (file_if a b)
  unfolding with_physical_length
  resource-length-if a true t some = absurd (some (eqb-true resource_len 0 t))
  resource-length-if true false t some = refl
  resource-length-if false false t some = refl

  pub data-length : (data_len ≡ 0 → ⊥) → HasLength size DataFork (file_with_ends size data_len resource_len)
  data-length = data-length-if (data_len == 0) (resource_len == 0) refl

  pub resource-length : (resource_len ≡ 0 → ⊥) → HasLength size ResFork (file_with_ends size data_len resource_len)
  resource-length = resource-length-if (data_len == 0) (resource_len == 0) refl

-- ---- results

-- no bytes are kept for an ID that is yet to come
abbrev pub IsBelow : List FileForks → Volume → Type 0
IsBelow forks v = (q : ℕ) → v.next_id ≤ q → forks_of forks q ≡ None

pub below-next : (forks : List FileForks) (v w : Volume) → IsBelow forks v → v.next_id ≤ w.next_id → IsBelow forks w
below-next forks v w below more = λ q from. below q (omega (arith, more, from))

option-over : (forks : List FileForks) (v : Volume) (o : Option Call) (cs : List Call)
    → all_accepted (with_forks forks v) (cons_option o []) ≡ over (by_forks forks) (all_accepted v (cons_option o []))
    → ((w : Volume) → all_accepted v (cons_option o []) ≡ Ok w → all_accepted (with_forks forks w) cs ≡ over (by_forks forks) (all_accepted w cs))
    → all_accepted (with_forks forks v) (cons_option o cs) ≡ over (by_forks forks) (all_accepted v (cons_option o cs))
option-over forks v o cs one behind =
    all-option (with_forks forks v) o cs
    ∙ next-over (by_forks forks) (all_accepted v (cons_option o [])) (all_accepted (with_forks forks v) (cons_option o []))
    (λ w. all_accepted w cs) (λ w. all_accepted w cs) one behind
    ∙ ap (over (by_forks forks)) (sym (all-option v o cs))

-- ---- the calls

-- the file stands there, and its forks may be written
pub record IsReady (v w : Volume) (dir : ℕ) (name : List ℕ) (now data_len resource_len : ℕ) : Type 0 where
  pub n : ℕ
  pub item : Item
  pub made : IsMade w dir name now n item (file_with_ends w.block_size data_len resource_len)
  pub from : v.next_id ≤ n
  pub below : n < w.next_id
  pub may_data : (data_len ≡ 0 → ⊥) → file_to_write w dir name ≡ Ok (n, item)
  pub may_resource : (resource_len ≡ 0 → ⊥) → file_to_write w dir name ≡ Ok (n, item)
  pub short_data : (data_len ≡ 0 → ⊥) → data_len ≤ 2147483647
  pub short_resource : (resource_len ≡ 0 → ⊥) → resource_len ≤ 2147483647

module _ (dir : ℕ) (name : List ℕ) (placing : Placing) (now data_len resource_len : ℕ) where
  abbrev unlock : Option Call
  unlock = unlock_call dir name placing now

  abbrev deletion : Option Call
  deletion = delete_call dir name placing now

  abbrev end_data : Option Call
  end_data = end_call dir name DataFork data_len now

  abbrev end_resource : Option Call
  end_resource = end_call dir name ResFork resource_len now

  abbrev ends : List Call
  ends = cons_option end_data (cons_option end_resource [])

  abbrev creation : Call
  creation = call.Create dir name now

  abbrev pub making_calls : List Call
  making_calls = cons_option unlock (cons_option deletion (creation ∷ ends))

  module _ (forks : List FileForks) where
    -- behind Create
    ends-over : (v : Volume) (item : Item) (n : ℕ) → forks_of forks n ≡ None → IsMade v dir name now n item empty_file
        → all_accepted (with_forks forks v) ends ≡ over (by_forks forks) (all_accepted v ends)
    ends-over v item n none made =
        option-over forks v end_data (cons_option end_resource []) (end-over v dir name now n item empty_file made DataFork data_len forks none
        (data_len == 0))
        (λ w is.
        let ended = end-is v dir name now n item empty_file made DataFork data_len w is in
        end-over w dir name now n ended.item_now (end_if (data_len == 0) v.block_size DataFork data_len empty_file) ended.made ResFork resource_len
        forks none (resource_len == 0))

    create-over : (v : Volume) → IsBelow forks v → all_accepted (with_forks forks v) (creation ∷ ends)
        ≡ over (by_forks forks) (all_accepted v (creation ∷ ends))
    create-over v below =
        next-over (by_forks forks) (accepted v creation) (accepted (with_forks forks v) creation) (λ w. all_accepted w ends)
        (λ w. all_accepted w ends)
        (accepted-over (by_forks forks) v creation (create-mapped (by_forks forks) (tells-forks forks) v now new_file
        (ap (λ (o : Option FileForks). kind_with_forks o new_file) (below v.next_id (omega arith))) dir name))
        (λ w is.
        let made = created-accepted v w dir name now is in
        ends-over w (new_item new_file dir name now) v.next_id (below v.next_id (omega arith)) made.made)

    -- they do the same where other files' forks have other bytes
    pub making-over : (v : Volume) → IsBelow forks v → all_accepted (with_forks forks v) making_calls
        ≡ over (by_forks forks) (all_accepted v making_calls)
    making-over v below =
        option-over forks v unlock (cons_option deletion (creation ∷ ends)) (quiet-over forks (cons_option unlock [])
        (quiet-unlock dir name placing now) v)
        (λ u first. option-over forks u deletion (creation ∷ ends) (quiet-over forks (cons_option deletion []) (quiet-delete dir name placing now) u)
        (λ w second.
        let more : v.next_id ≤ w.next_id = omega (arith, all-next v u (cons_option unlock []) first, all-next u w (cons_option deletion []) second) in
        create-over w (below-next forks v w below more)))

  -- ---- the file is ready

  ready-made : (u v w : Volume) → u.next_id ≤ v.next_id → all_accepted v (creation ∷ ends) ≡ Ok w → IsReady u w dir name now data_len resource_len
  ready-made u v w before is =
      let first = split (accepted v creation) (λ x. all_accepted x ends) w is in
      let created = created-accepted v first.0 dir name now first.1 in
      let item = new_item new_file dir name now in
      let second = split (all_accepted first.0 (cons_option end_data [])) (λ x. all_accepted x (cons_option end_resource [])) w
      (sym (all-option first.0 end_data (cons_option end_resource [])) ∙ first.2) in
      let ended = end-is first.0 dir name now v.next_id item empty_file created.made DataFork data_len second.0 second.1 in
      let last = end-is second.0 dir name now v.next_id ended.item_now (end_if (data_len == 0) first.0.block_size DataFork data_len empty_file)
      ended.made ResFork resource_len w second.2 in
      let size_before : first.0.block_size ≡ w.block_size = sym (last.size ∙ ended.size) in
      let size_between : second.0.block_size ≡ w.block_size = sym last.size in
      record {
        n = v.next_id;
        item = last.item_now;
        made = subst (λ (x : FileRecord). IsMade w dir name now v.next_id last.item_now x)
            (λ i. end_if (resource_len == 0) (size_between i) ResFork resource_len (end_if (data_len == 0)
            (size_before i) DataFork data_len empty_file)) last.made;
        from = before;
        below = omega (arith, created.next, ended.next, last.next);
        may_data = λ some. last.still (ended.may some);
        may_resource = last.may;
        short_data = ended.short;
        short_resource = last.short;
      }

  pub ready : (v w : Volume) → all_accepted v making_calls ≡ Ok w → IsReady v w dir name now data_len resource_len
  ready v w is =
      let first = split (all_accepted v (cons_option unlock [])) (λ x. all_accepted x (cons_option deletion (creation ∷ ends))) w
      (sym (all-option v unlock (cons_option deletion (creation ∷ ends))) ∙ is) in
      let second = split (all_accepted first.0 (cons_option deletion [])) (λ x. all_accepted x (creation ∷ ends)) w
      (sym (all-option first.0 deletion (creation ∷ ends)) ∙ first.2) in
      let more : v.next_id ≤ second.0.next_id = omega (
        arith,
        all-next v first.0 (cons_option unlock []) first.1,
        all-next first.0 second.0
            (cons_option deletion []) second.1,
      ) in
      ready-made v second.0 w more second.2

-- A file put on a disk: the bytes of its forks, and what comes behind them.
use Rattle.std.proofs.Common.{◌≡◌, ⊎_elim, ℕ, ◌≤◌, Bool, true, false, eqb, List, [], ◌∷◌, ◌++◌, append_assoc, length, replicate, Option, Some, None, refl, sym, ◌∙◌, ap, Result, Ok, arith, true≢false}
use Rattle.std.specs.Prelude.{◌==◌, ◌&&◌}
use Rattle.std.specs.Option.{option_map_or}
use Rattle.std.proofs.lemmas.Bool.{cases_eq, eqb-true, eq-eqb}
use Rattle.std.proofs.lemmas.List.{length-replicate}
use Rattle.hfs_fields.specs.Order.{same_name}
use Rattle.hfs_model.specs.declared.call.Call.{Call}
use Rattle.hfs_model.specs.declared.call.Fork.{Fork}
use Rattle.hfs_model.specs.declared.call.Fork.TheVariants.{DataFork, ResFork}
use Rattle.hfs_model.specs.declared.item.File.{File as FileRecord}
use Rattle.hfs_model.specs.declared.item.Item.{Item}
use Rattle.hfs_model.specs.declared.item.Kind.TheVariants.{File}
use Rattle.hfs_model.specs.declared.reply.Reply.{Reply}
use Rattle.hfs_model.specs.Children.{child_named, entries_of, is_child_named}
use Rattle.hfs_model.specs.Forks.{fork_bytes}
use Rattle.hfs_model.specs.Lawful.{Has}
use Rattle.hfs_model.specs.Volume.{Entry, Items, Volume}
use Rattle.hfs_model.specs.ForkCalls.{file_to_write}
use Rattle.hfs_model.proofs.Facts.{found_has, no_entry, two_tests, same_some}
use Rattle.std.specs.FinMap as map
use Rattle.hfs_put_plan.specs.Accepted.{next, all_accepted}
use Rattle.hfs_put_plan.specs.Calls.{write_calls}
use Rattle.hfs_put_plan.specs.Put.{id_named}
use Rattle.hfs_put_plan.specs.WithForks.{FileForks, forks_of, kind_with_forks, with_forks}
use Rattle.hfs_put_plan.proofs.AcceptedCalls.{all-both}
use Rattle.hfs_put_plan.proofs.ForkMaps.{by_forks, tells-forks, forks-here, forks-there, mapped-same}
use Rattle.hfs_put_plan.proofs.MadeFiles.{IsAlone, IsMade}
use Rattle.hfs_model.proofs.MappedChoices.{child-is}
use Rattle.hfs_model.proofs.MappedEntries.{or-mapped}
use Rattle.hfs_put_plan.proofs.ReadyFiles.{IsReady, IsBelow, file_with_ends, data-zeros, resource-zeros, data-length, resource-length}
use Rattle.hfs_put_plan.proofs.WrittenForks.{data-same, resource-same, fork-written}
use Rattle.hfs_put_plan.proofs.WrittenPieces.{IsWritable, HasLength, fork_of, data_with, resource_with}

-- ---- the ID of an item

-- other bytes in the forks leave it
pub id-same : (forks : List FileForks) (v : Volume) (dir : ℕ) (name : List ℕ) → id_named (with_forks forks v) dir name ≡ id_named v dir name
id-same forks v dir name =
    ap (λ (o : Option Entry). option_map_or (λ (e : Entry). e.0) o 0) (child-is (by_forks forks) (tells-forks forks) v dir name)
    ∙ or-mapped (by_forks forks) (λ (e : Entry). e.0) (λ (e : Entry). e.0) (λ e. refl) (child_named (entries_of v) dir name) 0

-- the one that is alone has its own
pub id-alone : (v : Volume) (dir : ℕ) (name : List ℕ) (n : ℕ) (item : Item) → IsAlone v.items dir name n item → id_named v dir name ≡ n
id-alone v dir name n item alone = at (child_named (entries_of v) dir name) refl
  where
    both : (a b : Bool) → a ≡ true → b ≡ true → (a && b) ≡ true
    both a b p q = λ i. p i && q i

    at : (o : Option Entry) → child_named (entries_of v) dir name ≡ o → option_map_or (λ (e : Entry). e.0) o 0 ≡ n
    at None is =
        absurd (no_entry (is_child_named dir name) (entries_of v) n item is (sym (map.get-entries v.items n) ∙ alone.has)
        (both (eqb item.parent dir) (same_name item.name name) (eq-eqb item.parent dir alone.under) alone.named))
    at (Some e) is =
        let here = found_has v.items (is_child_named dir name) e is in
        let tests = two_tests _ _ here.1 in
        alone.only e.0 e.1 here.0 (eqb-true e.1.parent dir tests.0) tests.1

pub id-made : (v : Volume) (dir : ℕ) (name : List ℕ) (now n : ℕ) (item : Item) (file : FileRecord) → IsMade v dir name now n item file
    → id_named v dir name ≡ n
id-made v dir name now n item file made =
    id-alone v dir name n item (record { has = made.has; under = made.under; named = made.named; only = made.only })

-- ---- its bytes

empty-is : (l : List ℕ) → length l ≡ 0 → l ≡ []
empty-is [] none = refl
empty-is (x ∷ l) none = absurd (omega (arith, none))

module _ (v w : Volume) (dir : ℕ) (name : List ℕ) (now : ℕ) (data_bytes resource_bytes : List ℕ)
    (ready : IsReady v w dir name now (length data_bytes) (length resource_bytes)) (forks : List FileForks) (below : IsBelow forks v) where
  abbrev file : FileRecord
  file = file_with_ends w.block_size (length data_bytes) (length resource_bytes)

  -- with these bytes in its forks
  abbrev pub own : List ℕ → List ℕ → FileForks
  own d r = record { id = ready.n; data_fork = d; resource_fork = r }

  abbrev pub zeros : List ℕ → List ℕ
  zeros bytes = replicate (length bytes) 0

  abbrev pub first : FileForks
  first = own (zeros data_bytes) (zeros resource_bytes)

  -- zeros are what they have
  first-same : (q : ℕ) (i : Item) → Has w.items q i → by_forks forks q i.kind ≡ by_forks (first ∷ forks) q i.kind
  first-same q i has = ⊎_elim
      (λ (is : q ≡ ready.n).
      let kind : i.kind ≡ File file = ap (λ (j : Item). j.kind) (same_some i ready.item (sym has ∙ ap (map.get w.items) is ∙ ready.made.has))
      ∙ ready.made.kind in
      ap (λ (o : Option FileForks). kind_with_forks o i.kind) (ap (forks_of forks) is ∙ below ready.n ready.from)
      ∙ kind
      ∙ (λ j. File (record file {
        «data» = data-zeros w.block_size (length data_bytes) (length resource_bytes) j;
        resource = resource-zeros w.block_size (length data_bytes) (length resource_bytes) j;
      }))
      ∙ sym (ap (λ (o : Option FileForks). kind_with_forks o i.kind) (ap (forks_of (first ∷ forks)) is ∙ forks-here first forks)
      ∙ ap (kind_with_forks (Some first)) kind))
      (λ (ne : q ≡ ready.n → ⊥). ap (λ (o : Option FileForks). kind_with_forks o i.kind) (sym (forks-there first forks q ne)))
      (cases_eq q ready.n)

  pub zeros-there : with_forks forks w ≡ with_forks (first ∷ forks) w
  zeros-there = ap (λ (items : Items). record w { items = items }) (mapped-same (by_forks forks) (by_forks (first ∷ forks)) w.items first-same)

  -- one fork, where it has zeros: it may be empty
  one-fork : (fork : Fork) (bytes d r : List ℕ) → fork_of fork d r ≡ zeros bytes → fork_bytes fork (File file) ≡ zeros bytes
      → ((length bytes ≡ 0 → ⊥) → IsWritable w dir name now (ready.n, ready.item) file)
      → ((length bytes ≡ 0 → ⊥) → HasLength w.block_size fork file) → ((length bytes ≡ 0 → ⊥) → length bytes ≤ 2147483647)
      → all_accepted (with_forks (own d r ∷ forks) w) (write_calls dir name fork bytes now)
      ≡ Ok (with_forks (own (data_with fork bytes d) (resource_with fork bytes r) ∷ forks) w)
  one-fork fork bytes d r is same writable has short =
      elim (length bytes == 0)
      as (λ (b : Bool). (length bytes == 0) ≡ b → all_accepted (with_forks (own d r ∷ forks) w) (write_calls dir name fork bytes now)
      ≡ Ok (with_forks (own (data_with fork bytes d) (resource_with fork bytes r) ∷ forks) w)) [
        | true ↦ λ t.
            let none : bytes ≡ [] = empty-is bytes (eqb-true (length bytes) 0 t) in
            let all : fork_of fork d r ≡ bytes = is ∙ ap zeros none ∙ sym none in
            ap (λ (l : List ℕ). all_accepted (with_forks (own d r ∷ forks) w) (write_calls dir name fork l now)) none
            ∙ (λ i. Ok (with_forks (own (sym (data-same fork bytes d r all) i) (sym (resource-same fork bytes d r all) i) ∷ forks) w))
        | false ↦ λ t.
            let some : length bytes ≡ 0 → ⊥ = λ e. true≢false (sym (eq-eqb (length bytes) 0 e) ∙ t) in
            let long : length bytes ≡ length (fork_bytes fork (File file)) =
            sym (length-replicate {A = ℕ} (length bytes) 0) ∙ ap (λ (l : List ℕ). length l) (sym same) in
            fork-written w dir name now (ready.n, ready.item) file (writable some) forks d r fork bytes long (has some) (short some) is
      ] refl

  -- both forks are written, and what comes behind finds their bytes
  pub bytes-written : (rest : List Call)
      → all_accepted (with_forks forks w) ((write_calls dir name DataFork data_bytes now ++ write_calls dir name ResFork resource_bytes now) ++ rest)
      ≡ all_accepted (with_forks (own data_bytes resource_bytes ∷ forks) w) rest
  bytes-written rest =
      let writable = λ (may : file_to_write w dir name ≡ Ok (ready.n, ready.item)).
      let is : IsWritable w dir name now (ready.n, ready.item) file =
      record { has = ready.made.has; may = may; kind = ready.made.kind; modified = ready.made.modified; changed = ready.made.changed } in is in
      let size = w.block_size in
      let dl = length data_bytes in
      let rl = length resource_bytes in
      let datas : List Call = write_calls dir name DataFork data_bytes now in
      let resources : List Call = write_calls dir name ResFork resource_bytes now in
      ap (λ (l : List Call). all_accepted (with_forks forks w) l) (append_assoc datas resources rest)
      ∙ ap (λ (u : Volume). all_accepted u (datas ++ (resources ++ rest))) zeros-there
      ∙ all-both (with_forks (first ∷ forks) w) datas (resources ++ rest)
      ∙ ap (λ (o : Result Volume Reply). next o (λ u. all_accepted u (resources ++ rest)))
      (one-fork DataFork data_bytes (zeros data_bytes) (zeros resource_bytes) refl (data-zeros size dl rl) (λ some. writable (ready.may_data some))
      (data-length size dl rl) ready.short_data)
      ∙ all-both (with_forks (own data_bytes (zeros resource_bytes) ∷ forks) w) resources rest
      ∙ ap (λ (o : Result Volume Reply). next o (λ u. all_accepted u rest))
      (one-fork ResFork resource_bytes data_bytes (zeros resource_bytes) refl (resource-zeros size dl rl) (λ some. writable (ready.may_resource some))
      (resource-length size dl rl) ready.short_resource)

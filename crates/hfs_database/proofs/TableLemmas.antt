-- What there is of tables and indexes.
use Rattle.std.proofs.Common.{◌≡◌, ◌∙◌, refl, sym, subst, ℕ, List, Bool, [], ◌∷◌, codes, Result, Ok, Err, inl, inr}
use Rattle.std.specs.Prelude.{⊤, IfErr, IfOk, IsTrue, OnOk}
use Rattle.sqlite.specs.declared.error.Error.{Error}
use Rattle.sqlite.specs.declared.types.Value.{Value}
use Rattle.sqlite.specs.declared.types.Value.TheVariants.{Text}
use Rattle.sqlite.specs.Held.{Held, state}
use Rattle.sqlite.specs.State.{HasCleanDisk, QueriesRow, State, Survives}
use Rattle.sqlite.specs.Store.{Ghosts}
use Rattle.hfs_database.specs.declared.fault.DatabaseFault.{DatabaseFault}
use Rattle.hfs_database.specs.declared.fault.DatabaseFault.TheVariants.{CannotOpen, CannotWrite, NoMemory}
use Rattle.hfs_database.specs.declared.fault.Obstacle.TheVariants.{Busy, Damaged, NoTables, OtherTables, System, Unreadable}
use Rattle.hfs_database.specs.declared.tables.Found.{Found}
use Rattle.hfs_database.specs.declared.tables.Found.TheVariants as found
use Rattle.sqlite.proofs.StateLemmas.{survives_then}
use Rattle.hfs_database.specs.Doing.{HasRun}
use Rattle.hfs_database.specs.Tables.{AreEach, FailsToFind, FailsToFindParts, FailsToMake, FailsToMakeAll, FailsToMakeParts, FindsPart, FindsParts, FindsTables, HasMadeAll, IsRefusedFor, IsUnknown, IsUntold, LeavesTablesOrNone, MakesParts, Part, TellsNoTables, all_parts, both, data_index, find_part_text, image_table, item_table, part_of, resource_index, volume_table}
use Rattle.hfs_database.specs.Transactions.{IsCommitted, KeepsFile, begun}
use Rattle.hfs_database.proofs.Keeping.{keeps_begun}

abbrev IsAll : Found → Type 0
IsAll found.All = ⊤
IsAll found.Nothing = ⊥
IsAll found.Other = ⊥

abbrev IsNothing : Found → Type 0
IsNothing found.All = ⊥
IsNothing found.Nothing = ⊤
IsNothing found.Other = ⊥

abbrev IsOther : Found → Type 0
IsOther found.All = ⊥
IsOther found.Nothing = ⊥
IsOther found.Other = ⊤

-- all of both are there where all of each are, and nothing where nothing is of each
both_all : (one second : Found) → both one second ≡ found.All → (one ≡ found.All) × (second ≡ found.All)
both_all found.Nothing found.Nothing e = absurd (subst IsNothing e tt)
both_all found.Nothing found.All e = absurd (subst IsOther e tt)
both_all found.Nothing found.Other e = absurd (subst IsOther e tt)
both_all found.All found.Nothing e = absurd (subst IsOther e tt)
both_all found.All found.All e = (refl, refl)
both_all found.All found.Other e = absurd (subst IsOther e tt)
both_all found.Other second e = absurd (subst IsOther e tt)

both_nothing : (one second : Found) → both one second ≡ found.Nothing → (one ≡ found.Nothing) × (second ≡ found.Nothing)
both_nothing found.Nothing found.Nothing e = (refl, refl)
both_nothing found.Nothing found.All e = absurd (subst IsOther e tt)
both_nothing found.Nothing found.Other e = absurd (subst IsOther e tt)
both_nothing found.All found.Nothing e = absurd (subst IsOther e tt)
both_nothing found.All found.All e = absurd (subst IsAll e tt)
both_nothing found.All found.Other e = absurd (subst IsOther e tt)
both_nothing found.Other second e = absurd (subst IsOther e tt)

module _ {S : Type 0} (g : Ghosts S) (s r q p o n : Held S) (a b c d e : Found)
    (fa : FindsPart (state g s) (state g r) (part_of (codes "image") image_table) a)
    (fb : FindsPart (state g r) (state g q) (part_of (codes "volume") volume_table) b)
    (fc : FindsPart (state g q) (state g p) (part_of (codes "item") item_table) c)
    (fd : FindsPart (state g p) (state g o) (part_of (codes "item_data") data_index) d)
    (fe : FindsPart (state g o) (state g n) (part_of (codes "item_resource") resource_index) e) where
  -- each is the same
  finds_same : (found : Found) → (a ≡ found) → (b ≡ found) → (c ≡ found) → (d ≡ found) → (e ≡ found) → FindsParts g all_parts found s n
  finds_same found ia ib ic id ie = (
    r,
    subst (FindsPart (state g s) (state g r) (part_of (codes "image") image_table)) ia fa,
    (
      q,
      subst (FindsPart (state g r) (state g q) (part_of (codes "volume") volume_table)) ib fb,
      (
        p,
        subst (FindsPart (state g q) (state g p) (part_of (codes "item") item_table)) ic fc,
        (
          o,
          subst (FindsPart (state g p) (state g o) (part_of (codes "item_data") data_index)) id fd,
          (n, subst (FindsPart (state g o) (state g n) (part_of (codes "item_resource") resource_index)) ie fe, refl),
        ),
      ),
    ),
  )

  -- each is there with its text, or none
  all_of : AreEach found.All (a ∷ b ∷ c ∷ d ∷ e ∷ []) → both (both (both (both a b) c) d) e ≡ found.All
  all_of each = λ i. both (both (both (both (each.0 i) (each.1.0 i)) (each.1.1.0 i)) (each.1.1.1.0 i)) (each.1.1.1.1.0 i)

  none_of : AreEach found.Nothing (a ∷ b ∷ c ∷ d ∷ e ∷ []) → both (both (both (both a b) c) d) e ≡ found.Nothing
  none_of each = λ i. both (both (both (both (each.0 i) (each.1.0 i)) (each.1.1.0 i)) (each.1.1.1.0 i)) (each.1.1.1.1.0 i)

  -- what there is of all five
  pub finds_by : (found : Found) → both (both (both (both a b) c) d) e ≡ found → FindsTables g found s n
  finds_by found.All is =
      let abcd = both_all (both (both (both a b) c) d) e is in
      let abc = both_all (both (both a b) c) d abcd.0 in
      let ab = both_all (both a b) c abc.0 in
      let one = both_all a b ab.0 in
      finds_same found.All one.0 one.1 ab.1 abc.1 abcd.1
  finds_by found.Nothing is =
      let abcd = both_nothing (both (both (both a b) c) d) e is in
      let abc = both_nothing (both (both a b) c) d abcd.0 in
      let ab = both_nothing (both a b) c abc.0 in
      let one = both_nothing a b ab.0 in
      finds_same found.Nothing one.0 one.1 ab.1 abc.1 abcd.1
  finds_by found.Other is = record {
    founds = a ∷ b ∷ c ∷ d ∷ e ∷ [];
    finds = (r, fa, (q, fb, (p, fc, (o, fd, (n, fe, (refl, refl))))));
    not_all = λ each. absurd (subst IsOther (sym is ∙ all_of each) tt);
    not_none = λ each. absurd (subst IsOther (sym is ∙ none_of each) tt);
  }

-- ---- how they are made

pub on_ok : {A E : Type 0} (r : Result A E) {P Q : Type 0} → (P → Q) → OnOk r P → OnOk r Q
on_ok (Ok x) f p = f p
on_ok (Err e) f p = tt

pub if_ok : {A E : Type 0} (r : Result A E) {P Q : A → Type 0} → ((x : A) → P x → Q x) → IfOk r P → IfOk r Q
if_ok (Ok x) f p = f x p
if_ok (Err e) f p = tt

pub if_err : {A E : Type 0} (r : Result A E) {P Q : E → Type 0} → ((e : E) → P e → Q e) → IfErr r P → IfErr r Q
if_err (Ok x) f p = tt
if_err (Err e) f p = f e p

-- five texts, one behind the other
pub makes_five : {S : Type 0} (g : Ghosts S) (s r q p o n : Held S) (first second third fourth fifth : Part)
    → HasRun (state g s) (state g r) first.text [] → HasRun (state g r) (state g q) second.text [] → HasRun (state g q) (state g p) third.text []
    → HasRun (state g p) (state g o) fourth.text [] → HasRun (state g o) (state g n) fifth.text [] → MakesParts g (first ∷ second ∷ third ∷ fourth ∷ fifth ∷ []) s n
makes_five g s r q p o n first second third fourth fifth fa fb fc fd fe = (r, fa, (q, fb, (p, fc, (o, fd, (n, fe, refl)))))

module _ {S : Type 0} (g : Ghosts S) (old mid now new : Held S) (is : mid ≡ begun old) (makes : MakesParts g all_parts mid now) where
  -- they were made, and the transaction was committed
  pub made_all : IsCommitted g now new → HasMadeAll g old new
  made_all committed = record { made = now; makes = subst (λ (held : Held S). MakesParts g all_parts held now) is makes; committed = committed }

  -- the transaction was to be committed
  pub left_by_commit : KeepsFile g mid now → Survives (state g now) (state g new) (λ db. db ≡ (state g now).now.trees) → LeavesTablesOrNone g old new
  left_by_commit keeps survives = record {
    leaves = survives_then (state g old) (state g now) (state g new) (λ _. ⊥) (λ db. db ≡ (state g now).now.trees)
        (λ db. (made : Held S) × MakesParts g all_parts (begun old) made × (db ≡ (state g made).now.trees))
        (λ clean db never. absurd never) (λ clean db is_now. (now, subst (λ (held : Held S). MakesParts g all_parts held now) is makes, is_now))
        (keeps_begun g old now (subst (λ (held : Held S). KeepsFile g held now) is keeps)).survives survives;
  }

-- ---- what can't be looked for

-- the parameters are the part's
module _ (old new : State) where
  pub asked_by : (answer : Result (List Value) Error) {name text a b : List ℕ} → a ≡ name → b ≡ text
      → (HasCleanDisk new → QueriesRow find_part_text (Text a ∷ Text b ∷ []) old new answer) → HasCleanDisk new → QueriesRow find_part_text (Text name ∷ Text text ∷ []) old new answer
  asked_by answer named written asked = subst (λ (params : List Value). HasCleanDisk new → QueriesRow find_part_text params old new answer) (λ i. Text (named i) ∷ Text (written i) ∷ []) asked

  -- the row doesn't tell
  pub unfound_by : {X : Type 0} (part : Part) (row : List Value) → (HasCleanDisk new → QueriesRow find_part_text (Text part.name ∷ Text part.text ∷ []) old new (Ok row))
      → (r : Result X DatabaseFault) → IfErr r (IsUntold row) → IfErr r (FailsToFind old new part)
  unfound_by part row asked (Ok x) untold = tt
  unfound_by part row asked (Err fault) untold = inr (row, asked, untold)

-- the first of five, the second, and so on
module _ {S : Type 0} (g : Ghosts S) (first second third fourth fifth : Part) (fault : DatabaseFault) where
  pub unfound_first : (s r : Held S) → FailsToFind (state g s) (state g r) first fault → FailsToFindParts g (first ∷ second ∷ third ∷ fourth ∷ fifth ∷ []) s r fault
  unfound_first s r fails = inl fails

  module _ (s r : Held S) (a : Found) (fa : FindsPart (state g s) (state g r) first a) where
    pub unfound_second : (q : Held S) → FailsToFind (state g r) (state g q) second fault → FailsToFindParts g (first ∷ second ∷ third ∷ fourth ∷ fifth ∷ []) s q fault
    unfound_second q fails = inr (r, a, fa, inl fails)

    module _ (q : Held S) (b : Found) (fb : FindsPart (state g r) (state g q) second b) where
      pub unfound_third : (p : Held S) → FailsToFind (state g q) (state g p) third fault → FailsToFindParts g (first ∷ second ∷ third ∷ fourth ∷ fifth ∷ []) s p fault
      unfound_third p fails = inr (r, a, fa, inr (q, b, fb, inl fails))

      module _ (p : Held S) (c : Found) (fc : FindsPart (state g q) (state g p) third c) where
        pub unfound_fourth : (o : Held S) → FailsToFind (state g p) (state g o) fourth fault → FailsToFindParts g (first ∷ second ∷ third ∷ fourth ∷ fifth ∷ []) s o fault
        unfound_fourth o fails = inr (r, a, fa, inr (q, b, fb, inr (p, c, fc, inl fails)))

        pub unfound_fifth : (o n : Held S) (d : Found) → FindsPart (state g p) (state g o) fourth d → FailsToFind (state g o) (state g n) fifth fault
            → FailsToFindParts g (first ∷ second ∷ third ∷ fourth ∷ fifth ∷ []) s n fault
        unfound_fifth o n d fd fails = inr (r, a, fa, inr (q, b, fb, inr (p, c, fc, inr (o, d, fd, inl fails))))

-- ---- what can't be made

module _ {S : Type 0} (g : Ghosts S) (first second third fourth fifth : Part) (fault : DatabaseFault) where
  pub unmade_first : (s r : Held S) → FailsToMake (state g s) (state g r) first.text fault → FailsToMakeParts g (first ∷ second ∷ third ∷ fourth ∷ fifth ∷ []) s r fault
  unmade_first s r fails = inl fails

  module _ (s r : Held S) (fa : HasRun (state g s) (state g r) first.text []) where
    pub unmade_second : (q : Held S) → FailsToMake (state g r) (state g q) second.text fault → FailsToMakeParts g (first ∷ second ∷ third ∷ fourth ∷ fifth ∷ []) s q fault
    unmade_second q fails = inr (r, fa, inl fails)

    module _ (q : Held S) (fb : HasRun (state g r) (state g q) second.text []) where
      pub unmade_third : (p : Held S) → FailsToMake (state g q) (state g p) third.text fault → FailsToMakeParts g (first ∷ second ∷ third ∷ fourth ∷ fifth ∷ []) s p fault
      unmade_third p fails = inr (r, fa, inr (q, fb, inl fails))

      module _ (p : Held S) (fc : HasRun (state g q) (state g p) third.text []) where
        pub unmade_fourth : (o : Held S) → FailsToMake (state g p) (state g o) fourth.text fault → FailsToMakeParts g (first ∷ second ∷ third ∷ fourth ∷ fifth ∷ []) s o fault
        unmade_fourth o fails = inr (r, fa, inr (q, fb, inr (p, fc, inl fails)))

        pub unmade_fifth : (o n : Held S) → HasRun (state g p) (state g o) fourth.text [] → FailsToMake (state g o) (state g n) fifth.text fault
            → FailsToMakeParts g (first ∷ second ∷ third ∷ fourth ∷ fifth ∷ []) s n fault
        unmade_fifth o n fd fails = inr (r, fa, inr (q, fb, inr (p, fc, inr (o, fd, inl fails))))

-- ---- why a collection is refused

-- a fault of what can't be looked for, or can't be made
pub refused_elsewhere : {S : Type 0} (g : Ghosts S) (makes : Bool) (old new : Held S) (fault : DatabaseFault) → TellsNoTables fault → IsUnknown g makes old new fault
    → IsRefusedFor g makes old new fault
refused_elsewhere g makes old new (CannotOpen Busy) none unknown = unknown
refused_elsewhere g makes old new (CannotOpen OtherTables) none unknown = absurd none
refused_elsewhere g makes old new (CannotOpen NoTables) none unknown = absurd none
refused_elsewhere g makes old new (CannotOpen Unreadable) none unknown = unknown
refused_elsewhere g makes old new (CannotOpen Damaged) none unknown = unknown
refused_elsewhere g makes old new (CannotOpen System) none unknown = unknown
refused_elsewhere g makes old new CannotWrite none unknown = unknown
refused_elsewhere g makes old new NoMemory none unknown = unknown

-- none was there, and they were to be made
pub refused_unmade : {X S : Type 0} (g : Ghosts S) (makes : Bool) (old asked new : Held S) (r : Result X DatabaseFault) → IsTrue makes
    → FindsParts g all_parts found.Nothing old asked → LeavesTablesOrNone g asked new → IfErr r TellsNoTables → IfErr r (FailsToMakeAll g asked new) → IfErr r (IsRefusedFor g makes old new)
refused_unmade g makes old asked new (Ok x) wanted finds leaves none fails = tt
refused_unmade g makes old asked new (Err fault) wanted finds leaves none fails =
    refused_elsewhere g makes old new fault none (inr (wanted, record { asked = asked; finds = finds; fails = fails; leaves = leaves }))

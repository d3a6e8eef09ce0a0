-- Where a reply stands in the journal that a run closed with.
use Rattle.std.proofs.Common.{◌≡◌, ◌∙◌, ℕ, Bool, true, false, cond, List, [], ◌∷◌, ◌++◌, map, length, take, drop, refl, sym, ap, subst}
use Rattle.std.specs.Prelude.{filter}
use Rattle.std.proofs.lemmas.List.{append-nil, take-append-drop}
use Rattle.std.proofs.Math.Seq.{take-append_seam}
use mathlib.Core.List.{IsPrefix}
use Rattle.logbook.specs.Pages.{Book}
use Rattle.hfs_model.specs.declared.call.Call.{Call}
use Rattle.hfs_model.specs.declared.reply.Reply.{Reply}
use Rattle.hfs_model.specs.declared.journal.Entry.{Entry}
use Rattle.hfs_model.specs.Volume.{Volume}
use Rattle.hfs_model.specs.Runs.{after}
use Rattle.hfs_check.specs.VolumeOf.{volume_of}
use Rattle.hfs_shared.specs.declared.item.Item.{Item}
use Rattle.hfs_shared.specs.declared.item.Item.TheVariants.{Opening, Change}
use Rattle.hfs_shared.specs.Journals.{IsLegal, is_accepted, changes, published}
use Rattle.hfs_shared.proofs.LawTypes.{PublishedIsAfter}
use Rattle.hfs_shared.specs.Lists.{shown}
use Rattle.hfs_shared.specs.Tolds.{ToldState}
use Rattle.hfs_shared.proofs.Prefixes.{prefix_trans}
use Rattle.hfs_shared.specs.Desks.{PassState, entry_of}
use Rattle.hfs_shared.specs.Plans.{Plan}
use Rattle.hfs_shared.specs.Shareds.{IsReplyOf, IsSomeCall}
use Rattle.hfs_runs.specs.Standing.{BeginsWith, Stands, is_change}
use Rattle.hfs_shared.proofs.Following.{changes_accepted, changes_other, changes-append}

-- ---- changes of a journal

abbrev changes_by : Bool → Entry → List Entry → List Item
changes_by accepted e es = map (λ (x : Entry). Change x.call) (cond accepted (e ∷ filter is_accepted es) (filter is_accepted es))

append_step : (e : Entry) (es fs : List Entry) → changes (es ++ fs) ≡ changes es ++ changes fs → (b : Bool) → is_accepted e ≡ b → changes (e ∷ es ++ fs) ≡ changes (e ∷ es) ++ changes fs
append_step e es fs same true is =
    changes_accepted e (es ++ fs) is ∙ ap (λ (l : List Item). Change e.call ∷ l) same ∙ ap (λ (l : List Item). l ++ changes fs) (sym (changes_accepted e es is))
append_step e es fs same false is = changes_other e (es ++ fs) is ∙ same ∙ ap (λ (l : List Item). l ++ changes fs) (sym (changes_other e es is))

-- a journal cut where its first part publishes these changes
record IsCut (journal : List Entry) (xs : List Item) : Type 0 where
  before : List Entry
  behind : List Entry
  whole : before ++ behind ≡ journal
  publishes : changes before ≡ xs

-- and the next entry is this change
record IsCutAt (journal : List Entry) (xs : List Item) (call : Call) : Type 0 where
  cut : IsCut journal xs
  next : BeginsWith call cut.behind

abbrev uncut : (journal : List Entry) → IsCut journal []
uncut journal = record { before = []; behind = journal; whole = refl; publishes = refl }

abbrev cut_accepted : (e : Entry) (journal : List Entry) (xs : List Item) → is_accepted e ≡ true → IsCut journal xs → IsCut (e ∷ journal) (Change e.call ∷ xs)
cut_accepted e journal xs is c = record {
  before = e ∷ c.before;
  behind = c.behind;
  whole = ap (λ (l : List Entry). e ∷ l) c.whole;
  publishes = changes_accepted e c.before is ∙ ap (λ (l : List Item). Change e.call ∷ l) c.publishes;
}

abbrev cut_other : (e : Entry) (journal : List Entry) (xs : List Item) → is_accepted e ≡ false → IsCut journal xs → IsCut (e ∷ journal) xs
cut_other e journal xs is c = record {
  before = e ∷ c.before;
  behind = c.behind;
  whole = ap (λ (l : List Entry). e ∷ l) c.whole;
  publishes = changes_other e c.before is ∙ c.publishes;
}

cut_step : (e : Entry) (journal : List Entry) (x : Item) (xs : List Item) → IsPrefix (x ∷ xs) (changes (e ∷ journal)) → (IsPrefix xs (changes journal) → IsCut journal xs)
    → (IsPrefix (x ∷ xs) (changes journal) → IsCut journal (x ∷ xs)) → (b : Bool) → is_accepted e ≡ b → IsCut (e ∷ journal) (x ∷ xs)
cut_step e journal x xs p rest whole true is =
    let same : x ∷ xs ++ p.0 ≡ Change e.call ∷ changes journal = p.1 ∙ changes_accepted e journal is in
    let head : Change e.call ≡ x = cc (same) in
    let tail : xs ++ p.0 ≡ changes journal = cc (same) in
    subst (λ (y : Item). IsCut (e ∷ journal) (y ∷ xs)) head (cut_accepted e journal xs is (rest (p.0, tail)))
cut_step e journal x xs p rest whole false is = cut_other e journal (x ∷ xs) is (whole (p.0, p.1 ∙ changes_other e journal is))

cut_for : (journal : List Entry) (xs : List Item) → IsPrefix xs (changes journal) → IsCut journal xs
cut_for [] [] p = uncut []
cut_for [] (x ∷ xs) p = absurd (cc (p.1))
cut_for (e ∷ journal) [] p = uncut (e ∷ journal)
cut_for (e ∷ journal) (x ∷ xs) p = cut_step e journal x xs p (λ q. cut_for journal xs q) (λ q. cut_for journal (x ∷ xs) q) (is_accepted e) refl

at_first : (e : Entry) (journal : List Entry) (call : Call) → IsPrefix (Change call ∷ []) (changes (e ∷ journal)) → (IsPrefix (Change call ∷ []) (changes journal) → IsCutAt journal [] call)
    → (b : Bool) → is_accepted e ≡ b → IsCutAt (e ∷ journal) [] call
at_first e journal call p whole true is =
    let same : Change call ∷ p.0 ≡ Change e.call ∷ changes journal = p.1 ∙ changes_accepted e journal is in
    record { cut = uncut (e ∷ journal); next = (e, journal, refl, cc (same), is) }
at_first e journal call p whole false is =
    let c = whole (p.0, p.1 ∙ changes_other e journal is) in
    record { cut = cut_other e journal [] is c.cut; next = c.next }

at_accepted : (e : Entry) (journal : List Entry) (xs : List Item) (call : Call) → is_accepted e ≡ true → IsCutAt journal xs call → IsCutAt (e ∷ journal) (Change e.call ∷ xs) call
at_accepted e journal xs call is c = record { cut = cut_accepted e journal xs is c.cut; next = c.next }

at_step : (e : Entry) (journal : List Entry) (x : Item) (xs : List Item) (call : Call) → IsPrefix (x ∷ xs ++ Change call ∷ []) (changes (e ∷ journal))
    → (IsPrefix (xs ++ Change call ∷ []) (changes journal) → IsCutAt journal xs call) → (IsPrefix (x ∷ xs ++ Change call ∷ []) (changes journal) → IsCutAt journal (x ∷ xs) call)
    → (b : Bool) → is_accepted e ≡ b → IsCutAt (e ∷ journal) (x ∷ xs) call
at_step e journal x xs call p rest whole true is =
    let same : x ∷ (xs ++ Change call ∷ []) ++ p.0 ≡ Change e.call ∷ changes journal = p.1 ∙ changes_accepted e journal is in
    let head : Change e.call ≡ x = cc (same) in
    let tail : (xs ++ Change call ∷ []) ++ p.0 ≡ changes journal = cc (same) in
    subst (λ (y : Item). IsCutAt (e ∷ journal) (y ∷ xs) call) head (at_accepted e journal xs call is (rest (p.0, tail)))
at_step e journal x xs call p rest whole false is =
    let c = whole (p.0, p.1 ∙ changes_other e journal is) in
    record { cut = cut_other e journal (x ∷ xs) is c.cut; next = c.next }

cut_at : (journal : List Entry) (xs : List Item) (call : Call) → IsPrefix (xs ++ Change call ∷ []) (changes journal) → IsCutAt journal xs call
cut_at [] [] call p = absurd (cc (p.1))
cut_at [] (x ∷ xs) call p = absurd (cc (p.1))
cut_at (e ∷ journal) [] call p = at_first e journal call p (λ q. cut_at journal [] call q) (is_accepted e) refl
cut_at (e ∷ journal) (x ∷ xs) call p = at_step e journal x xs call p (λ q. cut_at journal xs call q) (λ q. cut_at journal (x ∷ xs) call q) (is_accepted e) refl

-- ---- the volume at a cut

module _ (law : PublishedIsAfter) (opening : Volume) where
  shown_before : (before behind : List Entry) → IsLegal opening (before ++ behind) → shown (Opening opening ∷ changes before) ≡ after opening before
  shown_before before behind legal =
      let same : take (length before) (before ++ behind) ≡ before = take-append_seam before behind in
      ap (λ (es : List Entry). shown (Opening opening ∷ changes es)) (sym same) ∙ law opening (before ++ behind) (length before) legal ∙ ap (after opening) same

  -- two journals that publish the same have one volume
  same_volume : (a x b y : List Entry) → IsLegal opening (a ++ x) → IsLegal opening (b ++ y) → changes a ≡ changes b → after opening a ≡ after opening b
  same_volume a x b y legal_a legal_b same =
      sym (shown_before a x legal_a) ∙ ap (λ (l : List Item). shown (Opening opening ∷ l)) same ∙ shown_before b y legal_b

module _ (law : PublishedIsAfter) (base : List ℕ) (before journal : List Entry) (p : PassState) (c : Call) (r : Reply) (legal : IsLegal (volume_of base) (before ++ entry_of p c r ∷ []))
    (whole : IsLegal (volume_of base) journal) (is_reply : IsReplyOf base (after (volume_of base) before) c r) where
  stands_at : (cut : IsCut journal (changes before)) → (is_change c r ≡ true → BeginsWith c cut.behind) → Stands base journal c r
  stands_at cut next = record {
    before = cut.before;
    behind = cut.behind;
    whole = cut.whole;
    reply_is = subst (λ (v : Volume). IsReplyOf base v c r)
        (same_volume law (volume_of base) before (entry_of p c r ∷ []) cut.before cut.behind legal (subst (λ (es : List Entry). IsLegal (volume_of base) es) (sym cut.whole) whole)
        (sym cut.publishes)) is_reply;
    next = next;
  }

  pub stands_in : IsPrefix (changes (before ++ entry_of p c r ∷ [])) (changes journal) → Stands base journal c r
  stands_in begins = by_test (is_change c r) refl
    where
      by_test : (b : Bool) → is_change c r ≡ b → Stands base journal c r
      by_test true is =
          let grown : changes (before ++ entry_of p c r ∷ []) ≡ changes before ++ Change c ∷ [] =
          changes-append before (entry_of p c r ∷ []) ∙ ap (λ (l : List Item). changes before ++ l) (changes_accepted (entry_of p c r) [] is) in
          let at = cut_at journal (changes before) c (subst (λ (l : List Item). IsPrefix l (changes journal)) grown begins) in
          stands_at at.cut (λ same. at.next)
      by_test false is =
          let same : changes (before ++ entry_of p c r ∷ []) ≡ changes before =
          changes-append before (entry_of p c r ∷ []) ∙ ap (λ (l : List Item). changes before ++ l) (changes_other (entry_of p c r) [] is) ∙ append-nil (changes before) in
          let no : is_change c r ≡ true → ⊥ = λ yes. let two : true ≡ false = sym yes ∙ is in absurd (cc two) in
          stands_at (cut_for journal (changes before) (subst (λ (l : List Item). IsPrefix l (changes journal)) same begins)) (λ yes. absurd (no yes))

-- ---- what was told

-- a told list that covers all that was made has all its changes
told_changes : (opening : Volume) (es : List Entry) (n : ℕ) → n ≡ length es → published opening es n ≡ Opening opening ∷ changes es
told_changes opening es n is =
    let all : take n es ≡ es = ap (λ (k : ℕ). take k es) is ∙ ap (take (length es)) (sym (append-nil es)) ∙ take-append_seam es [] in
    ap (λ (l : List Entry). Opening opening ∷ changes l) all

changes_within : (journal : List Entry) (n : ℕ) → IsPrefix (changes (take n journal)) (changes journal)
changes_within journal n = (changes (drop n journal), sym (changes-append (take n journal) (drop n journal)) ∙ ap changes (take-append-drop n journal))

tail_begins : {A : Type 0} (x y : A) (xs ys : List A) → IsPrefix (x ∷ xs) (y ∷ ys) → IsPrefix xs ys
tail_begins x y xs ys p = (p.0, cc (p.1))

pub stands : PublishedIsAfter → (book : Book) (base : List ℕ) (plan : Plan) (journal : List Entry) (covered : ℕ) (seen last : List Item) (p q : PassState) (c : Call) (r : Reply) (t : ToldState)
    → IsLegal (volume_of base) journal → IsSomeCall book base plan p c r t q → t.shown ≡ t.made → IsPrefix t.list seen → IsPrefix seen last → last ≡ published (volume_of base) journal covered
    → Stands base journal c r
stands law book base plan journal covered seen last p q c r t legal made whole learned begins is =
    let opening = volume_of base in
    let before = made.0 in
    let call = made.1 in
    let es = before ++ entry_of p c r ∷ [] in
    let tells = call.told_is.tells in
    let number : t.shown ≡ length es = whole ∙ ap (λ (s : ToldState). s.made) tells in
    let list : t.list ≡ Opening opening ∷ changes es = ap (λ (s : ToldState). s.list) tells ∙ told_changes opening es t.shown number in
    let all : IsPrefix t.list (published opening journal covered) = subst (λ (l : List Item). IsPrefix t.list l) is (prefix_trans t.list seen last learned begins) in
    let same : IsPrefix (Opening opening ∷ changes es) (Opening opening ∷ changes (take covered journal)) = subst (λ (l : List Item). IsPrefix l (published opening journal covered)) list all in
    stands_in law base before journal p c r call.legal legal call.reply
    (prefix_trans (changes es) (changes (take covered journal)) (changes journal) (tail_begins (Opening opening) (Opening opening) (changes es) (changes (take covered journal)) same) (changes_within journal covered))

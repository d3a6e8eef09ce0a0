-- Steps that only remove in a folder.
use Rattle.std.proofs.Common.{◌≡◌, ◌≢◌, ℕ, List, [], ◌∷◌, ◌++◌, Option, Result, Ok, Err, ◌⊎◌, refl, sym, ap, ◌∙◌, subst, append_assoc, inl, inr}
use Rattle.std.specs.Prelude.{Bool, IfOk, MatchResult, false, true, if◌then◌else◌, String, string_bytes}
use Rattle.hfs_bag.specs.Laws.{HasNo, IsPart}
use Rattle.hfs_bag.specs.ShelfPaths.{path_within}
use Rattle.hfs_bag.specs.SystemSteps.{SystemStep, done, failed, made_folder, opened, wrote, timed, closed, moved, removed_file, found_folder, removed_folder, looked, listed, named}
use Rattle.hfs_bag.specs.Removals.{AreSteps, EndsRemoval, FailsAt, HasSince, IsFolderOrBelow, IsFolderOrFound, IsFoundBy, IsTakenAway, RemovesIn}
use Rattle.hfs_bag.specs.FileRemovals.{removal_of}
use Rattle.hfs_bag.specs.declared.system.Removal.{Removal}
use Rattle.hfs_bag.specs.declared.system.Removal.TheVariants as found
use Rattle.hfs_bag.specs.Listings.{HasEmptied, HasEmptiedTo, HasRemovedTo, ended_names, is_entry, listing, names_in, with_removal, with_removals}
use Rattle.hfs_bag.specs.Tries.{HasFoundNext, HasNextPlace, HasRemoved, HasTried, IsAround, is_stopped, path_below, place_at, some_of}
use Rattle.hfs_bag.specs.declared.removal.Tried.{Tried}
use Rattle.hfs_bag.specs.declared.removal.Tried.TheVariants as tried
use Rattle.hfs_bag.proofs.EntryLemmas.{AreEndedNames, ended_names-ended, entry_part, names_in-ended, names_left, name_here}
use Rattle.hfs_bag.proofs.PlaceLemmas.{below_twice, below_within}

-- ---- rows of steps

-- none, one more, and a row behind a row
pub since_none : (Fact : SystemStep → Type 0) (xs : List SystemStep) → HasSince Fact xs xs
since_none Fact xs = record { since = []; whole = refl; each = tt }

pub since_then : (Fact : SystemStep → Type 0) (old mid new : List SystemStep) (step : SystemStep) → HasSince Fact old mid → new ≡ step ∷ mid → Fact step → HasSince Fact old new
since_then Fact old mid new step h more fact =
    record { since = step ∷ h.since; whole = more ∙ ap (λ (xs : List SystemStep). step ∷ xs) h.whole; each = (fact, h.each) }

pub both : (Fact : SystemStep → Type 0) (xs ys : List SystemStep) → AreSteps Fact xs → AreSteps Fact ys → AreSteps Fact (xs ++ ys)
both Fact [] ys left right = right
both Fact (x ∷ xs) ys left right = (left.0, both Fact xs ys left.1 right)

pub since_trans : (Fact : SystemStep → Type 0) (old mid new : List SystemStep) → HasSince Fact old mid → HasSince Fact mid new → HasSince Fact old new
since_trans Fact old mid new h more = record {
  since = more.since ++ h.since;
  whole = more.whole ∙ ap (λ (xs : List SystemStep). more.since ++ xs) h.whole ∙ sym (append_assoc more.since h.since old);
  each = both Fact more.since h.since more.each h.each;
}

into_all : (Fact More : SystemStep → Type 0) (xs : List SystemStep) → ((step : SystemStep) → Fact step → More step) → AreSteps Fact xs → AreSteps More xs
into_all Fact More [] goes each = tt
into_all Fact More (x ∷ xs) goes each = (goes x each.0, into_all Fact More xs goes each.1)

since_into : (Fact More : SystemStep → Type 0) (old new : List SystemStep) → ((step : SystemStep) → Fact step → More step) → HasSince Fact old new → HasSince More old new
since_into Fact More old new goes h = record { since = h.since; whole = h.whole; each = into_all Fact More h.since goes h.each }

-- ---- what lies in what lies in a folder

removes_within : (folder inner : List ℕ) → IsFolderOrBelow folder inner → (step : SystemStep) → RemovesIn inner step → RemovesIn folder step
removes_within folder inner is (failed asked) fact = tt
removes_within folder inner is (done (made_folder path)) fact = absurd fact
removes_within folder inner is (done (opened new path)) fact = absurd fact
removes_within folder inner is (done (wrote bytes)) fact = absurd fact
removes_within folder inner is (done (timed time)) fact = tt
removes_within folder inner is (done closed) fact = tt
removes_within folder inner is (done (moved from to)) fact = absurd fact
removes_within folder inner is (done (removed_file path)) fact = below_twice folder inner path is fact
removes_within folder inner is (done (found_folder path)) fact = tt
removes_within folder inner is (done (removed_folder path)) fact = below_twice folder inner path is fact
removes_within folder inner is (done (looked path there)) fact = tt
removes_within folder inner is (done (listed path)) fact = tt
removes_within folder inner is (done (named bytes)) fact = tt

pub since_within : (folder inner : List ℕ) (old new : List SystemStep) → IsFolderOrBelow folder inner → HasSince (RemovesIn inner) old new → HasSince (RemovesIn folder) old new
since_within folder inner old new is h = since_into (RemovesIn inner) (RemovesIn folder) old new (removes_within folder inner is) h

-- ---- removing what names name

-- it removes in a folder, and no folder
abbrev pub Empties : List ℕ → SystemStep → Type 0
Empties folder step = RemovesIn folder step × ((path : List ℕ) → step ≢ done (removed_folder path))

pub emptied_only : (folder : List ℕ) (old new : List SystemStep) → HasSince (Empties folder) old new → HasSince (RemovesIn folder) old new
emptied_only folder old new h = since_into (Empties folder) (RemovesIn folder) old new (λ step fact. fact.0) h

pub steps_within : (folder place : List ℕ) (steps : List SystemStep) → IsFolderOrBelow folder place → AreSteps (Empties place) steps → AreSteps (RemovesIn folder) steps
steps_within folder place steps is each = into_all (Empties place) (RemovesIn folder) steps (λ step fact. removes_within folder place is step fact.0) each

removal_since : (folder name : List ℕ) (steps : List SystemStep) → HasNo 0 name → HasSince (Empties folder) steps (with_removal folder name steps)
removal_since folder name steps none = by_kind (is_entry name) refl
  where
    by_kind : (b : Bool) → is_entry name ≡ b → HasSince (Empties folder) steps (if b then done (removed_file (path_within folder name)) ∷ steps else steps)
    by_kind true is = since_then (Empties folder) steps steps _ (done (removed_file (path_within folder name))) (since_none (Empties folder) steps) refl
        (below_within folder folder name (inl refl) (entry_part name is none), λ path e. absurd (cc e))
    by_kind false is = since_none (Empties folder) steps

pub removals_since : (folder : List ℕ) (names : List (List ℕ)) (steps : List SystemStep) → AreEndedNames names → HasSince (Empties folder) steps (with_removals folder names steps)
removals_since folder [] steps ended = since_none (Empties folder) steps
removals_since folder (name ∷ names) steps ended =
    since_trans (Empties folder) steps (with_removal folder name steps) _ (removal_since folder name steps ended.0)
    (removals_since folder names (with_removal folder name steps) ended.1)

-- one name more
pub removals_then : (folder name : List ℕ) (names : List (List ℕ)) (steps : List SystemStep) → with_removals folder (names ++ name ∷ []) steps ≡ with_removal folder name (with_removals folder names steps)
removals_then folder name [] steps = refl
removals_then folder name (first ∷ names) steps = removals_then folder name names (with_removal folder first steps)

pub removed_then : (folder name : List ℕ) (names : List (List ℕ)) (old mid new : List SystemStep) → mid ≡ with_removals folder names old → new ≡ with_removals folder (name ∷ []) mid
    → new ≡ with_removals folder (names ++ name ∷ []) old
removed_then folder name names old mid new before is = is ∙ ap (with_removal folder name) before ∙ sym (removals_then folder name names old)

-- what an entry's removal is
removal_is : (folder name : List ℕ) (steps : List SystemStep) (b : Bool) → is_entry name ≡ b → with_removal folder name steps ≡ (if b then done (removed_file (path_within folder name)) ∷ steps else steps)
removal_is folder name steps b is = ap (λ (e : Bool). if e then done (removed_file (path_within folder name)) ∷ steps else steps) is

pub entry_removed : (folder name path : List ℕ) (old new : List SystemStep) → is_entry name ≡ true → path ≡ path_within folder name → new ≡ done (removal_of found.Gone path) ∷ old
    → new ≡ with_removals folder (name ∷ []) old
entry_removed folder name path old new entry at is =
    is ∙ ap (λ (p : List ℕ). done (removed_file p) ∷ old) at ∙ sym (removal_is folder name old true entry)

pub no_entry_removed : (folder name : List ℕ) (old : List SystemStep) → is_entry name ≡ false → old ≡ with_removals folder (name ∷ []) old
no_entry_removed folder name old none = sym (removal_is folder name old false none)

pub removed_to : (folder name : List ℕ) (old : List SystemStep) → is_entry name ≡ true → HasRemovedTo folder (name ∷ []) name old old
removed_to folder name old entry = record { before = []; behind = []; names_are = refl; is_one = entry; removed = refl }

-- a folder was found under a name
pub folder_found : (folder name told path : List ℕ) (old new : List SystemStep) → is_entry name ≡ true → told ≡ name → path ≡ path_within folder name → new ≡ done (found_folder path) ∷ old
    → (before : List SystemStep) × HasRemovedTo folder (name ∷ []) told old before × (new ≡ done (found_folder (path_within folder told)) ∷ before)
folder_found folder name told path old new entry same at is = (
  old,
  subst (λ (n : List ℕ). HasRemovedTo folder (name ∷ []) n old old) (sym same) (removed_to folder name old entry),
  is ∙ ap (λ (p : List ℕ). done (found_folder p) ∷ old) (at ∙ ap (path_within folder) (sym same)),
)

pub found_since : (folder path : List ℕ) (kind : Removal) (old new : List SystemStep) → new ≡ done (removal_of kind path) ∷ old → kind ≡ found.Folder → HasSince (RemovesIn folder) old new
found_since folder path kind old new is is_folder =
    since_then (RemovesIn folder) old old new (done (found_folder path)) (since_none (RemovesIn folder) old) (is ∙ ap (λ (k : Removal). done (removal_of k path) ∷ old) is_folder) tt

removed_to_since : (folder name : List ℕ) (names : List (List ℕ)) (old new : List SystemStep) → AreEndedNames names → HasRemovedTo folder names name old new → HasSince (Empties folder) old new
removed_to_since folder name names old new ended h =
    subst (HasSince (Empties folder) old) (sym h.removed) (removals_since folder h.before old (names_left h.before (name ∷ h.behind) (subst AreEndedNames h.names_are ended)))

pub names_since : (folder text : List ℕ) (first left : List (List ℕ)) (old new : List SystemStep) → ended_names text ≡ first ++ left → new ≡ with_removals folder first old → HasSince (RemovesIn folder) old new
names_since folder text first left old new whole is = emptied_only folder old new (
    subst (HasSince (Empties folder) old) (sym is) (removals_since folder first old (names_left first left (subst AreEndedNames whole (ended_names-ended text))))
    )

listing_since : (folder : List ℕ) (pieces : List (List ℕ)) (steps : List SystemStep) → HasSince (Empties folder) steps (listing folder pieces steps)
listing_since folder [] steps = since_then (Empties folder) steps steps _ (done (listed folder)) (since_none (Empties folder) steps) refl (tt, λ path e. absurd (cc e))
listing_since folder (piece ∷ pieces) steps =
    since_trans (Empties folder) steps (done (named piece) ∷ listing folder pieces steps) _
    (since_then (Empties folder) steps (listing folder pieces steps) _ (done (named piece)) (listing_since folder pieces steps) refl (tt, λ path e. absurd (cc e)))
    (removals_since folder (names_in piece) (done (named piece) ∷ listing folder pieces steps) (names_in-ended piece))

pub listed_since : (folder : List ℕ) (pieces : List (List ℕ)) (old new : List SystemStep) → new ≡ listing folder pieces old → HasSince (RemovesIn folder) old new
listed_since folder pieces old new is = emptied_only folder old new (subst (HasSince (Empties folder) old) (sym is) (listing_since folder pieces old))

pub piece_since : (folder piece : List ℕ) (pieces : List (List ℕ)) (old mid new : List SystemStep) → mid ≡ listing folder pieces old → new ≡ done (named piece) ∷ mid → HasSince (RemovesIn folder) old new
piece_since folder piece pieces old mid new listed-is is = since_then (RemovesIn folder) old mid new (done (named piece)) (listed_since folder pieces old mid listed-is) is tt

-- what was emptied was removed in the folder
pub emptied_since : (folder : List ℕ) (old new : List SystemStep) → HasEmptied folder old new → HasSince (Empties folder) old new
emptied_since folder old new (inl is) = since_then (Empties folder) old old new (failed (listed folder)) (since_none (Empties folder) old) is (tt, λ path e. absurd (cc e))
emptied_since folder old new (inr (pieces, inl is)) = since_then (Empties folder) old (listing folder pieces old) new (done (named [])) (listing_since folder pieces old) is (tt, λ path e. absurd (cc e))
emptied_since folder old new (inr (pieces, inr is)) = since_then (Empties folder) old (listing folder pieces old) new (failed (named [])) (listing_since folder pieces old) is (tt, λ path e. absurd (cc e))

pub emptied_to_since : (folder name : List ℕ) (old new : List SystemStep) → HasEmptiedTo folder name old new → HasSince (Empties folder) old new
emptied_to_since folder name old new h =
    since_trans (Empties folder) old (done (named h.piece) ∷ listing folder h.pieces old) new
    (since_then (Empties folder) old (listing folder h.pieces old) _ (done (named h.piece)) (listing_since folder h.pieces old) refl (tt, λ path e. absurd (cc e)))
    (removed_to_since folder name (names_in h.piece) (done (named h.piece) ∷ listing folder h.pieces old) new (names_in-ended h.piece) h.removed)

pub emptied_to_part : (folder name : List ℕ) (old new : List SystemStep) → HasEmptiedTo folder name old new → IsPart name
emptied_to_part folder name old new h =
    entry_part name h.removed.is_one (name_here name h.removed.before h.removed.behind (subst AreEndedNames h.removed.names_are (names_in-ended h.piece)))

-- ---- what was tried

-- up to a name in more names, or in a piece of a folder's
pub removed_further : (folder name : List ℕ) (first left all : List (List ℕ)) (old mid new : List SystemStep) → all ≡ first ++ left → mid ≡ with_removals folder first old → HasRemovedTo folder left name mid new
    → HasRemovedTo folder all name old new
removed_further folder name first left all old mid new whole before h = record {
  before = first ++ h.before;
  behind = h.behind;
  names_are = whole ∙ ap (λ (names : List (List ℕ)). first ++ names) h.names_are ∙ sym (append_assoc first h.before (name ∷ h.behind));
  is_one = h.is_one;
  removed = h.removed ∙ ap (with_removals folder h.before) before ∙ sym (removals_both first h.before old);
}
  where
    removals_both : (xs ys : List (List ℕ)) (steps : List SystemStep) → with_removals folder (xs ++ ys) steps ≡ with_removals folder ys (with_removals folder xs steps)
    removals_both [] ys steps = refl
    removals_both (x ∷ xs) ys steps = removals_both xs ys (with_removal folder x steps)

pub removed_among : (folder entry name : List ℕ) (first behind all : List (List ℕ)) (old mid new : List SystemStep) → all ≡ first ++ entry ∷ behind → mid ≡ with_removals folder first old
    → HasRemovedTo folder (entry ∷ []) name mid new → HasRemovedTo folder all name old new
removed_among folder entry name first behind all old mid new whole before h = removed_further folder name first (entry ∷ behind) all old mid new whole before (record {
  before = h.before;
  behind = h.behind ++ behind;
  names_are = ap (λ (names : List (List ℕ)). names ++ behind) h.names_are ∙ append_assoc h.before (name ∷ h.behind) behind;
  is_one = h.is_one;
  removed = h.removed;
})

pub emptied_so_far : (folder name piece : List ℕ) (names : List (List ℕ)) (pieces : List (List ℕ)) (old mid new : List SystemStep) → names ≡ names_in piece
    → mid ≡ done (named piece) ∷ listing folder pieces old → HasRemovedTo folder names name mid new → HasEmptiedTo folder name old new
emptied_so_far folder name piece names pieces old mid new text at h = record {
  piece = piece;
  pieces = pieces;
  removed = subst (λ (steps : List SystemStep). HasRemovedTo folder (names_in piece) name steps new) at (subst (λ (all : List (List ℕ)). HasRemovedTo folder all name mid new) text h);
}

-- what was stopped at one name stops all
pub stopped_behind : {E : Type 0} (folder : List ℕ) (IsGone IsAll : Type 0) (IsGoneTo IsAllTo : List ℕ → List SystemStep → Type 0) (old mid new : List SystemStep) (came : Result Tried E)
    → is_stopped came ≡ true → HasSince (RemovesIn folder) old mid → ((name : List ℕ) (before : List SystemStep) → IsGoneTo name before → IsAllTo name before)
    → MatchResult came (HasTried folder IsGone IsGoneTo new) (λ _. HasSince (RemovesIn folder) mid new) → MatchResult came (HasTried folder IsAll IsAllTo new) (λ _. HasSince (RemovesIn folder) old new)
stopped_behind folder IsGone IsAll IsGoneTo IsAllTo old mid new (Ok (tried.Folder name)) e h goes more = (more.0, goes (string_bytes name) more.0 more.1, more.2)
stopped_behind folder IsGone IsAll IsGoneTo IsAllTo old mid new (Ok tried.Gone) e h goes more = absurd (cc e)
stopped_behind folder IsGone IsAll IsGoneTo IsAllTo old mid new (Ok tried.Refused) e h goes more = (more.0, more.1, goes more.0 more.1 more.2, more.3)
stopped_behind folder IsGone IsAll IsGoneTo IsAllTo old mid new (Err x) e h goes more = since_trans (RemovesIn folder) old mid new h more

pub gone_so : {E : Type 0} (folder : List ℕ) (IsGone : Type 0) (IsGoneTo : List ℕ → List SystemStep → Type 0) (old new : List SystemStep) (came : Result Tried E) → is_stopped came ≡ false
    → MatchResult came (HasTried folder IsGone IsGoneTo new) (λ _. HasSince (RemovesIn folder) old new) → IsGone
gone_so folder IsGone IsGoneTo old new (Ok tried.Gone) e h = h
gone_so folder IsGone IsGoneTo old new (Ok (tried.Folder name)) e h = absurd (cc e)
gone_so folder IsGone IsGoneTo old new (Ok tried.Refused) e h = absurd (cc e)
gone_so folder IsGone IsGoneTo old new (Err x) e h = absurd (cc e)

-- ---- the next place

next_of : {Z E : Type 0} (folder inner : List ℕ) (old new : List SystemStep) (came : Result (String Z) E)
    → IfOk came (λ next. HasFoundNext folder inner (string_bytes next) old new ⊎ (HasRemoved (place_at folder inner) old new × IsAround inner (string_bytes next)))
    → HasSince (RemovesIn (place_at folder inner)) old new → MatchResult (some_of came) (HasNextPlace folder inner old new) (λ _. HasSince (RemovesIn (place_at folder inner)) old new)
next_of folder inner old new (Ok next) is h = is
next_of folder inner old new (Err e) is h = h

pub found_next : {Z E : Type 0} (folder inner place : List ℕ) (name : String Z) (came : Result (String Z) E) (told : Result (Option (String Z)) E) (old new before : List SystemStep)
    → place ≡ place_at folder inner → told ≡ some_of came → IfOk came (λ path. string_bytes path ≡ path_below inner (string_bytes name)) → HasEmptiedTo place (string_bytes name) old before
    → new ≡ done (found_folder (path_within place (string_bytes name))) ∷ before
    → MatchResult told (HasNextPlace folder inner old new) (λ _. HasSince (RemovesIn (place_at folder inner)) old new)
found_next {Z} {E} folder inner place name came told old new before at told-is path-is h is =
    subst (λ r. MatchResult r (HasNextPlace folder inner old new) (λ _. HasSince (RemovesIn (place_at folder inner)) old new)) (sym told-is)
    (next_of folder inner old new came (next_is came path-is) there)
  where
    there : HasSince (RemovesIn (place_at folder inner)) old new
    there = subst (λ (p : List ℕ). HasSince (RemovesIn p) old new) at (since_then (RemovesIn place) old before new (done (found_folder (path_within place (string_bytes name))))
        (emptied_only place old before (emptied_to_since place (string_bytes name) old before h)) is tt)

    next_is : (came : Result (String Z) E) → IfOk came (λ path. string_bytes path ≡ path_below inner (string_bytes name))
        → IfOk came (λ next. HasFoundNext folder inner (string_bytes next) old new ⊎ (HasRemoved (place_at folder inner) old new × IsAround inner (string_bytes next)))
    next_is (Ok next) same = inl (
      string_bytes name,
      same,
      before,
      subst (λ (p : List ℕ). HasEmptiedTo p (string_bytes name) old before) at h,
      is ∙ ap (λ (p : List ℕ). done (found_folder (path_within p (string_bytes name))) ∷ before) at,
    )
    next_is (Err e) same = tt

pub around_next : {Z E : Type 0} (folder inner place : List ℕ) (came : Result (String Z) E) (told : Result (Option (String Z)) E) (old new before : List SystemStep)
    → place ≡ place_at folder inner → told ≡ some_of came → IfOk came (λ around. IsAround inner (string_bytes around)) → HasEmptied place old before
    → new ≡ done (removed_folder place) ∷ before
    → MatchResult told (HasNextPlace folder inner old new) (λ _. HasSince (RemovesIn (place_at folder inner)) old new)
around_next {Z} {E} folder inner place came told old new before at told-is around-is h is =
    subst (λ r. MatchResult r (HasNextPlace folder inner old new) (λ _. HasSince (RemovesIn (place_at folder inner)) old new)) (sym told-is)
    (next_of folder inner old new came (next_is came around-is) there)
  where
    there : HasSince (RemovesIn (place_at folder inner)) old new
    there = subst (λ (p : List ℕ). HasSince (RemovesIn p) old new) at
        (since_then (RemovesIn place) old before new (done (removed_folder place)) (emptied_only place old before (emptied_since place old before h)) is (inl refl))

    next_is : (came : Result (String Z) E) → IfOk came (λ around. IsAround inner (string_bytes around))
        → IfOk came (λ next. HasFoundNext folder inner (string_bytes next) old new ⊎ (HasRemoved (place_at folder inner) old new × IsAround inner (string_bytes next)))
    next_is (Ok next) around =
        inr ((before, subst (λ (p : List ℕ). HasEmptied p old before) at h, is ∙ ap (λ (p : List ℕ). done (removed_folder p) ∷ before) at), around)
    next_is (Err e) around = tt

-- ---- a removal that ends

-- what is taken away was removed in the folder alone
pub taken_since : (folder : List ℕ) (old new : List SystemStep) → IsTakenAway folder old new → HasSince (RemovesIn folder) old new
taken_since folder old new l = since_trans (RemovesIn folder) old l.before new l.removes (ends_since l.ends)
  where
    found_is : (place : List ℕ) → IsFolderOrFound folder place old l.before → IsFolderOrBelow folder place
    found_is place (inl same) = inl same
    found_is place (inr there) = inr (there.0, there.1, there.2)

    fails_since : (place : List ℕ) → FailsAt place l.before new → HasSince (RemovesIn place) l.before new
    fails_since place (inl f) = since_then (RemovesIn place) l.before f.1 new (failed (removed_file (path_within place f.0))) (emptied_only place l.before f.1 (emptied_to_since place f.0 l.before f.1 f.2)) f.3 tt
    fails_since place (inr f) = since_then (RemovesIn place) l.before f.0 new (failed (removed_folder place)) (emptied_only place l.before f.0 (emptied_since place l.before f.0 f.1)) f.2 tt

    ends_since : EndsRemoval folder old l.before new → HasSince (RemovesIn folder) l.before new
    ends_since (inl is) = since_then (RemovesIn folder) l.before l.before new (done (removed_folder folder)) (since_none (RemovesIn folder) l.before) is (inl refl)
    ends_since (inr e) = since_within folder e.0 l.before new (found_is e.0 e.1) (fails_since e.0 e.2)

pub taken_behind : (folder : List ℕ) (old mid new : List SystemStep) → HasSince (RemovesIn folder) old mid → IsTakenAway folder mid new → IsTakenAway folder old new
taken_behind folder old mid new h l = record { before = l.before; removes = since_trans (RemovesIn folder) old mid l.before h l.removes; ends = ends_behind l.ends }
  where
    found_behind : (path : List ℕ) (since : List SystemStep) → IsFoundBy since path → IsFoundBy (since ++ h.since) path
    found_behind path [] there = absurd there
    found_behind path (step ∷ since) (inl is) = inl is
    found_behind path (step ∷ since) (inr there) = inr (there.0, found_behind path since there.1)

    place_behind : (place : List ℕ) → IsFolderOrFound folder place mid l.before → IsFolderOrFound folder place old l.before
    place_behind place (inl same) = inl same
    place_behind place (inr there) = inr (
      there.0,
      there.1,
      there.2,
      record {
        since = there.3.since ++ h.since;
        whole = there.3.whole ∙ ap (λ (xs : List SystemStep). there.3.since ++ xs) h.whole ∙ sym (append_assoc there.3.since h.since old);
        found = found_behind place there.3.since there.3.found;
      },
    )

    ends_behind : EndsRemoval folder mid l.before new → EndsRemoval folder old l.before new
    ends_behind (inl is) = inl is
    ends_behind (inr e) = inr (e.0, place_behind e.0 e.1, e.2)

pub ruleset removals = (since_none, taken_behind)

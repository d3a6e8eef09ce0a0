-- What is shown of what was found is shown of the image.
use Rattle.std.proofs.Common.{◌≡◌, ◌∙◌, ℕ, Bool, List, Option, None, Some, Result, Ok, Err, IfOk, refl, ap, subst}
use Rattle.std.proofs.KnownBytes.{Appends-nil}
use Rattle.std.specs.Io.KnownBytes.{Appends}
use Rattle.hfs_check.specs.declared.mount_fault.MountFault.{MountFault}
use Rattle.hfs_commands.specs.Checks.{IsCheckFault}
use Rattle.hfs_remains_forks.specs.declared.finds.Finds.{Finds}
use Rattle.hfs_remains_forks.specs.Finds.{IsFoundIn, is_found_right}
use Rattle.hfs_model.specs.declared.reply.Reply.{Reply}
use Rattle.hfs_image.specs.Known.{OfKnown}
use Rattle.hfs_remains_forks.specs.Verdicts.{all_used}
use Rattle.hfs_rescue_items.specs.declared.found.Found.{Found}
use Rattle.hfs_rescue_items.specs.Bytes.{taken_bytes}
use Rattle.hfs_rescue_items.specs.Writing.{WritesFrontOf, WritesOf}
use Rattle.hfs_rescue_items.specs.declared.paths.PathEnd.{PathEnd}
use Rattle.hfs_rescue_items.specs.declared.paths.PathEnd.TheVariants as end
use Rattle.hfs_rescue_items.specs.declared.rows.Selection.{Selection}
use Rattle.hfs_rescue_items.specs.declared.rows.Selection.TheVariants as selection
use Rattle.hfs_rescue_items.specs.Folders.{home_number}
use Rattle.hfs_rescue_items.specs.Forks.{whole_fork}
use Rattle.hfs_rescue_items.specs.Paths.{has_path, item_at, path_end}
use Rattle.hfs_rescue_items.specs.Rows.{child_row, found_row, selected_text}
use Rattle.hfs_space.specs.declared.fork_kind.ForkKind.{ForkKind}
use Rattle.hfs_source.specs.Seen.{EachKnown}
use Rattle.hfs_texts.specs.Writing.{AppendsFront}
use Rattle.hfs_word_rescue.specs.declared.words.RescueWords.{RescueWords}
use Rattle.hfs_word_rescue.specs.Answers.{answer_status}
use Rattle.hfs_word_rescue.specs.Found.{IsFoundOf}
use Rattle.hfs_word_rescue.specs.Shown.{OfEachFound, OfKnownFound, end_bytes, end_rows, folder_told, fork_told, found_status, told_whole}
use Rattle.hfs_word_rescue.specs.Words.{limit_of}
use Rattle.hfs_word_rescue.proofs.SameLemmas.{Fits, Values, fits, holding, same-values, same_mdb, same_seen, values}

-- ---- it is a function of the values that were found

pub record Shows : Type 0 where
  pub rows : Selection → List ℕ
  pub status : ℕ
  pub listed : List ℕ → List ℕ
  pub folder : List ℕ → Result ℕ Reply
  pub bytes : ForkKind → List ℕ → List ℕ
  pub fork : ForkKind → List ℕ → Result ℕ Reply

abbrev pub shows : List ℕ → Found → Shows
shows image found = record {
  rows = λ selected. selected_text selected found;
  status = found_status image found;
  listed = λ path. end_rows found (path_end found path);
  folder = λ path. folder_told image found (path_end found path);
  bytes = λ kind path. end_bytes image found kind (path_end found path);
  fork = λ kind path. fork_told found kind (path_end found path);
}

rows-holding : (image : List ℕ) (selected : Selection) (f g : Found) (v : Values) (p q : Fits v) → selected_text selected (holding f v p) ≡ selected_text selected (holding g v q)
unfolding selected_text found_row child_row
rows-holding image (selection.All format) f g v p q = refl
rows-holding image (selection.InFolder home) f g v p q = refl

rows-by : (image : List ℕ) (selected : Selection) (f g : Found) (v : Values) → values f ≡ v → (q : Fits v) → selected_text selected f ≡ selected_text selected (holding g v q)
rows-by image selected f g v same =
    subst (λ (w : Values). (q : Fits w) → selected_text selected f ≡ selected_text selected (holding g w q)) same (λ q. rows-holding image selected f g (values f) (fits f) q)

ends-holding : (image : List ℕ) (path : List ℕ) (f g : Found) (v : Values) (p q : Fits v) → path_end (holding f v p) path ≡ path_end (holding g v q) path
unfolding path_end item_at has_path
ends-holding image path f g v p q = refl

ends-by : (image : List ℕ) (path : List ℕ) (f g : Found) (v : Values) → values f ≡ v → (q : Fits v) → path_end f path ≡ path_end (holding g v q) path
ends-by image path f g v same =
    subst (λ (w : Values). (q : Fits w) → path_end f path ≡ path_end (holding g w q) path) same (λ q. ends-holding image path f g (values f) (fits f) q)

home-holding : (image : List ℕ) (k : ℕ) (f g : Found) (v : Values) (p q : Fits v) → home_number (holding f v p).places.now k ≡ home_number (holding g v q).places.now k
home-holding image k f g v p q = refl

home-by : (image : List ℕ) (k : ℕ) (f g : Found) (v : Values) → values f ≡ v → (q : Fits v) → home_number f.places.now k ≡ home_number (holding g v q).places.now k
home-by image k f g v same =
    subst (λ (w : Values). (q : Fits w) → home_number f.places.now k ≡ home_number (holding g w q).places.now k) same (λ q. home-holding image k f g (values f) (fits f) q)

taken-holding : (image : List ℕ) (kind : ForkKind) (k : ℕ) (f g : Found) (v : Values) (p q : Fits v) → taken_bytes image (holding f v p) kind k ≡ taken_bytes image (holding g v q) kind k
unfolding taken_bytes
taken-holding image kind k f g v p q = refl

taken-by : (image : List ℕ) (kind : ForkKind) (k : ℕ) (f g : Found) (v : Values) → values f ≡ v → (q : Fits v) → taken_bytes image f kind k ≡ taken_bytes image (holding g v q) kind k
taken-by image kind k f g v same =
    subst (λ (w : Values). (q : Fits w) → taken_bytes image f kind k ≡ taken_bytes image (holding g w q) kind k) same (λ q. taken-holding image kind k f g (values f) (fits f) q)

whole-holding : (image : List ℕ) (kind : ForkKind) (k : ℕ) (f g : Found) (v : Values) (p q : Fits v) → whole_fork (holding f v p) kind k ≡ whole_fork (holding g v q) kind k
unfolding whole_fork all_used
whole-holding image kind k f g v p q = refl

whole-by : (image : List ℕ) (kind : ForkKind) (k : ℕ) (f g : Found) (v : Values) → values f ≡ v → (q : Fits v) → whole_fork f kind k ≡ whole_fork (holding g v q) kind k
whole-by image kind k f g v same =
    subst (λ (w : Values). (q : Fits w) → whole_fork f kind k ≡ whole_fork (holding g w q) kind k) same (λ q. whole-holding image kind k f g (values f) (fits f) q)

module _ (image : List ℕ) (limit : ℕ) (f g : Found) (a : IsFoundOf image limit f) (b : IsFoundOf image limit g) where
  same-rows : (selected : Selection) → selected_text selected f ≡ selected_text selected g
  same-rows selected = rows-by image selected f g (values g) (same-values image limit f g a b) (fits g)

  same-ends : (path : List ℕ) → path_end f path ≡ path_end g path
  same-ends path = ends-by image path f g (values g) (same-values image limit f g a b) (fits g)

  same-home : (k : ℕ) → home_number f.places.now k ≡ home_number g.places.now k
  same-home k = home-by image k f g (values g) (same-values image limit f g a b) (fits g)

  same-taken : (kind : ForkKind) (k : ℕ) → taken_bytes image f kind k ≡ taken_bytes image g kind k
  same-taken kind k = taken-by image kind k f g (values g) (same-values image limit f g a b) (fits g)

  same-whole : (kind : ForkKind) (k : ℕ) → whole_fork f kind k ≡ whole_fork g kind k
  same-whole kind k = whole-by image kind k f g (values g) (same-values image limit f g a b) (fits g)

  same-status : found_status image f ≡ found_status image g
  same-status =
      let mdb = same_mdb image limit f g a b in
      let same = same_seen image limit f g a b in
      λ i. answer_status (is_found_right image (mdb i)) (same i).sums

  -- of any end of a path
  same-end-rows : (e : PathEnd) → end_rows f e ≡ end_rows g e
  same-end-rows end.Nothing = refl
  same-end-rows (end.File k) = refl
  same-end-rows (end.Folder k) = ap (λ (home : Option ℕ). selected_text (selection.InFolder home) f) (same-home k) ∙ same-rows (selection.InFolder (home_number g.places.now k))

  same-folder : (e : PathEnd) → folder_told image f e ≡ folder_told image g e
  same-folder end.Nothing = refl
  same-folder (end.File k) = refl
  same-folder (end.Folder k) = ap (λ (status : ℕ). Ok status) same-status

  same-end-bytes : (kind : ForkKind) (e : PathEnd) → end_bytes image f kind e ≡ end_bytes image g kind e
  same-end-bytes kind end.Nothing = refl
  same-end-bytes kind (end.File k) = same-taken kind k
  same-end-bytes kind (end.Folder k) = same-taken kind k

  same-fork : (kind : ForkKind) (e : PathEnd) → fork_told f kind e ≡ fork_told g kind e
  same-fork kind end.Nothing = refl
  same-fork kind (end.File k) = ap told_whole (same-whole kind k)
  same-fork kind (end.Folder k) = ap told_whole (same-whole kind k)

  same-shows : shows image f ≡ shows image g
  same-shows = λ i. record {
    rows = λ selected. same-rows selected i;
    status = same-status i;
    listed = λ path. (ap (end_rows f) (same-ends path) ∙ same-end-rows (path_end g path)) i;
    folder = λ path. (ap (folder_told image f) (same-ends path) ∙ same-folder (path_end g path)) i;
    bytes = λ kind path. (ap (end_bytes image f kind) (same-ends path) ∙ same-end-bytes kind (path_end g path)) i;
    fork = λ kind path. (ap (fork_told f kind) (same-ends path) ∙ same-fork kind (path_end g path)) i;
  }

-- ---- where the image's bytes are known

-- what is shown of what was found of it is shown of it
pub carried : (known : Option (List ℕ)) (len : ℕ) (words : RescueWords) (found : Found) → OfKnown known len (λ image. IsFoundOf image (limit_of words image) found)
    → (P : List ℕ → Shows → Type 0) → ((image : List ℕ) → known ≡ Some image → P image (shows image found)) → OfKnownFound known len words (λ image other. P image (shows image other))
carried None len words found is P given = tt
carried (Some image) len words found is P given = λ same other others. subst (P image) (same-shows image (limit_of words image) found other (is same) others) (given image refl)

-- and what stands on the image's fault
pub carried_by : (known : Option (List ℕ)) (len : ℕ) (words : RescueWords) (found : Found) → OfKnown known len (λ image. IsFoundOf image (limit_of words image) found)
    → (fault : Option MountFault) (finds : Finds) → OfKnown known len (IsCheckFault fault) → OfKnown known len (λ image. IsFoundIn image (Some finds))
    → (P : List ℕ → Shows → Type 0) → ((image : List ℕ) → IsCheckFault fault image → IsFoundIn image (Some finds) → P image (shows image found))
    → OfKnownFound known len words (λ image other. P image (shows image other))
carried_by None len words found is fault finds check finds_are P given = tt
carried_by (Some image) len words found is fault finds check finds_are P given = λ same other others.
    subst (P image) (same-shows image (limit_of words image) found other (is same) others) (given image (check same) (finds_are same))

-- what a result tells of what was found it tells of each image
pub told_by_each : {T E : Type 0} (result : Result T E) (F : Shows → T) (len : ℕ) (words : RescueWords) (found : Found) (Holds : List ℕ → Type 0)
    → EachKnown Holds (λ known. OfKnown known len (λ image. IsFoundOf image (limit_of words image) found)) → (fault : Option MountFault) (finds : Finds)
    → EachKnown Holds (λ known. OfKnown known len (IsCheckFault fault)) → EachKnown Holds (λ known. OfKnown known len (λ image. IsFoundIn image (Some finds)))
    → ((image : List ℕ) → IsCheckFault fault image → IsFoundIn image (Some finds) → IfOk result (λ told. told ≡ F (shows image found)))
    → IfOk result (λ told. OfEachFound Holds len words (λ image other. told ≡ F (shows image other)))
told_by_each (Ok told) F len words found Holds is fault finds check finds_are given = λ image h.
    carried_by (Some image) len words found (is image h) fault finds (check image h) (finds_are image h) (λ image s. told ≡ F s) given
told_by_each (Err e) F len words found Holds is fault finds check finds_are given = tt

-- the bytes of a fork at the end of a path that were written of what was found are those of the image
pub bytes_shown : (Holds : List ℕ → Type 0) (len : ℕ) (words : RescueWords) (found : Found)
    → EachKnown Holds (λ known. OfKnown known len (λ image. IsFoundOf image (limit_of words image) found))
    → (kind : ForkKind) (path : List ℕ) (last : PathEnd) → last ≡ path_end found path → (old new : Option (List ℕ)) → WritesOf Holds old new (λ image. end_bytes image found kind last)
    → OfEachFound Holds len words (λ image other. Appends old new (end_bytes image other kind (path_end other path)))
bytes_shown Holds len words found is kind path last leads old new written = λ image h same other others.
    subst (λ (s : Shows). Appends old new (s.bytes kind path)) (same-shows image (limit_of words image) found other (is image h same) others)
    (subst (λ (e : PathEnd). Appends old new (end_bytes image found kind e)) leads (written image h))

pub front_shown : (Holds : List ℕ → Type 0) (len : ℕ) (words : RescueWords) (found : Found)
    → EachKnown Holds (λ known. OfKnown known len (λ image. IsFoundOf image (limit_of words image) found))
    → (kind : ForkKind) (path : List ℕ) (last : PathEnd) → last ≡ path_end found path → (old new : Option (List ℕ)) → WritesFrontOf Holds old new (λ image. end_bytes image found kind last)
    → OfEachFound Holds len words (λ image other. AppendsFront old new (end_bytes image other kind (path_end other path)))
front_shown Holds len words found is kind path last leads old new front = λ image h same other others.
    subst (λ (s : Shows). AppendsFront old new (s.bytes kind path)) (same-shows image (limit_of words image) found other (is image h same) others)
    (subst (λ (e : PathEnd). AppendsFront old new (end_bytes image found kind e)) leads (front image h))

-- nothing was written yet
pub nothing_shown : (known : Option (List ℕ)) (len : ℕ) (words : RescueWords) (now : Option (List ℕ)) (text : List ℕ → Found → List ℕ)
    → OfKnownFound known len words (λ image found. AppendsFront now now (text image found))
nothing_shown None len words now text = tt
nothing_shown (Some image) len words now text = λ same found is. (0, Appends-nil now)

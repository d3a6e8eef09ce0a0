-- What is found by the needed blocks of an image is what is found of the image, where its bytes are known.
use Rattle.std.proofs.Common.{◌≡◌, ⊎_elim, ℕ, ◌/◌, ◌≤◌, ◌<◌, Bool, true, false, if◌then◌else◌, List, length, Option, Some, None, refl, sym, ap, subst, ◌∙◌}
use Rattle.std.specs.Option.{is_none, option_map}
use Rattle.hfs_fields.specs.declared.mdb.Mdb.{Mdb}
use Rattle.hfs_blocks.specs.Blocks.{block_at, block_count}
use Rattle.std.proofs.lemmas.Bool.{cases_lt}
use Rattle.hfs_check.specs.declared.mount_fault.MountFault.{MountFault}
use Rattle.hfs_check.specs.declared.mount_fault.MountFault.TheVariants as fault
use Rattle.hfs_check.specs.Faults.{length_fault}
use Rattle.hfs_check.specs.Parts.{Blocks}
use Rattle.hfs_image.specs.Known.{OfKnown}
use Rattle.hfs_image.proofs.Reported.{length-large, length-short}
use Rattle.hfs_source.specs.Seen.{EachKnown, IsSeen}
use Rattle.hfs_source.specs.Sparse.{sparse}
use Rattle.hfs_source.proofs.SparseLemmas.{each-of}
use Rattle.hfs_remains.specs.Directory.{directory_in, directory_of, mdb_at, usual_directory}
use Rattle.hfs_remains_forks.specs.declared.finds.Finds.{Finds}
use Rattle.hfs_remains_forks.specs.declared.gathering.Gathered.{Gathered}
use Rattle.hfs_remains_forks.specs.Finds.{AreFindsBy, IsFoundIn}
use Rattle.hfs_remains_forks.specs.Needed.{AreFound, FindSame, needed_of_finds, wants_all}
use Rattle.hfs_remains_forks.specs.NeededFinds.{IsGathered}
use Rattle.hfs_remains_forks.proofs.GatherLemmas.{none-wants}
use Rattle.hfs_remains_forks.proofs.SameFinds.{directory-usual, find-same}

-- ---- an image's length

directory-right : (image : List ℕ) → length_fault (length image) ≡ None → directory_of image ≡ directory_in (block_count image) (block_at image)
unfolding directory_of
directory-right image right = ap (λ (f : Option MountFault). if is_none f then directory_in (block_count image) (block_at image) else None) right

directory-wrong : (image : List ℕ) (why : MountFault) → length_fault (length image) ≡ Some why → directory_of image ≡ None
unfolding directory_of
directory-wrong image why wrong = ap (λ (f : Option MountFault). if is_none f then directory_in (block_count image) (block_at image) else None) wrong

-- nothing is found of an image that has not the length of a volume
nothing-found : (known : Option (List ℕ)) (len : ℕ) (why : MountFault) → length_fault len ≡ Some why → OfKnown known len (λ image. IsFoundIn image None)
nothing-found None len why wrong = tt
nothing-found (Some image) len why wrong = λ same. ap (option_map (mdb_at (block_at image))) (directory-wrong image why (ap length_fault same ∙ wrong))

pub outside-found : (known : Option (List ℕ)) (len : ℕ) → (1536 ≤ len → len ≤ 2147483648 → ⊥) → OfKnown known len (λ image. IsFoundIn image None)
outside-found known len outside =
    ⊎_elim
    (λ (large : 2147483648 < len). nothing-found known len fault.TooLarge (length-large len large))
    (λ (few : len ≤ 2147483648). ⊎_elim
    (λ (short : len < 1536). nothing-found known len fault.Short (length-short len few short))
    (λ (enough : 1536 ≤ len). absurd (outside enough few))
    (cases_lt len 1536))
    (cases_lt 2147483648 len)

-- ---- what was gathered

-- what was gathered is of each image of which what was read is
pub gathered-each : {Holds : List ℕ → Type 0} {known : Option (List ℕ)} {total : ℕ} {gathered : Gathered} → IsGathered known total gathered → IsSeen Holds gathered.read
    → EachKnown Holds (λ some. IsGathered some total gathered)
gathered-each is seen = λ image h. record { needed = is.needed; of = seen image h; directory = is.directory }

some-none : (n : ℕ) → None ≡ Some n → ⊥
some-none n e = cc

-- no other blocks are wanted where there is a directory
wants-none : (wants : Bool) (usual : Option ℕ) (n : ℕ) → (if wants then None else usual) ≡ Some n → wants ≡ false
wants-none true usual n e = absurd (some-none n e)
wants-none false usual n e = refl

usual-some : (wants : Bool) (usual : Option ℕ) (n : ℕ) → (if wants then None else usual) ≡ Some n → usual ≡ Some n
usual-some true usual n e = absurd (some-none n e)
usual-some false usual n e = e

module _ (known : Option (List ℕ)) (total : ℕ) (gathered : Gathered) (is : IsGathered known total gathered) where
  pub found-usual : (n : ℕ) → gathered.directory ≡ Some n → usual_directory total (sparse gathered.read) ≡ Some n
  found-usual n e = usual-some (wants_all total (sparse gathered.read)) (usual_directory total (sparse gathered.read)) n (sym is.directory ∙ e)

  found-alone : (n : ℕ) → gathered.directory ≡ Some n → wants_all total (sparse gathered.read) ≡ false
  found-alone n e = wants-none (wants_all total (sparse gathered.read)) (usual_directory total (sparse gathered.read)) n (sym is.directory ∙ e)

  -- by the directory of what was read
  found-read : (n : ℕ) (mdb : Mdb) (finds : Finds) → gathered.directory ≡ Some n → mdb ≡ mdb_at (sparse gathered.read) n → finds.mdb ≡ mdb
      → AreFindsBy (Some n) total (sparse gathered.read) finds → AreFound total (sparse gathered.read) finds
  found-read n mdb finds e fields own are =
      let directory : directory_in total (sparse gathered.read) ≡ Some n = directory-usual total (sparse gathered.read) n (found-usual n e) in
      record {
        mdb = ap (option_map (mdb_at (sparse gathered.read))) directory ∙ ap Some (sym (own ∙ fields));
        are = subst (λ (o : Option ℕ). AreFindsBy o total (sparse gathered.read) finds) (sym directory) are;
      }

same-needed : (image : List ℕ) (total : ℕ) (gathered : Gathered) → IsGathered (Some image) total gathered → FindSame total (sparse gathered.read) (block_at image)
same-needed image total gathered is =
    find-same total (sparse gathered.read) (block_at image) (each-of image gathered.read is.of (needed_of_finds total (sparse gathered.read)) is.needed)

-- what was found is found of the image
pub needed-found : (known : Option (List ℕ)) (len : ℕ) → length_fault len ≡ None → (gathered : Gathered) → IsGathered known (len / 512) gathered
    → (n : ℕ) (mdb : Mdb) (finds : Finds) → gathered.directory ≡ Some n → mdb ≡ mdb_at (sparse gathered.read) n → finds.mdb ≡ mdb
    → AreFindsBy (Some n) (len / 512) (sparse gathered.read) finds → OfKnown known len (λ image. IsFoundIn image (Some finds))
needed-found None len right gathered is n mdb finds e fields own are = tt
needed-found (Some image) len right gathered is n mdb finds e fields own are = λ same.
    let total = len / 512 in
    let found : AreFound total (block_at image) finds =
    (same-needed image total gathered is).found (found-alone (Some image) total gathered is n e) finds (found-read (Some image) total gathered is n mdb finds e fields own are) in
    let count : block_count image ≡ total = ap (λ (k : ℕ). k / 512) same in
    let directory : directory_of image ≡ directory_in total (block_at image) =
    directory-right image (ap length_fault same ∙ right) ∙ ap (λ (k : ℕ). directory_in k (block_at image)) count in (
      ap (option_map (mdb_at (block_at image))) directory ∙ found.mdb,
      subst (λ (o : Option ℕ). AreFindsBy o (block_count image) (block_at image) finds) (sym directory)
          (subst (λ (k : ℕ). AreFindsBy (directory_in total (block_at image)) k (block_at image) finds) (sym count) found.are),
    )

-- where there is no directory, other blocks of the image are wanted
pub needed-whole : (known : Option (List ℕ)) (len : ℕ) (gathered : Gathered) → IsGathered known (len / 512) gathered → gathered.directory ≡ None
    → OfKnown known len (λ image. wants_all (block_count image) (block_at image) ≡ true)
needed-whole None len gathered is none = tt
needed-whole (Some image) len gathered is none = λ same.
    let total = len / 512 in
    ap (λ (k : ℕ). wants_all (k / 512) (block_at image)) same ∙ (same-needed image total gathered is).all
    ∙ wanted total (sparse gathered.read) (sym is.directory ∙ none)
  where
    some-there : (n : ℕ) → Some n ≡ None → ⊥
    some-there n e = cc

    wanted : (total : ℕ) (blocks : Blocks) → (if wants_all total blocks then None else usual_directory total blocks) ≡ None → wants_all total blocks ≡ true
    wanted total blocks e = by (wants_all total blocks) refl (usual_directory total blocks) refl e
      where
        by : (w : Bool) → wants_all total blocks ≡ w → (u : Option ℕ) → usual_directory total blocks ≡ u → (if w then None else u) ≡ None → wants_all total blocks ≡ true
        by true wants u usual e = wants
        by false wants None usual e = none-wants total blocks usual
        by false wants (Some n) usual e = absurd (some-there n e)

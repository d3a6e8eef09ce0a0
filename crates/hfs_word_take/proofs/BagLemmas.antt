-- Bags of images.
use Rattle.std.proofs.Common.{◌≡◌, ℕ, Bool, true, false, List, [], ◌∷◌, ◌++◌, Option, Some, None, ap, refl, sym, subst, ◌∙◌}
use Rattle.std.specs.Option.{is_some}
use Rattle.std.specs.Prelude.{codes}
use Rattle.std.specs.Borrow.{Bor}
use Rattle.std.specs.Fmt.{decimal}
use Rattle.hfs_bag.specs.declared.facts.BagFacts.{BagFacts}
use Rattle.hfs_bag.specs.Bags.{bytes_in, files_in, manifest, payload}
use Rattle.hfs_bag.specs.Items.{BagItem}
use Rattle.hfs_bag.specs.Tags.{bytes_key, declaration_file, directory_line, info_text, manifest_file, oxum_text, source_digest_line, table_file, tag_files, volume_line}
use Rattle.hfs_bag.proofs.Growing.{part_first}
use Rattle.hfs_bag.specs.Entries.{IsBeginning, ShelfEntry, file}
use Rattle.hfs_bag.proofs.Beginnings.{begins_appended}
use Rattle.hex.specs.Hex.{encode_lower}
use Rattle.hfs_texts.specs.Lines.{line}
use Rattle.hfs_word_take.specs.Items.{bag_items, entries_in, table_text}
use Rattle.hfs_items.specs.ToldRows.{told_rows}
use Rattle.hfs_word_take.specs.declared.words.TakeWords.{TakeWords}
use Rattle.hfs_word_take.specs.Bags.{IsDigestBeside, OfBag, TellsOf, digest_told, image_bag, text_in}

-- ---- what tells the same makes the same bag

abbrev pub line_told : Option (List ℕ) → List ℕ
line_told None = []
line_told (Some told) = line (codes "Source-Volume:") told

pub volume_line_is : (volume : Option (Bor (List ℕ))) → volume_line volume ≡ line_told (text_in volume)
volume_line_is None = refl
volume_line_is (Some told) = refl

abbrev pub directory_told : Option (List ℕ) → List ℕ
directory_told None = []
directory_told (Some told) = line (codes "Source-Directory:") told

pub directory_line_is : (directory : Option (Bor (List ℕ))) → directory_line directory ≡ directory_told (text_in directory)
directory_line_is None = refl
directory_line_is (Some told) = refl

abbrev pub bytes_told : Option (List ℕ) → ℕ → List ℕ
bytes_told None bytes = line (codes "Source-Bytes:") (decimal bytes)
bytes_told (Some told) bytes = line (codes "Source-Volume-Bytes:") (decimal bytes)

pub bytes_line_is : (volume : Option (Bor (List ℕ))) (bytes : ℕ) → line (bytes_key volume) (decimal bytes) ≡ bytes_told (text_in volume) bytes
bytes_line_is None bytes = refl
bytes_line_is (Some told) bytes = refl

abbrev pub digest_line_told : Option (List ℕ) → Option (List ℕ) → List ℕ
digest_line_told volume None = []
digest_line_told None (Some digest) = line (codes "Source-SHA256:") (encode_lower digest)
digest_line_told (Some told) (Some digest) = line (codes "Source-Volume-SHA256:") (encode_lower digest)

pub digest_line_is : (volume : Option (Bor (List ℕ))) (digest : Option (List ℕ)) → source_digest_line volume digest ≡ digest_line_told (text_in volume) digest
digest_line_is None None = refl
digest_line_is None (Some digest) = refl
digest_line_is (Some told) None = refl
digest_line_is (Some told) (Some digest) = refl

-- the text of a bag's facts, by what these tell
abbrev info-with : List ℕ → List ℕ → List ℕ → Option (List ℕ) → Option (List ℕ) → ℕ → Option (List ℕ) → List ℕ → List ℕ
info-with identifier program image volume directory len digest oxum = line (codes "External-Identifier:") identifier
    ++ line (codes "Bag-Software-Agent:") program
    ++ line (codes "Source-Image:") image
    ++ line_told volume
    ++ directory_told directory
    ++ bytes_told volume len
    ++ digest_line_told volume digest
    ++ line (codes "Payload-Oxum:") oxum

info-is : (f : BagFacts) (bytes files : ℕ) → info_text f bytes files
    ≡ info-with f.identifier.now f.program.now f.image.now (text_in f.volume) (text_in f.directory) f.bytes f.digest (oxum_text bytes files)
unfolding info_text
info-is f bytes files = λ i. line (codes "External-Identifier:") f.identifier.now
    ++ line (codes "Bag-Software-Agent:") f.program.now
    ++ line (codes "Source-Image:") f.image.now
    ++ volume_line_is f.volume i
    ++ directory_line_is f.directory i
    ++ bytes_line_is f.volume f.bytes i
    ++ digest_line_is f.volume f.digest i
    ++ line (codes "Payload-Oxum:") (oxum_text bytes files)

pub info_same : (f g : BagFacts) → f.identifier.now ≡ g.identifier.now → f.program.now ≡ g.program.now → f.image.now ≡ g.image.now → text_in f.volume ≡ text_in g.volume
    → text_in f.directory ≡ text_in g.directory → f.bytes ≡ g.bytes → f.digest ≡ g.digest → (bytes files : ℕ) → info_text f bytes files ≡ info_text g bytes files
info_same f g identifier program image volume directory len digest bytes files =
    info-is f bytes files
    ∙ (λ i. info-with (identifier i) (program i) (image i) (volume i) (directory i) (len i) (digest i) (oxum_text bytes files))
    ∙ sym (info-is g bytes files)

-- a bag by the texts of its report and of its facts
abbrev bag-with : List BagItem → List ℕ → List ℕ → List ℕ → List ShelfEntry
bag-with items table report info = payload items ++
    (manifest_file items ∷ table_file table ∷ file (codes "volume.txt") None report ∷ file (codes "bag-info.txt") None info ∷ declaration_file
    ∷ file (codes "tagmanifest-sha256.txt") None
    (manifest (declaration_file ∷ file (codes "bag-info.txt") None info ∷ table_file table ∷ file (codes "volume.txt") None report ∷ manifest_file items ∷ [])) ∷ [])

bag-same : (image : List ℕ) (line : Option (List ℕ)) (words : TakeWords) (digest : Option (List ℕ)) (f g : BagFacts) → TellsOf image line words digest f
    → TellsOf image line words digest g → image_bag image f ≡ image_bag image g
bag-same image told words digest f g a b =
    let items = bag_items (entries_in image) in
    let info = info_same f g (a.identifier_is ∙ sym b.identifier_is) (a.program_is ∙ sym b.program_is) (a.image_is ∙ sym b.image_is) (a.volume_is ∙ sym b.volume_is)
    (a.directory_is ∙ sym b.directory_is) (a.bytes_are ∙ sym b.bytes_are) (a.digest_is ∙ sym b.digest_is) (bytes_in (payload items)) (files_in (payload items)) in
    λ i. bag-with items (table_text (told_rows (entries_in image))) ((a.report_is ∙ sym b.report_is) i) (info i)

-- ---- what was given of an image's bag

-- what holds of the bag that these facts make holds of each that tells the same
pub of_facts : (image : List ℕ) (line : Option (List ℕ)) (words : TakeWords) (Beside : List ℕ → Type 0) (digest : Option (List ℕ)) (facts : BagFacts)
    (P : List ShelfEntry → Type 0) → IsDigestBeside Beside words.is_digested image digest → TellsOf image line words digest facts
    → P (image_bag image facts) → OfBag line words Beside P image
of_facts image line words Beside digest facts P is tells given =
    (digest, is, λ other told. subst P (bag-same image line words digest facts other tells told) given)

-- of a bag that isn't whole the digest may be the image's
digest-asked : (is_digested : Bool) (image : List ℕ) → is_some (digest_told is_digested image) ≡ is_digested
digest-asked true image = refl
digest-asked false image = refl

pub digest_told_is : (Beside : List ℕ → Type 0) (is_digested : Bool) (image : List ℕ) (told : Option (List ℕ)) → told ≡ digest_told is_digested image
    → IsDigestBeside Beside is_digested image told
digest_told_is Beside is_digested image told is = record { there = ap is_some is ∙ digest-asked is_digested image; is = λ beside. is }

-- a part of the payload was given
pub payload_part : (image : List ℕ) (line : Option (List ℕ)) (words : TakeWords) (Beside : List ℕ → Type 0) (given now : List ShelfEntry)
    → IsBeginning now (given ++ payload (bag_items (entries_in image))) → OfBag line words Beside (λ bag. IsBeginning now (given ++ bag)) image
payload_part image line words Beside given now part =
    let items = bag_items (entries_in image) in (
      digest_told words.is_digested image,
      digest_told_is Beside words.is_digested image (digest_told words.is_digested image) refl,
      λ facts told. part_first given now (payload items) (tag_files items (record { items = table_text (told_rows (entries_in image)); remains = None }) facts) part,
    )

-- nothing of a bag was given
pub nothing_given : (image : List ℕ) (line : Option (List ℕ)) (words : TakeWords) (Beside : List ℕ → Type 0) (given : List ShelfEntry)
    → OfBag line words Beside (λ bag. IsBeginning given (given ++ bag)) image
nothing_given image line words Beside given = (
  digest_told words.is_digested image,
  digest_told_is Beside words.is_digested image (digest_told words.is_digested image) refl,
  λ facts told. begins_appended given (image_bag image facts),
)

-- What a file is, by the bytes at its known places. Where several say something, the first of them counts.
use Rattle.std.specs.Prelude.{ℕ, Bool, ◌&&◌, ◌||◌, ◌==◌, nat_le, List, [], ◌∷◌, length, take, codes, bytes_eq, slice_index, Option, None, Some, if◌then◌else◌}
use Rattle.std.specs.List.{list_any}
use Rattle.std.specs.Option.{option_or}
use Rattle.hfs_console.specs.declared.kind.Kind.{Kind}
use Rattle.hfs_console.specs.declared.kind.Kind.TheVariants as kind
use Rattle.hfs_console.specs.declared.glance.Glance.{Glance}

-- a piece begins with a sign of at most sixteen bytes
unfoldable pub begins : List ℕ → List ℕ → Bool
begins sign piece = nat_le (length sign) 16 && bytes_eq (take (length sign) piece) sign

-- one of the types is this one
unfoldable pub has_type : ℕ → List ℕ → Bool
has_type wanted types = list_any (λ type. type == wanted) types

-- a volume's directory at 1,024, or the descriptor of a CD at 32,769
unfoldable pub volume_kind : List ℕ → List ℕ → Option Kind
volume_kind directory descriptor =
    if begins (codes "H+") directory || begins (codes "HX") directory then Some kind.HfsPlus
    else (if begins (210 ∷ 215 ∷ []) directory then Some kind.Mfs
    else (if begins (codes "CD001") descriptor then Some kind.Iso9660 else None))

unfoldable pub archive_kind : List ℕ → Option Kind
archive_kind first =
    if begins (codes "SIT!") first || begins (codes "StuffIt (c)") first then Some kind.StuffIt
    else (if begins (80 ∷ 75 ∷ 3 ∷ 4 ∷ []) first then Some kind.Zip
    else (if begins (31 ∷ 139 ∷ []) first then Some kind.Gzip else None))

-- PNG, JPEG and GIF, or an archive
unfoldable pub packed_kind : List ℕ → Option Kind
packed_kind first =
    if begins (137 ∷ 80 ∷ 78 ∷ 71 ∷ 13 ∷ 10 ∷ 26 ∷ 10 ∷ []) first || begins (255 ∷ 216 ∷ 255 ∷ []) first then Some kind.Picture
    else (if begins (codes "GIF87a") first || begins (codes "GIF89a") first then Some kind.Picture else archive_kind first)

-- at 69 of a MacBinary file, or among the Finder's bytes in the AppleDouble file next to it
unfoldable pub creator_kind : List ℕ → Option Kind
creator_kind creator =
    if begins (codes "DART") creator then Some kind.Dart
    else (if begins (codes "CPCT") creator then Some kind.CompactPro else None)

-- a zero, a name of 1 to 63 characters, a zero at 74
unfoldable pub is_macbinary : List ℕ → List ℕ → Bool
is_macbinary first creator =
    (slice_index first 0 == 0) && nat_le 1 (slice_index first 1) && nat_le (slice_index first 1) 63 && (slice_index creator 5 == 0)

-- by the creator, or by the first bytes of the data fork
unfoldable pub fork_kind : Glance → Option Kind
fork_kind glance =
    if is_macbinary glance.first glance.creator then option_or (creator_kind glance.creator) (packed_kind glance.fork) else None

unfoldable pub beginning_kind : Glance → Option Kind
beginning_kind glance = option_or (packed_kind glance.first) (fork_kind glance)

-- by what it says itself, or by the creator next to it
unfoldable pub told_kind : Glance → Option Kind
told_kind glance = option_or (beginning_kind glance) (creator_kind glance.beside.creator)

-- none where an HFS volume begins; else the trailer of a disk image, a resource `bcem` in the file or next to it, and then what is at the beginning
unfoldable pub kind_of : Glance → Option Kind
kind_of glance =
    if begins (codes "BD") glance.directory then None
    else (if begins (codes "koly") glance.trailer then Some kind.Udif
    else (if has_type 1650681197 glance.types || has_type 1650681197 glance.beside.types then Some kind.Ndif
    else option_or (volume_kind glance.directory glance.descriptor) (told_kind glance)))

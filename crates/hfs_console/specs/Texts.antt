-- What a file is, and the program of Debian that opens it, as a noun.
use Rattle.std.specs.Prelude.{ℕ, List, codes}
use Rattle.hfs_console.specs.declared.kind.Kind.{Kind}
use Rattle.hfs_console.specs.declared.kind.Kind.TheVariants as kind

unfoldable pub kind_text : Kind → List ℕ
kind_text kind.HfsPlus = codes "an HFS Plus volume, which 7z (package 7zip) opens"
kind_text kind.Mfs = codes "an MFS volume, of the format before HFS"
kind_text kind.Iso9660 = codes "an ISO 9660 CD, which 7z (package 7zip) opens"
kind_text kind.Udif = codes "a disk image of Mac OS X (UDIF), of which dmg2img makes a plain one"
kind_text kind.Ndif = codes "a compressed disk image of Disk Copy 6 (NDIF)"
kind_text kind.Dart = codes "a disk archive of DART"
kind_text kind.Gzip = codes "a file that gzip compressed; gunzip takes it out"
kind_text kind.Zip = codes "a zip archive; unzip takes its files out"
kind_text kind.StuffIt = codes "a StuffIt archive; unar takes its files out"
kind_text kind.CompactPro = codes "a Compact Pro archive; unar takes its files out"
kind_text kind.Picture = codes "a picture"

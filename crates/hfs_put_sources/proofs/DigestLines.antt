-- A manifest's line, as it is parted.
use Rattle.std.proofs.Common.{◌≡◌, ◌∙◌, sym, ap, ℕ, ◌<◌, ◌≤◌, true, false, ◌&&◌, List, length, take, drop, Option, None, codes}
use Rattle.std.specs.Prelude.{if◌then◌else◌, bytes_eq}
use Rattle.std.proofs.lemmas.Bool.{and_from, le-leb, lt-leb}
use Rattle.hfs_put_sources.specs.Manifests.{digest_in, digest_of}

pub digest_short : (line : List ℕ) → length line < 64 → digest_in line ≡ None
unfolding digest_in
digest_short line short = ap (λ t. if t && bytes_eq (take 2 (drop 64 line)) (codes "  ") then digest_of (take 64 line) else None) (lt-leb 64 (length line) short)

pub digest_unmarked : (line behind : List ℕ) → 64 ≤ length line → behind ≡ drop 64 line → bytes_eq (take 2 behind) (codes "  ") ≡ false → digest_in line ≡ None
unfolding digest_in
digest_unmarked line behind long is none =
    ap (λ t. if t && bytes_eq (take 2 (drop 64 line)) (codes "  ") then digest_of (take 64 line) else None) (le-leb 64 (length line) long)
    ∙ ap (λ t. if t then digest_of (take 64 line) else None) (ap (λ (l : List ℕ). bytes_eq (take 2 l) (codes "  ")) (sym is) ∙ none)

pub digest_marked : (line digits behind : List ℕ) (found : Option (List ℕ)) → 64 ≤ length line → digits ≡ take 64 line → behind ≡ drop 64 line
    → bytes_eq (take 2 behind) (codes "  ") ≡ true → found ≡ digest_of digits → digest_in line ≡ found
unfolding digest_in
digest_marked line digits behind found long first is marked own =
    ap (λ t. if t then digest_of (take 64 line) else None) (and_from _ _ (le-leb 64 (length line) long) (ap (λ (l : List ℕ). bytes_eq (take 2 l) (codes "  ")) (sym is) ∙ marked))
    ∙ ap digest_of (sym first) ∙ sym own

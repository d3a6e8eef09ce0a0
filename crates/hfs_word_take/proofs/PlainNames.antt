-- Host names are plain names of a bag, and host paths tell items apart.
use Rattle.std.proofs.Common.{◌≡◌, ◌≢◌, ℕ, suc, ◌<◌, true, List, [], ◌∷◌, ◌++◌, length, map, refl, sym, ap, ◌∙◌, arith, append_assoc, append-nil}
use Rattle.std.specs.Prelude.{codes, flat_map, slice_index}
use Rattle.std.specs.List.{list_all}
use Rattle.std.proofs.lemmas.Bool.{and_parts}
use Rattle.hfs_bag.specs.Laws.{ArePlain, HasNo, IsPlain, begins_with, folder_path}
use Rattle.hfs_texts.specs.HostNames.{host_name}
use Rattle.hfs_texts.specs.MacPaths.{host_path}
use Rattle.hfs_texts.specs.NameLaws.{is_bytes}
use Rattle.hfs_texts.proofs.HostNameLemmas.{host-names}
use Rattle.hfs_word_take.specs.Items.{folders_text}

-- a text without a byte at any place doesn't have it
has-no : (byte : ℕ) (text : List ℕ) → ((k : ℕ) → k < length text → slice_index text k ≢ byte) → HasNo byte text
has-no byte [] none = tt
has-no byte (c ∷ rest) none = (none 0 (omega arith), has-no byte rest (λ k lt. none (suc k) (omega (arith, lt))))

first-byte : (byte : ℕ) (text : List ℕ) → slice_index text 0 ≢ byte → begins_with byte text → ⊥
first-byte byte [] none begins = begins
first-byte byte (c ∷ rest) none begins = none begins

-- what begins with no point isn't one or two of them
pub plain-name : (name : List ℕ) → is_bytes name ≡ true → IsPlain (host_name name)
plain-name name bytes =
    let safe = host-names.safe name bytes in
    record {
      part = record {
        not_empty = safe.not_empty;
        not_itself = λ e. safe.no_point (ap (λ (t : List ℕ). slice_index t 0) e);
        not_above = λ e. safe.no_point (ap (λ (t : List ℕ). slice_index t 0) e);
        no_slash = has-no 47 (host_name name) safe.no_slash;
        no_zero = has-no 0 (host_name name) safe.no_zero;
      };
      no_point = first-byte 46 (host_name name) safe.no_point;
    }

pub plain-names : (names : List (List ℕ)) → list_all is_bytes names ≡ true → ArePlain (map host_name names)
plain-names [] bytes = tt
plain-names (name ∷ names) bytes = let two = and_parts _ _ bytes in (plain-name name two.0, plain-names names two.1)

-- the folders of an item as a bag knows them
pub folders-are : (names : List (List ℕ)) → folders_text names ≡ folder_path (map host_name names)
unfolding folders_text
folders-are [] = refl
folders-are (name ∷ names) = ap (λ (t : List ℕ). (host_name name ++ codes "/") ++ t) (folders-are names)

-- a slash behind each name and the last name are the host path
pub behind-first : (names : List (List ℕ)) (last : List ℕ) → folders_text names ++ host_name last ≡ host_path (names ++ last ∷ [])
unfolding folders_text host_path
behind-first [] last = sym (append-nil (host_name last))
behind-first (name ∷ []) last =
    append_assoc (host_name name ++ codes "/") [] (host_name last)
    ∙ append_assoc (host_name name) (codes "/") (host_name last)
    ∙ ap (λ (t : List ℕ). host_name name ++ t) (sym (append-nil (codes "/" ++ host_name last)))
behind-first (name ∷ next ∷ names) last =
    append_assoc (host_name name ++ codes "/") (folders_text (next ∷ names)) (host_name last)
    ∙ append_assoc (host_name name) (codes "/") (folders_text (next ∷ names) ++ host_name last)
    ∙ ap (λ (t : List ℕ). host_name name ++ (codes "/" ++ t)) (behind-first (next ∷ names) last)
    ∙ ap (λ (t : List ℕ). host_name name ++ t) (slashed next (names ++ last ∷ []))
  where
    slashed : (first : List ℕ) (others : List (List ℕ)) → codes "/" ++ host_path (first ∷ others) ≡ flat_map (λ (n : List ℕ). codes "/" ++ host_name n) (first ∷ others)
    slashed first others = refl

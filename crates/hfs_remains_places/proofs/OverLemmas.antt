-- What a path lies in leads down, as the path does.
use Rattle.std.proofs.Common.{◌≡◌, ℕ, zero, suc, ◌<◌, true, false, List, [], ◌∷◌, ◌++◌, length, append_assoc, append-nil, codes, sym, ap, subst, ◌∙◌, arith, inl, inr}
use Rattle.std.specs.Prelude.{flat_map, slice_index_or}
use Rattle.std.proofs.lemmas.Bool.{true≢false}
use Rattle.hfs_texts.specs.NameLaws.{IsSafe}
use Rattle.hfs_remains_places.proofs.SlashLemmas.{has-slash, slash-joined, starts-slash, starts-joined, starts-whole}
use Rattle.hfs_remains_places.proofs.ApartLemmas.{some-text}
use Rattle.hfs_remains_places.proofs.DoubleLemmas.{no-slash-by, slashed}
use Rattle.hfs_remains_places.proofs.FolderTextLemmas.{Parted, parted, slash-folded}
use Rattle.hfs_remains_places.specs.Laws.{EndsThere, LeadsDown}

no-safe-slash : (text : List ℕ) → IsSafe text → has-slash text ≡ false
no-safe-slash text safe = sym (slash-folded text) ∙ no-slash-by text safe.no_slash

abbrev AreSafe : List (List ℕ) → Type 0
AreSafe parts = (k : ℕ) → k < length parts → IsSafe (slice_index_or parts k [])

-- the first of some parts, and the others
first-safe : (part : List ℕ) (parts : List (List ℕ)) → AreSafe (part ∷ parts) → IsSafe part
first-safe part parts are = are 0 (omega arith)

others-safe : (part : List ℕ) (parts : List (List ℕ)) → AreSafe (part ∷ parts) → AreSafe parts
others-safe part parts are k lt = are (suc k) (omega (arith, lt))

more-safe : (part : List ℕ) (parts : List (List ℕ)) → IsSafe part → AreSafe parts → AreSafe (part ∷ parts)
more-safe part parts safe are zero lt = safe
more-safe part parts safe are (suc k) lt = are k (omega (arith, lt))

-- a part with a slash behind it, and what stands behind that
behind-part : (part text last : List ℕ) → ((part ++ codes "/") ++ text) ++ last ≡ part ++ 47 ∷ (text ++ last)
behind-part part text last = append_assoc (part ++ codes "/") text last ∙ append_assoc part (codes "/") (text ++ last)

-- what leads down does not begin with a slash
starts-down : (above : List (List ℕ)) (last : List ℕ) → AreSafe above → IsSafe last → starts-slash (flat_map slashed above ++ last) ≡ false
starts-down [] last are safe = starts-whole last (no-safe-slash last safe)
starts-down (part ∷ above) last are safe =
    let first : IsSafe part = first-safe part above are in
    ap starts-slash (behind-part part (flat_map slashed above) last)
    ∙ starts-joined part (47 ∷ (flat_map slashed above ++ last)) (some-text part first.not_empty)
    ∙ starts-whole part (no-safe-slash part first)

-- a text that a slash stands behind
before-slash : (above : List (List ℕ)) (last text rest : List ℕ) → AreSafe above → IsSafe last → flat_map slashed above ++ last ≡ text ++ 47 ∷ rest → LeadsDown text
before-slash [] last text rest are safe same =
    absurd (true≢false (sym (slash-joined text rest) ∙ sym (ap has-slash same) ∙ no-safe-slash last safe))
before-slash (part ∷ above) last text rest are safe same =
    by (parted part (flat_map slashed above ++ last) text rest (no-safe-slash part first) (sym (behind-part part (flat_map slashed above) last) ∙ same))
    (λ body behind. before-slash above last body rest (others-safe part above are) safe behind)
  where
    first : IsSafe part
    first = first-safe part above are

    below : (body : List ℕ) → text ≡ part ++ 47 ∷ body → LeadsDown body → LeadsDown text
    below body is down = record {
      above = part ∷ down.above;
      last = down.last;
      path_is = is ∙ ap (λ (t : List ℕ). part ++ 47 ∷ t) down.path_is ∙ sym (behind-part part (flat_map slashed down.above) down.last);
      above_are = more-safe part down.above first down.above_are;
      last_is = down.last_is;
    }

    by : Parted part (flat_map slashed above ++ last) text rest → ((body : List ℕ) → flat_map slashed above ++ last ≡ body ++ 47 ∷ rest → LeadsDown body) → LeadsDown text
    by (inl is) further = record { above = []; last = part; path_is = is; above_are = λ k none. absurd (omega (arith, none)); last_is = first }
    by (inr (body, is, behind)) further = below body is (further body behind)

-- a text at whose end a part of the path ends
pub leads_down_over : (path text below : List ℕ) → LeadsDown path → path ≡ text ++ below → EndsThere below → LeadsDown text
leads_down_over path text [] down is ends = subst LeadsDown (is ∙ append-nil text) down
leads_down_over path text (byte ∷ rest) down is ends =
    before-slash down.above down.last text rest down.above_are down.last_is (sym down.path_is ∙ is ∙ ap (λ (b : ℕ). text ++ b ∷ rest) ends)

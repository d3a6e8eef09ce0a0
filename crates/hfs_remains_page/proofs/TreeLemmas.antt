-- Numbers, lists and ways of the tree, one step after the other.
use Rattle.std.proofs.Common.{◌≡◌, ◌∙◌, ℕ, zero, suc, ◌+◌, ◌-◌, ◌<◌, ◌≤◌, Bool, true, false, ◌==◌, List, [], ◌∷◌, ◌++◌, length, take, map, get_or, Vec, Global, Option, None, Some, refl, sym, ap, subst, arith, append_assoc, append-nil}
use Rattle.std.specs.Prelude.{filter, reverse, if◌then◌else◌, slice_index_or, nat_lt}
use Rattle.std.specs.List.{range_with_len}
use Rattle.std.proofs.lemmas.Bool.{ltb-false, ltb-true, ne_eqb}
use Rattle.std.proofs.lemmas.List.{take_all, take_more, length-take-le, length_push, get_or_push, get_or_append_left, reverse-append, reverse-reverse, map-append}
use Rattle.std.proofs.lemmas.List.Elements.{filter-append}
use Rattle.hfs_catalog.specs.Indexes.{Numbered}
use Rattle.hfs_remains_places.specs.declared.things.Thing.{Thing}
use Rattle.hfs_remains_places.specs.Folders.{KnowsFolders, NotesFolder}
use Rattle.hfs_remains_places.proofs.FolderLemmas.{knows-more}
use Rattle.hfs_remains_page.specs.declared.steps.Step.{Step}
use Rattle.hfs_remains_page.specs.Trees.{inside, walk_from}
use Rattle.hfs_remains_page.specs.Walks.{AreBelow, GainsBelow, below, deeper, step_at, walk}

-- ---- folders by their numbers

pub folders_none : (things : List Thing) → KnowsFolders [] (take 0 things)
folders_none things = λ number. refl

pub folders_more : (old later : Numbered) (things : List Thing) (i : ℕ) (d thing : Thing) → i < length things → thing ≡ get_or things i d
    → NotesFolder thing i old later → KnowsFolders old (take i things) → KnowsFolders later (take (i + 1) things)
folders_more old later things i d thing within is notes known =
    knows-more old later (take i things) (take (i + 1) things) thing i (sym (length-take-le i things (omega (arith, within))))
    (take_more things i d within ∙ ap (λ (t : Thing). take i things ++ t ∷ []) (sym is)) notes known

pub folders_all : (folders : Numbered) (things : List Thing) (i : ℕ) → length things ≤ i → KnowsFolders folders (take i things) → KnowsFolders folders things
folders_all folders things i end known = subst (KnowsFolders folders) (take_all i things end) known

-- ---- lists of what stands below each node

-- there is nothing in any of these lists
abbrev pub AreEmpty : List (Vec ℕ Global) → Type 0
AreEmpty lists = (k : ℕ) (none : Vec ℕ Global) → k < length lists → (slice_index_or lists k none).items ≡ []

pub empty_none : AreEmpty []
empty_none = λ k none lt. absurd (omega (arith, lt))

pub empty_more : (lists new : List (Vec ℕ Global)) (made : Vec ℕ Global) → new ≡ lists ++ made ∷ [] → made.items ≡ [] → AreEmpty lists → AreEmpty new
empty_more lists new made is none empty =
    subst AreEmpty (sym is) (λ k d lt. by k d lt (nat_lt k (length lists)) refl)
  where
    by : (k : ℕ) (d : Vec ℕ Global) → k < length (lists ++ made ∷ []) → (test : Bool) → nat_lt k (length lists) ≡ test → (slice_index_or (lists ++ made ∷ []) k d).items ≡ []
    by k d lt true e =
        let within = ltb-true k (length lists) e in
        ap (λ (v : Vec ℕ Global). v.items) (get_or_append_left lists (made ∷ []) d k within) ∙ empty k d within
    by k d lt false e =
        let at : length lists ≡ k = omega (arith, ltb-false k (length lists) e, lt, length_push lists made) in
        ap (λ (v : Vec ℕ Global). v.items) (get_or_push lists made d k at) ∙ none

pub empty_below : (lists : List (Vec ℕ Global)) → AreEmpty lists → (up : ℕ → ℕ) → AreBelow up 0 lists
empty_below lists empty up = empty

pub range-more : (a n k : ℕ) → a + n ≡ k → range_with_len a (suc n) ≡ range_with_len a n ++ k ∷ []
range-more a zero k e = let s : a ≡ k = omega (arith, e) in ap (λ j. j ∷ []) s
range-more a (suc n) k e = let s : a + 1 + n ≡ k = omega (arith, e) in ap (λ l. a ∷ l) (range-more (a + 1) n k s)

below-more : (up : ℕ → ℕ) (n node : ℕ) → below up (n + 1) node ≡ below up n node ++ (if up n == node then n ∷ [] else [])
below-more up n node =
    let one : n + 1 ≡ suc n = omega arith in
    ap (λ m. below up m node) one ∙ ap (filter (λ i. up i == node)) (range-more 0 n n (omega arith))
    ∙ filter-append (λ i. up i == node) (range_with_len 0 n) (n ∷ [])

pub lists_more : (up : ℕ → ℕ) (n node : ℕ) (old new : List (Vec ℕ Global)) → node ≡ up n → GainsBelow old new n node → AreBelow up n old → AreBelow up (n + 1) new
lists_more up n node old new is (long, gains) are = λ k none lt.
    gains k none (omega (arith, long, lt))
    ∙ (λ i. are k none (omega (arith, long, lt)) i ++ (if is i == k then n ∷ [] else []))
    ∙ sym (below-more up n k)

-- nothing is noted of a node that has no list
pub none_gained : (lists : List (Vec ℕ Global)) (number node : ℕ) → length lists ≤ node → GainsBelow lists lists number node
none_gained lists number node past = (
  refl,
  λ k none lt.
      sym (append-nil (slice_index_or lists k none).items)
      ∙ ap (λ (b : Bool). (slice_index_or lists k none).items ++ (if b then number ∷ [] else [])) (sym (ne_eqb node k (λ e. absurd (omega (arith, e, lt, past))))),
)

-- ---- the way

module _ (inner : ℕ → List ℕ) where
  ended : (k : ℕ) (order whole : List Step) → order ++ walk inner k [] ≡ whole → order ≡ whole
  ended zero order whole is = sym (append-nil order) ∙ is
  ended (suc k) order whole is = sym (append-nil order) ∙ is

  pub walk_none : (k : ℕ) (stack order whole : List Step) → stack ≡ [] → order ++ walk inner k (reverse stack) ≡ whole → order ≡ whole
  walk_none k stack order whole none is = ended k order whole (subst (λ (l : List Step). order ++ walk inner k (reverse l) ≡ whole) none is)

  pub walk_zero : (left : ℕ) (stack order whole : List Step) → left ≤ 0 → order ++ walk inner left stack ≡ whole → order ≡ whole
  walk_zero left stack order whole none is =
      let zero-left : left ≡ 0 = omega (arith, none) in
      sym (append-nil order) ∙ ap (λ (n : ℕ). order ++ walk inner n stack) (sym zero-left) ∙ is

  one-walked : (k : ℕ) (s : Step) (rest : List Step) → 0 < k → walk inner k (s ∷ rest) ≡ s ∷ walk inner (k - 1) (map (step_at inner (deeper s.depth)) (inner s.node) ++ rest)
  one-walked zero s rest lt = absurd (omega arith)
  one-walked (suc k) s rest lt =
      let e : suc k - 1 ≡ k = omega arith in
      ap (λ n. s ∷ walk inner n (map (step_at inner (deeper s.depth)) (inner s.node) ++ rest)) (sym e)

  -- the step that lay above all others goes into the order, and what stands below it lies above the others
  pub walk_more : (k : ℕ) (s : Step) (stack below new order later whole : List Step) → 0 < k → stack ≡ below ++ s ∷ [] → later ≡ order ++ s ∷ []
      → new ≡ below ++ reverse (map (step_at inner (deeper s.depth)) (inner s.node))
      → order ++ walk inner k (reverse stack) ≡ whole → later ++ walk inner (k - 1) (reverse new) ≡ whole
  walk_more k s stack below new order later whole some was is gains all =
      let steps = map (step_at inner (deeper s.depth)) (inner s.node) in
      let turned : reverse new ≡ steps ++ reverse below =
      ap reverse gains ∙ reverse-append below (reverse steps) ∙ ap (λ l. l ++ reverse below) (reverse-reverse steps) in
      let first : reverse stack ≡ s ∷ reverse below = ap reverse was ∙ reverse-append below (s ∷ []) in
      (λ i. is i ++ walk inner (k - 1) (turned i))
      ∙ append_assoc order (s ∷ []) (walk inner (k - 1) (steps ++ reverse below))
      ∙ ap (λ l. order ++ l) (sym (ap (walk inner k) first ∙ one-walked k s (reverse below) some))
      ∙ all

  -- steps to the first of some numbers, put on the others from the last on
  pub steps_more : (depth x left : ℕ) (list : List ℕ) (d : ℕ) (stack new old : List Step) → left < length list → x ≡ get_or list left d
      → new ≡ stack ++ step_at inner depth x ∷ []
      → stack ++ reverse (map (step_at inner depth) (take (left + 1) list)) ≡ old ++ reverse (map (step_at inner depth) list)
      → new ++ reverse (map (step_at inner depth) (take left list)) ≡ old ++ reverse (map (step_at inner depth) list)
  steps_more depth x left list d stack new old within is gains all =
      let f = step_at inner depth in
      let split : reverse (map f (take (left + 1) list)) ≡ f x ∷ reverse (map f (take left list)) =
      ap (λ l. reverse (map f l)) (take_more list left d within ∙ ap (λ (n : ℕ). take left list ++ n ∷ []) (sym is))
      ∙ ap reverse (map-append f (take left list) (x ∷ [])) ∙ reverse-append (map f (take left list)) (f x ∷ []) in
      ap (λ l. l ++ reverse (map f (take left list))) gains ∙ append_assoc stack (f x ∷ []) (reverse (map f (take left list)))
      ∙ ap (λ l. stack ++ l) (sym split) ∙ all

  -- all are left, or none
  pub steps_all : (depth left : ℕ) (list : List ℕ) (stack : List Step) → left ≡ length list
      → stack ++ reverse (map (step_at inner depth) (take left list)) ≡ stack ++ reverse (map (step_at inner depth) list)
  steps_all depth left list stack all = ap (λ (l : List ℕ). stack ++ reverse (map (step_at inner depth) l)) (take_all left list (omega (arith, all)))

  pub steps_none : (depth left : ℕ) (list : List ℕ) (stack old : List Step) → left ≤ 0
      → stack ++ reverse (map (step_at inner depth) (take left list)) ≡ old ++ reverse (map (step_at inner depth) list)
      → stack ≡ old ++ reverse (map (step_at inner depth) list)
  steps_none depth left list stack old none all =
      let zero-left : left ≡ 0 = omega (arith, none) in
      sym (append-nil stack) ∙ ap (λ (n : ℕ). stack ++ reverse (map (step_at inner depth) (take n list))) (sym zero-left) ∙ all

-- the way begins with one step
pub walk_begins : (things : List Thing) (node left : ℕ) (stack order : List Step) → left ≡ length things + 3 → stack ≡ step_at (inside things) 0 node ∷ []
    → order ++ walk (inside things) left (reverse stack) ≡ order ++ walk_from things node
unfolding walk_from
walk_begins things node left stack order all is = λ i. order ++ walk (inside things) (all i) (reverse (is i))

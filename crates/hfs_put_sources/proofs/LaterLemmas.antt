-- What is told of files by their paths, one after the other.
use Rattle.std.proofs.Common.{◌≡◌, ◌∙◌, sym, ap, refl, ℕ, Bool, true, false, cond, List, [], ◌∷◌, ◌++◌, Option, Some, None}
use Rattle.std.specs.Option.{option_or}
use Rattle.hfs_put_sources.specs.Later.{Entries, Tells, last_told, told_at}

module _ {X : Type 0} where
  pub or-none : (a : Option X) → option_or a None ≡ a
  or-none (Some x) = refl
  or-none None = refl

  pub or-assoc : (a b c : Option X) → option_or (option_or a b) c ≡ option_or a (option_or b c)
  or-assoc (Some x) b c = refl
  or-assoc None b c = refl

  -- what one more tells
  pub last-more : {A : Type 0} (told : A → Option X) (front : List A) (a : A) → last_told told (front ++ a ∷ []) ≡ option_or (told a) (last_told told front)
  unfolding last_told
  last-more told [] a = sym (or-none (told a))
  last-more told (b ∷ front) a = ap (λ (o : Option X). option_or o (told b)) (last-more told front a) ∙ or-assoc (told a) (last_told told front) (told b)

  -- what tells nothing of any path
  pub tells-none : (told : List ℕ → Option X) (entries : Entries X) → ((path : List ℕ) → told path ≡ None) → Tells told entries entries
  tells-none told entries none path = sym (ap (λ (o : Option X). option_or o (told_at entries path)) (none path))

  -- the same told in other words
  pub tells-as : (told other : List ℕ → Option X) (old new : Entries X) → ((path : List ℕ) → told path ≡ other path) → Tells told old new → Tells other old new
  tells-as told other old new is tells path = tells path ∙ ap (λ (o : Option X). option_or o (told_at old path)) (is path)

  -- one and then another
  pub tells-then : (first then : List ℕ → Option X) (old mid new : Entries X) → Tells first old mid → Tells then mid new
      → Tells (λ path. option_or (then path) (first path)) old new
  tells-then first then old mid new before after path =
      after path ∙ ap (option_or (then path)) (before path) ∙ sym (or-assoc (then path) (first path) (told_at old path))

  -- ---- one after the other

  -- what is noted, and behind it what those tell that are left, is what all tell
  abbrev pub TellsOn : {A : Type 0} → (List ℕ → A → Option X) → List A → List A → Entries X → Entries X → Type 0
  TellsOn told left all old now = (path : List ℕ) → option_or (last_told (told path) left) (told_at now path) ≡ option_or (last_told (told path) all) (told_at old path)

  pub on-first : {A : Type 0} (told : List ℕ → A → Option X) (all : List A) (old now : Entries X) → now ≡ old → TellsOn told all all old now
  on-first told all old now is path = λ t. option_or (last_told (told path) all) (told_at (is t) path)

  pub on-step : {A : Type 0} (told : List ℕ → A → Option X) (left next all : List A) (a : A) (old mid new : Entries X) → left ≡ a ∷ next
      → Tells (λ path. told path a) mid new → TellsOn told left all old mid → TellsOn told next all old new
  unfolding last_told
  on-step told left next all a old mid new is tells before path =
      ap (option_or (last_told (told path) next)) (tells path)
      ∙ sym (or-assoc (last_told (told path) next) (told path a) (told_at mid path))
      ∙ (λ t. option_or (last_told (told path) (sym is t)) (told_at mid path))
      ∙ before path

  pub on-done : {A : Type 0} (told : List ℕ → A → Option X) (left all : List A) (old new : Entries X) → left ≡ [] → TellsOn told left all old new
      → Tells (λ path. last_told (told path) all) old new
  unfolding last_told
  on-done told left all old new none before path = (λ t. option_or (last_told (told path) (sym none t)) (told_at new path)) ∙ before path

pub cond-none : {X : Type 0} (b : Bool) (o : Option X) → o ≡ None → cond b o None ≡ None
cond-none true o none = none
cond-none false o none = refl

-- Where forks lie in each image that has the bytes which were read.
use Rattle.std.proofs.Common.{◌≡◌, ℕ, ◌/◌, List, length, Option, Some, None, Result, Ok, Err, refl, ap, sym, subst, ◌∙◌}
use Rattle.std.specs.Prelude.{IfErr, IfOk}
use Rattle.hfs_model.specs.declared.call.Fork.{Fork}
use Rattle.hfs_model.specs.declared.call.Fork.TheVariants.{DataFork, ResFork}
use Rattle.hfs_model.specs.declared.reply.Reply.{Reply}
use Rattle.hfs_source.specs.Images.{OfEach}
use Rattle.hfs_image.specs.declared.fork_runs.FileRuns.{FileRuns}
use Rattle.hfs_image.specs.declared.fork_runs.ForkRuns.{ForkRuns}
use Rattle.hfs_image.specs.declared.opening.NeededVolume.{NeededVolume}
use Rattle.hfs_image.specs.ForkRuns.{AreRunsNamed, RefusesForks}
use Rattle.hfs_image.specs.Opened.{IsOpenedOf}
use Rattle.hfs_image.specs.Seen.{IsSeenAs}
use Rattle.hfs_image.specs.SeenFiles.{LiesInRuns, RefusesFile}
use Rattle.hfs_image.proofs.SeenStart.{opened-each}

lies-of : (image : List ℕ) (dir : ℕ) (name : List ℕ) (fork : Fork) (found : ForkRuns) → AreRunsNamed (Some image) (length image) dir name fork found
    → LiesInRuns dir name fork found image
lies-of image dir name fork found named = let of = named refl in record { bytes = of.0; has = of.1; so = of.2 }

module _ (Holds : List ℕ → Type 0) (len : ℕ) (volume : NeededVolume) (is : IsSeenAs Holds len volume) {E : Type 0} (r : Result (Result FileRuns Reply) E) (dir : ℕ) (name : List ℕ) where
  opened-now : (image : List ℕ) → Holds image → IsOpenedOf (Some image) volume.count volume
  opened-now image h =
      let opened = opened-each {Holds = Holds} None (len / 512) volume is.opened is.seen image h in
      subst (λ (n : ℕ). IsOpenedOf (Some image) n volume) (sym opened.whole) opened

  count-now : (image : List ℕ) → Holds image → length image / 512 ≡ volume.count
  count-now image h = ap (λ (n : ℕ). n / 512) (is.long image h) ∙ sym is.opened.whole

  pub data-seen : ((known : Option (List ℕ)) (n : ℕ) → n / 512 ≡ volume.count → IsOpenedOf known volume.count volume
      → IfOk r (λ told. IfOk told (λ found. AreRunsNamed known n dir name DataFork found.«data»)))
      → IfOk r (λ told. IfOk told (λ found. OfEach Holds (LiesInRuns dir name DataFork found.«data»)))
  data-seen told = from r told
    where
      from : (q : Result (Result FileRuns Reply) E) → ((known : Option (List ℕ)) (n : ℕ) → n / 512 ≡ volume.count → IsOpenedOf known volume.count volume
          → IfOk q (λ told. IfOk told (λ found. AreRunsNamed known n dir name DataFork found.«data»)))
          → IfOk q (λ told. IfOk told (λ found. OfEach Holds (LiesInRuns dir name DataFork found.«data»)))
      from (Err e) own = tt
      from (Ok (Err reply)) own = tt
      from (Ok (Ok found)) own = λ image h. lies-of image dir name DataFork found.«data» (own (Some image) (length image) (count-now image h) (opened-now image h))

  pub resource-seen : ((known : Option (List ℕ)) (n : ℕ) → n / 512 ≡ volume.count → IsOpenedOf known volume.count volume
      → IfOk r (λ told. IfOk told (λ found. AreRunsNamed known n dir name ResFork found.resource)))
      → IfOk r (λ told. IfOk told (λ found. OfEach Holds (LiesInRuns dir name ResFork found.resource)))
  resource-seen told = from r told
    where
      from : (q : Result (Result FileRuns Reply) E) → ((known : Option (List ℕ)) (n : ℕ) → n / 512 ≡ volume.count → IsOpenedOf known volume.count volume
          → IfOk q (λ told. IfOk told (λ found. AreRunsNamed known n dir name ResFork found.resource)))
          → IfOk q (λ told. IfOk told (λ found. OfEach Holds (LiesInRuns dir name ResFork found.resource)))
      from (Err e) own = tt
      from (Ok (Err reply)) own = tt
      from (Ok (Ok found)) own = λ image h. lies-of image dir name ResFork found.resource (own (Some image) (length image) (count-now image h) (opened-now image h))

  pub refused-seen : ((known : Option (List ℕ)) (n : ℕ) → n / 512 ≡ volume.count → IsOpenedOf known volume.count volume
      → IfOk r (λ told. IfErr told (RefusesForks known n dir name)))
      → IfOk r (λ told. IfErr told (λ reply. OfEach Holds (RefusesFile dir name reply)))
  refused-seen told = from r told
    where
      from : (q : Result (Result FileRuns Reply) E) → ((known : Option (List ℕ)) (n : ℕ) → n / 512 ≡ volume.count → IsOpenedOf known volume.count volume
          → IfOk q (λ told. IfErr told (RefusesForks known n dir name)))
          → IfOk q (λ told. IfErr told (λ reply. OfEach Holds (RefusesFile dir name reply)))
      from (Err e) own = tt
      from (Ok (Ok found)) own = tt
      from (Ok (Err reply)) own = λ image h.
          let of = own (Some image) (length image) (count-now image h) (opened-now image h) in
          record { data_fork = of.0 refl; resource_fork = of.1 refl }

-- What was listed for a new volume, and was put on it or not.
use Rattle.std.proofs.Common.{◌≡◌, ◌∙◌, ℕ, List, map, Option, None, sym, ap, subst, inl, inr}
use Rattle.std.specs.Borrow.{Bor}
use Rattle.hfs_put_sources.specs.declared.fault.HostFault.{HostFault}
use Rattle.hfs_put_sources.specs.Digests.{first_wrong}
use Rattle.hfs_put_sources.specs.Later.{Entries, told_at}
use Rattle.hfs_format.specs.declared.planned_image.PlannedImage.{PlannedImage}
use Rattle.hfs_format.specs.declared.items.NewItem.{NewItem}
use Rattle.hfs_format.specs.declared.new_volume.NewVolume.{NewVolume}
use Rattle.hfs_format.specs.declared.volume_name.VolumeName.{VolumeName}
use Rattle.hfs_format.specs.declared.volume_size.VolumeSize.{VolumeSize}
use Rattle.hfs_word_make.specs.Items.{new_item_of}
use Rattle.hfs_put_sources.specs.Items.{PlannedItem}
use Rattle.hfs_put_sources.specs.Trees.{OfEachTree, Tree}
use Rattle.hfs_word_make.specs.declared.order.MakeOrder.{MakeOrder}
use Rattle.hfs_word_make.specs.Doubled.{IsFilled, IsNotFilled}
use Rattle.hfs_word_make.specs.Listed.{IsNewListed}
use Rattle.hfs_word_make.specs.Made.{IsListedFor, IsMadeOf, IsUnmadeList}
use Rattle.hfs_word_make.specs.Names.{IsAskedSize, IsNamed}
use Rattle.hfs_word_put.specs.declared.fault.PutFault.{PutFault}
use Rattle.hfs_word_put.specs.declared.putting.PutList.{PutList}
use Rattle.hfs_word_put.specs.Listed.{IsUnverified}

-- by the name that was read before
pub listed-for : (Before Hosts : Tree → Type 0) (order : MakeOrder) (items lent : List PlannedItem) (digests : Entries (List ℕ)) (wanted : NewVolume) (name : VolumeName)
    (size : Option VolumeSize) (new : List NewItem) → OfEachTree Before (IsNamed order name) → OfEachTree Hosts Before → IsAskedSize order.size size
    → OfEachTree Hosts (IsNewListed order items digests) → wanted.name ≡ name → wanted.size ≡ size → wanted.items.now ≡ new → new ≡ map new_item_of lent → lent ≡ items
    → wanted.moment ≡ order.now → wanted.catalog_times ≡ 1 → IsListedFor Hosts order items digests wanted
listed-for Before Hosts order items lent digests wanted name size new named held sized listed e-name e-size e-lent e-new e-items e-moment e-once = record {
  volume = record {
    named = λ host h. subst (λ (n : VolumeName). IsNamed order n host) (sym e-name) (named host (held host h));
    sized = subst (λ (s : Option VolumeSize). IsAskedSize order.size s) (sym e-size) sized;
    items_are = e-lent ∙ (e-new ∙ ap (map new_item_of) e-items);
    moment_is = e-moment;
    once = e-once;
  };
  listed = listed;
}

-- and so of fewer trees
pub listed-then : (Hosts Then : Tree → Type 0) (order : MakeOrder) (items : List PlannedItem) (digests : Entries (List ℕ)) (wanted : NewVolume) → OfEachTree Then Hosts
    → IsListedFor Hosts order items digests wanted → IsListedFor Then order items digests wanted
listed-then Hosts Then order items digests wanted held is = record {
  volume = record {
    named = λ host h. is.volume.named host (held host h);
    sized = is.volume.sized;
    items_are = is.volume.items_are;
    moment_is = is.volume.moment_is;
    once = is.volume.once;
  };
  listed = λ host h. is.listed host (held host h);
}

-- it was put on no volume
pub unput-list : (path : Bor (List ℕ)) (Fails : HostFault → Type 0) (Hosts : Tree → Type 0) (order : MakeOrder) (items lent : List PlannedItem) (digests : Entries (List ℕ)) (wanted : NewVolume) (told : PutFault)
    → IsNotFilled path wanted order lent told → lent ≡ items → IsListedFor Hosts order items digests wanted → IsUnmadeList path Fails Hosts order told
unput-list path Fails Hosts order items lent digests wanted told unput e listed =
    inr (inr (inr (inl (record {
      items = items;
      digests = digests;
      wanted = wanted;
      listed = listed;
      unput = subst (λ (own : List PlannedItem). IsNotFilled path wanted order own told) e unput;
    }))))

-- it was put on one, but a file has another digest
pub unverified-list : (path : Bor (List ℕ)) (Fails : HostFault → Type 0) (Hosts : Tree → Type 0) (order : MakeOrder) (items lent read : List PlannedItem) (digests : Entries (List ℕ)) (wanted : NewVolume)
    (planned : PlannedImage) (list : PutList) (told : PutFault) → IsFilled wanted order lent planned list → lent ≡ items → IsUnverified Fails Hosts digests read told → read ≡ items
    → IsListedFor Hosts order items digests wanted → IsUnmadeList path Fails Hosts order told
unverified-list path Fails Hosts order items lent read digests wanted planned list told filled e-lent unverified e-read listed =
    inr (inr (inr (inr (record {
      items = items;
      digests = digests;
      wanted = wanted;
      planned = planned;
      list = list;
      listed = listed;
      filled = subst (λ (own : List PlannedItem). IsFilled wanted order own planned list) e-lent filled;
      unverified = subst (λ (own : List PlannedItem). IsUnverified Fails Hosts digests own told) e-read unverified;
    }))))

-- or each file has the digest that is told of it
pub made-list : (Hosts : Tree → Type 0) (order : MakeOrder) (items lent read : List PlannedItem) (digests : Entries (List ℕ)) (wanted : NewVolume) (planned : PlannedImage)
    (list : PutList) → IsFilled wanted order lent planned list → lent ≡ items → OfEachTree Hosts (λ host. first_wrong host (told_at digests) read ≡ None) → read ≡ items
    → IsListedFor Hosts order items digests wanted → IsMadeOf Hosts order items planned list
made-list Hosts order items lent read digests wanted planned list filled e-lent right e-read listed = record {
  wanted = wanted;
  digests = digests;
  listed = listed;
  filled = subst (λ (own : List PlannedItem). IsFilled wanted order own planned list) e-lent filled;
  verified = subst (λ (own : List PlannedItem). OfEachTree Hosts (λ host. first_wrong host (told_at digests) own ≡ None)) e-read right;
}

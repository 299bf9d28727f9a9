-- What a log can hold and what a list can show are the same. Assumes nothing.
use Rattle.std.proofs.Common.{◌≡◌, ℕ, ◌<◌, List, [], ◌∷◌, Some}
use Rattle.std.specs.List.{AllByRecursion}
use Rattle.items.specs.Kinds.{Layout, Wording, Showable}
use Rattle.items.specs.declared.entry.Entry.{Entry}
use Rattle.items.specs.declared.entry.Event.{Event}
use Rattle.items.specs.declared.entry.Event.TheVariants.{Begin, Commit, Abort, Access}
use Rattle.packed.specs.Trips.{BitsTell, ItemTold, Holdable}
use Rattle.text.specs.Trips.{ValidEvent, ValidEntry}

-- the laws that tie the two forms of a kind
pub record Laws (layout : Layout) (kind : Wording) : Type 0 where
  pub tell : BitsTell layout
  pub shown : (n : ℕ) (fs : List ℕ) → layout.unpacked n ≡ Some fs → Showable kind fs
  pub packed : (ns fs : List ℕ) → kind.reads ns ≡ Some fs → layout.unpacked (layout.packed fs) ≡ Some fs
  pub others : (ns fs : List ℕ) → kind.reads ns ≡ Some fs → kind.shown fs ≡ ns

module _ (layout : Layout) (kind : Wording) (laws : Laws layout kind) where
  told_valid : (e : Event (List ℕ)) → ItemTold layout e → ValidEvent kind e
  told_valid Begin h = tt
  told_valid Commit h = tt
  told_valid Abort h = tt
  told_valid (Access m fs) h = laws.shown (layout.packed fs) fs h

  valid_told : (e : Event (List ℕ)) → ValidEvent kind e → ItemTold layout e
  valid_told Begin h = tt
  valid_told Commit h = tt
  valid_told Abort h = tt
  valid_told (Access m fs) h = laws.packed (kind.shown fs) fs h.back

  pub holdable_valid : (bays : ℕ) (es : List (Entry (List ℕ))) → AllByRecursion (Holdable layout bays) es → AllByRecursion (ValidEntry kind bays) es
  holdable_valid bays [] all = tt
  holdable_valid bays (e ∷ es) all = (record { below = all.0.bay; event = told_valid e.event all.0.item }, holdable_valid bays es all.1)

  pub valid_holdable : (bays : ℕ) (es : List (Entry (List ℕ))) → AllByRecursion (ValidEntry kind bays) es → AllByRecursion (Holdable layout bays) es
  valid_holdable bays [] all = tt
  valid_holdable bays (e ∷ es) all = (record { bay = all.0.below; item = valid_told e.event all.0.event }, valid_holdable bays es all.1)

pub holdable_among : (layout : Layout) (bays : ℕ) (es : List (Entry (List ℕ))) → AllByRecursion (Holdable layout bays) es → AllByRecursion (λ e. e.bay < bays) es
holdable_among layout bays [] all = tt
holdable_among layout bays (e ∷ es) all = (all.0.bay, holdable_among layout bays es all.1)

-- Modes conflict mutually. Assumes nothing.
use Rattle.std.proofs.Common.{◌≡◌, refl}
use Rattle.items.specs.Modes.{conflicting}
use Rattle.items.specs.declared.mode.Mode.{Mode}
use Rattle.items.specs.declared.mode.Mode.TheVariants.{Look, Set, Add, Raise}

pub conflicting_mutual : (m n : Mode) → conflicting m n ≡ conflicting n m
conflicting_mutual Look Look = refl
conflicting_mutual Look Set = refl
conflicting_mutual Look Add = refl
conflicting_mutual Look Raise = refl
conflicting_mutual Set Look = refl
conflicting_mutual Set Set = refl
conflicting_mutual Set Add = refl
conflicting_mutual Set Raise = refl
conflicting_mutual Add Look = refl
conflicting_mutual Add Set = refl
conflicting_mutual Add Add = refl
conflicting_mutual Add Raise = refl
conflicting_mutual Raise Look = refl
conflicting_mutual Raise Set = refl
conflicting_mutual Raise Add = refl
conflicting_mutual Raise Raise = refl

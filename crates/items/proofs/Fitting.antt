-- How long lines are, and whether they fit. Assumes nothing.
use Rattle.std.proofs.Common.{◌≡◌, ℕ, ◌+◌, ◌<◌, ◌≤◌, List, ◌∷◌, ◌++◌, length, get_or, drop, Some, None, refl, ap, ◌∙◌, arith, length-append}
use Rattle.std.proofs.lemmas.List.{at_drop_more}
use Rattle.std.proofs.lemmas.Bool.Decides.{nat_tests}
use Rattle.items.specs.Lines.{spaced, ending, line, fitted}

pub length_line : (w : List ℕ) (n : ℕ) (ns : List ℕ) → length (line w (n ∷ ns)) ≡ length w + (length (spaced n) + length (ending ns))
length_line w n ns = simp length-append refl

-- the ending from place i on is the number there and the ending after it
pub ending_from : (ns : List ℕ) (i : ℕ) → i < length ns → ending (drop i ns) ≡ spaced (get_or ns i 0) ++ ending (drop (i + 1) ns)
ending_from ns i h = at_drop_more ending ns i 0 h

pub length_from : (ns : List ℕ) (i : ℕ) → i < length ns → length (ending (drop i ns)) ≡ length (spaced (get_or ns i 0)) + length (ending (drop (i + 1) ns))
length_from ns i h = ap length (ending_from ns i h) ∙ length-append (spaced (get_or ns i 0)) (ending (drop (i + 1) ns))

-- where the first part does not fit, nothing does
pub fits_not : (room at a b n : ℕ) → n ≡ a + b → fitted room at a ≡ None → fitted room at n ≡ None
fits_not room at a b n e h = grind (arith, nat_tests)

-- where it does, the rest is to fit from the place after it
pub fits_on : (room at a b n p : ℕ) → n ≡ a + b → fitted room at a ≡ Some p → fitted room at n ≡ fitted room p b
fits_on room at a b n p e h =
    let here : p ≡ at + a = grind (arith, nat_tests) in
    let same : at + n ≡ p + b = omega arith in
    rw same refl

-- what fits has the room
pub fits_room : (room at n p : ℕ) → fitted room at n ≡ Some p → (p ≡ at + n) × (at + n ≤ room)
fits_room room at n p h = (grind (arith, nat_tests), grind (arith, nat_tests))

-- What every item kind shares: its meaning is a list of numbers, its fields. Assumes nothing.
use Rattle.std.specs.Prelude.{◌≡◌, ℕ, ◌≤◌, Bool, true, false, cond, ◌&&◌, List, [], ◌∷◌, length, Some, None, Ok, Err, Option, Result, ◌==◌}
use Rattle.std.specs.List.{AllByRecursion}
use Rattle.items.specs.declared.refusal.Reason.TheVariants.{ItemOutOfRange}
use Rattle.items.specs.declared.refusal.Layer.TheVariants.{Item}
use Rattle.items.specs.declared.refusal.Refusal.{Refusal}

-- whether two field lists are equal
abbrev pub same_fields : List ℕ → List ℕ → Bool
same_fields [] [] = true
same_fields [] (y ∷ ys) = false
same_fields (x ∷ xs) [] = false
same_fields (x ∷ xs) (y ∷ ys) = x == y && same_fields xs ys

-- a test of two numbers, on a list of just two
abbrev pub of_pair : (ℕ → ℕ → Bool) → List ℕ → Bool
of_pair f [] = false
of_pair f (x ∷ []) = false
of_pair f (x ∷ y ∷ []) = f x y
of_pair f (x ∷ y ∷ z ∷ fs) = false

-- a test of two pairs of numbers, on lists of just two
abbrev pub of_pairs : (ℕ → ℕ → ℕ → ℕ → Bool) → List ℕ → List ℕ → Bool
of_pairs f a b = of_pair (λ x y. of_pair (f x y) b) a

-- the packed form of a kind: its code, the width of an item in bits, which fields are in range, the bits of an item
-- as a number, and the item that a number is the bits of, if any
pub record Layout : Type 0 where
  pub code : ℕ
  pub width : ℕ
  pub within : List ℕ → Bool
  pub packed : List ℕ → ℕ
  pub unpacked : ℕ → Option (List ℕ)

-- the form of a kind in a text list: its word on the first line, how many numbers an item shows in a line, which they
-- are, and the item that numbers show, if any
pub record Wording : Type 0 where
  pub word : List ℕ
  pub count : ℕ
  pub shown : List ℕ → List ℕ
  pub reads : List ℕ → Option (List ℕ)

-- an item of these fields can stand in a line: the numbers that it shows read back as it, and they are few and short
pub record Showable (w : Wording) (fs : List ℕ) : Type 0 where
  pub back : w.reads (w.shown fs) ≡ Some fs
  pub counted : length (w.shown fs) ≡ w.count
  pub few : w.count ≤ 4
  pub short : AllByRecursion (λ n. n ≤ 9999999) (w.shown fs)

-- the refusal of an item outside its range
abbrev pub out_of_range : Refusal
out_of_range = record { reason = ItemOutOfRange; layer = Item; entry = 0 }

-- an item of these fields, or the refusal where there is none
abbrev pub item_or : Option (List ℕ) → Result (List ℕ) Refusal
item_or None = Err out_of_range
item_or (Some fs) = Ok fs

-- an answer by what its value means
abbrev pub meant : {I J E : Type 0} → (I → J) → Result I E → Result J E
meant f (Ok i) = Ok (f i)
meant f (Err e) = Err e

-- the fields themselves where they are in range
abbrev pub ranged : (List ℕ → Bool) → List ℕ → Option (List ℕ)
ranged within fs = cond (within fs) (Some fs) None

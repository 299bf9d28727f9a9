-- Loops over the elements of a slice, by what the elements mean. Assumes nothing.
use Rattle.std.proofs.Common.{◌≡◌, ℕ, ◌+◌, ◌<◌, ◌≤◌, List, ◌++◌, map, length, get_or, take, drop, set, sym, ap, ◌∙◌}
use Rattle.std.proofs.lemmas.List.Edits.{map_over_more}
use Rattle.std.proofs.lemmas.List.{append-nil, drop_all, get_or-map, length-map, map-set, take_all}

module _ {A B : Type 0} (meant : A → B) where
  -- the element that is read, among the meanings
  pub read_here : (xs : List A) (i : ℕ) (x : A) → i < length xs → x ≡ get_or xs i x → (d : B) → get_or (map meant xs) i d ≡ meant x
  read_here xs i x h e d = get_or-map meant xs i x d h ∙ ap meant (sym e)

  -- the first i elements of xs have been written over, by f, and ys is the slice now
  abbrev pub Written : (B → B) → List A → List A → ℕ → Type 0
  Written f xs ys i = map meant ys ≡ map f (take i (map meant xs)) ++ drop i (map meant xs)

  pub written_more : (f : B → B) (xs ys : List A) (i : ℕ) (d y : A) → i < length xs → i < length ys → Written f xs ys i → meant y ≡ f (meant (get_or ys i d)) → Written f xs (set ys i y) (i + 1)
  written_more f xs ys i d y h k w e =
      let x = meant (get_or ys i d) in
      map-set meant ys i y ∙ ap (set (map meant ys) i) e
      ∙ map_over_more f (map meant xs) (map meant ys) i x (simp length-map h) w (sym (get_or-map meant ys i d x k))

  pub written_all : (f : B → B) (xs ys : List A) (i : ℕ) → length xs ≤ i → Written f xs ys i → map meant ys ≡ map f (map meant xs)
  written_all f xs ys i h w =
      let past : length (map meant xs) ≤ i = simp length-map h in
      w ∙ ap (λ l. map f l ++ drop i (map meant xs)) (take_all i (map meant xs) past)
      ∙ ap (λ l. map f (map meant xs) ++ l) (drop_all i (map meant xs) past) ∙ append-nil (map f (map meant xs))

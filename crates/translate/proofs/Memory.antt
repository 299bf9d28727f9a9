-- What a pass leaves in memory. Assumes nothing.
use Rattle.std.proofs.Common.{◌≡◌, ℕ, ◌+◌, List, [], ◌++◌, length, Ok, Err, Result, sym, ap, ◌∙◌, subst, append_assoc, append-nil, zero-add, arith, length-append}
use Rattle.items.specs.declared.refusal.Refusal.{Refusal}
use Rattle.translate.specs.Translation.{Passed}

module _ (left : List ℕ → ℕ → List ℕ → List ℕ) (before whole : List ℕ) where
  -- up to this place the pass came with a front of the whole list, and the rest is to come
  pub record Written (now : List ℕ) (place : ℕ) (rest : List ℕ) : Type 0 where
    pub front : List ℕ
    pub is : now ≡ left before 0 front
    pub long : length front ≡ place
    pub all : front ++ rest ≡ whole

  -- one line more
  pub written_on : ((memory : List ℕ) (at : ℕ) (s t : List ℕ) → left memory at (s ++ t) ≡ left (left memory at s) (at + length s) t) → (now after : List ℕ) (place place' : ℕ) (line rest : List ℕ) → Written now place (line ++ rest) → after ≡ left now place line → place' ≡ place + length line → Written after place' rest
  written_on pieces now after place place' line rest w h e =
      record {
        front = w.front ++ line;
        is = h ∙ ap (λ m. left m place line) w.is ∙ ap (λ n. left (left before 0 w.front) n line) (sym w.long ∙ sym (zero-add (length w.front))) ∙ sym (pieces before 0 w.front line);
        long = omega (arith, length-append w.front line, w.long);
        all = append_assoc w.front line rest ∙ w.all;
      }

  -- all lines
  pub written_all : (now : List ℕ) (place : ℕ) → Written now place [] → now ≡ left before 0 whole
  written_all now place w = w.is ∙ ap (left before 0) (sym (append-nil w.front) ∙ w.all)

  -- a pass that went through, and one that was refused on the way
  pub passes : (after text : List ℕ) (x : Result (List ℕ) Refusal) → x ≡ Ok text → after ≡ left before 0 text → Passed left before x after
  passes after text x is h = subst (λ y. Passed left before y after) (sym is) h

  pub passes_not : (after front : List ℕ) (r : Refusal) (x : Result (List ℕ) Refusal) → x ≡ Err r → after ≡ left before 0 front → Passed left before x after
  passes_not after front r x is h = subst (λ y. Passed left before y after) (sym is) (front, h)

-- A number for each transaction of a list, that rises along a relation and tells the transactions apart.
use Rattle.std.proofs.Common.{◌≡◌, ℕ, ◌+◌, ◌<◌, List, [], ◌∷◌, subst, arith}
use Rattle.serial.proofs.Decisions.{Listed, choose}

-- one above all ranks
abbrev pub top : {T : Type 0} → List T → ℕ
top [] = 0
top (b ∷ ts) = top ts + top ts + 1

-- A new transaction takes the old top, those after it move above it, the others keep their rank.
abbrev pub rank : {T : Type 0} → Discrete T → (R : T → T → Type 0) → ((s t : T) → Dec (R s t)) → List T → T → ℕ
rank same R d [] t = 0
rank same R d (b ∷ ts) t = choose (same t b) (top ts) (choose (d b t) (rank same R d ts t + top ts + 1) (rank same R d ts t))

module _ {T : Type 0} (same : Discrete T) (R : T → T → Type 0) (d : (s t : T) → Dec (R s t)) where
  pub rank_below : (ts : List T) (t : T) → Listed ts t → rank same R d ts t < top ts
  rank_below [] t h = absurd h
  rank_below (b ∷ ts) t h = let ih = rank_below ts t in grind arith

  module _ (irr : (t : T) → R t t → ⊥) (trans : (s u t : T) → R s u → R u t → R s t) where
    pub rank_rises : (ts : List T) (s t : T) → Listed ts s → Listed ts t → R s t →
        rank same R d ts s < rank same R d ts t
    rank_rises [] s t hs ht r = absurd hs
    rank_rises (b ∷ ts) s t hs ht r =
        let ih = rank_rises ts s t in
        let below = rank_below ts s in
        let from : s ≡ b → R b t = λ e. subst (λ x. R x t) e r in
        let onward : R b s → R b t = λ q. trans b s t q r in
        let back : t ≡ b → R b t → ⊥ = λ e q. irr b (subst (R b) e q) in
        grind arith

  pub rank_apart : (ts : List T) (s t : T) → Listed ts s → Listed ts t → rank same R d ts s ≡ rank same R d ts t → s ≡ t
  rank_apart [] s t hs ht e = absurd hs
  rank_apart (b ∷ ts) s t hs ht e =
      let ih = rank_apart ts s t in
      let bs = rank_below ts s in
      let bt = rank_below ts t in
      grind arith

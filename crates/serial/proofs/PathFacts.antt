-- Paths by any steps, through any stops.
use Rattle.std.proofs.Common.{◌≡◌, ℕ, ◌<◌, ◌⊎◌, ◌↔◌, refl, subst, inl, inr, arith}
use Rattle.serial.specs.Paths.{PathThrough, direct, through, Anywhere}

-- Two paths make one where the transaction at which they meet is permitted.
pub join : {T : Type 0} {L : T → T → Type 0} {C : T → Type 0} {s u t : T} → PathThrough L C s u → C u →
    PathThrough L C u t → PathThrough L C s t
join (direct l) c q = through l c q
join (through l d p) c q = through l d (join p c q)

-- Where every stop has K, and steps between transactions that have K are steps of another relation, so are paths between such.
pub relay : {T : Type 0} {L : T → T → Type 0} {C : T → Type 0} (M : T → T → Type 0) (D K : T → Type 0) →
    ((s t : T) → K s → K t → L s t → M s t) → ((u : T) → C u → K u × D u) → {s t : T} → K s → K t →
    PathThrough L C s t → PathThrough M D s t
relay M D K step stop ks kt (direct l) = direct (step _ _ ks kt l)
relay M D K step stop ks kt (through {u = u} l c p) =
    through (step _ _ ks (stop u c).0 l) (stop u c).1 (relay M D K step stop (stop u c).0 kt p)

-- More stops permitted, the same steps.
pub widen : {T : Type 0} {L : T → T → Type 0} {C : T → Type 0} (D : T → Type 0) → ((u : T) → C u → D u) → {s t : T} →
    PathThrough L C s t → PathThrough L D s t
widen D f p = relay _ D Anywhere (λ _ _ _ _ l. l) (λ u c. (tt, f u c)) tt tt p

-- A number that rises along every step rises along every path.
pub rises : {T : Type 0} {L : T → T → Type 0} {C : T → Type 0} (f : T → ℕ) → ((s t : T) → L s t → f s < f t) →
    {s t : T} → PathThrough L C s t → f s < f t
rises f up (direct l) = up _ _ l
rises f up (through l c p) = let one = up _ _ l in let more = rises f up p in omega arith

-- One more stop permitted: a path through C or b is a path through C, or one into b and one out of b.
pub one_more_stop : {T : Type 0} {L : T → T → Type 0} (C : T → Type 0) (b : T) {s t : T} →
    PathThrough L (λ u. C u ⊎ (u ≡ b)) s t ↔ (PathThrough L C s t ⊎ (PathThrough L C s b × PathThrough L C b t))
one_more_stop {T} {L} C b {s} {t} = (cut, mend)
  where
    at_b : {v u w : T} → L v u → u ≡ b → PathThrough L C u w ⊎ (PathThrough L C u b × PathThrough L C b w) →
        PathThrough L C v b × PathThrough L C b w
    at_b {v} {u} {w} l e (inl p) = (direct (subst (L v) e l), subst (λ x. PathThrough L C x w) e p)
    at_b {v} {u} {w} l e (inr p) = (direct (subst (L v) e l), p.1)

    past : {v u w : T} → L v u → C u → PathThrough L C u w ⊎ (PathThrough L C u b × PathThrough L C b w) →
        PathThrough L C v w ⊎ (PathThrough L C v b × PathThrough L C b w)
    past l c (inl p) = inl (through l c p)
    past l c (inr p) = inr (through l c p.0, p.1)

    cut : {v w : T} → PathThrough L (λ u. C u ⊎ (u ≡ b)) v w →
        PathThrough L C v w ⊎ (PathThrough L C v b × PathThrough L C b w)
    cut (direct l) = inl (direct l)
    cut (through l (inl c) p) = past l c (cut p)
    cut (through l (inr e) p) = inr (at_b l e (cut p))

    mend : PathThrough L C s t ⊎ (PathThrough L C s b × PathThrough L C b t) → PathThrough L (λ u. C u ⊎ (u ≡ b)) s t
    mend (inl p) = widen _ (λ _ c. inl c) p
    mend (inr p) = join (widen _ (λ _ c. inl c) p.0) (inr refl) (widen _ (λ _ c. inl c) p.1)

-- Where no transaction in C has a path back to itself, one in C or b has exactly when b had one.
pub one_more_cycle : {T : Type 0} {L : T → T → Type 0} (C : T → Type 0) (b : T) →
    ((s : T) → C s → PathThrough L C s s → ⊥) → ((s : T) × (C s ⊎ (s ≡ b)) × PathThrough L (λ u. C u ⊎ (u ≡ b)) s s) ↔
    PathThrough L C b b
one_more_cycle {T} {L} C b none = (λ r. found r.0 r.1 ((one_more_stop C b).0 r.2), λ p. (b, inr refl, widen _ (λ _ c. inl c) p))
  where
    found : (s : T) → C s ⊎ (s ≡ b) → PathThrough L C s s ⊎ (PathThrough L C s b × PathThrough L C b s) →
        PathThrough L C b b
    found s (inl c) (inl p) = absurd (none s c p)
    found s (inl c) (inr p) = join p.1 c p.0
    found s (inr e) (inl p) = subst (λ x. PathThrough L C x x) e p
    found s (inr e) (inr p) = subst (λ x. PathThrough L C b x) e p.1

-- What every step's end has, every path's end has.
pub path_end : {T : Type 0} {L : T → T → Type 0} {C : T → Type 0} (K : T → Type 0) → ((s t : T) → L s t → K t) →
    {s t : T} → PathThrough L C s t → K t
path_end K f (direct l) = f _ _ l
path_end K f (through l c p) = path_end K f p

-- What every step's start has, every path's start has.
pub path_start : {T : Type 0} {L : T → T → Type 0} {C : T → Type 0} (K : T → Type 0) → ((s t : T) → L s t → K s) →
    {s t : T} → PathThrough L C s t → K s
path_start K f (direct l) = f _ _ l
path_start K f (through l c p) = f _ _ l

-- What every step's end has, every stop has.
pub path_stops : {T : Type 0} {L : T → T → Type 0} {C : T → Type 0} (D : T → Type 0) → ((s t : T) → L s t → D t) →
    {s t : T} → PathThrough L C s t → PathThrough L D s t
path_stops D f (direct l) = direct l
path_stops D f (through l c p) = through l (f _ _ l) (path_stops D f p)

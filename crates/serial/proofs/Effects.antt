-- What keeping some transactions, one more access, a commit and an abort change in the set of paths.
use Rattle.std.proofs.Common.{◌≡◌, Bool, true, ◌⊎◌, ◌↔◌, List, [], ◌∷◌, ◌++◌, sym, refl, subst, inl, inr, arith}
use Rattle.serial.specs.Lists.{Some}
use Rattle.serial.specs.Accesses.{Conflict, Leads}
use Rattle.serial.specs.Paths.{PathThrough, direct, through, In, PathIn, Anywhere, Cycle}
use Rattle.serial.specs.Changes.{kept, Adds, AllBut, Made, MadeConflicting, Reaches}
use Rattle.serial.proofs.ListFacts.{some_map, some_tells, some_push, some_kept, pair_map, pair_tells, pair_push, pair_kept}
use Rattle.serial.proofs.PathFacts.{join, relay, widen, path_start, path_end, path_stops, one_more_stop, one_more_cycle}

module _ {A T : Type 0} (by : A → T) (conflict : A → A → Bool) where
  -- In what is kept, one transaction leads to another exactly when both are kept and it does in the whole.
  pub leads_kept : (set : T → Bool) (xs : List A) (s t : T) → Leads by conflict (kept by set xs) s t ↔
      (In set s × In set t × Leads by conflict xs s t)
  leads_kept set xs s t = (
    λ l.
        let m = (pair_kept by set _ xs).0 l in (
          pair_tells _ _ (λ x y h. subst (In set) h.1.1.0 h.0) xs m,
          pair_tells _ _ (λ x y h. subst (In set) h.1.1.1 h.1.0) xs m,
          pair_map _ _ (λ x y h. h.1.1) xs m,
        ),
    λ h.
        (pair_kept by set _ xs).1
        (pair_map _ _ (λ x y r. (subst (In set) (sym r.0) h.0, (subst (In set) (sym r.1) h.1, r))) xs h.2),
  )

  -- Where every stop is kept, so it is with paths.
  pub path_kept : (set : T → Bool) (C : T → Type 0) → ((u : T) → C u → In set u) → (xs : List A) (s t : T) →
      PathThrough (Leads by conflict (kept by set xs)) C s t ↔
      (In set s × In set t × PathThrough (Leads by conflict xs) C s t)
  path_kept set C f xs s t = (
    λ p. (
      path_start (In set) (λ v w l. ((leads_kept set xs v w).0 l).0) p,
      path_end (In set) (λ v w l. ((leads_kept set xs v w).0 l).1) p,
      relay _ _ Anywhere (λ v w _ _ l. ((leads_kept set xs v w).0 l).2) (λ u c. (tt, c)) tt tt p,
    ),
    λ h. relay _ _ (In set) (λ v w kv kw l. (leads_kept set xs v w).1 (kv, kw, l)) (λ u c. (f u c, c)) h.0 h.1 h.2,
  )

  -- What is kept has a cycle exactly when a kept transaction has, in the whole, a path back to itself through kept ones.
  pub cycle_kept : (set : T → Bool) (xs : List A) → Cycle by conflict (kept by set xs) ↔
      ((t : T) × In set t × PathIn by conflict xs set t t)
  cycle_kept set xs = (
    λ (t, p).
        let h = (path_kept set (In set) (λ u c. c) xs t t).0 (path_stops (In set) (λ v w l. ((leads_kept set xs v w).0 l).1) p) in
        (t, h.0, h.2),
    λ (t, m, p). (t, widen Anywhere (λ _ _. tt) ((path_kept set (In set) (λ u c. c) xs t t).1 (m, m, p))),
  )

  -- One more access adds steps into its transaction and no others.
  pub leads_push : (xs : List A) (y : A) (s t : T) → Leads by conflict (xs ++ (y ∷ [])) s t ↔
      (Leads by conflict xs s t ⊎ ((t ≡ by y) × MadeConflicting by conflict y xs s))
  leads_push xs y s t = (λ l. apart ((pair_push _ xs y).0 l), λ h. (pair_push _ xs y).1 (together h))
    where
      apart : Leads by conflict xs s t ⊎ Some (λ x. (by x ≡ s) × (by y ≡ t) × Conflict by conflict x y) xs →
          Leads by conflict xs s t ⊎ ((t ≡ by y) × MadeConflicting by conflict y xs s)
      apart (inl l) = inl l
      apart (inr h) = inr (some_tells _ _ (λ x r. sym r.1) xs h, some_map _ _ (λ x r. (r.0, r.2)) xs h)

      together : Leads by conflict xs s t ⊎ ((t ≡ by y) × MadeConflicting by conflict y xs s) →
          Leads by conflict xs s t ⊎ Some (λ x. (by x ≡ s) × (by y ≡ t) × Conflict by conflict x y) xs
      together (inl l) = inl l
      together (inr h) = inr (some_map _ _ (λ x r. (r.0, sym h.0, r.1)) xs h.1)

  -- One more access, by a transaction that is no stop, adds paths into that transaction and no others.
  pub path_push : (C : T → Type 0) (xs : List A) (y : A) → (C (by y) → ⊥) → (s t : T) →
      PathThrough (Leads by conflict (xs ++ (y ∷ []))) C s t ↔
      (PathThrough (Leads by conflict xs) C s t ⊎ ((t ≡ by y) ×
      (MadeConflicting by conflict y xs s ⊎ ((u : T) × C u × PathThrough (Leads by conflict xs) C s u × MadeConflicting by conflict y xs u))))
  path_push C xs y barred s t = (go, back)
    where
      Before : T → T → Type 0
      Before = PathThrough (Leads by conflict xs) C

      After : T → T → Type 0
      After = PathThrough (Leads by conflict (xs ++ (y ∷ []))) C

      Met : T → Type 0
      Met = MadeConflicting by conflict y xs

      New : T → T → Type 0
      New v w = (w ≡ by y) × (Met v ⊎ ((u : T) × C u × Before v u × Met u))

      one : {v w : T} → Leads by conflict xs v w ⊎ ((w ≡ by y) × Met v) → Before v w ⊎ New v w
      one (inl l) = inl (direct l)
      one (inr (e, m)) = inr (e, inl m)

      more : {v u w : T} → Leads by conflict xs v u → C u → Before u w ⊎ New u w → Before v w ⊎ New v w
      more l c (inl p) = inl (through l c p)
      more l c (inr (e, inl m)) = inr (e, inr (_, c, direct l, m))
      more l c (inr (e, inr (x, d, p, m))) = inr (e, inr (x, d, through l c p, m))

      onward : {v u w : T} → Leads by conflict xs v u ⊎ ((u ≡ by y) × Met v) → C u → Before u w ⊎ New u w →
          Before v w ⊎ New v w
      onward (inl l) c p = more l c p
      onward (inr (e, m)) c p = absurd (barred (subst C e c))

      go : {v w : T} → After v w → Before v w ⊎ New v w
      go (direct l) = one ((leads_push xs y _ _).0 l)
      go (through l c p) = onward ((leads_push xs y _ _).0 l) c (go p)

      still : {v w : T} → Before v w → After v w
      still p = relay _ _ Anywhere (λ v w _ _ l. (leads_push xs y v w).1 (inl l)) (λ u c. (tt, c)) tt tt p

      back : Before s t ⊎ New s t → After s t
      back (inl p) = still p
      back (inr (e, inl m)) = direct ((leads_push xs y s t).1 (inr (e, m)))
      back (inr (e, inr (u, c, p, m))) = join (still p) c (direct ((leads_push xs y u t).1 (inr (e, m))))

  -- One more transaction in the set: the paths into it and out of it are joined.
  pub path_adds : (smaller larger : T → Bool) (b : T) → Adds b smaller larger → (xs : List A) (s t : T) →
      PathIn by conflict xs larger s t ↔
      (PathIn by conflict xs smaller s t ⊎ (PathIn by conflict xs smaller s b × PathIn by conflict xs smaller b t))
  path_adds smaller larger b adds xs s t = (
    λ p. (one_more_stop (In smaller) b).0 (widen _ (λ u c. (adds u).0 c) p),
    λ h. widen _ (λ u c. (adds u).1 c) ((one_more_stop (In smaller) b).1 h),
  )

  -- One more transaction in the set: what it has and reaches is reached from whatever has a path to it.
  pub reaches_adds : (smaller larger : T → Bool) (b : T) → Adds b smaller larger →
      (P : T → Type 0) (xs : List A) (s : T) → Reaches by conflict xs larger P s ↔
      (Reaches by conflict xs smaller P s ⊎ (PathIn by conflict xs smaller s b × (P b ⊎ Reaches by conflict xs smaller P b)))
  reaches_adds smaller larger b adds P xs s = (λ (u, m, p, q). split ((adds u).0 m) ((path_adds smaller larger b adds xs s u).0 p) q, back)
    where
      Path' : T → T → Type 0
      Path' = PathIn by conflict xs smaller

      Was : T → Type 0
      Was = Reaches by conflict xs smaller P

      split : {u : T} → In smaller u ⊎ (u ≡ b) → Path' s u ⊎ (Path' s b × Path' b u) → P u →
          Was s ⊎ (Path' s b × (P b ⊎ Was b))
      split (inl c) (inl p) q = inl (_, c, p, q)
      split (inl c) (inr (i, o)) q = inr (i, inr (_, c, o, q))
      split (inr e) (inl p) q = inr (subst (Path' s) e p, inl (subst P e q))
      split (inr e) (inr (i, o)) q = inr (i, inl (subst P e q))

      now : {v u : T} → Path' v u → PathIn by conflict xs larger v u
      now p = (path_adds smaller larger b adds xs _ _).1 (inl p)

      back : Was s ⊎ (Path' s b × (P b ⊎ Was b)) → Reaches by conflict xs larger P s
      back (inl (u, c, p, q)) = (u, (adds u).1 (inl c), now p, q)
      back (inr (i, inl q)) = (b, (adds b).1 (inr refl), now i, q)
      back (inr (i, inr (u, c, o, q))) = (u, (adds u).1 (inl c), (path_adds smaller larger b adds xs s u).1 (inr (i, o)), q)

  -- Where what was kept had no cycle, it has one with b exactly when b had a path back to itself.
  pub cycle_adds : (smaller larger : T → Bool) (b : T) → Adds b smaller larger → (xs : List A) →
      (Cycle by conflict (kept by smaller xs) → ⊥) → Cycle by conflict (kept by larger xs) ↔
      PathIn by conflict xs smaller b b
  cycle_adds smaller larger b adds xs none = (λ c. one.0 (there ((cycle_kept larger xs).0 c)), λ p. (cycle_kept larger xs).1 (back (one.1 p)))
    where
      Or-b : T → Type 0
      Or-b u = In smaller u ⊎ (u ≡ b)

      one : ((s : T) × Or-b s × PathThrough (Leads by conflict xs) Or-b s s) ↔ PathIn by conflict xs smaller b b
      one = one_more_cycle (In smaller) b (λ s c p. none ((cycle_kept smaller xs).1 (s, c, p)))

      there : ((s : T) × In larger s × PathIn by conflict xs larger s s) →
          (s : T) × Or-b s × PathThrough (Leads by conflict xs) Or-b s s
      there (s, m, p) = (s, (adds s).0 m, widen _ (λ u c. (adds u).0 c) p)

      back : ((s : T) × Or-b s × PathThrough (Leads by conflict xs) Or-b s s) →
          (s : T) × In larger s × PathIn by conflict xs larger s s
      back (s, m, p) = (s, (adds s).1 m, widen _ (λ u c. (adds u).1 c) p)

  -- Without the accesses of b, which is no stop, only the paths from b and to b are gone.
  pub path_without : (set others : T → Bool) (b : T) → (In set b → ⊥) → AllBut b others → (xs : List A) (s t : T) →
      PathIn by conflict (kept by others xs) set s t ↔ ((s ≡ b → ⊥) × (t ≡ b → ⊥) × PathIn by conflict xs set s t)
  path_without set others b barred but xs s t =
      let same = path_kept others (In set) (λ u c. (but u).1 (λ e. barred (subst (In set) e c))) xs s t in
      (λ p. let h = same.0 p in ((but s).0 h.0, (but t).0 h.1, h.2), λ h. same.1 ((but s).1 h.0, (but t).1 h.1, h.2))

  -- One more access, by a transaction outside the set, leaves what is reached through the set as it was.
  pub reaches_push : (set : T → Bool) (P P' : T → Type 0) → ((u : T) → In set u → P' u ↔ P u) → (xs : List A) (y : A) →
      (In set (by y) → ⊥) → (s : T) → Reaches by conflict (xs ++ (y ∷ [])) set P' s ↔ Reaches by conflict xs set P s
  reaches_push set P P' same xs y barred s = (
    λ (u, c, p, q). (u, c, old u _ c ((path_push (In set) xs y barred s u).0 p), (same u c).0 q),
    λ (u, c, p, q). (u, c, (path_push (In set) xs y barred s u).1 (inl p), (same u c).1 q),
  )
    where
      old : (u : T) (Q : Type 0) → In set u → PathIn by conflict xs set s u ⊎ ((u ≡ by y) × Q) →
          PathIn by conflict xs set s u
      old u Q c (inl p) = p
      old u Q c (inr (e, _)) = absurd (barred (subst (In set) e c))

  -- Without the accesses of b, which is outside the set, what the others reach through the set is as it was.
  pub reaches_without : (set others : T → Bool) (b : T) → (In set b → ⊥) → AllBut b others → (P P' : T → Type 0) →
      ((u : T) → In set u → P' u ↔ P u) → (xs : List A) (s : T) → Reaches by conflict (kept by others xs) set P' s ↔
      ((s ≡ b → ⊥) × Reaches by conflict xs set P s)
  reaches_without set others b barred but P P' same xs s = (
    λ (u, c, p, q).
        let h = (path_without set others b barred but xs s u).0 p in
        (h.0, (u, c, h.2, (same u c).0 q)),
    λ (n, (u, c, p, q)).
        (u, c, (path_without set others b barred but xs s u).1 (n, λ e. barred (subst (In set) e c), p), (same u c).1 q),
  )

-- Another transaction's access leaves what u made as it was.
pub made_push : {A T : Type 0} (by : A → T) (test : A → Bool) (xs : List A) (y : A) (u : T) → (by y ≡ u → ⊥) →
    Made by test (xs ++ (y ∷ [])) u ↔ Made by test xs u
made_push by test xs y u other = let push = some_push (λ x. (by x ≡ u) × (test x ≡ true)) xs y in (grind arith, grind arith)

-- What a kept transaction made is kept.
pub made_kept : {A T : Type 0} (by : A → T) (set : T → Bool) (test : A → Bool) (xs : List A) (u : T) → In set u →
    Made by test (kept by set xs) u ↔ Made by test xs u
made_kept by set test xs u m = (
  λ h. some_map _ _ (λ x r. r.1) xs ((some_kept by set _ xs).0 h),
  λ h. (some_kept by set _ xs).1 (some_map _ _ (λ x r. (subst (In set) (sym r.0) m, r)) xs h),
)

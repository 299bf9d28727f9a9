use Rattle.std.proofs.Common.{◌≡◌, ℕ, ◌+◌, ◌<◌, Bool, ◌⊎◌, ◌≢◌, inl, inr, sym, ap, subst, arith}
use Rattle.std.proofs.Math.Bridge.{le_prop}
use Rattle.std.proofs.lemmas.Bool.{cases_eq}
use Rattle.std.proofs.lemmas.Bool.Decides.{nat_tests}
use Rattle.boards.specs.BaySets.{bit}
use Rattle.boards.specs.declared.bay.Bay.{Bay}
use Rattle.boards.proofs.BitLaws.{bit_zero}
use Rattle.boards.proofs.bay_set.bays_that.Goals as goal
use Rattle.boards.proofs.bay_set.bays_that.Goals.{then-test, else-test}

-- a bay is known by its number
same_bay : (bay : Bay) (number : ℕ) (below : number < 32) → number ≡ bay.number → ◌≡◌ {A = Bay} (record { number = number; below = below }) bay
same_bay bay number below e =
    subst (λ (n : ℕ). (low : n < 32) → ◌≡◌ {A = Bay} (record { number = number; below = below }) (record { number = n; below = low })) e (λ low. ap made (le_prop below low)) bay.below
  where
    made : number < 32 → Bay
    made h = record { number = number; below = h }

pub loop-number-init : goal.loop-number-init
loop-number-init g c = (λ bay l. absurd (omega arith), λ k l. bit_zero k)

-- one more bay is tested
module _ (P : Bay → Bool → Type 0) (number : ℕ) (below : number < 32) (answer : Bool) (old new : ℕ) where
  one_more : P (record { number = number; below = below }) answer → ((bay : Bay) → bay.number < number → P bay (bit old bay.number)) → bit new number ≡ answer → ((k : ℕ) → (k ≢ number) → bit new k ≡ bit old k) → (bay : Bay) → bay.number < number + 1 → P bay (bit new bay.number)
  one_more here before is others bay l = at (cases_eq number bay.number)
    where
      at : (number ≡ bay.number) ⊎ (number ≡ bay.number → ⊥) → P bay (bit new bay.number)
      at (inl e) = subst (λ (b : Bay). P b (bit new b.number)) (same_bay bay number below e) (subst (P (record { number = number; below = below })) (sym is) here)
      at (inr ne) = subst (P bay) (sym (others bay.number (λ e. ne (sym e)))) (before bay (omega arith))

pub loop-number-preserved : goal.loop-number-preserved
loop-number-preserved g c =
    elim c.if-test.branch [
      | then-test w ↦ (
        one_more (goal.F-post g c.args.test) c.loop-number.number _ c.test.result c.loop-number.bays c.if-test.bays c.test.ensures c.loop-number.invariant.0
            (let added = w.with_bay-bays.ensures.members c.loop-number.number in let held = w.if-test.true in rw w.bays-is (grind (arith, nat_tests)))
            (λ k ne. let added = w.with_bay-bays.ensures.members k in rw w.bays-is (grind (arith, nat_tests))),
        λ k l. let before = c.loop-number.invariant.1 k (omega arith) in let added = w.with_bay-bays.ensures.members k in rw w.bays-is (grind (arith, nat_tests)),
      )
      | else-test w ↦ (
        one_more (goal.F-post g c.args.test) c.loop-number.number _ c.test.result c.loop-number.bays c.if-test.bays c.test.ensures c.loop-number.invariant.0
            (let before = c.loop-number.invariant.1 c.loop-number.number (omega arith) in let held = w.if-test.false in rw w.bays-is (grind arith))
            (λ k ne. rw w.bays-is),
        λ k l. rw w.bays-is (c.loop-number.invariant.1 k (omega arith)),
      )
    ]

pub returns : goal.returns
returns g c bay = c.loop-number.invariant.0 bay (let below = bay.below in omega arith)

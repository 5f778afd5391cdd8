-- The slots of a house's contracts are apart, and fill a row of seventeen for each year.
use Rattle.std.proofs.Common.{◌≡◌, ℕ, ◌-◌, ◌*◌, ◌<◌, ◌≤◌, true, cond, ltb, refl, ap, inl, inr, arith}
use Rattle.std.proofs.lemmas.Bool.{ltb-true, lt-ltb, le-ltb, cases_lt}
use Rattle.market.specs.declared.calendar.Contract.TheVariants.{Month, Quarter, Year}
use Rattle.market.specs.Calendar.{in_house, slot, contract_at}
use Rattle.market.specs.CalendarLaws.{SlotsWithin, SlotsApart, SlotsFilled, SlotsHeld}

pub slots_within : SlotsWithin
slots_within years (Month m) h = omega (arith, ltb-true m (12 * years) h)
slots_within years (Quarter q) h = omega (arith, ltb-true q (4 * years) h)
slots_within years (Year n) h = omega (arith, ltb-true n years h)

pub slots_apart : SlotsApart
slots_apart years (Month m) (Month n) h k e = ap Month e
slots_apart years (Month m) (Quarter q) h k e = absurd (omega (arith, ltb-true m (12 * years) h))
slots_apart years (Month m) (Year n) h k e = absurd (omega (arith, ltb-true m (12 * years) h))
slots_apart years (Quarter q) (Month m) h k e = absurd (omega (arith, ltb-true m (12 * years) k))
slots_apart years (Quarter q) (Quarter p) h k e = ap Quarter (omega arith)
slots_apart years (Quarter q) (Year n) h k e = absurd (omega (arith, ltb-true q (4 * years) h))
slots_apart years (Year n) (Month m) h k e = absurd (omega (arith, ltb-true m (12 * years) k))
slots_apart years (Year n) (Quarter q) h k e = absurd (omega (arith, ltb-true q (4 * years) k))
slots_apart years (Year n) (Year p) h k e = ap Year (omega arith)

-- a slot behind those of the months
behind_months : (years k : ℕ) → k < 17 * years → 12 * years ≤ k → let c = cond (ltb k (16 * years)) (Quarter (k - 12 * years)) (Year (k - 16 * years)) in (in_house years c ≡ true) × (slot years c ≡ k)
behind_months years k h low =
    elim (cases_lt k (16 * years)) [
      | inl less ↦ let e = lt-ltb k (16 * years) less in rw e (lt-ltb (k - 12 * years) (4 * years) (omega arith), omega arith)
      | inr more ↦ let e = le-ltb k (16 * years) more in rw e (lt-ltb (k - 16 * years) years (omega arith), omega arith)
    ]

pub slots_held : SlotsHeld
unfolding contract_at
slots_held years k h =
    elim (cases_lt k (12 * years)) [
      | inl less ↦ let e = lt-ltb k (12 * years) less in rw e (e, refl)
      | inr more ↦ let e = le-ltb k (12 * years) more in rw e (behind_months years k h more)
    ]

pub slots_filled : SlotsFilled
slots_filled years k h = (contract_at years k, slots_held years k h)

-- An accepted opening begins a history.
use Rattle.std.proofs.Common.{◌≡◌, ℕ, ◌-◌, ◌≤◌, pos, Some, None, Ok, Err, Option, Result, sym, refl, ap, subst, arith}
use Rattle.std.proofs.lemmas.List.{length-replicate}
use Rattle.std.proofs.lemmas.Bool.Decides.{nat_tests}
use Rattle.line.specs.Tables.{places, all_blank}
use Rattle.market.specs.Records.{no_order, no_lot, no_trade}
use Rattle.market.specs.declared.refusal.Refusal.{Refusal}
use Rattle.vault.specs.Checks.{first_that_holds}
use Rattle.vault.specs.Cash.{Cash, Whole}
use Rattle.history.specs.State.{State, beside}
use Rattle.history.specs.Calls.{outcome, unless_refused, figures, opening_refusals, newly_opened, opening}
use Rattle.history.specs.History.{Fresh}
use Rattle.history.specs.Laws.{Begins}
use Rattle.history.proofs.Facts.{begins}

-- a blank table has the places that it is said to have
blank_places : {X : Type 0} (b : X) (used n : ℕ) → used ≤ n → places (all_blank b used n) ≡ n
blank_places b used n le = omega (arith, length-replicate used b, length-replicate (n - used) b)

same_blank : {X : Type 0} (b : X) (used n : ℕ) → used ≤ n → all_blank b used n ≡ all_blank b used (places (all_blank b used n))
same_blank b used n le = ap (all_blank b used) (sym (blank_places b used n le))

fresh : (s : State) (c : Cash) (members first_year years : ℕ) → figures members years ≤ places s.results → Whole c → Fresh (beside (newly_opened s members first_year years) c)
fresh s c members first_year years room w = record {
  evening = refl;
  first = refl;
  states = refl;
  orders = same_blank no_order 0 (places s.orders) (omega arith);
  lots = same_blank no_lot 0 (places s.lots) (omega arith);
  tape = same_blank no_trade 0 (places s.tape) (omega arith);
  results = same_blank (pos 0) (figures members years) (places s.results) room;
  cash = w;
}

-- a house that may open has a size in range and tables of lengths in range
pub record Opens (s : State) (members first_year years : ℕ) : Type 0 where
  pub size : (1 ≤ members) × (members ≤ 64)
  pub dates : (2020 ≤ first_year) × (first_year ≤ 2090) × (1 ≤ years) × (years ≤ 4)
  pub room : figures members years ≤ places s.results
  pub lengths : (places s.orders ≤ 256) × (places s.lots ≤ 8192) × (places s.tape ≤ 4096)

pub opens : (s : State) (members first_year years : ℕ) → first_that_holds (opening_refusals s members first_year years) ≡ None → Opens s members first_year years
opens s members first_year years none = record {
  size = (grind (arith, nat_tests), grind (arith, nat_tests));
  dates = (grind (arith, nat_tests), grind (arith, nat_tests), grind (arith, nat_tests), grind (arith, nat_tests));
  room = grind (arith, nat_tests);
  lengths = (grind (arith, nat_tests), grind (arith, nat_tests), grind (arith, nat_tests));
}

module _ (s : State) (members first_year years : ℕ) where
  after : (why : Option Refusal) → first_that_holds (opening_refusals s members first_year years) ≡ why
      → (r : Result (Unit {0}) Refusal) (t : State) → outcome r t ≡ unless_refused why s (newly_opened s members first_year years) → Begins r t
  after (Some e) h (Err f) t p = tt
  after (Some e) h (Ok x) t p = let q : ◌≡◌ {A = Result (Unit {0}) Refusal} (Ok x) (Err e) = ap (λ o. o.answer) p in let z : ◌≡◌ {A = ℕ} 0 1 = cc in absurd (omega arith)
  after None h (Err f) t p = tt
  after None h (Ok x) t p =
      let room : figures members years ≤ places s.results = grind (arith, nat_tests) in
      subst (λ (u : State). Begins (Ok x) u) (sym (ap (λ o. o.left) p)) (λ c w. begins (beside (newly_opened s members first_year years) c) (fresh s c members first_year years room w))

  pub opening_begins : (r : Result (Unit {0}) Refusal) (t : State) → outcome r t ≡ opening s members first_year years → Begins r t
  opening_begins r t p = after _ refl r t p

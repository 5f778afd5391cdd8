-- Looking at contracts that stand next to each other, one after the other.
use Rattle.std.proofs.Common.{◌≡◌, ℕ, zero, suc, ◌+◌, ◌*◌, Bool, true, false, ◌||◌, List, [], ◌∷◌, ◌++◌, map, get_or, sym, refl, ap, ◌∙◌, arith}
use Rattle.market.specs.Calendar.{slot, parts, part, months_of, numbers_from}
use Rattle.market.specs.States.{is_past}
use Rattle.market.specs.declared.calendar.Contract.{Contract}
use Rattle.market.specs.declared.calendar.Contract.TheVariants.{Month, Quarter, Year}
use Rattle.market.specs.declared.state.ContractState.TheVariants.{Unlisted}
use Rattle.history.specs.State.{State}
use Rattle.history.specs.Standing.{any_state, past_inside, state_of}
use Rattle.house.specs.Runs.{any_past}

-- contracts whose slots follow one another
any_run : (s : State) (f : ℕ → Contract) (base : ℕ) → ((i : ℕ) → slot s.years (f i) ≡ base + i)
    → (from count : ℕ) → any_state s is_past (map f (numbers_from from count)) ≡ any_past s.states (base + from) count
any_run s f base at from zero = refl
any_run s f base at from (suc count) =
    let e : base + suc from ≡ suc (base + from) = omega arith in
    ap (λ (k : ℕ). is_past (get_or s.states k Unlisted) || any_state s is_past (map f (numbers_from (suc from) count))) (at from)
    ∙ ap (λ (b : Bool). is_past (get_or s.states (base + from) Unlisted) || b) (any_run s f base at (suc from) count ∙ ap (λ (k : ℕ). any_past s.states k count) e)

or_assoc : (a b c : Bool) → ((a || b) || c) ≡ (a || (b || c))
or_assoc true b c = refl
or_assoc false b c = refl

-- contracts one after the other
any_both : (s : State) (cs ds : List Contract) → any_state s is_past (cs ++ ds) ≡ (any_state s is_past cs || any_state s is_past ds)
any_both s [] ds = refl
any_both s (c ∷ cs) ds = ap (λ (b : Bool). is_past (state_of s c) || b) (any_both s cs ds) ∙ sym (or_assoc (is_past (state_of s c)) (any_state s is_past cs) (any_state s is_past ds))

-- the months inside a quarter
pub inside_quarter : (s : State) (q : ℕ) → past_inside s (Quarter q) ≡ any_past s.states (3 * q) 3
inside_quarter s q =
    let e : 3 * q + 0 ≡ 3 * q = omega arith in
    any_run s (part (Quarter q)) (3 * q) (λ i. refl) 0 3 ∙ ap (λ (k : ℕ). any_past s.states k 3) e

-- the quarters and the months inside a year
pub inside_year : (s : State) (n : ℕ) → past_inside s (Year n) ≡ (any_past s.states (12 * s.years + 4 * n) 4 || any_past s.states (12 * n) 12)
inside_year s n =
    let e : 12 * s.years + 4 * n + 0 ≡ 12 * s.years + 4 * n = omega arith in
    let f : 0 + 12 * n ≡ 12 * n = omega arith in
    let quarters : any_state s is_past (parts (Year n)) ≡ any_past s.states (12 * s.years + 4 * n) 4
    = any_run s (part (Year n)) (12 * s.years + 4 * n) (λ i. omega arith) 0 4 ∙ ap (λ (k : ℕ). any_past s.states k 4) e in
    let months : any_state s is_past (map Month (months_of (Year n))) ≡ any_past s.states (12 * n) 12
    = any_run s Month 0 (λ i. omega arith) (12 * n) 12 ∙ ap (λ (k : ℕ). any_past s.states k 12) f in
    any_both s (parts (Year n)) (map Month (months_of (Year n)))
    ∙ ap (λ (b : Bool). b || any_state s is_past (map Month (months_of (Year n)))) quarters
    ∙ ap (λ (b : Bool). any_past s.states (12 * s.years + 4 * n) 4 || b) months

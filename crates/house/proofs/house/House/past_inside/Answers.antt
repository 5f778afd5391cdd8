use Rattle.std.proofs.Common.{◌≡◌, ℕ, ◌+◌, ◌*◌, Bool, ◌||◌, sym, ap, ◌∙◌, arith}
use Rattle.history.specs.Standing.{past_inside}
use Rattle.house.specs.Runs.{any_past}
use Rattle.house.specs.View.{view}
use Rattle.house.proofs.Runs.{inside_quarter, inside_year}
use Rattle.house.proofs.house.House.past_inside.Goals as goal

pub returns-in-Quarter : goal.returns-in-Quarter
returns-in-Quarter c =
    let s = view c.args.self.now in
    c.any_past.ensures ∙ ap (λ (k : ℕ). any_past s.states (3 * k) 3) c.from.ensures ∙ sym (inside_quarter s c.in-Quarter.quarter) ∙ sym (ap (past_inside s) c.in-Quarter.is)

pub returns-then-any_past : goal.returns-then-any_past
returns-then-any_past c =
    let s = view c.args.self.now in
    let n = c.in-Year.year in
    let at : 12 * c.from-in-Year.result + 4 * c.from-at.result ≡ 12 * s.years + 4 * n = omega (arith, c.from-in-Year.ensures, c.from-at.ensures) in
    let quarters : c.any_past-in-Year.result ≡ any_past s.states (12 * s.years + 4 * n) 4 = c.any_past-in-Year.ensures ∙ ap (λ (k : ℕ). any_past s.states k 4) at in
    let months = any_past s.states (12 * n) 12 in
    c.if-any_past.true ∙ sym (ap (λ (b : Bool). b || months) (sym quarters ∙ c.if-any_past.true)) ∙ sym (inside_year s n) ∙ sym (ap (past_inside s) c.in-Year.is)

pub returns-else-any_past : goal.returns-else-any_past
returns-else-any_past c =
    let s = view c.args.self.now in
    let n = c.in-Year.year in
    let at : 12 * c.from-in-Year.result + 4 * c.from-at.result ≡ 12 * s.years + 4 * n = omega (arith, c.from-in-Year.ensures, c.from-at.ensures) in
    let quarters : c.any_past-in-Year.result ≡ any_past s.states (12 * s.years + 4 * n) 4 = c.any_past-in-Year.ensures ∙ ap (λ (k : ℕ). any_past s.states k 4) at in
    let months = any_past s.states (12 * n) 12 in
    c.any_past-else-any_past.ensures ∙ ap (λ (k : ℕ). any_past s.states (12 * k) 12) c.from-at.ensures
    ∙ sym (ap (λ (b : Bool). b || months) (sym quarters ∙ c.if-any_past.false)) ∙ sym (inside_year s n) ∙ sym (ap (past_inside s) c.in-Year.is)

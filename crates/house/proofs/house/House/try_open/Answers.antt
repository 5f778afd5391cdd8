-- An opening that is admitted fits the tables.
use Rattle.std.proofs.Common.{ℕ, ◌≤◌, sym, subst}
use Rattle.line.specs.Tables.{places}
use Rattle.history.specs.Calls.{figures}
use Rattle.history.proofs.Opening.{opens}
use Rattle.house.specs.View.{view}
use Rattle.house.proofs.house.House.try_open.Goals as goal

pub begin-requires : goal.begin-requires
begin-requires c =
    let s = view c.args.self.now in
    let size = c.in_ok-size.size in
    let a = c.in_ok-size.ensures in
    let o = opens s c.args.members c.args.first_year c.args.years a.0 in
    record {
      room = subst (λ (m : ℕ). figures m size.years ≤ places s.results) (sym a.1.0) (subst (λ (y : ℕ). figures c.args.members y ≤ places s.results) (sym a.1.2) o.room);
      lengths = o.lengths;
    }

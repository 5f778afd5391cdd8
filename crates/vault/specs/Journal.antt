-- What a movement leaves of a journal.
use Rattle.std.specs.Prelude.{◌≡◌, Result}
use Rattle.vault.specs.declared.entries.Entry.{Entry}
use Rattle.vault.specs.declared.faults.Fault.{Fault}
use Rattle.vault.specs.declared.posting.Journal.{Journal}
use Rattle.vault.specs.Cash.{Cash, Moved, outcome}
use Rattle.vault.specs.Entries.{meant, posted, counted}

-- a call answered r on a journal: as a vault it did what `does` says, it wrote this entry if it took the movement,
-- and the list stays the caller's
pub record Posts (old new : Journal) (r : Result (Unit {0}) Fault) (does : Cash → Moved) (entry : Entry) : Type 0 where
  pub moves : outcome r (meant new.entries.now new.used) ≡ does (meant old.entries.now old.used)
  pub list : new.entries.now ≡ posted r old.entries.now old.used entry
  pub used : new.used ≡ counted r old.used
  pub lent : new.entries.ghost_name ≡ old.entries.ghost_name

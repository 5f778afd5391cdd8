-- What a lent table holds, as lists.
-- whole: every lent place; records: the places in use, at the front; behind: the free places after them.
use Rattle.std.specs.Prelude.{◌≡◌, ℕ, ◌+◌, ◌-◌, ◌<◌, ◌≤◌, List, length, take, drop, replicate}
use Rattle.line.specs.declared.table.Table.{Table}

-- every lent place
abbrev pub whole : {X : Type 0} → Table X → List X
whole t = t.places.now

-- the records in use
abbrev pub records : {X : Type 0} → Table X → List X
records t = take t.used (whole t)

-- the places behind the records
abbrev pub behind : {X : Type 0} → Table X → List X
behind t = drop t.used (whole t)

-- the records stand within the places
abbrev pub Within : {X : Type 0} → Table X → Type 0
Within t = t.used ≤ length (whole t)

-- every free place is blank
abbrev pub Cleared : {X : Type 0} → X → Table X → Type 0
Cleared blank t = behind t ≡ replicate (length (behind t)) blank

-- the same lent places, as many as before, and blank behind the records if they were
pub record StaysLent {X : Type 0} (blank : X) (old new : Table X) : Type 0 where
  pub same : new.places.ghost_name ≡ old.places.ghost_name
  pub length : length (whole new) ≡ length (whole old)
  pub cleared : Cleared blank old → Cleared blank new

-- a place is free behind the records
abbrev pub Room : {X : Type 0} → Table X → Type 0
Room t = t.used < length (whole t)

-- a lent table apart from its memory: what stands in its records and in the free places behind them
pub record Held (X : Type 0) : Type 0 where
  pub records : List X
  pub behind : List X

-- what a lent table holds
abbrev pub held : {X : Type 0} → Table X → Held X
held t = record { records = records t; behind = behind t }

-- how many places it has
abbrev pub places : {X : Type 0} → Held X → ℕ
places h = length h.records + length h.behind

-- all places blank, the first of them in use
abbrev pub all_blank : {X : Type 0} → X → ℕ → ℕ → Held X
all_blank blank used n = record { records = replicate used blank; behind = replicate (n - used) blank }

-- The numbers under which refusals are printed, and where in a call each points.
use Rattle.std.specs.Prelude.{ℕ}
use Rattle.market.specs.declared.refusal.Refusal.{Refusal}
use Rattle.market.specs.declared.refusal.Refusal.TheVariants.{MemberCount, Calendar, TableLength, HubRule, Phase, Member, Contract, State, Cover, BasePrice, PastInside, Vault}

-- the number of a refusal
abbrev pub refusal_number : Refusal → ℕ
refusal_number MemberCount = 1
refusal_number Calendar = 2
refusal_number TableLength = 3
refusal_number HubRule = 4
refusal_number Phase = 10
refusal_number Member = 11
refusal_number Contract = 12
refusal_number State = 13
refusal_number Cover = 17
refusal_number BasePrice = 30
refusal_number PastInside = 31
refusal_number Vault = 50

-- where in the call its reason lies, 0 where the call has no places
abbrev pub refusal_spot : Refusal → ℕ
refusal_spot MemberCount = 0
refusal_spot Calendar = 0
refusal_spot TableLength = 0
refusal_spot HubRule = 0
refusal_spot Phase = 0
refusal_spot Member = 0
refusal_spot Contract = 0
refusal_spot State = 0
refusal_spot Cover = 0
refusal_spot BasePrice = 0
refusal_spot PastInside = 0
refusal_spot Vault = 0

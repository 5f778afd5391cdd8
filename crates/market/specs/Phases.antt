-- In which phase each event is taken, and the phase that it leads to.
use Rattle.std.specs.Prelude.{Bool, true, false, Some, None, Option}
use Rattle.market.specs.declared.phase.Phase.{Phase}
use Rattle.market.specs.declared.phase.Phase.TheVariants.{Unopened, Evening, Morning, Session, PostSession}
use Rattle.market.specs.declared.phase.Event.{Event}
use Rattle.market.specs.declared.phase.Event.TheVariants.{Open, Step, Announce, Order, Cancel, Halt, Resume, List, Cascade, Close, Settle, Deposit, Withdraw, Question}

-- whether a house in this phase has been opened
abbrev pub is_open : Phase → Bool
is_open Unopened = false
is_open Evening = true
is_open Morning = true
is_open Session = true
is_open PostSession = true

-- the phase after an event, or None where the phase does not take it
abbrev pub next_phase : Phase → Event → Option Phase
next_phase Unopened Open = Some Evening
next_phase Unopened Step = None
next_phase Unopened Announce = None
next_phase Unopened Order = None
next_phase Unopened Cancel = None
next_phase Unopened Halt = None
next_phase Unopened Resume = None
next_phase Unopened List = None
next_phase Unopened Cascade = None
next_phase Unopened Close = None
next_phase Unopened Settle = None
next_phase Unopened Deposit = None
next_phase Unopened Withdraw = None
next_phase Unopened Question = None
next_phase Evening Open = None
next_phase Evening Step = Some Morning
next_phase Evening Announce = None
next_phase Evening Order = None
next_phase Evening Cancel = None
next_phase Evening Halt = None
next_phase Evening Resume = None
next_phase Evening List = Some Evening
next_phase Evening Cascade = Some Evening
next_phase Evening Close = Some Evening
next_phase Evening Settle = Some Evening
next_phase Evening Deposit = Some Evening
next_phase Evening Withdraw = Some Evening
next_phase Evening Question = Some Evening
next_phase Morning Open = None
next_phase Morning Step = Some Session
next_phase Morning Announce = None
next_phase Morning Order = None
next_phase Morning Cancel = Some Morning
next_phase Morning Halt = None
next_phase Morning Resume = None
next_phase Morning List = None
next_phase Morning Cascade = None
next_phase Morning Close = None
next_phase Morning Settle = None
next_phase Morning Deposit = Some Morning
next_phase Morning Withdraw = Some Morning
next_phase Morning Question = Some Morning
next_phase Session Open = None
next_phase Session Step = Some PostSession
next_phase Session Announce = None
next_phase Session Order = Some Session
next_phase Session Cancel = Some Session
next_phase Session Halt = Some Session
next_phase Session Resume = Some Session
next_phase Session List = None
next_phase Session Cascade = None
next_phase Session Close = None
next_phase Session Settle = None
next_phase Session Deposit = Some Session
next_phase Session Withdraw = Some Session
next_phase Session Question = Some Session
next_phase PostSession Open = None
next_phase PostSession Step = None
next_phase PostSession Announce = Some Evening
next_phase PostSession Order = None
next_phase PostSession Cancel = None
next_phase PostSession Halt = None
next_phase PostSession Resume = None
next_phase PostSession List = None
next_phase PostSession Cascade = None
next_phase PostSession Close = None
next_phase PostSession Settle = None
next_phase PostSession Deposit = Some PostSession
next_phase PostSession Withdraw = Some PostSession
next_phase PostSession Question = Some PostSession

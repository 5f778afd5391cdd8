-- What a contract's state says of it: whether it is listed, whether it trades, whether its delivery has begun.
use Rattle.std.specs.Prelude.{Bool, true, false}
use Rattle.market.specs.declared.phase.Event.{Event}
use Rattle.market.specs.declared.phase.Event.TheVariants as event
use Rattle.market.specs.declared.state.ContractState.{ContractState}
use Rattle.market.specs.declared.state.ContractState.TheVariants.{Unlisted, Trading, Halted, Delivering, Ended}

-- not listed yet
abbrev pub is_unlisted : ContractState → Bool
is_unlisted Unlisted = true
is_unlisted Trading = false
is_unlisted Halted = false
is_unlisted Delivering = false
is_unlisted Ended = false

-- listed, and open to orders
abbrev pub is_trading : ContractState → Bool
is_trading Unlisted = false
is_trading Trading = true
is_trading Halted = false
is_trading Delivering = false
is_trading Ended = false

-- listed, and closed to orders for now
abbrev pub is_halted : ContractState → Bool
is_halted Unlisted = false
is_halted Trading = false
is_halted Halted = true
is_halted Delivering = false
is_halted Ended = false

-- listed, whether it trades or is halted
abbrev pub is_listed : ContractState → Bool
is_listed Unlisted = false
is_listed Trading = true
is_listed Halted = true
is_listed Delivering = false
is_listed Ended = false

-- past its listing: delivering, or ended
abbrev pub is_past : ContractState → Bool
is_past Unlisted = false
is_past Trading = false
is_past Halted = false
is_past Delivering = true
is_past Ended = true

-- in delivery
abbrev pub is_delivering : ContractState → Bool
is_delivering Unlisted = false
is_delivering Trading = false
is_delivering Halted = false
is_delivering Delivering = true
is_delivering Ended = false

-- whether a call takes a contract in this state; a call that names no contract takes every state
abbrev pub state_takes : Event → ContractState → Bool
state_takes event.Open state = true
state_takes event.Step state = true
state_takes event.Announce state = true
state_takes event.Order state = is_trading state
state_takes event.Cancel state = true
state_takes event.Halt state = is_trading state
state_takes event.Resume state = is_halted state
state_takes event.List state = is_unlisted state
state_takes event.Cascade state = is_listed state
state_takes event.Close state = is_listed state
state_takes event.Settle state = is_delivering state
state_takes event.Deposit state = true
state_takes event.Withdraw state = true
state_takes event.Question state = true

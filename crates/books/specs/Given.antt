-- What trades give their members, apart from how the books keep it.
-- Bought counts up and sold counts down in a quantity, sold up and bought down in money.
use Rattle.std.specs.Prelude.{ℕ, ◌*◌, ◌&&◌, List, [], ◌∷◌, ℤ, pos, ◌+ℤ◌, ◌-ℤ◌, ◌==◌}
use Rattle.market.specs.Calendar.{contract_number}
use Rattle.market.specs.declared.calendar.Contract.{Contract}
use Rattle.market.specs.declared.records.Trade.{Trade}
use Rattle.lots.specs.Sums.{counted}
use Rattle.books.specs.Books.{over_month}

-- a figure of a trade, counted where a member bought in a contract
abbrev pub bought_by : ℕ → Contract → Trade → ℕ → ℤ
bought_by member c t figure = counted (t.buyer == member && t.contract == contract_number c) (pos figure)

-- a figure of a trade, counted where a member sold in a contract
abbrev pub sold_by : ℕ → Contract → Trade → ℕ → ℤ
sold_by member c t figure = counted (t.seller == member && t.contract == contract_number c) (pos figure)

-- the quantity that a trade gives a member in a contract: bought less sold
abbrev pub net_of : ℕ → Contract → Trade → ℤ
net_of member c t = bought_by member c t t.quantity -ℤ sold_by member c t t.quantity

-- the money that it gives: sold less bought quantity × price
abbrev pub money_of : ℕ → Contract → Trade → ℤ
money_of member c t = sold_by member c t (t.quantity * t.price) -ℤ bought_by member c t (t.quantity * t.price)

-- the quantity that some trades give a member in a contract
unfoldable pub net_given : List Trade → ℕ → Contract → ℤ
net_given [] member c = pos 0
net_given (t ∷ ts) member c = net_of member c t +ℤ net_given ts member c

-- the money that they give
unfoldable pub money_given : List Trade → ℕ → Contract → ℤ
money_given [] member c = pos 0
money_given (t ∷ ts) member c = money_of member c t +ℤ money_given ts member c

-- the same in the contracts that cover a month
abbrev pub month_net_given : List Trade → ℕ → ℕ → ℤ
month_net_given ts member m = over_month (net_given ts member) m

abbrev pub month_money_given : List Trade → ℕ → ℕ → ℤ
month_money_given ts member m = over_month (money_given ts member) m

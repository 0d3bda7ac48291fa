-- The ticket in hand. Assumes nothing.
use Rattle.std.specs.Prelude.{Bool, false, Some, None, Option}
use Rattle.rules.specs.declared.auction.TicketName.{TicketName}
use Rattle.rules.specs.Books.{Auction, Books, bidding, same_ticket}
use Rattle.house.specs.declared.tickets.Ticket.{Ticket}
use Rattle.house.specs.Tickets.{ticket_name}

-- the name of the ticket in hand
abbrev pub hand_ticket : Option Ticket → Option TicketName
hand_ticket None = None
hand_ticket (Some k) = Some (ticket_name k)

-- the ticket in hand is this one
abbrev pub is_held : Option TicketName → TicketName → Bool
is_held None t = false
is_held (Some s) t = same_ticket s t

-- the ticket of the standing auction
abbrev pub ticket_of : Option Auction → Option TicketName
ticket_of None = None
ticket_of (Some a) = Some a.ticket

-- the ticket in hand as far as a caller knows it: the standing auction's, or the last auction's, which is spent
abbrev pub last_ticket : Books → TicketName
last_ticket b = elim (ticket_of b.auction) [ Some t ↦ t | None ↦ bidding b.auctions ]

-- Tickets by their number and stage. Assumes nothing.
use Rattle.rules.specs.declared.auction.TicketName.{TicketName}
use Rattle.rules.specs.Books.{bidding, sealed}
use Rattle.house.specs.declared.tickets.Ticket.{Ticket}
use Rattle.house.specs.declared.tickets.Ticket.TheVariants.{Bidding, Sealed}

-- a ticket by its number and stage
abbrev pub ticket_name : Ticket → TicketName
ticket_name (Bidding k) = bidding k.number
ticket_name (Sealed k) = sealed k.number

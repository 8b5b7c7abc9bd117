-- The calls that ask for an order or a quote, and what then comes to the book.
use Rattle.std.specs.Prelude.{false}
use Rattle.market.specs.declared.arrival.Arrival.{Arrival}
use Rattle.market.specs.declared.call.Call.{Call}
use Rattle.market.specs.declared.call.Call.TheVariants as call
use Rattle.market.specs.declared.quote.Quote.{Quote}
use Rattle.market.specs.Orders.{lot_of}
use Rattle.gate.specs.declared.entry.Entry.{Entry}
use Rattle.gate.specs.declared.sides.Sides.{Sides}

-- the call that asks for an order
abbrev pub entry_call : Entry → Call
entry_call e = call.Enter e.participant e.book e.side e.quantity e.price e.duration

-- the order that arrives in the book
abbrev pub arrival_of : Entry → Arrival
arrival_of e = record { participant = e.participant; side = e.side; lot = lot_of e.book e.quantity; price = e.price; duration = e.duration; quote = false }

-- the call that asks for a quote
abbrev pub sides_call : Sides → Call
sides_call q = call.Quote q.participant q.book q.bid_quantity q.bid q.offer_quantity q.offer

-- the quote that comes to the book
abbrev pub quote_of : Sides → Quote
quote_of q = record { participant = q.participant; bid = record { lot = lot_of q.book q.bid_quantity; price = q.bid }; offer = record { lot = lot_of q.book q.offer_quantity; price = q.offer } }

-- The refusals' numbers, by which the documents and callers in C know them.
use Rattle.std.specs.Prelude.{ℕ}
use Rattle.protocol.specs.declared.refusal.Refusal.{Refusal}
use Rattle.protocol.specs.declared.refusal.Refusal.TheVariants.{RecordShort, NotWellFormed, NoOperation, NoHub, NotInRing, NotOutside, Locked, LastHub, NoMessage, NotExpected, MessagesFull, TicketsUsedUp, IdentifierCount, IdentifierTwice, NoHolder, NoWayRound, OutputShort, NoFounder, NoSheet, IdentifierTooLarge, RoomShort, RevisionLower, PriceDiffers, CardsFull, RouteLong, PlacesShort}

abbrev pub number_of : Refusal → ℕ
number_of RecordShort = 1
number_of NotWellFormed = 2
number_of NoOperation = 3
number_of NoHub = 4
number_of NotInRing = 5
number_of NotOutside = 6
number_of Locked = 7
number_of LastHub = 8
number_of NoMessage = 9
number_of NotExpected = 10
number_of MessagesFull = 11
number_of TicketsUsedUp = 12
number_of IdentifierCount = 13
number_of IdentifierTwice = 14
number_of NoHolder = 15
number_of NoWayRound = 16
number_of OutputShort = 17
number_of NoFounder = 18
number_of NoSheet = 19
number_of IdentifierTooLarge = 20
number_of RoomShort = 21
number_of RevisionLower = 22
number_of PriceDiffers = 23
number_of CardsFull = 24
number_of RouteLong = 25
number_of PlacesShort = 26

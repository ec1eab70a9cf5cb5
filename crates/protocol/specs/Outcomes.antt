-- What a call gives: its answer, or why it is refused.
use Rattle.std.specs.Prelude.{ℕ, Result}
use Rattle.protocol.specs.declared.Answer.{Answer}
use Rattle.protocol.specs.declared.Decision.{Decision}
use Rattle.protocol.specs.declared.refusal.Refusal.{Refusal}

-- A step or a fresh call.
abbrev pub Outcome : Type 0
Outcome = Result Answer Refusal

-- A command or a delivered message, at one hub.
abbrev pub Decided : Type 0
Decided = Result Decision Refusal

-- The owner query: the hub that holds the number. A roll call: the length of the roll.
abbrev pub Ownership : Type 0
Ownership = Result ℕ Refusal

abbrev pub Roll : Type 0
Roll = Result ℕ Refusal

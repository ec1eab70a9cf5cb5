-- Document 01, 'Answers', and the numbers that calls return: its number and values for each case of an enum. And the tally.
use Rattle.std.specs.Prelude.{List, [], ◌∷◌, Result, Ok, Err, ℕ, ◌+◌, nat_lt, nat_eq, get_or}
use Rattle.lists.specs.Basics.{when◌then◌else◌}
use Rattle.protocol.specs.declared.Answer.{Answer}
use Rattle.protocol.specs.declared.Answer.TheVariants.{Quiet, Found, Entered, Gone, JoinTurnedAway, LeaveTurnedAway, Joined, Left}
use Rattle.protocol.specs.declared.refusal.Refusal.{Refusal}
use Rattle.protocol.specs.Refusals.{number_of}
use Rattle.protocol.specs.Outcomes.{Outcome}
use Rattle.protocol.specs.declared.Tally.{Tally}
use Rattle.protocol.specs.Names.{ENTERED, FOUND, GONE, JOINED, JOIN_TURNED_AWAY, LEAVE_TURNED_AWAY, LEFT, QUIET, REFUSAL}

-- 'Answers: kind, hub, number, ticket, hops. .. Unnamed fields are 0.'
unfoldable pub answer_words : Answer → List ℕ
answer_words Quiet = QUIET ∷ 0 ∷ 0 ∷ 0 ∷ 0 ∷ []
answer_words (Found hub number ticket hops) = FOUND ∷ hub ∷ number ∷ ticket ∷ hops ∷ []
answer_words (Entered hub) = ENTERED ∷ hub ∷ 0 ∷ 0 ∷ 0 ∷ []
answer_words (Gone hub) = GONE ∷ hub ∷ 0 ∷ 0 ∷ 0 ∷ []
answer_words (JoinTurnedAway hub) = JOIN_TURNED_AWAY ∷ hub ∷ 0 ∷ 0 ∷ 0 ∷ []
answer_words (LeaveTurnedAway hub) = LEAVE_TURNED_AWAY ∷ hub ∷ 0 ∷ 0 ∷ 0 ∷ []
answer_words (Joined hub) = JOINED ∷ hub ∷ 0 ∷ 0 ∷ 0 ∷ []
answer_words (Left hub) = LEFT ∷ hub ∷ 0 ∷ 0 ∷ 0 ∷ []

unfoldable pub kind_of : Answer → ℕ
kind_of a = get_or (answer_words a) 0 0

-- 'the number returned is the refusal, 0 for none', and the words that go with it
unfoldable pub refusal : {A : Type 0} → Result A Refusal → ℕ
refusal (Err k) = number_of k
refusal (Ok a) = 0

unfoldable pub outcome_words : Outcome → List ℕ
outcome_words (Err k) = []
outcome_words (Ok a) = answer_words a

-- The hub of an owner query, the length of a roll.
unfoldable pub number_words : Result ℕ Refusal → List ℕ
number_words (Err k) = []
number_words (Ok n) = n ∷ []

-- The tally: 'nine counts (kinds 0 to 7, refused)', one raised by each step; 'a count at 18446744073709551615 stays'.
unfoldable pub raised : ℕ → ℕ
raised n = when nat_lt n 18446744073709551615 then n + 1 else n

-- Which count: that of the answer's kind, and 8 for a refusal.
unfoldable pub count_of : Outcome → ℕ
count_of (Err k) = REFUSAL
count_of (Ok a) = kind_of a

unfoldable pub raised_at : ℕ → Tally → Tally
raised_at k t = record {
  quiet = when nat_eq k QUIET then raised t.quiet else t.quiet;
  found = when nat_eq k FOUND then raised t.found else t.found;
  entered = when nat_eq k ENTERED then raised t.entered else t.entered;
  gone = when nat_eq k GONE then raised t.gone else t.gone;
  join_turned_away = when nat_eq k JOIN_TURNED_AWAY then raised t.join_turned_away else t.join_turned_away;
  leave_turned_away = when nat_eq k LEAVE_TURNED_AWAY then raised t.leave_turned_away else t.leave_turned_away;
  joined = when nat_eq k JOINED then raised t.joined else t.joined;
  left = when nat_eq k LEFT then raised t.left else t.left;
  refused = when nat_eq k REFUSAL then raised t.refused else t.refused;
}

unfoldable pub counted : Tally → Outcome → Tally
counted t o = raised_at (count_of o) t

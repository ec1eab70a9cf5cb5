-- One count of a tally changed, and the others as they were. Assumes nothing.
use Rattle.std.specs.Prelude.{◌≡◌, refl, ℕ, nat_eq}
use Rattle.lists.specs.Basics.{when◌then◌else◌}
use Rattle.protocol.specs.declared.Tally.{Tally}
use Rattle.protocol.specs.Names.{ENTERED, FOUND, GONE, JOINED, JOIN_TURNED_AWAY, LEAVE_TURNED_AWAY, LEFT, QUIET, REFUSAL}
use Rattle.protocol.specs.Answers.{raised, raised_at}

-- A number that no kind has changes none.
unfoldable pub changed_at : ℕ → (ℕ → ℕ) → Tally → Tally
changed_at k change t = record {
  quiet = when nat_eq k QUIET then change t.quiet else t.quiet;
  found = when nat_eq k FOUND then change t.found else t.found;
  entered = when nat_eq k ENTERED then change t.entered else t.entered;
  gone = when nat_eq k GONE then change t.gone else t.gone;
  join_turned_away = when nat_eq k JOIN_TURNED_AWAY then change t.join_turned_away else t.join_turned_away;
  leave_turned_away = when nat_eq k LEAVE_TURNED_AWAY then change t.leave_turned_away else t.leave_turned_away;
  joined = when nat_eq k JOINED then change t.joined else t.joined;
  left = when nat_eq k LEFT then change t.left else t.left;
  refused = when nat_eq k REFUSAL then change t.refused else t.refused;
}

-- A count raised is one of them.
pub changed_raised : (k : ℕ) (t : Tally) → changed_at k raised t ≡ raised_at k t
unfolding changed_at raised_at
changed_raised k t = refl

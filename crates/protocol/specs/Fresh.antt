-- Document 01, 'Fresh, from a list of identifiers', with the founder of document 02, 2026-02.
use Rattle.std.specs.Prelude.{List, [], map, ℕ, nat_le, length, get_or, set}
use Rattle.lists.specs.Basics.{first, every}
use Rattle.protocol.specs.declared.Row.{Row}
use Rattle.std.specs.Prelude.{None, Option, Some}
use Rattle.protocol.specs.Names.{INSIDE}
use Rattle.protocol.specs.Record.{none, State, outside}

-- The hub with the smallest identifier, which founds where the caller names nobody: none of the identifiers is below its own. (Of several
-- such hubs the lowest number; where identifiers differ there is one.)
unfoldable pub smallest : List ℕ → ℕ
smallest ids = first (λ hub. every (nat_le (get_or ids hub 0)) ids) (length ids)

-- The founder that a caller means.
abbrev pub founder_of : Option ℕ → List ℕ → ℕ
founder_of None ids = smallest ids
founder_of (Some hub) ids = hub

-- The founder's row: inside and unlocked, with itself before and behind it.
abbrev pub alone : ℕ → ℕ → Row
alone hub name = record { identifier = name; state = INSIDE; lock = 0; flag = 0; pred = hub; succ = hub; oldpred = none }

-- The rows of the ring that a hub founds: every other hub is outside.
abbrev pub founded_by : ℕ → List ℕ → List Row
founded_by hub ids = set (map outside ids) hub (alone hub (get_or ids hub 0))

-- Nothing was asked yet, and nothing waits.
unfoldable pub fresh : List ℕ → ℕ → State
fresh ids founder = record { rows = founded_by founder ids; messages = []; asked = 0 }

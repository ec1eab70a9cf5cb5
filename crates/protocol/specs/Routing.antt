-- Document 01, 'Routing at hub t': h is t's row and p the identifier of its pred ('In a range, pred means that hub's identifier').
use Rattle.std.specs.Prelude.{Bool, ◌&&◌, ℕ, nat_le, nat_lt, nat_eq}
use Rattle.clockwise.specs.Clockwise.{within}
use Rattle.lists.specs.Basics.{when◌then◌else◌}
use Rattle.protocol.specs.declared.Row.{Row}
use Rattle.protocol.specs.declared.Route.{Route}
use Rattle.protocol.specs.declared.Route.TheVariants.{Own, To}
use Rattle.protocol.specs.Names.{INSIDE, LEAVING}
use Rattle.protocol.specs.Record.{round}

-- 'state 2 to 4'
unfoldable pub in_ring : Row → Bool
in_ring h = nat_le INSIDE h.state && nat_le h.state LEAVING

-- 'state 2 or 3': not leaving yet
unfoldable pub responsible : Row → Bool
responsible h = nat_le INSIDE h.state && nat_lt h.state LEAVING

-- v is in (pred, the hub's identifier]
unfoldable pub covers : ℕ → Row → ℕ → Bool
covers p h v = within round p h.identifier v

-- 'in state 4, send on to succ. Else if the number is in (pred, t's identifier], t owns it. Else send on to succ.'
unfoldable pub onward : ℕ → Row → ℕ → Route
onward p h v = when nat_eq h.state LEAVING then To h.succ else when covers p h v then Own else To h.succ

-- 'if the flag is set and the sender is oldpred, send on to pred. Else ..'; f is the sender
unfoldable pub route : ℕ → Row → ℕ → ℕ → Route
route p h f v = when nat_eq h.flag 1 && nat_eq f h.oldpred then To h.pred else onward p h v

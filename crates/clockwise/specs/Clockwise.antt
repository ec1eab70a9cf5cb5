-- Document 01, 'Clockwise arithmetic', for every modulus N. The ring uses it at N = 2 ^ 32.
use Rattle.std.specs.Prelude.{ℕ, ◌+◌, ◌-◌, ◌%◌, Bool, true, cond, ◌&&◌, ◌||◌, ◌==◌, nat_le, nat_lt}

-- 'distance clockwise from a to b is b - a modulo' N. (Numbers are below N; b + (N - a) is b - a without going below 0.)
unfoldable pub dist : ℕ → ℕ → ℕ → ℕ
dist N a b = (b + (N - a)) % N

-- 'A number v is in (a, b] when a = b, or when its distance from a is at least 1 and at most the distance from a to b.'
unfoldable pub within : ℕ → ℕ → ℕ → ℕ → Bool
within N a b v = a == b || nat_le 1 (dist N a v) && nat_le (dist N a v) (dist N a b)

-- The same range as planners read it (document 02, 2026-05), by its three numbers alone. Where a is b it is everything; where a is below b, what
-- is above a and not above b; else it passes zero, and has what is above a and also what is not above b. No modulus stands in it: `range_within`
-- (Ranges.antt) says that for numbers below N it is (a, b], whatever N is.
unfoldable pub in_range : ℕ → ℕ → ℕ → Bool
in_range a b v =
    cond (a == b) true
    (cond (nat_lt a b) (nat_lt a v && nat_le v b)
    (nat_lt a v || nat_le v b))

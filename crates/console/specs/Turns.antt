-- What the turns of a run said, each of which says whether one more follows. Assumes nothing.
use Rattle.std.specs.Prelude.{◌≡◌, ◌⊎◌, Bool, true, false, List, [], ◌∷◌, ◌++◌, ℕ, replicate}

-- All but the last said that one follows; or there were as many turns as there can be, and all of them said so.
abbrev pub Over : List Bool → Type 0
Over said = (n : ℕ) × ((said ≡ replicate n true ++ (false ∷ [])) ⊎ ((said ≡ replicate n true) × (n ≡ 18446744073709551615)))

-- Choice by a test. It stays shut, so that a proof about a choice finds its parts. Assumes nothing.
use Rattle.std.specs.Prelude.{◌≡◌, Bool, not, T}
use Rattle.std.proofs.Common.{ap}
use Rattle.std.proofs.Math.Bool.{true, false}
use Rattle.lists.specs.Basics.{when◌then◌else◌, require}

pub on_yes : {A : Type 0} (b : Bool) (x y : A) → b ≡ true → require b x y ≡ y
unfolding require when◌then◌else◌
on_yes b x y e = ap (λ z. when z then y else x) e

pub on_no : {A : Type 0} (b : Bool) (x y : A) → b ≡ false → require b x y ≡ x
unfolding require when◌then◌else◌
on_no b x y e = ap (λ z. when z then y else x) e

-- What holds of a choice: P is a property of the value chosen.
module _ {A : Type 0} (P : A → Type 0) where
  pub choose : (b : Bool) (x y : A) → (T b → P x) → (T (not b) → P y) → P (when b then x else y)
  unfolding when◌then◌else◌
  choose true x y f g = f tt
  choose false x y f g = g tt

  pub passes : (b : Bool) (x y : A) → T b → P x → P (when b then x else y)
  unfolding when◌then◌else◌
  passes true x y t p = p
  passes false x y t p = absurd t

  -- the same choice among other values
  pub change : (b : Bool) (x y x' y' : A) → (P x → P x') → (P y → P y') → P (when b then x else y) → P (when b then x' else y')
  unfolding when◌then◌else◌
  change true x y x' y' f g p = f p
  change false x y x' y' f g p = g p

  -- what holds of a question's result: the answer may be no, or is yes
  pub tested : (b : Bool) (x y : A) → P x → (T b → P y) → P (require b x y)
  unfolding require
  tested b x y p f = choose b y x f (λ _. p)

  pub granted : (b : Bool) (x y : A) → T b → P y → P (require b x y)
  unfolding require
  granted b x y t p = passes b y x t p

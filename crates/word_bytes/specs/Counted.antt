-- Numbers that came as bytes: all of them where there is room, and the caller's refusal where there is not. Assumes nothing.
use Rattle.std.specs.Prelude.{◌≡◌, Option, Some, None, Ok, Err, List, ℕ, ◌/◌, ◌<◌, ◌≤◌, length, MatchOption}
use Rattle.std.proofs.Common.{◌∙◌}
use Rattle.std.specs.Option.{ok_or}
use Rattle.protocol.specs.declared.refusal.Refusal.{Refusal}
use Rattle.protocol.specs.Bytes.{words_of}

-- What `Words::of` says of its answer.
abbrev pub Came : ℕ → List ℕ → Option (List ℕ) → Type 0
Came n b o = MatchOption o (n < length b / 4) (λ w. (w ≡ words_of b) × (length b / 4 ≤ n))

module _ (n : ℕ) (b : List ℕ) (k : Refusal) where
  pub all_came : (o : Option (List ℕ)) (w : List ℕ) → Came n b o → Ok w ≡ ok_or o k → (w ≡ words_of b) × (length b / 4 ≤ n)
  all_came None w m e = cc
  all_came (Some x) w m e = let q : w ≡ x = cc in (q ∙ m.0, m.1)

  pub too_many : (o : Option (List ℕ)) (r : Refusal) → Came n b o → Err r ≡ ok_or o k → (r ≡ k) × (n < length b / 4)
  too_many None r m e = (cc, m)
  too_many (Some x) r m e = cc

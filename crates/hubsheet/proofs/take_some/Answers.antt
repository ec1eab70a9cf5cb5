-- `take_some`: what the read brought is a part of the block, and is taken. Assumes nothing.
use Rattle.std.proofs.Common.{refl, inl, inr}
use Rattle.hubsheet.specs.Held.{taken_bytes, taken_end, taken_failed}
use Rattle.hubsheet.proofs.take_some.Goals as goal

pub returns-in-Bytes : goal.returns-in-Bytes
returns-in-Bytes c = taken_bytes _ _ _ _ _ _ _ refl c.feed.ensures

pub returns-in-End : goal.returns-in-End
returns-in-End c = elim c.in-End.is [ inl e ↦ taken_end c.receive-arrival.result _ _ _ e | inr e ↦ taken_failed c.receive-arrival.result _ _ _ e ]

-- `run_end`: the place of the first byte that does not pass. Assumes nothing.
use Rattle.std.proofs.Common.{rules, arith, ◌≡◌, true, false, ◌<◌, length}
use Rattle.std.proofs.lemmas.Iterator.{IsFirst-from_position, YieldsList-from_slice}
use borrow.Author.Tests.{tests}
use Rattle.sheet_reading.specs.Runs.{between, run_found, run_to_end}
use Rattle.sheet_reading.proofs.runs.run_end.Goals as goal

pub returns-in-Some-clause-runs : goal.returns-in-Some-clause-runs
returns-in-Some-clause-runs g c test tells =
    let t = c.args.text.now in
    let m = IsFirst-from_position _ _ _ (λ b. b < 256 → test b ≡ false) (λ b. b < 256 → test b ≡ true) c.in-Some.ensures.ran
    (YieldsList-from_slice (between c.args.from (length t) t) c.iter.ensures.rest) (λ x q k h. search (rules, tests, tells)) (λ x q k. (search (rules, tests), λ h. search (rules, tests, tells))) in
    run_found test t c.args.from (λ k. let h = c.type_inv.text k in omega arith) c.in-Some.n m.0 m.1 m.2

pub returns-clause-runs : goal.returns-clause-runs
returns-clause-runs g c test tells =
    let t = c.args.text.now in
    run_to_end test t c.args.from (λ k. let h = c.type_inv.text k in omega arith) c.requires.within (IsFirst-from_position _ _ _ (λ b. b < 256 → test b ≡ false) (λ b. b < 256 → test b ≡ true) c.in-None.ensures.ran
    (YieldsList-from_slice (between c.args.from (length t) t) c.iter.ensures.rest) (λ x q k h. search (rules, tests, tells)) (λ x q k. (search (rules, tests), λ h. search (rules, tests, tells))))

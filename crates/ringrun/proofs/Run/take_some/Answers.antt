-- `take_some`: what the read brought is taken; at the end of the input the last line is. Assumes nothing.
use Rattle.std.proofs.Common.{ap, sym, ◌∙◌, take}
use Rattle.ringrun.specs.Turns.{after_bytes, after_end, after_failure}
use Rattle.ringrun.proofs.Run.take_some.Goals as goal

pub returns-in-Bytes-clause-turned : goal.returns-in-Bytes-clause-turned
returns-in-Bytes-clause-turned c = let s = c.args.self.now in after_bytes c.receive-arrival.result s.record s.line c.receive-arrival.new.input _ c.in-Bytes.n c.take_bytes-self.ensures.taken

pub returns-in-End-clause-turned : goal.returns-in-End-clause-turned
returns-in-End-clause-turned c =
    let s = c.args.self.now in
    let f = c.finish-self in
    after_end c.receive-arrival.result s.record s.line c.receive-arrival.new.input _ c.in-End.is (rw c.as_slice.ensures.bytes at f.ensures.ended)
    ∙ ap (λ l. record { slice = f.new.w; begun = l; printed = take f.result f.new.out }) (sym c.clear.ensures)

pub returns-in-Failed-clause-turned : goal.returns-in-Failed-clause-turned
returns-in-Failed-clause-turned c = let s = c.args.self.now in after_failure c.receive-arrival.result s.record s.line c.receive-arrival.new.input c.in-Failed.is

-- `quoted_name`: the bytes up to i are the name, with this many doubled quotes. Assumes nothing.
use Rattle.std.proofs.Common.{rules, ◌≡◌, sym, ◌∙◌, get_or, length}
use native.Mathlib.Omega.{arith}
use Rattle.sheet_reading.specs.Kinds.{quoted_byte}
use Rattle.sheet_reading.specs.Runs.{between, rest_first, rest_second, length_rest}
use Rattle.sheet_reading.specs.Judged.{quoting_first, quoting_more, quoting_read, quoting_stops, quoting_shut, quoting_ends}
use Rattle.sheet_reading.proofs.bytes.Kinds.quoted_name.Goals as goal

pub loop-i-init : goal.loop-i-init
loop-i-init c = quoting_first c.args.text.now c.args.from c.run_end-i.result (c.run_end-i.ensures.runs quoted_byte (λ b r h p. search rules))

pub loop-i-preserved : goal.loop-i-preserved
loop-i-preserved c =
    let i = c.loop-i.i in
    let t = c.args.text.now in
    let l = length_rest i t in
    let e : get_or (between i (length t) t) 0 0 ≡ 34 = search rules in
    let f : get_or (between i (length t) t) 1 0 ≡ 34 = search rules in
    quoting_more t c.args.from i c.loop-i.doubled c.loop-i.invariant (omega arith) (sym (rest_first i t) ∙ e) c.run_end-i-in-34.result (sym (rest_second i t) ∙ f) (c.run_end-i-in-34.ensures.runs quoted_byte (λ b r h p. search rules))

pub returns-in-34-2 : goal.returns-in-34-2
returns-in-34-2 c =
    let i = c.loop-i.i in
    let t = c.args.text.now in
    let l = length_rest i t in
    let e : get_or (between i (length t) t) 0 0 ≡ 34 = search rules in
    let f : get_or (between i (length t) t) 1 0 ≡ 44 = search rules in
    quoting_read t c.args.from i c.loop-i.doubled c.loop-i.invariant (omega arith) (sym (rest_first i t) ∙ e) (sym (rest_second i t) ∙ f)

pub returns-in_default : goal.returns-in_default
returns-in_default c =
    let l = length_rest c.loop-i.i c.args.text.now in
    quoting_ends c.args.text.now c.args.from c.loop-i.i c.loop-i.doubled c.loop-i.invariant (omega arith)

pub returns-in_default-2 : goal.returns-in_default-2
returns-in_default-2 c =
    let i = c.loop-i.i in
    let t = c.args.text.now in
    let l = length_rest i t in
    let e : get_or (between i (length t) t) 0 0 ≡ 34 = search rules in
    let f : get_or (between i (length t) t) 1 0 ≡ 34 → ⊥ = search rules in
    let g : get_or (between i (length t) t) 1 0 ≡ 44 → ⊥ = search rules in
    quoting_shut t c.args.from i c.loop-i.doubled c.loop-i.invariant (omega arith) (sym (rest_first i t) ∙ e) (λ x. g (rest_second i t ∙ x)) (λ x. f (rest_second i t ∙ x))

pub returns-in_default-3 : goal.returns-in_default-3
returns-in_default-3 c =
    let i = c.loop-i.i in
    let t = c.args.text.now in
    let l = length_rest i t in
    let e : get_or (between i (length t) t) 0 0 ≡ 34 → ⊥ = search rules in
    quoting_stops t c.args.from i c.loop-i.doubled c.loop-i.invariant (omega arith) (λ x. e (rest_first i t ∙ x))

pub loop-i-smaller : goal.loop-i-smaller
loop-i-smaller c = omega arith

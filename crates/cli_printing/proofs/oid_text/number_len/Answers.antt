use Rattle.std.proofs.Common.{sym, ◌∙◌, ap, ◌+◌, ℕ}
use Rattle.cli_printing.proofs.Oids.{size_ends, size_more, size_all}
use Rattle.cli_printing.proofs.oid_text.number_len.Goals as goal

pub returns-then-octet-lt128 : goal.returns-then-octet-lt128
returns-then-octet-lt128 c =
    ap (λ (n : ℕ). n + 1) c.loop-octet.invariant.counted
    ∙ sym (size_ends c.args.contents.now c.loop-octet.octet-index c.loop-octet-test.true c.if-octet-lt128.true c.loop-octet.invariant.so_far)

pub loop-octet-preserved : goal.loop-octet-preserved
loop-octet-preserved c = record {
  counted = ap (λ (n : ℕ). n + 1) c.loop-octet.invariant.counted;
  so_far = size_more c.args.contents.now c.loop-octet.octet-index c.loop-octet-test.true c.if-octet-lt128.false c.loop-octet.invariant.so_far;
}

pub returns : goal.returns
returns c =
    c.loop-octet.invariant.counted
    ∙ sym (size_all c.args.contents.now c.loop-octet.octet-index c.loop-octet-test.false c.loop-octet.invariant.so_far)

use Rattle.std.proofs.Common.{arith, ap, ◌+◌, ◌*◌, ℕ}
use Rattle.cli_printing.proofs.Oids.{number_all, number_bound, number_fits, number_more}
use Rattle.cli_printing.proofs.oid_text.number_of.Goals as goal

pub overflow_mul-number : goal.overflow_mul-number
overflow_mul-number c =
    let small = number_fits c.loop-octet.number c.loop-octet.octet-index _ c.loop-octet-test.true c.requires c.loop-octet.invariant.bound in
    omega (arith, small)

pub overflow_add-number : goal.overflow_add-number
overflow_add-number c =
    let small = number_fits c.loop-octet.number c.loop-octet.octet-index _ c.loop-octet-test.true c.requires c.loop-octet.invariant.bound in
    omega (arith, small, c.from.ensures)

pub loop-octet-preserved : goal.loop-octet-preserved
loop-octet-preserved c =
    let next = ap (λ (n : ℕ). c.loop-octet.number * 128 + n) c.from.ensures in
    record {
      so_far = number_more c.args.octets.now c.loop-octet.octet-index c.loop-octet.number _ c.loop-octet-test.true next c.loop-octet.invariant.so_far;
      bound = number_bound c.loop-octet.number _ _ c.loop-octet.octet-index next c.loop-octet.invariant.bound;
    }

pub returns : goal.returns
returns c = number_all c.args.octets.now c.loop-octet.octet-index c.loop-octet.number c.loop-octet-test.false c.loop-octet.invariant.so_far

use Rattle.std.proofs.Common.{arith}
use Rattle.statements_crl.proofs.Numbers.{is_some, test_finds, value_is}
use Rattle.statements_crl.proofs.number.spelled_by.Goals as goal

pub unwrap-requires : goal.unwrap-requires
unwrap-requires c =
    is_some c.args.contents.now c.from_content.result c.from_content.ensures.none (test_finds c.args.contents.now (λ k. omega (arith, c.type_inv.contents k)) c.requires)

pub returns : goal.returns
returns c =
    value_is c.args.contents.now c.from_content.result c.unwrap.result c.from_content.ensures.some c.unwrap.ensures (λ k. omega (arith, c.type_inv.contents k))

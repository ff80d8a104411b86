use Rattle.std.proofs.Common.{arith, ap}
use Rattle.asn.specs.Place.{Place}
use Rattle.asn.proofs.Inside.{inside_is, body_shorter}
use Rattle.asn.proofs.tlv.Tlv.body_at.Goals as goal

pub overflow_sub-header : goal.overflow_sub-header
overflow_sub-header c = let b = body_shorter c.args.self.now in omega arith

pub overflow_add-result : goal.overflow_add-result
overflow_add-result c = let f = c.args.self.now.fits in omega arith

pub returns-clause-end : goal.returns-clause-end
returns-clause-end c = let b = body_shorter c.args.self.now in omega arith

pub returns-clause-place : goal.returns-clause-place
returns-clause-place c = omega (arith, ap (λ (place : Place). place.at) (inside_is c.args.self.now))

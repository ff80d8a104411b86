use Rattle.std.proofs.Common.{arith, refl}
use Rattle.std.proofs.lemmas.Result.{err_from_is_err_and}
use Rattle.der.specs.Value.{Value}
use Rattle.der.specs.Encoding.{Encodes}
use Rattle.der_stream.proofs.Streams.{refused_inside, took_value, both_read}
use Rattle.der_stream.proofs.reading.read_one.Goals as goal

pub returns-in_err-len-clause-refused : goal.returns-in_err-len-clause-refused
returns-in_err-len-clause-refused g c =
    let p = err_from_is_err_and c.from_residual.result c.from_residual.ensures.1 in
    rw (p.1, p.2) (c.in_err-len.ensures.err c.args.limit)

pub returns-in_err-read_contents-clause-refused : goal.returns-in_err-read_contents-clause-refused
returns-in_err-read_contents-clause-refused g c =
    let p = err_from_is_err_and c.from_residual-in_err-read_contents.result c.from_residual-in_err-read_contents.ensures.1 in
    let read = rw c.in-Some.is at c.in_ok-len.ensures.read in
    rw (p.1, p.2) (c.in_err-read_contents.ensures.err c.args.limit _ c.if-len-limit.false read)

pub returns-in-Ok-clause-taken : goal.returns-in-Ok-clause-taken
returns-in-Ok-clause-taken g c =
    let read = rw c.in-Some.is at c.in_ok-len.ensures.read in
    let e = c.in_ok-read_contents.ensures in
    let all = both_read _ _ _ c.read_header.new.octets.items c.read_contents.new.octets.items e.front read e.read in
    let encoded : (v : Value) × Encodes c.read_contents.new.octets.items v = rw (← c.deref.ensures.value) (c.in-Ok.ensures.accepts.0 refl) in
    took_value c.args.limit _ _ c.read_contents.new.octets.items encoded (omega (arith, e.whole, c.if-len-limit.false)) all

pub returns-in-Err-clause-refused : goal.returns-in-Err-clause-refused
returns-in-Err-clause-refused g c =
    let read = rw c.in-Some.is at c.in_ok-len.ensures.read in
    let known = rw c.in-Some.is at c.in_ok-len.ensures.header in
    let e = c.in_ok-read_contents.ensures in
    let all = both_read _ _ _ c.read_header.new.octets.items c.read_contents.new.octets.items e.front read e.read in
    let fault = rw c.deref.ensures.value at c.in-Err.ensures.refuses in
    refused_inside c.read_header.new.octets.items c.in-Some.len known c.args.limit _ _ c.read_contents.new.octets.items c.in-Err.fault e.front e.whole c.if-len-limit.false fault all

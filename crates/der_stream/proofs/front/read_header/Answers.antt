use Rattle.std.proofs.Common.{◌≡◌, ◌+◌, length, drop, arith, subst}
use Rattle.der.specs.Header.{GoesOn, HasHeader, IsBrokenAhead}
use Rattle.der_stream.proofs.Fronts.{reads_on, sliced, next_header, next_refused, none_came}
use Rattle.der_stream.proofs.front.read_header.Goals as goal

pub octets-preserved : goal.octets-preserved
octets-preserved g c =
    let i = c.octets.invariant in
    let after = c.read_on.new.octets in
    record {
      read = reads_on _ _ _ c.args.octets.now c.octets.octets after i.read c.in_ok-read_on.ensures.read;
      begin_is = i.begin_is;
      goes_on = subst GoesOn (sliced c.len-begin.result after.items c.deref.result.now c.deref.ensures.value)
          (rw c.in-Ok-None.field-0-is at c.in-Ok-None.ensures.goes_on);
    }

pub returns-in-Ok-Some-clause-read : goal.returns-in-Ok-Some-clause-read
returns-in-Ok-Some-clause-read g c =
    let held = c.octets.octets in
    reads_on _ _ _ c.args.octets.now held c.read_on.new.octets c.octets.invariant.read c.in_ok-read_on.ensures.read

pub returns-in-Ok-Some-clause-header : goal.returns-in-Ok-Some-clause-header
returns-in-Ok-Some-clause-header g c =
    let i = c.octets.invariant in
    let e = c.in_ok-read_on.ensures in
    let held = c.octets.octets in
    let after = c.read_on.new.octets in
    let begin = c.len-begin.result in
    let header = c.in-Ok-Some.header in
    let has : HasHeader (drop begin after.items) header
    = subst (λ t. HasHeader t header) (sliced begin after.items c.deref.result.now c.deref.ensures.value)
    (rw c.in-Ok-Some.field-0-is at c.in-Ok-Some.ensures.whole) in
    let more : length after.items ≡ length held.items + 1
    = omega (arith, e.count, e.within, c.if-branch-eq0.false, c.len-len.ensures, held.ok) in
    next_header _ _ c.args.octets.now held after begin i.begin_is i.read e.read.front i.goes_on more header has

pub returns-in-Err-clause-read : goal.returns-in-Err-clause-read
returns-in-Err-clause-read g c =
    let held = c.octets.octets in
    reads_on _ _ _ c.args.octets.now held c.read_on.new.octets c.octets.invariant.read c.in_ok-read_on.ensures.read

pub returns-in-Err-clause-header : goal.returns-in-Err-clause-header
returns-in-Err-clause-header g c =
    let i = c.octets.invariant in
    let e = c.in_ok-read_on.ensures in
    let held = c.octets.octets in
    let after = c.read_on.new.octets in
    let begin = c.len-begin.result in
    let rule = c.in-Err.field-0 in
    let broken : IsBrokenAhead (drop begin after.items) rule
    = subst (λ t. IsBrokenAhead t rule) (sliced begin after.items c.deref.result.now c.deref.ensures.value) c.in-Err.ensures.err in
    let more : length after.items ≡ length held.items + 1
    = omega (arith, e.count, e.within, c.if-branch-eq0.false, c.len-len.ensures, held.ok) in
    next_refused _ _ c.args.octets.now held after begin i.begin_is i.read e.read.front i.goes_on _ rule more broken

pub returns-then-branch-eq0-clause-header : goal.returns-then-branch-eq0-clause-header
returns-then-branch-eq0-clause-header g c =
    let i = c.octets.invariant in
    let e = c.in_ok-read_on.ensures in
    let none = c.if-branch-eq0.true in
    none_came _ _ c.args.octets.now c.octets.octets c.read_on.new.octets c.len-begin.result i.begin_is i.read e.read.front i.goes_on _
    (omega (arith, e.count, none)) (e.end none)

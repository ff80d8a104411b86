use Rattle.std.proofs.Common.{rules, ◌≡◌, ◌+◌, ◌≤◌, length, arith}
use Rattle.der_stream.proofs.Fronts.{longer, reads_on, whole_value}
use Rattle.der_stream.proofs.front.read_value.Goals as goal

pub returns-clause-read : goal.returns-clause-read
returns-clause-read g c =
    reads_on _ _ _ c.args.octets.now c.read_header.new.octets c.fill.new.octets c.in_ok-contents.ensures.read c.in_ok-fill.ensures.read

pub returns-clause-whole : goal.returns-clause-whole
returns-clause-whole g c =
    let before = c.args.octets.now in
    let held = c.read_header.new.octets in
    let after = c.fill.new.octets in
    let e = c.in_ok-fill.ensures in
    let header = rw c.in-Some.is at c.in_ok-contents.ensures.header in
    let len_is : c.in-Some-checked_add.len ≡ length held.items + c.in-Some.contents = search rules in
    let full : c.len-2.result ≡ length after.items = search rules in
    let long : length before.items ≤ length held.items = longer _ _ before held c.in_ok-contents.ensures.read (omega arith) in
    whole_value (length before.items) c.in-Some.contents c.in-Some-checked_add.len held.items after.items _ e.read.front long header len_is
    c.len-2.result full (e.within (omega (arith, len_is))) e.filled

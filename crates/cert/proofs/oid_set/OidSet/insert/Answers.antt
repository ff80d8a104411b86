use Rattle.std.proofs.Common.{ap, not, sym, ◌∙◌}
use Rattle.cert.specs.OidSet.{oids_in}
use Rattle.cert.proofs.OidSets.{is_found, is_not_found, is_new, with_known, with_inserted, with_pushed}
use Rattle.cert.proofs.oid_set.OidSet.insert.Goals as goal

pub returns-then-is_among-clause-new : goal.returns-then-is_among-clause-new
unfolding oids_in
returns-then-is_among-clause-new c =
    ap not (sym (is_found c.args.oid.now c.args.self.now.few.items _ c.args.self.now.many.keys c.as_slice.ensures.value (sym c.if-is_among.true ∙ c.is_among.ensures)))

pub returns-then-is_among-clause-added : goal.returns-then-is_among-clause-added
unfolding oids_in
returns-then-is_among-clause-added c =
    with_known (oids_in c.args.self.now) c.args.oid.now
    (is_found c.args.oid.now c.args.self.now.few.items _ c.args.self.now.many.keys c.as_slice.ensures.value (sym c.if-is_among.true ∙ c.is_among.ensures))

pub returns-then-is_full-clause-new : goal.returns-then-is_full-clause-new
unfolding oids_in
returns-then-is_full-clause-new c =
    c.in_ok-new.ensures.added
    ∙ ap not (sym (is_not_found c.args.oid.now c.args.self.now.few.items _ c.args.self.now.many.keys c.as_slice.ensures.value (sym c.if-is_among.false ∙ c.is_among.ensures)))

pub returns-then-is_full-clause-added : goal.returns-then-is_full-clause-added
unfolding oids_in
returns-then-is_full-clause-added c = rw c.in_ok-new.ensures.keys (with_inserted c.args.self.now.few.items c.args.self.now.many.keys c.args.oid)

pub returns-clause-new : goal.returns-clause-new
unfolding oids_in
returns-clause-new c =
    ap not (sym (is_new c.args.oid.now c.args.self.now.few.items _ c.args.self.now.many.keys c.as_slice.ensures.value (sym c.if-is_among.false ∙ c.is_among.ensures)
    (c.is_empty.ensures.0 c.if-not-is_empty.false)))

pub returns-clause-added : goal.returns-clause-added
unfolding oids_in
returns-clause-added c = rw c.push.ensures.items (with_pushed c.args.self.now.few.items c.args.self.now.many.keys c.args.oid)

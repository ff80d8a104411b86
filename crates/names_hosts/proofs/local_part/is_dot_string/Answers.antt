use Rattle.std.proofs.Common.{◌∙◌, sym, ap, Bool, drop, ◌+◌, ◌&&◌}
use Rattle.names_hosts.specs.LocalPart.{is_atom, is_dot_string}
use Rattle.names_hosts.proofs.LocalParts.{dot_met, no_dot_met}
use Rattle.names_hosts.proofs.local_part.is_dot_string.Goals as goal

pub returns-then-not-is_atom : goal.returns-then-not-is_atom
returns-then-not-is_atom c =
    let rest = c.loop-dot.rest.now in
    let at = c.in-Some.dot in
    sym (c.loop-dot.invariant
    ∙ (dot_met c.args.utf8 rest at c.is_atom.result (sym c.in-Some.ensures) (c.is_atom.ensures ∙ ap (is_atom c.args.utf8) c.split_at.ensures.front)
    ∙ ap (λ (b : Bool). b && is_dot_string c.args.utf8 (drop (at + 1) rest)) c.if-not-is_atom.true))

pub loop-dot-preserved : goal.loop-dot-preserved
loop-dot-preserved c =
    let rest = c.loop-dot.rest.now in
    let at = c.in-Some.dot in
    c.loop-dot.invariant
    ∙ (dot_met c.args.utf8 rest at c.is_atom.result (sym c.in-Some.ensures) (c.is_atom.ensures ∙ ap (is_atom c.args.utf8) c.split_at.ensures.front)
    ∙ (ap (λ (b : Bool). b && is_dot_string c.args.utf8 (drop (at + 1) rest)) c.if-not-is_atom.false
    ∙ ap (is_dot_string c.args.utf8) (sym c.split_at-in-Some.ensures.back)))

pub returns : goal.returns
returns c = c.is_atom-2.ensures ∙ sym (c.loop-dot.invariant ∙ no_dot_met c.args.utf8 c.loop-dot.rest.now (sym c.in_default.ensures))
